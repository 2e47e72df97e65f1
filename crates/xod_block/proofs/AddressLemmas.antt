-- Addresses and their numbers are in one order.
use Rattle.std.proofs.Common.{◌≡◌, ◌↔◌, ℕ, ◌^◌, ◌<◌, ap, ◌∙◌, arith, inl, inr}
use Rattle.std.proofs.lemmas.Bool.{cases_lt}
use Rattle.xod_block.specs.Addresses.{number_of, IsBefore}
use Rattle.xod_block.specs.declared.address.Address.{Address}

number_of-below : (a b : Address) → a.at < 2 ^ 64 → b.at < 2 ^ 64 → IsBefore a b → number_of a < number_of b
number_of-below a b a_fits b_fits (inl lt) = omega arith
number_of-below a b a_fits b_fits (inr same) = let file = same.0 in let at = same.1 in omega arith

below-number_of : (a b : Address) → a.at < 2 ^ 64 → b.at < 2 ^ 64 → number_of a < number_of b → IsBefore a b
below-number_of a b a_fits b_fits lt = elim (cases_lt a.file b.file) [
  | inl lower ↦ inl lower
  | inr not_lower ↦ inr (omega (arith, not_lower), omega (arith, not_lower))
]

pub number_of-order : (a b : Address) → a.at < 2 ^ 64 → b.at < 2 ^ 64 → IsBefore a b ↔ (number_of a < number_of b)
number_of-order a b a_fits b_fits = (number_of-below a b a_fits b_fits, below-number_of a b a_fits b_fits)

-- no two addresses have one number
pub number_of-apart : (a b : Address) → a.at < 2 ^ 64 → b.at < 2 ^ 64 → number_of a ≡ number_of b → a ≡ b
number_of-apart a b a_fits b_fits same =
    let file : a.file ≡ b.file = omega arith in
    let at : a.at ≡ b.at = omega arith in
    let make : ℕ → ℕ → Address = λ f p. record { file = f; at = p } in
    ap (λ (f : ℕ). make f a.at) file ∙ ap (make b.file) at
