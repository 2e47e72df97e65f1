-- The map at an address is that of its record over the maps at its children.
use Rattle.std.proofs.Common.{◌≡◌, ℕ, zero, suc, ◌<◌, ◌≤◌, Bool, false, cond, ltb, List, [], ◌∷◌, ◌++◌, Option, Some, None, refl, sym, ap, ◌∙◌, arith, inl, inr}
use Rattle.std.specs.Option.{option_map}
use Rattle.std.proofs.lemmas.Bool.{cases_lt, le-ltb}
use Rattle.xod_block.specs.Addresses.{number_of}
use Rattle.xod_block.specs.Records.{Link, RecordValue, Leaf, Node, Root}
use Rattle.xod_block.specs.Maps.{RecordsAt, Pairs, under, own_pair, joined, pairs_of_children, pairs_of, map_within, map_at}

-- only the maps below an address matter there
pairs_of_children-same : (f g : ℕ → Option Pairs) (at : ℕ) → ((below : ℕ) → below < at → f below ≡ g below) → (children : List Link) → pairs_of_children f at children ≡ pairs_of_children g at children
pairs_of_children-same f g at same [] = refl
pairs_of_children-same f g at same (child ∷ children) =
    let n = number_of child.1 in
    let choose : Bool → Option Pairs → Option Pairs → Option Pairs = λ b first others. cond b (joined (option_map (under (child.0 ∷ [])) first) others) None in
    elim (cases_lt n at) [
      | inl lt ↦
          ap (λ (o : Option Pairs). choose (ltb n at) o (pairs_of_children f at children)) (same n lt)
          ∙ ap (choose (ltb n at) (g n)) (pairs_of_children-same f g at same children)
      | inr ge ↦
          let not_below : ltb n at ≡ false = le-ltb n at ge in
          ap (λ (b : Bool). choose b (f n) (pairs_of_children f at children)) not_below
          ∙ sym (ap (λ (b : Bool). choose b (g n) (pairs_of_children g at children)) not_below)
    ]

pub pairs_of-same : (f g : ℕ → Option Pairs) (at : ℕ) → ((below : ℕ) → below < at → f below ≡ g below) → (o : Option RecordValue) → pairs_of f at o ≡ pairs_of g at o
pairs_of-same f g at same None = refl
pairs_of-same f g at same (Some (Leaf key value)) = refl
pairs_of-same f g at same (Some (Node key value children)) = ap (option_map (λ pairs. under key (own_pair value ++ pairs))) (pairs_of_children-same f g at same children)
pairs_of-same f g at same (Some (Root commit trees)) = refl

-- any bound above the address will do
map_within-same : (records : RecordsAt) (m n at : ℕ) → at < m → at < n → map_within records m at ≡ map_within records n at
map_within-same records zero n at lm ln = absurd (omega (arith, lm))
map_within-same records (suc m) zero at lm ln = absurd (omega (arith, ln))
map_within-same records (suc m) (suc n) at lm ln =
    pairs_of-same (map_within records m) (map_within records n) at (λ below lt. map_within-same records m n below (omega (arith, lt, lm)) (omega (arith, lt, ln))) (records at)

pub map_at-step : (records : RecordsAt) (at : ℕ) → map_at records at ≡ pairs_of (map_at records) at (records at)
unfolding map_at
map_at-step records at = pairs_of-same (map_within records at) (λ below. map_within records (suc below) below) at (λ below lt. map_within-same records at (suc below) below lt (omega arith)) (records at)

-- a map reads no address above its own
map_within-agree : (s t : RecordsAt) (depth at : ℕ) → ((a : ℕ) → a ≤ at → s a ≡ t a) → map_within s depth at ≡ map_within t depth at
map_within-agree s t zero at same = refl
map_within-agree s t (suc depth) at same =
    pairs_of-same (map_within s depth) (map_within t depth) at (λ below lt. map_within-agree s t depth below (λ a le. same a (omega (arith, le, lt)))) (s at)
    ∙ ap (pairs_of (map_within t depth) at) (same at (omega arith))

pub map_at-agree : (s t : RecordsAt) (at : ℕ) → ((a : ℕ) → a ≤ at → s a ≡ t a) → map_at s at ≡ map_at t at
unfolding map_at
map_at-agree s t at same = map_within-agree s t (suc at) at same
