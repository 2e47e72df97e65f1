-- No key of a value is the beginning of another.
use Rattle.std.proofs.Common.{◌≡◌, ℕ, List, [], ◌∷◌, ◌++◌, length, refl, ap, arith, w64}
use Rattle.std.specs.Int.{to_be_bytes}
use Rattle.xod_base.specs.declared.value.Value.TheVariants.{Flag, Int, Text}
use Rattle.xod_base.specs.Values.{biased, folded}
use Rattle.xod_base.specs.Laws.{EachKeyShowsItsEnd}
use Rattle.xod_base.proofs.ByteOrder.{NoZero}
use Rattle.xod_base.proofs.KeyOrder.{text_no_zero}

abbrev pub first : List ℕ → ℕ
first [] = 0
first (x ∷ xs) = x

abbrev pub rest : List ℕ → List ℕ
rest [] = []
rest (x ∷ xs) = xs

nothing_more : (xs ys more : List ℕ) → length xs ≡ length ys → xs ++ more ≡ ys → more ≡ []
nothing_more [] [] more e h = h
nothing_more [] (y ∷ ys) more e h = absurd (omega arith)
nothing_more (x ∷ xs) [] more e h = absurd (omega arith)
nothing_more (x ∷ xs) (y ∷ ys) more e h = nothing_more xs ys more (omega arith) (ap rest h)

-- the 0 of one stands where the other has its own
ends_together : (xs ys more : List ℕ) → NoZero xs → NoZero ys → (xs ++ 0 ∷ []) ++ more ≡ ys ++ 0 ∷ [] → more ≡ []
ends_together [] [] more p q h = ap rest h
ends_together [] (y ∷ ys) more p q h = let zero_is : 0 ≡ y = ap first h in absurd (omega arith)
ends_together (x ∷ xs) [] more p q h = let is_zero : x ≡ 0 = ap first h in absurd (omega arith)
ends_together (x ∷ xs) (y ∷ ys) more p q h = ends_together xs ys more p.1 q.1 (ap rest h)

pub each_key_ends : EachKeyShowsItsEnd
each_key_ends (Flag a) (Flag b) more p q h = ap (λ l. rest (rest l)) h
each_key_ends (Flag a) (Int b) more p q h = absurd (omega (arith, ap first h))
each_key_ends (Flag a) (Text b) more p q h = absurd (omega (arith, ap first h))
each_key_ends (Int a) (Flag b) more p q h = absurd (omega (arith, ap first h))
each_key_ends (Int a) (Int b) more p q h = nothing_more (to_be_bytes w64 (biased a)) (to_be_bytes w64 (biased b)) more refl (ap rest h)
each_key_ends (Int a) (Text b) more p q h = absurd (omega (arith, ap first h))
each_key_ends (Text a) (Flag b) more p q h = absurd (omega (arith, ap first h))
each_key_ends (Text a) (Int b) more p q h = absurd (omega (arith, ap first h))
each_key_ends (Text a) (Text b) more p q h = ends_together (folded a) (folded b) more (text_no_zero a p) (text_no_zero b q) (ap rest h)
