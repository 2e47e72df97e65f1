-- Keys that show their ends.
use Rattle.std.proofs.Common.{◌≡◌, ℕ, List, [], ◌∷◌, ◌++◌, length, sym, ap, arith}
use Rattle.xod_base.proofs.KeyEnds.{each_key_ends}
use Rattle.xod_dup.specs.Joining.{BeginsOnlyItself, ShowTheirEnds}
use Rattle.xod_dup.specs.Laws.{EqualLengthsSuffice, FrontsOfOneLengthKeepEnds, KeysOfValuesShowTheirEnds}

abbrev pub head : List ℕ → ℕ
head [] = 0
head (x ∷ xs) = x

abbrev pub tail : List ℕ → List ℕ
tail [] = []
tail (x ∷ xs) = xs

-- behind equal first bytes both show their ends still
pub behind_first : (x y : ℕ) (xs ys : List ℕ) → x ≡ y → ShowTheirEnds (x ∷ xs) (y ∷ ys) → ShowTheirEnds xs ys
behind_first x y xs ys same ends =
    (λ more is. ends.0 more (λ i. same i ∷ is i), λ more is. ends.1 more (λ i. sym same i ∷ is i))

equal_lengths : (key other : List ℕ) → length key ≡ length other → BeginsOnlyItself key other
equal_lengths [] [] same more is = is
equal_lengths [] (y ∷ other) same more is = absurd (omega arith)
equal_lengths (x ∷ key) [] same more is = absurd (omega arith)
equal_lengths (x ∷ key) (y ∷ other) same more is = equal_lengths key other (omega arith) more (ap tail is)

pub equal_lengths_suffice : EqualLengthsSuffice
equal_lengths_suffice key other same = (equal_lengths key other same, equal_lengths other key (sym same))

behind_fronts : (front before key other : List ℕ) → length front ≡ length before → BeginsOnlyItself key other
    → BeginsOnlyItself (front ++ key) (before ++ other)
behind_fronts [] [] key other same ends more is = ends more is
behind_fronts [] (y ∷ before) key other same ends more is = absurd (omega arith)
behind_fronts (x ∷ front) [] key other same ends more is = absurd (omega arith)
behind_fronts (x ∷ front) (y ∷ before) key other same ends more is =
    behind_fronts front before key other (omega arith) ends more (ap tail is)

pub fronts_keep_ends : FrontsOfOneLengthKeepEnds
fronts_keep_ends front before key other same ends =
    (behind_fronts front before key other same ends.0, behind_fronts before front other key (sym same) ends.1)

pub keys_of_values_end : KeysOfValuesShowTheirEnds
keys_of_values_end v w p q = (λ more. each_key_ends v w more p q, λ more. each_key_ends w v more q p)
