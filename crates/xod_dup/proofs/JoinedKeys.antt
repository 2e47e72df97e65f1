-- Joined keys of keys that show their ends: they are in order, and no two pairs have one.
use Rattle.std.proofs.Common.{◌≡◌, ℕ, List, [], ◌∷◌, ◌++◌, refl, ap, nat_cmp, Ordering, Less, Equal, Greater}
use Rattle.std.specs.Ordering.{ordering_then}
use Rattle.std.specs.FinMap.{nat_cmp-IsAntisymmetric}
use Rattle.xod_base.specs.Values.{bytes_cmp}
use Rattle.xod_dup.specs.Laws.{PairsComeBack, JoinedKeysRiseAsPairs}
use Rattle.xod_dup.proofs.Ends.{head, tail, behind_first}

-- no list with a first byte is empty
has_first : (x : ℕ) (xs : List ℕ) → x ∷ xs ≡ [] → ⊥
has_first x xs is = absurd (cc is)

-- the first bytes decide, and where they are equal what follows
first_decides : (first rest keys values : Ordering) → (first ≡ Equal → rest ≡ ordering_then keys values)
    → ordering_then first rest ≡ ordering_then (ordering_then first keys) values
first_decides Less rest keys values is = refl
first_decides Equal rest keys values is = is refl
first_decides Greater rest keys values is = refl

pub joined_keys_rise : JoinedKeysRiseAsPairs
joined_keys_rise [] [] value more ends = refl
joined_keys_rise [] (y ∷ other) value more ends = absurd (has_first y other (ends.0 (y ∷ other) refl))
joined_keys_rise (x ∷ key) [] value more ends = absurd (has_first x key (ends.1 (x ∷ key) refl))
joined_keys_rise (x ∷ key) (y ∷ other) value more ends =
    first_decides (nat_cmp x y) (bytes_cmp (key ++ value) (other ++ more)) (bytes_cmp key other) (bytes_cmp value more)
    (λ same. joined_keys_rise key other value more (behind_first x y key other (nat_cmp-IsAntisymmetric x y same) ends))

pub pairs_come_back : PairsComeBack
pairs_come_back [] [] value more ends is = (refl, is)
pairs_come_back [] (y ∷ other) value more ends is = absurd (has_first y other (ends.0 (y ∷ other) refl))
pairs_come_back (x ∷ key) [] value more ends is = absurd (has_first x key (ends.1 (x ∷ key) refl))
pairs_come_back (x ∷ key) (y ∷ other) value more ends is =
    let first : x ≡ y = ap head is in
    let behind = pairs_come_back key other value more (behind_first x y key other first ends) (ap tail is) in
    (λ i. first i ∷ behind.0 i, behind.1)
