-- What the crates above cite of walks.
use Rattle.std.proofs.Common.{◌≡◌, List, [], ◌∷◌, drop, Option, Some, None, slice_get, refl, sym, ◌∙◌}
use Rattle.std.specs.Option.{option_map}
use Rattle.xod_base.specs.declared.pair.Pair.{Pair}
use Rattle.xod_base.specs.Views.{Entry, pair_of}

-- no entry is given: none was to come
pub none_to_come : (found : Option Pair) (entries : List Entry) → found ≡ option_map pair_of (slice_get entries 0) → found ≡ None → entries ≡ []
none_to_come found [] is none = refl
none_to_come found (entry ∷ others) is none = let none : Some (pair_of entry) ≡ None = sym is ∙ none in cc none

-- an entry is given: it was the first to come, and then come the others
pub one_to_come : (found : Option Pair) (pair : Pair) (entries others : List Entry) → found ≡ option_map pair_of (slice_get entries 0) → found ≡ Some pair → others ≡ drop 1 entries → entries ≡ (pair.key, pair.value) ∷ others
one_to_come found pair [] others is some rest = let none : Some pair ≡ None = sym some ∙ is in cc none
one_to_come found pair (entry ∷ more) others is some rest =
    let same : Some (pair_of entry) ≡ Some pair = sym is ∙ some in
    let first : pair_of entry ≡ pair = cc same in
    λ i. ((first i).key, (first i).value) ∷ sym rest i
