-- What a cursor is to give at its start.
use Rattle.std.proofs.Common.{◌≡◌, ℕ, List, [], ◌++◌, Bool, true, false, Option, Some, refl, sym, ◌∙◌, ap}
use Rattle.std.specs.Prelude.{if◌then◌else◌}
use Rattle.std.specs.Option.{option_map, option_to_list}
use Rattle.std.specs.FinMap.{entries}
use Rattle.xod_base.specs.declared.pair.Pair.{Pair}
use Rattle.xod_base.specs.Views.{Entry, Test, above, not_below, those_that}
use Rattle.xod_block.specs.declared.address.Address.{Address}
use Rattle.xod_block.specs.Addresses.{number_of}
use Rattle.xod_block.specs.Maps.{RecordsAt, joined, under}
use Rattle.xod_trie.specs.Least.{passes}
use Rattle.xod_trie.specs.Tries.{TrieMap}
use Rattle.xod_cursor.specs.declared.enter.Entered.{Entered}
use Rattle.xod_cursor.specs.declared.enter.Entered.TheVariants.{Own, Below}
use Rattle.xod_cursor.specs.declared.rung.Rung.{Rung}
use Rattle.xod_cursor.specs.Cursors.{behind_pair, entered_entries, entries_at, left_entries, path_entries}
use Rattle.xod_cursor.specs.Entries.{kept}
use Rattle.xod_cursor.specs.Walks.{Walks}
use Rattle.xod_cursor.proofs.Kept.{kept-all}
use Rattle.xod_cursor.proofs.Passing.{passes-any}
use Rattle.xod_cursor.proofs.Paths.{joined-entry, puts-entries}

abbrev Found : Type 0
Found = Option (List Entry)

-- ---- a whole branch before a path

module _ (records : RecordsAt) (path new : List Rung) (whole : Entered) where
  pub begins-own : (pair : Pair) (left : Option Rung) → whole ≡ Own pair left → new ≡ path ++ option_to_list left → behind_pair pair (path_entries records new) ≡ joined (entered_entries records whole) (path_entries records path)
  begins-own pair left is new_is =
      ap (behind_pair pair) (puts-entries records path new left new_is)
      ∙ sym (ap (λ (w : Entered). joined (entered_entries records w) (path_entries records path)) is ∙ joined-entry (pair.key, pair.value) (left_entries records left) (path_entries records path))

  pub begins-below : (rung : Rung) → whole ≡ Below rung → new ≡ path ++ option_to_list (Some rung) → path_entries records new ≡ joined (entered_entries records whole) (path_entries records path)
  begins-below rung is new_is =
      puts-entries records path new (Some rung) new_is
      ∙ sym (ap (λ (w : Entered). joined (entered_entries records w) (path_entries records path)) is)

-- all of a branch, and then what is left of the path
pub walks-all : (records : RecordsAt) (strict : Bool) (key : List ℕ) (wanted : List Entry) (at : Address) (rest : List ℕ) (path : List Rung) (w : Walks records strict key wanted (number_of at) rest (λ later. path_entries records path ≡ Some later)) (whole : Entered) (front : List ℕ)
    → kept (passes strict rest) w.pairs ≡ w.pairs → entered_entries records whole ≡ entries_at records front at → front ≡ w.done → joined (entered_entries records whole) (path_entries records path) ≡ Some wanted
walks-all records strict key wanted at rest path w whole front all is front_is =
    let here : entered_entries records whole ≡ Some (under w.done w.pairs) = is ∙ ap (λ (f : List ℕ). entries_at records f at) front_is ∙ ap (option_map (under w.done)) w.pairs_is in
    ap (λ (found : Found). joined found (path_entries records path)) here
    ∙ ap (joined (Some (under w.done w.pairs))) w.left
    ∙ ap (λ (es : List Entry). Some es) (sym (w.is ∙ ap (λ (es : List Entry). under w.done es ++ w.later) all))

-- ---- by the keys that are wanted

pub test-is : (strict : Bool) (key : List ℕ) → (if strict then above key else not_below key) ≡ passes strict key
test-is true key = refl
test-is false key = refl

pub those_that-kept : (strict : Bool) (key : List ℕ) (map : TrieMap) (pairs : List Entry) → entries map ≡ pairs → kept (passes strict key) pairs ≡ those_that (if strict then above key else not_below key) map
those_that-kept strict key map pairs is = sym (ap (λ (p : Test). those_that p map) (test-is strict key) ∙ ap (kept (passes strict key)) is)

pub those_that-all : (map : TrieMap) → those_that (not_below []) map ≡ entries map
those_that-all map = kept-all (not_below []) passes-any (entries map)
