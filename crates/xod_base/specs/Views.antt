-- What a view of trees holds, and what its calls answer.
use base.Fml.{GName}
use Rattle.std.specs.Prelude.{◌≡◌, ◌≤◌, ℕ, Bool, false, IsTrue, if◌then◌else◌, List, [], ◌∷◌, ◌++◌, Option, Some, None, IsSome, IfSome, Result, Err, IfOk, OnOk}
use Rattle.std.specs.FinMap.{FinMap, entries, get}
use Rattle.std.specs.List.{filter}
use Rattle.std.specs.Option.{option_map}
use Rattle.std.specs.Ordering.{is_lt, is_le}
use Rattle.std.specs.declared.cmp.Ordering.TheVariants.{Less}
use Rattle.xod_base.specs.Causes.{Rose}
use Rattle.xod_base.specs.declared.causes.Place.{Place}
use Rattle.xod_base.specs.declared.causes.ReadError.{ReadError}
use Rattle.xod_base.specs.declared.causes.ReadError.TheVariants.{Device, Damaged, Memory}
use Rattle.xod_base.specs.declared.pair.Pair.{Pair}
use Rattle.xod_base.specs.Values.{bytes_cmp}

-- a tree: a finite map from keys to values
abbrev pub Tree : Type 0
Tree = FinMap bytes_cmp (List ℕ)

-- Trees by number. One is absent where the bytes that should stand for it are no map.
abbrev pub Trees : Type 0
Trees = ℕ → Option Tree

-- a key and its value
abbrev pub Entry : Type 0
Entry = List ℕ × List ℕ

-- which keys are wanted
abbrev pub Test : Type 0
Test = List ℕ → Bool

-- the first entry of a list whose key passes
abbrev pub first_that : Test → List Entry → Option Entry
first_that passes [] = None
first_that passes (entry ∷ others) = if passes entry.0 then Some entry else first_that passes others

-- the entries of a tree whose keys pass, by rising key
abbrev pub those_that : Test → Tree → List Entry
those_that passes tree = filter (λ entry. passes entry.0) (entries tree)

-- the entry of a tree with the least key that passes
abbrev pub least : Test → Tree → Option Entry
least passes tree = first_that passes (entries tree)

-- the keys that are not below a key
abbrev pub not_below : List ℕ → Test
not_below key other = is_le (bytes_cmp key other)

-- the keys that are above a key
abbrev pub above : List ℕ → Test
above key other = is_lt (bytes_cmp key other)

-- a key stands in a tree
abbrev pub IsKey : Tree → List ℕ → Type 0
IsKey tree key = IsSome (get tree key)

-- an entry stands in a tree, its key passes, and no lower one does
pub record IsLeastEntry (passes : Test) (tree : Tree) (entry : Entry) : Type 0 where
  pub stands : get tree entry.0 ≡ Some entry.1
  pub wanted : IsTrue (passes entry.0)
  pub lowest : (key : List ℕ) → IsKey tree key → IsTrue (passes key) → bytes_cmp key entry.0 ≡ Less → ⊥

-- what the least entry is, without its place in a list: none exactly where no key passes
abbrev pub IsLeast : Test → Tree → Option Entry → Type 0
IsLeast passes tree None = (key : List ℕ) → IsKey tree key → passes key ≡ false
IsLeast passes tree (Some entry) = IsLeastEntry passes tree entry

-- an entry with a front before its key
abbrev pub ahead : List ℕ → Option Entry → Option Entry
ahead front entry = option_map (λ e. (front ++ e.0, e.1)) entry

-- the one, or else the other
abbrev pub either : Option Entry → Option Entry → Option Entry
either None other = other
either (Some entry) other = Some entry

-- an entry as it is handed out
abbrev pub pair_of : Entry → Pair
pair_of entry = record { key = entry.0; value = entry.1 }

-- the pair of a tree with the least key that passes
abbrev pub least_pair : Test → Tree → Option Pair
least_pair passes tree = option_map pair_of (least passes tree)

-- What a call answers that seeks something in a tree. Where the view tells and the tree is there, it is what was
-- sought, and bytes are damaged only where the tree is not there.
pub record Answers {A : Type 0} (tells : Bool) (tree : Option Tree) (sought : Tree → A) (result : Result A ReadError) : Type 0 where
  pub value : IsTrue tells → IfSome tree (λ map. IfOk result (λ found. found ≡ sought map))
  pub damaged : IsTrue tells → (place : Place) → result ≡ Err (Damaged place) → tree ≡ None

-- How the count of faults goes with a call's answer: it rose where the device failed, and it stands where the call
-- answered or memory was refused.
pub record CountsFaults {A : Type 0} (before now : ℕ) (result : Result A ReadError) : Type 0 where
  pub device : result ≡ Err Device → Rose before now
  pub memory : result ≡ Err Memory → now ≡ before
  pub ok : OnOk result (now ≡ before)

-- What no call of a view changes, and its count of faults, which never falls.
pub record KeepsView {View : Type 0} (tells : View → Bool) (trees : View → Trees) (commit : View → ℕ) (refs : View → List GName) (faults : View → ℕ) (old new : View) : Type 0 where
  pub tells_same : tells new ≡ tells old
  pub trees_same : trees new ≡ trees old
  pub commit_same : commit new ≡ commit old
  pub refs_same : refs new ≡ refs old
  pub never_falls : faults old ≤ faults new
