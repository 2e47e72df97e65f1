-- The entries of a path, as branches are put at its end.
use Rattle.std.proofs.Common.{◌≡◌, ℕ, List, [], ◌∷◌, ◌++◌, ◌-◌, length, Option, Some, None, slice_get, refl, sym, ◌∙◌, ap, subst, arith, length-append}
use Rattle.std.proofs.lemmas.Option.{slice_get-get_or}
use Rattle.std.specs.Prelude.{IfSome}
use Rattle.std.specs.Option.{option_map, option_to_list}
use Rattle.std.proofs.lemmas.List.{append_assoc, append-nil}
use Rattle.xod_base.specs.Views.{Entry}
use Rattle.xod_block.specs.declared.address.Address.{Address}
use Rattle.xod_block.specs.Addresses.{number_of}
use Rattle.xod_block.specs.Maps.{RecordsAt, joined}
use Rattle.xod_block.specs.Records.{Link}
use Rattle.xod_block.proofs.Parts.{some_is}
use Rattle.xod_cursor.specs.declared.rung.Rung.{Rung}
use Rattle.xod_cursor.specs.Cursors.{IsNextChild, StandsAt, StandsLeft, StandsOn, entries_at, last_of, left_entries, path_entries, rung_entries}

abbrev Found : Type 0
Found = Option (List Entry)

-- ---- entries that are known, one list behind another

pub joined-assoc : (a b c : Found) → joined (joined a b) c ≡ joined a (joined b c)
joined-assoc None b c = refl
joined-assoc (Some x) None c = refl
joined-assoc (Some x) (Some y) None = refl
joined-assoc (Some x) (Some y) (Some z) = ap (λ (l : List Entry). Some l) (append_assoc x y z)

pub joined-first : (a : Found) → joined (Some []) a ≡ a
joined-first None = refl
joined-first (Some x) = refl

pub joined-last : (a : Found) → joined a (Some []) ≡ a
joined-last None = refl
joined-last (Some x) = ap (λ (l : List Entry). Some l) (append-nil x)

-- one entry before those of both
pub joined-entry : (e : Entry) (a b : Found) → joined (option_map (λ es. e ∷ es) a) b ≡ option_map (λ es. e ∷ es) (joined a b)
joined-entry e None b = refl
joined-entry e (Some x) None = refl
joined-entry e (Some x) (Some y) = refl

-- ---- a path with one more at its end

pub path_entries-left : (records : RecordsAt) (path : List Rung) (left : Option Rung) → path_entries records (path ++ option_to_list left) ≡ joined (left_entries records left) (path_entries records path)
path_entries-left records [] None = refl
path_entries-left records [] (Some rung) = joined-first (rung_entries records rung) ∙ sym (joined-last (rung_entries records rung))
path_entries-left records (top ∷ path) left =
    ap (λ (found : Found). joined found (rung_entries records top)) (path_entries-left records path left)
    ∙ joined-assoc (left_entries records left) (path_entries records path) (rung_entries records top)

pub stands-left : (records : RecordsAt) (root : Option Address) (path : List Rung) (left : Option Rung) → StandsOn records root path → StandsLeft records root left → StandsOn records root (path ++ option_to_list left)
stands-left records root [] None on stands = tt
stands-left records root [] (Some rung) on stands = (stands, tt)
stands-left records root (top ∷ path) left on stands = (on.0, stands-left records root path left on.1 stands)

-- and what stood before it was put there
pub stands-before : (records : RecordsAt) (root : Option Address) (path : List Rung) (rung : Rung) → StandsOn records root (path ++ rung ∷ []) → StandsOn records root path × StandsAt records root rung
stands-before records root [] rung on = (tt, on.0)
stands-before records root (top ∷ path) rung on = let others = stands-before records root path rung on.1 in ((on.0, others.0), others.1)

get-end : (path : List Rung) (rung : Rung) → slice_get (path ++ rung ∷ []) (length path) ≡ Some rung
get-end [] rung = refl
get-end (top ∷ path) rung = get-end path rung

pub last_of-end : (path : List Rung) (rung : Rung) → last_of (path ++ rung ∷ []) ≡ Some rung
last_of-end path rung =
    let place : length (path ++ rung ∷ []) - 1 ≡ length path = omega (arith, length-append path (rung ∷ [])) in
    ap (slice_get (path ++ rung ∷ [])) place ∙ get-end path rung

pub last_of-nothing : (path : List Rung) → last_of path ≡ None → path ≡ []
last_of-nothing [] none = refl
last_of-nothing (top ∷ path) none =
    let some = slice_get-get_or (top ∷ path) (length (top ∷ path) - 1) top (omega arith) in absurd cc

-- ---- the last branch of a path goes on behind its next child

last-same : (old path : List Rung) (top rung : Rung) → old ≡ path ++ top ∷ [] → last_of old ≡ Some rung → top ≡ rung
last-same old path top rung old_is last = some_is top rung (sym (ap last_of old_is ∙ last_of-end path top) ∙ last)

abbrev child_entries : RecordsAt → Rung → Link → Found
child_entries records rung child = entries_at records (rung.front ++ child.0 ∷ []) child.1

module _ (records : RecordsAt) (old path new : List Rung) (top : Rung) (left : Option Rung) (old_is : old ≡ path ++ top ∷ []) (new_is : new ≡ path ++ option_to_list left) where
  pub leaves-child : (rung : Rung) (child : Link) → last_of old ≡ Some rung → (IsNextChild top child → rung_entries records top ≡ joined (child_entries records top child) (left_entries records left)) → IsNextChild rung child
      → path_entries records old ≡ joined (child_entries records rung child) (path_entries records new)
  leaves-child rung child last behind next =
      let same = last-same old path top rung old_is last in
      ap (path_entries records) old_is
      ∙ path_entries-left records path (Some top)
      ∙ ap (λ (found : Found). joined found (path_entries records path)) (behind (subst (λ (r : Rung). IsNextChild r child) (sym same) next))
      ∙ joined-assoc (child_entries records top child) (left_entries records left) (path_entries records path)
      ∙ ap (joined (child_entries records top child)) (sym (ap (path_entries records) new_is ∙ path_entries-left records path left))
      ∙ ap (λ (r : Rung). joined (child_entries records r child) (path_entries records new)) same

  pub leaves-standing : (root : Option Address) → (StandsAt records root top → StandsLeft records root left) → StandsOn records root old → StandsOn records root new
  leaves-standing root behind on =
      let before = stands-before records root path top (subst (StandsOn records root) old_is on) in
      subst (StandsOn records root) (sym new_is) (stands-left records root path left before.0 (behind before.1))

-- and what is left of the child is put at the end, if anything is
pub puts-nothing : (path : List Rung) (left : Option Rung) → left ≡ None → path ≡ path ++ option_to_list left
puts-nothing path left none = sym (ap (λ (o : Option Rung). path ++ option_to_list o) none ∙ append-nil path)

pub puts-one : (path new : List Rung) (left : Option Rung) (rung : Rung) → left ≡ Some rung → new ≡ path ++ rung ∷ [] → new ≡ path ++ option_to_list left
puts-one path new left rung some is = is ∙ ap (λ (o : Option Rung). path ++ option_to_list o) (sym some)

module _ (records : RecordsAt) (path new : List Rung) (left : Option Rung) (new_is : new ≡ path ++ option_to_list left) where
  pub puts-entries : path_entries records new ≡ joined (left_entries records left) (path_entries records path)
  puts-entries = ap (path_entries records) new_is ∙ path_entries-left records path left

  pub puts-standing : (root : Option Address) → StandsOn records root path → StandsLeft records root left → StandsOn records root new
  puts-standing root on stands = subst (StandsOn records root) (sym new_is) (stands-left records root path left on stands)

pub puts-last : (path new : List Rung) (left : Option Rung) → new ≡ path ++ option_to_list left → IfSome left (λ rung. last_of new ≡ Some rung)
puts-last path new None new_is = tt
puts-last path new (Some rung) new_is = ap last_of new_is ∙ last_of-end path rung

-- ---- how deep a path has come: the number of the last branch's address, which falls on the way down

abbrev pub last_number : Option Rung → ℕ
last_number None = 0
last_number (Some rung) = number_of rung.at

abbrev pub depth : List Rung → ℕ
depth path = last_number (last_of path)
