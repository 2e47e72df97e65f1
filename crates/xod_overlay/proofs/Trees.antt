-- The touched keys of all trees by number.
use Rattle.std.proofs.Common.{◌≡◌, ℕ, zero, suc, ◌<◌, Bool, true, false, cond, nat_eq, ◌==◌, List, [], ◌∷◌, ◌++◌, length, get_or, set, None, inl, inr, refl, sym, ap, ◌∙◌, arith}
use Rattle.std.proofs.lemmas.Bool.{cases_eq}
use Rattle.std.proofs.lemmas.Bool.Decides.{nat_tests}
use Rattle.std.proofs.lemmas.List.{get_or-set_same, get_or-set_other, get_or_default}
use Rattle.std.specs.Prelude.{T}
use Rattle.std.specs.FinMap.{get-empty, empty, empty_of_len, entries, entries-from_sorted, from_sorted, get, insert, entries-insert, is_sorted, len-entries, put, same_entries_map}
use Rattle.xod_base.specs.Values.{bytes_cmp}
use Rattle.xod_overlay.specs.Marks.{Mark, Touch, TouchMap, touched, touching}
use Rattle.xod_overlay.specs.Pieces.{joined, IsInPieces}
use Rattle.xod_overlay.proofs.Marked.{order}
use Rattle.xod_overlay.proofs.Pieced.{no_pieces}

-- ---- one tree

pub no_touches : from_sorted {X = Mark} {R = bytes_cmp} [] ≡ empty
no_touches = empty_of_len _ (len-entries _ ∙ ap length (entries-from_sorted bytes_cmp [] tt))

pub nothing_stands : (es : List Touch) → T (is_sorted bytes_cmp es) → from_sorted {R = bytes_cmp} es ≡ empty → es ≡ []
nothing_stands es h is = sym (entries-from_sorted bytes_cmp es h) ∙ ap entries (is ∙ sym no_touches) ∙ entries-from_sorted bytes_cmp [] tt

-- the map of some pieces is empty exactly where there is none
pub is_empty_map : (pieces : List (List Touch)) (keys : TouchMap) (b : Bool) → IsInPieces pieces → from_sorted (joined pieces) ≡ keys → b ≡ (length pieces == 0) → (b ≡ true → keys ≡ empty) × (keys ≡ empty → b ≡ true)
is_empty_map pieces keys b h is tested = (
  λ begun. sym is ∙ ap (λ (ps : List (List Touch)). from_sorted {R = bytes_cmp} (joined ps)) (no_elements pieces (sym tested ∙ begun)) ∙ no_touches,
  λ none. tested ∙ ap (λ (ps : List (List Touch)). length ps == 0) (no_pieces pieces h (nothing_stands (joined pieces) h.by_key (is ∙ none))),
)
  where
    no_elements : (ps : List (List Touch)) → (length ps == 0) ≡ true → ps ≡ []
    no_elements [] e = refl
    no_elements (p ∷ ps) e = absurd (grind (arith, nat_tests))

-- entries that are those with a touch put in are the map with it
pub put_is_insert : (es fs : List Touch) (key : List ℕ) (mark : Mark) → T (is_sorted bytes_cmp es) → T (is_sorted bytes_cmp fs) → fs ≡ put bytes_cmp key mark es
    → from_sorted {R = bytes_cmp} fs ≡ insert (from_sorted es) key mark
put_is_insert es fs key mark h k is = same_entries_map _ _ (
    entries-from_sorted bytes_cmp fs k ∙ is
    ∙ ap (put bytes_cmp key mark) (sym (entries-from_sorted bytes_cmp es h))
    ∙ sym (entries-insert order (from_sorted es) key mark))

-- what a touch makes of the pieces, it makes of their map
pub touch_view : (old new : List (List Touch)) (key : List ℕ) (mark : Mark) (keys : TouchMap) (ok : Bool) → IsInPieces old → IsInPieces new → from_sorted (joined old) ≡ keys
    → joined new ≡ cond ok (put bytes_cmp key mark (joined old)) (joined old) → from_sorted {R = bytes_cmp} (joined new) ≡ cond ok (insert keys key mark) keys
touch_view old new key mark keys true h k keys_is is =
    put_is_insert (joined old) (joined new) key mark h.by_key k.by_key is ∙ ap (λ (m : TouchMap). insert m key mark) keys_is
touch_view old new key mark keys false h k keys_is is = ap (λ (l : List Touch). from_sorted {R = bytes_cmp} l) is ∙ keys_is

-- ---- all trees

push_at : (trees : List TouchMap) (tree : ℕ) → touched (trees ++ empty ∷ []) tree ≡ touched trees tree
push_at [] zero = refl
push_at [] (suc tree) = refl
push_at (t ∷ trees) zero = refl
push_at (t ∷ trees) (suc tree) = push_at trees tree

pub touched-push : (trees : List TouchMap) → touched (trees ++ empty ∷ []) ≡ touched trees
touched-push trees = λ i tree. push_at trees tree i

set_at : (trees : List TouchMap) (tree : ℕ) (key : List ℕ) (mark : Mark) → tree < length trees → (other : ℕ)
    → touched (set trees tree (insert (get_or trees tree empty) key mark)) other ≡ touching (touched trees) tree key mark other
set_at trees tree key mark lt other = elim (cases_eq other tree) [
  | inl same ↦
      let yes : nat_eq other tree ≡ true = grind (arith, nat_tests) in
      ap (λ (n : ℕ). get_or (set trees tree (insert (get_or trees tree empty) key mark)) n empty) same
      ∙ get_or-set_same trees tree (insert (get_or trees tree empty) key mark) empty lt
      ∙ ap (λ (n : ℕ). insert (get_or trees n empty) key mark) (sym same)
      ∙ sym (ap (λ (b : Bool). cond b (insert (get_or trees tree empty) key mark) (get_or trees other empty)) yes ∙ ap (λ (n : ℕ). insert (get_or trees n empty) key mark) (sym same))
  | inr apart ↦
      let no : nat_eq other tree ≡ false = grind (arith, nat_tests) in
      get_or-set_other trees tree other (insert (get_or trees tree empty) key mark) empty apart
      ∙ sym (ap (λ (b : Bool). cond b (insert (get_or trees tree empty) key mark) (get_or trees other empty)) no)
]

pub touched-set : (trees : List TouchMap) (tree : ℕ) (key : List ℕ) (mark : Mark) → tree < length trees
    → touched (set trees tree (insert (get_or trees tree empty) key mark)) ≡ touching (touched trees) tree key mark
touched-set trees tree key mark lt = λ i other. set_at trees tree key mark lt other i

-- where no key of a tree is touched it has no entries
pub entries-none : (touches : TouchMap) → empty ≡ touches → entries touches ≡ []
entries-none touches is = ap entries (sym is ∙ sym no_touches) ∙ entries-from_sorted bytes_cmp [] tt

pub get-none : (touches : TouchMap) (key : List ℕ) → empty ≡ touches → get touches key ≡ None
get-none touches key is = ap (λ (m : TouchMap). get m key) (sym is) ∙ get-empty bytes_cmp key

-- a tree that is put back as it was
set_back : (trees : List TouchMap) (tree : ℕ) → tree < length trees → (other : ℕ) → touched (set trees tree (get_or trees tree empty)) other ≡ touched trees other
set_back trees tree lt other = elim (cases_eq other tree) [
  | inl same ↦
      ap (λ (n : ℕ). get_or (set trees tree (get_or trees tree empty)) n empty) same
      ∙ get_or-set_same trees tree (get_or trees tree empty) empty lt
      ∙ ap (λ (n : ℕ). get_or trees n empty) (sym same)
  | inr apart ↦ get_or-set_other trees tree other (get_or trees tree empty) empty apart
]

-- the touched keys of a tree in a list that has it
pub touched_at : (before trees : List TouchMap) (tree : ℕ) (now : TouchMap) → touched trees ≡ touched before → tree < length trees → now ≡ get_or trees tree now → now ≡ touched before tree
touched_at before trees tree now same lt now_is = now_is ∙ get_or_default trees tree now empty lt ∙ ap (λ (f : ℕ → TouchMap). f tree) same

-- a call that touches one tree, or leaves it
pub touched-touch : (before trees : List TouchMap) (tree : ℕ) (key : List ℕ) (mark : Mark) (now after : TouchMap) (ok : Bool)
    → touched trees ≡ touched before → tree < length trees → now ≡ get_or trees tree now → after ≡ cond ok (insert now key mark) now
    → touched (set trees tree after) ≡ cond ok (touching (touched before) tree key mark) (touched before)
touched-touch before trees tree key mark now after true same lt now_is after_is =
    ap (λ (m : TouchMap). touched (set trees tree m)) (after_is ∙ ap (λ (m : TouchMap). insert m key mark) (now_is ∙ get_or_default trees tree now empty lt))
    ∙ touched-set trees tree key mark lt
    ∙ ap (λ (f : ℕ → TouchMap). touching f tree key mark) same
touched-touch before trees tree key mark now after false same lt now_is after_is =
    ap (λ (m : TouchMap). touched (set trees tree m)) (after_is ∙ now_is ∙ get_or_default trees tree now empty lt)
    ∙ (λ i other. set_back trees tree lt other i)
    ∙ same
