-- Writes that are taken back: the touched keys of a tree and of all trees, once a key has again what stood there before.
use Rattle.std.proofs.Common.{◌≡◌, ℕ, ◌<◌, ◌≤◌, Bool, true, false, cond, nat_eq, List, [], ◌∷◌, ◌++◌, length, get_or, set, Option, inl, inr, refl, sym, ap, subst, ◌∙◌, arith}
use Rattle.std.proofs.lemmas.Bool.{cases_eq}
use Rattle.std.proofs.lemmas.Bool.Decides.{nat_tests}
use Rattle.std.proofs.lemmas.List.{get_or-set_same, get_or-set_other, get_or_default, get_or_past}
use Rattle.std.specs.Prelude.{T}
use Rattle.std.specs.FinMap.{empty, entries, entries-from_sorted, entries-insert, entries_sorted, from_sorted, get, get-entries, insert, is_sorted, same_entries_map}
use Rattle.xod_base.specs.Values.{bytes_cmp}
use Rattle.xod_overlay.specs.declared.write.Write.{Write}
use Rattle.xod_overlay.specs.declared.writing.Undo.{Undo}
use Rattle.xod_overlay.specs.Marks.{Mark, Touch, TouchMap, all_touching, touched, touching}
use Rattle.xod_overlay.specs.Pieces.{joined, IsInPieces}
use Rattle.xod_overlay.specs.Restoring.{restored, restored_keys, restoring, undone}
use Rattle.xod_overlay.proofs.Marked.{order}
use Rattle.xod_overlay.proofs.Restored.{given_back}
use Rattle.xod_overlay.proofs.Trees.{entries-none, no_touches}

-- ---- one tree

-- what is given back in the pieces is given back in their map
pub restore_view : (old new : List (List Touch)) (key : List ℕ) (before : Option Mark) (keys : TouchMap) → IsInPieces old → from_sorted (joined old) ≡ keys
    → joined new ≡ restored key before (joined old) → from_sorted {R = bytes_cmp} (joined new) ≡ restored_keys keys key before
unfolding restored_keys
restore_view old new key before keys h keys_is is =
    ap (λ (l : List Touch). from_sorted {R = bytes_cmp} l) (is ∙ ap (restored key before) (sym (entries-from_sorted bytes_cmp (joined old) h.by_key) ∙ ap entries keys_is))

-- a touch, and then what stood at its key before, give the touched keys back
pub keys_back : (keys : TouchMap) (key : List ℕ) (mark : Mark) → restored_keys (insert keys key mark) key (get keys key) ≡ keys
unfolding restored_keys
keys_back keys key mark = same_entries_map _ _ (entries-from_sorted bytes_cmp _ (subst (λ (l : List Touch). T (is_sorted bytes_cmp l)) (sym back) (entries_sorted keys)) ∙ back)
  where
    back : restored key (get keys key) (entries (insert keys key mark)) ≡ entries keys
    back = (λ i. restored key (get-entries keys key i) (entries-insert order keys key mark i)) ∙ given_back key mark (entries keys) (entries_sorted keys)

-- where no key is touched none is given back
pub none_back : (keys : TouchMap) (key : List ℕ) (before : Option Mark) → empty ≡ keys → keys ≡ restored_keys keys key before
unfolding restored_keys
none_back keys key before is = sym is ∙ sym no_touches ∙ ap (λ (l : List Touch). from_sorted {R = bytes_cmp} (restored key before l)) (sym (entries-none keys is))

-- ---- all trees

set_keys : (trees : List TouchMap) (tree : ℕ) (keys : TouchMap) → tree < length trees → (other : ℕ) → touched (set trees tree keys) other ≡ cond (nat_eq other tree) keys (touched trees other)
set_keys trees tree keys lt other = elim (cases_eq other tree) [
  | inl same ↦
      let yes : nat_eq other tree ≡ true = grind (arith, nat_tests) in
      ap (λ (n : ℕ). get_or (set trees tree keys) n empty) same
      ∙ get_or-set_same trees tree keys empty lt
      ∙ sym (ap (λ (b : Bool). cond b keys (get_or trees other empty)) yes)
  | inr apart ↦
      let no : nat_eq other tree ≡ false = grind (arith, nat_tests) in
      get_or-set_other trees tree other keys empty apart
      ∙ sym (ap (λ (b : Bool). cond b keys (get_or trees other empty)) no)
]

-- a call that gives a key back in one tree
pub touched-restore : (trees : List TouchMap) (tree : ℕ) (key : List ℕ) (before : Option Mark) (now after : TouchMap) → tree < length trees → now ≡ get_or trees tree now
    → after ≡ restored_keys now key before → touched (set trees tree after) ≡ restoring (touched trees) tree key before
touched-restore trees tree key before now after lt now_is after_is =
    ap (λ (m : TouchMap). touched (set trees tree m)) (after_is ∙ ap (λ (m : TouchMap). restored_keys m key before) (now_is ∙ get_or_default trees tree now empty lt))
    ∙ (λ i other. set_keys trees tree (restored_keys (touched trees tree) key before) lt other i)

-- a tree past the end of the list has no touched keys
pub past_restore : (trees : List TouchMap) (tree : ℕ) (key : List ℕ) (before : Option Mark) → length trees ≤ tree → touched trees ≡ restoring (touched trees) tree key before
past_restore trees tree key before past = λ i other. at other i
  where
    at : (other : ℕ) → touched trees other ≡ restoring (touched trees) tree key before other
    at other = elim (cases_eq other tree) [
      | inl same ↦
          let yes : nat_eq other tree ≡ true = grind (arith, nat_tests) in
          ap (touched trees) same
          ∙ none_back (touched trees tree) key before (sym (get_or_past trees tree empty past))
          ∙ sym (ap (λ (b : Bool). cond b (restored_keys (touched trees tree) key before) (touched trees other)) yes)
      | inr apart ↦
          let no : nat_eq other tree ≡ false = grind (arith, nat_tests) in
          sym (ap (λ (b : Bool). cond b (restored_keys (touched trees tree) key before) (touched trees other)) no)
    ]

-- a touch, and then what stood at its key before, give the touched keys of all trees back
pub trees_back : (touches : ℕ → TouchMap) (tree : ℕ) (key : List ℕ) (mark : Mark) (before : Option Mark) → before ≡ get (touches tree) key
    → restoring (touching touches tree key mark) tree key before ≡ touches
trees_back touches tree key mark before before_is = λ i other. at other i
  where
    itself : nat_eq tree tree ≡ true
    itself = grind (arith, nat_tests)

    here : restored_keys (touching touches tree key mark tree) key before ≡ touches tree
    here =
        (λ i. restored_keys (cond (itself i) (insert (touches tree) key mark) (touches tree)) key (before_is i))
        ∙ keys_back (touches tree) key mark

    at : (other : ℕ) → restoring (touching touches tree key mark) tree key before other ≡ touches other
    at other = elim (cases_eq other tree) [
      | inl same ↦
          let yes : nat_eq other tree ≡ true = grind (arith, nat_tests) in
          ap (λ (b : Bool). cond b (restored_keys (touching touches tree key mark tree) key before) (touching touches tree key mark other)) yes
          ∙ here ∙ ap touches (sym same)
      | inr apart ↦
          let no : nat_eq other tree ≡ false = grind (arith, nat_tests) in
          ap (λ (b : Bool). cond b (restored_keys (touching touches tree key mark tree) key before) (cond b (insert (touches tree) key mark) (touches other))) no
    ]

-- ---- many writes

pub no_items : (made : List Undo) → length made ≡ 0 → made ≡ []
no_items [] none = refl
no_items (undo ∷ made) none = absurd (omega arith)

pub undone-nil : (touches : ℕ → TouchMap) → undone touches [] ≡ touches
unfolding undone
undone-nil touches = refl

-- the last one is taken back first
pub undone-last : (touches : ℕ → TouchMap) (made : List Undo) (undo : Undo) → undone touches (made ++ undo ∷ []) ≡ undone (restoring touches undo.tree undo.key undo.before) made
unfolding undone
undone-last touches [] undo = refl
undone-last touches (one ∷ made) undo = ap (λ (f : ℕ → TouchMap). restoring f one.tree one.key one.before) (undone-last touches made undo)

-- a write more, that is kept
pub undone-write : (before after : ℕ → TouchMap) (made : List Undo) (undo : Undo) (mark : Mark) → after ≡ touching before undo.tree undo.key mark → undo.before ≡ get (before undo.tree) undo.key
    → undone after (made ++ undo ∷ []) ≡ undone before made
undone-write before after made undo mark after_is before_is =
    undone-last after made undo
    ∙ ap (λ (f : ℕ → TouchMap). undone f made) (ap (λ (f : ℕ → TouchMap). restoring f undo.tree undo.key undo.before) after_is ∙ trees_back before undo.tree undo.key mark undo.before before_is)

pub all_touching-more : (touches : ℕ → TouchMap) (writes : List Write) (write : Write) → touching (all_touching touches writes) write.tree write.key write.value ≡ all_touching touches (writes ++ write ∷ [])
all_touching-more touches [] write = refl
all_touching-more touches (one ∷ writes) write = all_touching-more (touching touches one.tree one.key one.value) writes write
