-- Touches as changes, and the map that they make.
use Rattle.std.proofs.Common.{◌≡◌, ℕ, true, false, cond, List, [], ◌∷◌, Option, Some, None, refl, sym, ap, subst, ◌∙◌}
use Rattle.std.specs.Prelude.{T, IfSome, IsSome, map}
use Rattle.std.specs.Option.{option_copied, unwrap_or}
use Rattle.std.specs.Cmp.Lexicographic.{nat_list_cmp_total}
use Rattle.std.specs.FinMap.{IsAntisymmetric, empty, entries, entries_sorted, find, get, get-empty, get-entries, is_sorted, nat_cmp-IsAntisymmetric, same_map, slice_cmp-IsAntisymmetric}
use Rattle.std.specs.FinMap.Entries.{below_all}
use Rattle.xod_base.specs.Values.{bytes_cmp}
use Rattle.xod_block.specs.Records.{FitsPart}
use Rattle.xod_overlay.specs.Laws.{TouchedKeysDecide}
use Rattle.xod_overlay.specs.Marks.{Mark, Touch, TouchMap, overlaid}
use Rattle.xod_trie.specs.Tries.{TrieMap}
use Rattle.xod_trie.proofs.CallerLemmas.{tied}
use Rattle.xod_trie_mut.specs.declared.change.Change.{Change}
use Rattle.xod_trie_mut.specs.Changes.{FitChanges, KeysFit, with_change, with_changes}
use Rattle.xod_trie_mut.proofs.CallerLemmas.{get-set, same_key}
use Rattle.xod_commit.specs.Blocks.{Fit, FitTouches, FitsTouch, IsTreeNumber}
use Rattle.xod_commit.specs.Trees.{touch_by}
use Rattle.xod_commit.proofs.Finite.{all-entries, all-seen, find-below, first, second}

pub same_keys : IsAntisymmetric bytes_cmp
same_keys = slice_cmp-IsAntisymmetric nat_cmp-IsAntisymmetric

-- ---- the map that changes make

get-changes : (map_is : TrieMap) (list : List Change) (q : List ℕ) → T (is_sorted bytes_cmp (map touch_by list)) → get (with_changes map_is list) q ≡ unwrap_or (find bytes_cmp q (map touch_by list)) (get map_is q)
get-changes m [] q h = refl
get-changes m (c ∷ cs) q h =
    let mark : Mark = option_copied c.value in
    let others = find bytes_cmp q (map touch_by cs) in
    get-changes (with_change m c) cs q (second _ _ h)
    ∙ ap (unwrap_or others) (get-set m c.key.now mark q)
    ∙ elim (tied q c.key.now) as (λ b. tied q c.key.now ≡ b → unwrap_or others (cond b mark (get m q)) ≡ unwrap_or (cond b (Some mark) others) (get m q)) [
      | true ↦ λ t. ap (λ (o : Option Mark). unwrap_or o mark) (ap (λ (k : List ℕ). find bytes_cmp k (map touch_by cs)) (same_key q c.key.now t) ∙ find-below bytes_cmp c.key.now (map touch_by cs) (first (below_all bytes_cmp c.key.now (map touch_by cs)) (is_sorted bytes_cmp (map touch_by cs)) h))
      | false ↦ λ t. refl
    ] refl

-- the touches of a tree, made one after another, are the touches over it
pub changes-overlaid : TouchedKeysDecide → (m : TrieMap) (touches : TouchMap) (list : List Change) → map touch_by list ≡ entries touches → with_changes m list ≡ overlaid m touches
changes-overlaid decide m touches list is = same_map nat_list_cmp_total same_keys _ _ (λ q.
    get-changes m list q (subst (λ (es : List Touch). T (is_sorted bytes_cmp es)) (sym is) (entries_sorted touches))
    ∙ ap (λ (es : List Touch). unwrap_or (find bytes_cmp q es) (get m q)) is
    ∙ ap (λ (o : Option Mark). unwrap_or o (get m q)) (sym (get-entries touches q))
    ∙ sym (decide m touches q))

-- ---- touches that fit

pub if-found : {A : Type 0} (o : Option A) (P : A → Type 0) (x : A) → o ≡ Some x → IfSome o P → P x
if-found None P x e h = absurd cc
if-found (Some y) P x e h = let same : y ≡ x = cc in subst P same h

pub changes-fit : (touches : TouchMap) (list : List Change) → map touch_by list ≡ entries touches → FitTouches touches → FitChanges list
changes-fit touches list is fit = all-seen (λ (touch : Touch). FitsTouch touch.0 touch.1) touch_by list (entries touches) is
    (all-entries nat_list_cmp_total same_keys (λ (touch : Touch). FitsTouch touch.0 touch.1) touches (λ key mark found. if-found (get touches key) (FitsTouch key) mark found (fit key)))

key-fits : (key : List ℕ) (mark : Option Mark) (below : Mark) → IfSome mark (FitsTouch key) → (IsSome below → FitsPart key) → IsSome (unwrap_or mark below) → FitsPart key
key-fits key None below fit rest some = rest some
key-fits key (Some mark) below fit rest some = fit.0

pub overlaid-fits : TouchedKeysDecide → (m : TrieMap) (touches : TouchMap) → KeysFit m → FitTouches touches → KeysFit (overlaid m touches)
overlaid-fits decide m touches keys fit key some = key-fits key (get touches key) (get m key) (fit key) (keys key) (subst (λ (o : Mark). IsSome o) (decide m touches key) some)

-- ---- no touches

nothing : (o : Option Mark) → (IsSome o → ⊥) → o ≡ None
nothing None never = refl
nothing (Some mark) never = absurd (never refl)

-- a number that no tree has names no touched key
pub no-touches : (touches : ℕ → TouchMap) (tree : ℕ) → Fit touches → (IsTreeNumber tree → ⊥) → touches tree ≡ empty
no-touches touches tree fit none = same_map nat_list_cmp_total same_keys _ _ (λ q. nothing (get (touches tree) q) (λ some. none (fit.numbered tree q some)) ∙ sym (get-empty bytes_cmp q))
