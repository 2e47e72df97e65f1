-- What the view of an overlay over a view answers.
use Rattle.std.proofs.Common.{◌≡◌, ℕ, Bool, List, Option, Some, None, Result, Ok, Err, IfOk, IfSome, is_ok, option_map, sym, ap, subst, ◌∙◌, true≢false}
use Rattle.std.specs.FinMap.{entries, get}
use Rattle.std.specs.Option.{unwrap_or}
use Rattle.xod_base.specs.declared.causes.ReadError.{ReadError}
use Rattle.xod_base.specs.declared.pair.Pair.{Pair}
use Rattle.xod_base.specs.Views.{Answers, Tree, least_pair}
use Rattle.xod_overlay.specs.Marks.{Mark, Touch, TouchMap, overlaid}
use Rattle.xod_overlay.specs.Merging.{merged}
use Rattle.xod_overlay.specs.Places.{from, passes}
use Rattle.xod_overlay.proofs.Marked.{touched_decide}
use Rattle.xod_overlay.proofs.Merges.{merged_is}

module _ (touches : TouchMap) where
  abbrev over : Tree → Tree
  over base = overlaid base touches

  seen : (base : Tree) (key : List ℕ) (mark : Option Mark) → get touches key ≡ mark → get (over base) key ≡ unwrap_or mark (get base key)
  seen base key mark is = touched_decide base touches key ∙ ap (λ (o : Option Mark). unwrap_or o (get base key)) is

  -- a key that is not touched has what stands below
  pub untouched-answers : (tells : Bool) (tree : Option Tree) (key : List ℕ) (r : Result Mark ReadError) → get touches key ≡ None
      → Answers tells tree (λ map. get map key) r → Answers tells (option_map over tree) (λ map. get map key) r
  untouched-answers tells tree key r none a = record { value = λ told. by tree (a.value told); damaged = λ told place is. ap (option_map over) (a.damaged told place is) }
    where
      found : (base : Tree) (r : Result Mark ReadError) → IfOk r (λ x. x ≡ get base key) → IfOk r (λ x. x ≡ get (over base) key)
      found base (Ok x) is = is ∙ sym (seen base key None none)
      found base (Err e) is = tt

      by : (tree : Option Tree) → IfSome tree (λ base. IfOk r (λ x. x ≡ get base key)) → IfSome (option_map over tree) (λ map. IfOk r (λ x. x ≡ get map key))
      by None h = tt
      by (Some base) h = found base r h

  -- a touched key has its mark
  pub touched-answers : (tells : Bool) (tree : Option Tree) (key : List ℕ) (mark : Mark) → get touches key ≡ Some mark
      → Answers {A = Mark} tells (option_map over tree) (λ map. get map key) (Ok mark)
  touched-answers tells tree key mark is = record { value = λ told. by tree; damaged = λ told place e. absurd (true≢false (ap is_ok e)) }
    where
      by : (tree : Option Tree) → IfSome (option_map over tree) (λ map. mark ≡ get map key)
      by None = tt
      by (Some base) = sym (seen base key (Some mark) is)

  -- the walk over what was found below and the touches answers as the tree that is seen
  pub merged-answers : (strict : Bool) (key : List ℕ) (told told2 : Bool) (tree tree2 : Option Tree) (r r2 : Result (Option Pair) ReadError) (found : Option Pair) (ts : List Touch)
      → told2 ≡ told → tree2 ≡ tree → r ≡ Ok found → ts ≡ from (passes strict key) (entries touches)
      → Answers told tree (least_pair (passes strict key)) r → Answers told2 tree2 (λ base. merged base found ts) r2
      → Answers told (option_map over tree) (least_pair (passes strict key)) r2
  merged-answers strict key told told2 tree tree2 r r2 found ts tells_is tree_is ok ts_is a b = record {
    value = λ yes. by tree (a.value yes) (subst (λ (o : Option Tree). IfSome o (λ base. IfOk r2 (λ x. x ≡ merged base found ts))) tree_is (b.value (tells_is ∙ yes)));
    damaged = λ yes place is. ap (option_map over) (sym tree_is ∙ b.damaged (tells_is ∙ yes) place is);
  }
    where
      least_is : (base : Tree) → found ≡ least_pair (passes strict key) base → merged base found ts ≡ least_pair (passes strict key) (over base)
      least_is base is = ap (λ (o : Option Pair). merged base o ts) is ∙ ap (merged base (least_pair (passes strict key) base)) ts_is ∙ merged_is base touches strict key

      last : (base : Tree) (r : Result (Option Pair) ReadError) → found ≡ least_pair (passes strict key) base → IfOk r (λ x. x ≡ merged base found ts) → IfOk r (λ x. x ≡ least_pair (passes strict key) (over base))
      last base (Ok x) is h = h ∙ least_is base is
      last base (Err e) is h = tt

      by : (tree : Option Tree) → IfSome tree (λ base. IfOk r (λ x. x ≡ least_pair (passes strict key) base)) → IfSome tree (λ base. IfOk r2 (λ x. x ≡ merged base found ts))
          → IfSome (option_map over tree) (λ map. IfOk r2 (λ x. x ≡ least_pair (passes strict key) map))
      by None h k = tt
      by (Some base) h k = last base r2 (subst (λ (r : Result (Option Pair) ReadError). IfOk r (λ x. x ≡ least_pair (passes strict key) base)) ok h) k
