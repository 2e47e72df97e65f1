-- Writes that are touched show as writes.
use Rattle.std.proofs.Common.{◌≡◌, ℕ, Bool, true, false, cond, List, [], ◌∷◌, Option, Some, None, refl, sym, ap, ◌∙◌, eqb-true}
use Rattle.std.specs.Prelude.{nat_eq}
use Rattle.std.specs.Option.{option_map}
use Rattle.std.specs.FinMap.{insert}
use Rattle.xod_base.specs.Views.{Tree, Trees}
use Rattle.xod_overlay.specs.Laws.{PutsShow, RemovalsShow}
use Rattle.xod_overlay.specs.Marks.{Mark, TouchMap, touching, overlaid, overlaid_trees}
use Rattle.xod_tables.specs.Touches.{TouchesShowAsWrites}
use Rattle.xod_overlay.specs.declared.write.Write.{Write}
use Rattle.xod_tables.specs.Writes.{with_key, after_write, after_writes}

module _ (puts : PutsShow) (removals : RemovalsShow) where
  shows : (base : Tree) (touches : TouchMap) (key : List ℕ) (mark : Mark) → overlaid base (insert touches key mark) ≡ with_key (overlaid base touches) key mark
  shows base touches key None = removals base touches key
  shows base touches key (Some value) = puts base touches key value

  in_tree : (o : Option Tree) (touches : TouchMap) (key : List ℕ) (mark : Mark) → option_map (λ base. overlaid base (insert touches key mark)) o ≡ option_map (λ tree. with_key tree key mark) (option_map (λ base. overlaid base touches) o)
  in_tree None touches key mark = refl
  in_tree (Some base) touches key mark = ap Some (shows base touches key mark)

  one_write : (touches : ℕ → TouchMap) (trees : Trees) (write : Write) (tree : ℕ) → overlaid_trees (touching touches write.tree write.key write.value) trees tree ≡ after_write (overlaid_trees touches trees) write tree
  one_write touches trees write tree = at (nat_eq tree write.tree) refl
    where
      at : (b : Bool) → nat_eq tree write.tree ≡ b → option_map (λ base. overlaid base (cond b (insert (touches write.tree) write.key write.value) (touches tree))) (trees tree)
          ≡ cond b (option_map (λ t. with_key t write.key write.value) (option_map (λ base. overlaid base (touches tree)) (trees tree))) (option_map (λ base. overlaid base (touches tree)) (trees tree))
      at true e = ap (λ n. option_map (λ base. overlaid base (insert (touches n) write.key write.value)) (trees tree)) (sym (eqb-true tree write.tree e)) ∙ in_tree (trees tree) (touches tree) write.key write.value
      at false e = refl

  pub touches_show : TouchesShowAsWrites
  touches_show touches trees [] = refl
  touches_show touches trees (write ∷ more) = touches_show (touching touches write.tree write.key write.value) trees more
      ∙ ap (λ t. after_writes t more) (λ i tree. one_write touches trees write tree i)
