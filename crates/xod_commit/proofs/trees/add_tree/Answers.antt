use Rattle.std.proofs.Common.{◌≡◌, ◌∙◌, List, ap, length, sym}
use Rattle.std.specs.Prelude.{map}
use Rattle.std.specs.FinMap.{entries}
use Rattle.std.proofs.lemmas.Bool.{eqb-true}
use Rattle.xod_overlay.specs.Marks.{TouchMap, touched}
use Rattle.xod_trie_mut.specs.declared.change.Change.{Change}
use Rattle.xod_commit.specs.declared.trees.Building.{Building}
use Rattle.xod_commit.specs.Trees.{touch_by}
use Rattle.xod_commit.proofs.Numbers.{one-more}
use Rattle.xod_commit.proofs.Steps.{added-none, added-saved, not-none}
use Rattle.xod_commit.proofs.Touches.{changes-fit}
use Rattle.xod_commit.proofs.trees.add_tree.Goals as goal

pub returns-then-is_empty-clause-added : goal.returns-then-is_empty-clause-added
returns-then-is_empty-clause-added g c =
    let list = c.in_ok-list.list.items in
    added-none c.args.at (g.F.Fetch.tells c.args.fetch.now) (g.F.Fetch.records c.args.fetch.now) (touched c.args.changes.now c.args.tree) c.args.tree
    c.touched_keys_decide.ensures list c.args.building.now c.in_ok-list.ensures (sym c.in_ok-list.list.ok.0 ∙ eqb-true c.in_ok-list.list.len 0 (sym c.if-is_empty.ensures)) c.requires.below

pub save_tree-requires-clause-fit : goal.save_tree-requires-clause-fit
save_tree-requires-clause-fit g c =
    let touches : TouchMap = touched c.args.changes.now c.args.tree in
    let is : map touch_by c.as_slice.result.now ≡ entries touches = ap (λ (l : List Change). map touch_by l) c.as_slice.ensures.value ∙ c.in_ok-list.ensures in
    changes-fit touches c.as_slice.result.now is c.requires.fit

pub set-requires : goal.set-requires
set-requires g c = one-more c.args.building.now.roots c.args.tree c.in_ok-now.now c.requires.numbered

pub returns-clause-added : goal.returns-clause-added
returns-clause-added g c =
    let touches : TouchMap = touched c.args.changes.now c.args.tree in
    let list = c.as_slice.result.now in
    let is : map touch_by list ≡ entries touches = ap (λ (l : List Change). map touch_by l) c.as_slice.ensures.value ∙ c.in_ok-list.ensures in
    let new : Building = record { block = c.save_tree.new.block; roots = c.set.new.self } in
    added-saved c.args.at (g.F.Fetch.tells c.args.fetch.now) (g.F.Fetch.records c.args.fetch.now) touches c.args.tree
    c.touched_keys_decide.ensures list c.args.building.now new c.get-root.result c.in_ok-now.now is
    (λ none. not-none c.in_ok-list.list.len c.if-is_empty.ensures (c.in_ok-list.list.ok.0 ∙ ap length (sym c.as_slice.ensures.value) ∙ none))
    c.get-root.ensures c.set.ensures c.in_ok-now.ensures.grown c.in_ok-now.ensures.map c.in_ok-now.ensures.empty c.in_ok-now.ensures.root_is_before_the_end
