use Rattle.std.proofs.Common.{◌≡◌, ◌≤◌, ◌∙◌, ◌+◌, ℕ, suc, Bool, refl, subst, arith}
use Rattle.xod_block.specs.Maps.{RecordsAt}
use Rattle.xod_block.proofs.CallerLemmas.{Stays-first, Stays-then}
use Rattle.xod_overlay.specs.Marks.{touched}
use Rattle.xod_commit.specs.declared.trees.Building.{Building}
use Rattle.xod_commit.specs.Trees.{AreBuilt, IsAdded}
use Rattle.xod_commit.proofs.Steps.{built-first, built-next}
use Rattle.xod_commit.proofs.trees.build_trees.Goals as goal

pub trees-init : goal.trees-init
trees-init g c =
    let building : Building = record { block = c.new.result; roots = c.copied.result } in
    record {
      stays = Stays-first;
      no_fault = refl;
      first = omega arith;
      last = omega arith;
      built = built-first c.args.at (g.F.Fetch.tells c.args.fetch.now) (g.F.Fetch.records c.args.fetch.now) (touched c.args.changes.now) c.args.roots.now
          c.touched_keys_decide.ensures building c.copied.ensures c.requires.fit c.requires.numbered c.requires.below;
    }

pub trees-preserved : goal.trees-preserved
trees-preserved g c =
    let t = g.F.Fetch.tells c.args.fetch.now in
    let R = g.F.Fetch.records c.args.fetch.now in
    let touches = touched c.args.changes.now in
    let s = c.trees.invariant.stays in
    let tree = c.trees.tree in
    let low : 1 ≤ tree = c.trees.invariant.first in
    let high : tree ≤ 8 = omega (arith, c.trees-test.true) in
    let new = c.add_tree.new.building in
    let step = subst (λ (u : Bool). IsAdded c.args.at u R (touches tree) tree c.trees.building new) s.tells_same
    (subst (λ (S : RecordsAt). IsAdded c.args.at (g.F.Fetch.tells c.trees.fetch) S (touches tree) tree c.trees.building new) s.records_same c.in_ok-add_tree.ensures.added) in
    let next : suc tree ≡ tree + 1 = omega arith in
    record {
      stays = Stays-then s c.add_tree.ensures.stays;
      no_fault = c.in_ok-add_tree.ensures.counts.ok ∙ c.trees.invariant.no_fault;
      first = omega (arith, low);
      last = omega (arith, high);
      built = subst (λ (n : ℕ). AreBuilt c.args.at t R touches c.args.roots.now n new) next
          (built-next c.args.at t R touches c.args.roots.now c.a_block_keeps_what_it_has.ensures tree c.trees.building new (low, high) c.requires.below c.trees.invariant.built step);
    }
