use Rattle.std.proofs.Common.{◌≡◌, ◌-◌, ℕ, ap, length, length-append, subst, arith}
use Rattle.xod_block.specs.Bodies.{HasGrown}
use Rattle.xod_block.specs.Records.{spelling}
use Rattle.xod_overlay.specs.Marks.{touched}
use Rattle.xod_root.specs.Roots.{root_record}
use Rattle.xod_trie_mut.specs.Saves.{further}
use Rattle.xod_commit.specs.Trees.{AreBelow}
use Rattle.xod_commit.proofs.Numbers.{all-below, all-numbered, below-all, numbered-all}
use Rattle.xod_commit.proofs.Steps.{built-trees, built-unlisted}
use Rattle.xod_commit.proofs.block.build_block.Goals as goal

pub build_trees-requires-clause-numbered : goal.build_trees-requires-clause-numbered
build_trees-requires-clause-numbered g c = all-numbered c.args.roots.now c.requires.numbered

pub build_trees-requires-clause-below : goal.build_trees-requires-clause-below
build_trees-requires-clause-below g c = all-below c.args.at c.args.roots.now c.requires.below

pub returns-clause-trees : goal.returns-clause-trees
returns-clause-trees g c told tree =
    let building = c.in_ok-block.field-0 in
    let grown : HasGrown building.block c.put_root.new.block = record { more = spelling (root_record c.args.commit building.roots); is = c.in_ok-back.ensures.put } in
    built-trees c.args.at (g.F.Fetch.tells c.args.fetch.now) (g.F.Fetch.records c.args.fetch.now) (touched c.args.changes.now) c.args.roots.now
    c.touched_keys_decide.ensures c.a_block_keeps_what_it_has.ensures building c.requires.fit (all-below c.args.at c.args.roots.now c.requires.below) c.in_ok-block.ensures.built
    c.put_root.new.block grown told tree

pub returns-clause-unlisted_exactly_where_empty : goal.returns-clause-unlisted_exactly_where_empty
returns-clause-unlisted_exactly_where_empty g c told tree =
    built-unlisted c.args.at (g.F.Fetch.tells c.args.fetch.now) (g.F.Fetch.records c.args.fetch.now) (touched c.args.changes.now) c.args.roots.now
    c.touched_keys_decide.ensures c.a_block_keeps_what_it_has.ensures c.in_ok-block.field-0 c.requires.fit (all-below c.args.at c.args.roots.now c.requires.below) c.in_ok-block.ensures.built
    told tree

pub returns-clause-numbered : goal.returns-clause-numbered
returns-clause-numbered g c = numbered-all c.in_ok-block.field-0.roots c.in_ok-block.ensures.built.numbered

pub returns-clause-below_root : goal.returns-clause-below_root
returns-clause-below_root g c =
    let building = c.in_ok-block.field-0 in
    let whole = ap length c.in_ok-back.ensures.put in
    let both = length-append building.block (spelling (root_record c.args.commit building.roots)) in
    let before : length building.block ≡ length c.put_root.new.block - c.in_ok-back.back = omega (arith, whole, both, c.in_ok-back.ensures.back) in
    below-all (further c.args.at (length c.put_root.new.block - c.in_ok-back.back)) building.roots
    (subst (λ (n : ℕ). AreBelow (further c.args.at n) building.roots) before c.in_ok-block.ensures.built.below)
