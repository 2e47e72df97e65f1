use Rattle.std.proofs.Common.{sym, ◌∙◌, ap}
use Rattle.std.specs.FinMap.{entries}
use Rattle.std.specs.Option.{option_map}
use Rattle.xod_recover.specs.Check.{are_trees}
use Rattle.xod_recover.proofs.Rooting.{root_record-seen, rooted_by-none, rooted_by-other, rooted_by-this}
use Rattle.xod_recover.proofs.root.rooted_by.Goals as goal

pub returns-in_err-commit-clause-exactly : goal.returns-in_err-commit-clause-exactly
returns-in_err-commit-clause-exactly c = ap (option_map (λ root. (root.0, entries root.1))) c.from_residual.ensures ∙ sym (rooted_by-none c.args.item.now c.in_err-commit.ensures)

pub returns-then-not-are_trees-clause-exactly : goal.returns-then-not-are_trees-clause-exactly
returns-then-not-are_trees-clause-exactly c = rooted_by-other c.args.item.now c.in_ok-commit.commit c.in_ok-commit.roots c.as_slice.result.now c.requires c.in_ok-commit.ensures c.as_slice.ensures.exactly (sym c.are_trees.ensures ∙ c.if-not-are_trees.true)

pub returns-clause-exactly : goal.returns-clause-exactly
returns-clause-exactly c = rooted_by-this c.args.item.now c.in_ok-commit.commit c.in_ok-commit.roots c.as_slice.result.now c.requires c.in_ok-commit.ensures c.as_slice.ensures.exactly (sym c.are_trees.ensures ∙ c.if-not-are_trees.false)

pub returns-clause-numbered : goal.returns-clause-numbered
returns-clause-numbered c = sym (ap are_trees c.as_slice.ensures.exactly) ∙ sym c.are_trees.ensures ∙ c.if-not-are_trees.false

pub returns-clause-spelled : goal.returns-clause-spelled
returns-clause-spelled c = root_record-seen c.args.item.now c.in_ok-commit.commit c.in_ok-commit.roots c.requires c.in_ok-commit.ensures
