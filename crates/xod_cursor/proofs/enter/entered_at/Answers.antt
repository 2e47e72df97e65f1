use Rattle.std.proofs.Common.{◌∙◌, refl, sym, ap}
use Rattle.std.specs.Option.{option_copied}
use Rattle.xod_trie.specs.Branches.{branch_of, branch_seen}
use Rattle.xod_cursor.proofs.Rungs.{entries_at-own, entries_at-below, rung_entries-is, rung-stands}
use Rattle.xod_cursor.proofs.enter.entered_at.Goals as goal

pub returns-in_ok-whole-in-Some-value-clause-entries : goal.returns-in_ok-whole-in-Some-value-clause-entries
returns-in_ok-whole-in-Some-value-clause-entries c records read =
    c.in_ok-whole-in-Some-value.ensures.entries records
    ∙ entries_at-own records c.args.at c.args.front (branch_seen c.in-Some.branch) (ap branch_of (sym read) ∙ sym c.in-Some.ensures.exactly) c.extend.new.self c.in-Some-value.value.now (ap option_copied c.in-Some-value.is) c.in_ok-extend.ensures

pub returns-in_ok-whole-in-Some-value-clause-stands : goal.returns-in_ok-whole-in-Some-value-clause-stands
returns-in_ok-whole-in-Some-value-clause-stands c records root read reached =
    c.in_ok-whole-in-Some-value.ensures.stands records root reached (record { branch = branch_seen c.in-Some.branch; is = ap branch_of (sym read) ∙ sym c.in-Some.ensures.exactly; children_are = refl })

pub returns-in_ok-rung-in-None-clause-entries : goal.returns-in_ok-rung-in-None-clause-entries
returns-in_ok-rung-in-None-clause-entries c records read =
    rung_entries-is records c.args.at c.extend.new.self c.in-Some.branch.links.now 0 c.in_ok-rung-in-None.rung c.in_ok-rung-in-None.ensures
    ∙ entries_at-below records c.args.at c.args.front (branch_seen c.in-Some.branch) (ap branch_of (sym read) ∙ sym c.in-Some.ensures.exactly) c.extend.new.self (ap option_copied c.in-None.is) c.in_ok-extend.ensures

pub returns-in_ok-rung-in-None-clause-stands : goal.returns-in_ok-rung-in-None-clause-stands
returns-in_ok-rung-in-None-clause-stands c records root read reached =
    rung-stands records c.args.at c.extend.new.self c.in-Some.branch.links.now 0 c.in_ok-rung-in-None.rung c.in_ok-rung-in-None.ensures root reached (record { branch = branch_seen c.in-Some.branch; is = ap branch_of (sym read) ∙ sym c.in-Some.ensures.exactly; children_are = refl })
