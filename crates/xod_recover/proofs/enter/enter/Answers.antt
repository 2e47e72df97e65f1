use Rattle.std.proofs.Common.{◌≡◌, sym, ◌∙◌}
use Rattle.xod_recover.specs.Frames.{lists_body}
use Rattle.xod_recover.proofs.Entering.{enters, clean-under, blamed-absent, blamed-nothing, blamed-above}
use Rattle.xod_recover.proofs.enter.enter.Goals as goal

pub returns-then-not-is_below-clause-damaged : goal.returns-then-not-is_below-clause-damaged
returns-then-not-is_below-clause-damaged g c told stand place e =
    let same : c.place_of.result ≡ place = cc e in
    let not = c.if-not-is_below.true in
    blamed-above (g.F.Fetch.records c.args.fetch.now) (lists_body c.args.numbers.now) c.args.naming c.args.at place (λ lt. let is = c.is_below.ensures.1 lt in cc) (sym same ∙ c.place_of.ensures)

pub returns-then-contains-clause-walked_before : goal.returns-then-contains-clause-walked_before
returns-then-contains-clause-walked_before g c told stand clean =
    clean-under (g.F.Fetch.records c.args.fetch.now) (lists_body c.args.numbers.now) c.args.naming c.args.at stand c.number_of.ensures.place (c.is_below.ensures.0 c.if-not-is_below.false) (clean c.args.at c.number_of.ensures.place (rw (← c.number_of.ensures.number) (sym c.contains.ensures ∙ c.if-contains.true)))

pub returns-in-Ok-Some-clause-entered : goal.returns-in-Ok-Some-clause-entered
returns-in-Ok-Some-clause-entered g c told stand =
    enters (g.F.Fetch.records c.args.fetch.now) (lists_body c.args.numbers.now) c.args.naming c.args.at c.in-Ok-Some.children stand c.number_of.ensures.place (c.is_below.ensures.0 c.if-not-is_below.false) (sym c.in-Ok-Some.field-0-is ∙ c.in-Ok-Some.ensures.exactly told)

pub returns-in-Ok-None-clause-damaged : goal.returns-in-Ok-None-clause-damaged
returns-in-Ok-None-clause-damaged g c told stand place e =
    let same : c.blamed.result ≡ place = cc e in
    blamed-absent (g.F.Fetch.records c.args.fetch.now) (lists_body c.args.numbers.now) c.args.naming c.args.at place c.number_of.ensures.place (c.is_below.ensures.0 c.if-not-is_below.false) (sym c.in-Ok-None.field-0-is ∙ c.in-Ok-None.ensures.exactly told) (sym same ∙ c.blamed.ensures)

pub returns-in-Err-Damaged-clause-damaged : goal.returns-in-Err-Damaged-clause-damaged
returns-in-Err-Damaged-clause-damaged g c told stand place e =
    let same : c.blamed-in-Err-Damaged.result ≡ place = cc e in
    blamed-nothing (g.F.Fetch.records c.args.fetch.now) (lists_body c.args.numbers.now) c.args.naming c.args.at place c.number_of.ensures.place (c.is_below.ensures.0 c.if-not-is_below.false) (c.in-Err-Damaged.ensures.damaged_only_without_a_record told c.in-Err-Damaged.field-0-0 (cc)) (sym same ∙ c.blamed-in-Err-Damaged.ensures)
