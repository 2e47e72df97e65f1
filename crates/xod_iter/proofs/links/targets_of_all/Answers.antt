use Rattle.std.proofs.Common.{◌≡◌, Ok, Err, Some, None, ap, sym, ◌∙◌}
use Rattle.std.proofs.lemmas.Result.{err_from_is_err_and}
use Rattle.std.specs.List.{flat_map}
use Rattle.xod_base.specs.Evaluation.{rising, targets_of}
use Rattle.xod_base.specs.Rows.{number_of}
use Rattle.xod_iter.specs.Such.{ReadsSuch}
use Rattle.xod_reader.proofs.CallerLemmas.{absent, fails_rows, moved, ok_rows, value_rows}
use Rattle.xod_iter.proofs.Linking.{no_targets_all}
use Rattle.xod_iter.proofs.Such.{such_rows}
use Rattle.xod_iter.proofs.links.targets_of_all.Goals as goal

pub returns-in_default-clause-reads : goal.returns-in_default-clause-reads
returns-in_default-clause-reads g c =
    let none = absent c.in_ok-number.field-0 c.in_default.not-Some in
    ok_rows c.new.result (λ told rows are. c.new.ensures
    ∙ sym (no_targets_all rows are.sound c.args.link.now (sym (value_rows None (c.in_ok-number.was ∙ ap Ok none) c.number_of.ensures.reads told rows are)) c.args.ids.now))

pub returns-in_err-found-clause-reads : goal.returns-in_err-found-clause-reads
returns-in_err-found-clause-reads g c =
    let link = c.args.link.now in
    let number = c.in-Some.number in
    let error = err_from_is_err_and c.from_residual-in_err-found.result c.from_residual-in_err-found.ensures.1 in
    fails_rows c.from_residual-in_err-found.result c.in_err-found.field-0.0 (error.1 ∙ ap Err error.2) c.in_err-found.was
    (such_rows (λ told rows are. sym (value_rows (Some number) (c.in_ok-number.was ∙ ap Ok c.in-Some.is) c.number_of.ensures.reads told rows are))
    (moved c.number_of.ensures.keeps
    (λ b ts. ReadsSuch (λ rows. number_of rows.links link ≡ Some number) b ts (λ rows. flat_map (targets_of rows link) c.args.ids.now) c.targets_of_each.result)
    (c.targets_of_each.ensures.reads link)))

pub returns-clause-reads : goal.returns-clause-reads
returns-clause-reads g c =
    let link = c.args.link.now in
    let number = c.in-Some.number in
    ok_rows c.rising_of.result (λ told rows are. c.rising_of.ensures.exactly ∙ ap rising (value_rows c.in_ok-found.found c.in_ok-found.was
    (such_rows (λ told rows are. sym (value_rows (Some number) (c.in_ok-number.was ∙ ap Ok c.in-Some.is) c.number_of.ensures.reads told rows are))
    (moved c.number_of.ensures.keeps
    (λ b ts. ReadsSuch (λ rows. number_of rows.links link ≡ Some number) b ts (λ rows. flat_map (targets_of rows link) c.args.ids.now) c.targets_of_each.result)
    (c.targets_of_each.ensures.reads link))) told rows are))
