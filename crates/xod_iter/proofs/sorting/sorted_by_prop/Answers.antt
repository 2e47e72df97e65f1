use Rattle.std.proofs.Common.{◌≡◌, Err, ap, map, sym, ◌∙◌}
use Rattle.std.proofs.lemmas.Result.{err_from_is_err_and}
use Rattle.xod_base.specs.Rows.{number_of}
use Rattle.xod_forms.specs.Ranks.{rank_of}
use Rattle.xod_iter.specs.Such.{ReadsSuch}
use Rattle.xod_reader.proofs.CallerLemmas.{fails_rows, moved, ok_rows, value_rows}
use Rattle.xod_iter.proofs.Such.{such_rows}
use Rattle.xod_iter.proofs.sorting.sorted_by_prop.Goals as goal

pub returns-in_err-ranked-clause-reads : goal.returns-in_err-ranked-clause-reads
returns-in_err-ranked-clause-reads g c =
    let prop = c.args.prop.now in
    let number = c.in_ok-number.number in
    let error = err_from_is_err_and c.from_residual-in_err-ranked.result c.from_residual-in_err-ranked.ensures.1 in
    fails_rows c.from_residual-in_err-ranked.result c.in_err-ranked.field-0.0 (error.1 ∙ ap Err error.2) c.in_err-ranked.was
    (such_rows (λ told rows are. sym (value_rows number c.in_ok-number.was c.number_of.ensures.reads told rows are))
    (moved c.number_of.ensures.keeps
    (λ b ts. ReadsSuch (λ rows. number_of rows.props prop ≡ number) b ts (λ rows. map (rank_of rows prop) c.args.ids.now) c.ranked.result)
    (c.ranked.ensures.reads prop)))

pub returns-clause-reads : goal.returns-clause-reads
returns-clause-reads g c =
    let prop = c.args.prop.now in
    let number = c.in_ok-number.number in
    ok_rows c.in_ok-found.found (λ told rows are. c.in_ok-found.ensures rows prop c.args.ids.now (c.into_vec.ensures ∙ value_rows c.in_ok-ranked.ranked c.in_ok-ranked.was
    (such_rows (λ told rows are. sym (value_rows number c.in_ok-number.was c.number_of.ensures.reads told rows are))
    (moved c.number_of.ensures.keeps
    (λ b ts. ReadsSuch (λ rows. number_of rows.props prop ≡ number) b ts (λ rows. map (rank_of rows prop) c.args.ids.now) c.ranked.result)
    (c.ranked.ensures.reads prop))) told rows are))
