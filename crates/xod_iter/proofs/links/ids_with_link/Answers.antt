use Rattle.std.proofs.Common.{◌≡◌, Ok, Some, None, ap, sym, ◌∙◌}
use Rattle.std.specs.List.{filter}
use Rattle.xod_base.specs.Evaluation.{has_link, ids_of}
use Rattle.xod_base.specs.Rows.{number_of}
use Rattle.xod_iter.specs.Such.{ReadsSuch}
use Rattle.xod_reader.specs.Told.{ReadsRows}
use Rattle.xod_reader.proofs.CallerLemmas.{absent, keeps_on, moved, ok_rows, reads_as, value_rows}
use Rattle.xod_iter.proofs.Linking.{none_with_link}
use Rattle.xod_iter.proofs.Such.{such_rows}
use Rattle.xod_iter.proofs.links.ids_with_link.Goals as goal

pub returns-in_default-clause-reads : goal.returns-in_default-clause-reads
returns-in_default-clause-reads g c =
    let none = absent c.in_ok-number.field-0 c.in_default.not-Some in
    ok_rows c.new.result (λ told rows are. c.new.ensures
    ∙ sym (none_with_link rows are.sound c.args.link.now (sym (value_rows None (c.in_ok-number.was ∙ ap Ok none) c.number_of.ensures.reads told rows are)) c.args.kind.now))

pub returns-clause-reads : goal.returns-clause-reads
returns-clause-reads g c =
    let link = c.args.link.now in
    let number = c.in-Some.number in
    let ids = moved c.number_of.ensures.keeps (λ b ts. ReadsRows b ts (λ rows. ids_of rows c.args.kind.now) c.ids_of.result) c.ids_of.ensures.reads in
    reads_as (λ told rows are. ap (filter (has_link rows link)) (value_rows c.in_ok-ids.ids c.in_ok-ids.was ids told rows are))
    (such_rows (λ told rows are. sym (value_rows (Some number) (c.in_ok-number.was ∙ ap Ok c.in-Some.is) c.number_of.ensures.reads told rows are))
    (moved (keeps_on c.number_of.ensures.keeps c.ids_of.ensures.keeps)
    (λ b ts. ReadsSuch (λ rows. number_of rows.links link ≡ Some number) b ts (λ rows. filter (has_link rows link) c.in_ok-ids.ids) c.those_with_link.result)
    (c.those_with_link.ensures.reads link)))
