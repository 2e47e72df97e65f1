use Rattle.std.proofs.Common.{sym, ◌∙◌}
use Rattle.xod_tables.proofs.CallerLemmas.{facts, not_none, same_some}
use Rattle.xod_estxn.proofs.Moving.{keeps-then, moved, ok_rows}
use Rattle.xod_estxn.proofs.Showing.{present, type_named}
use Rattle.xod_estxn.proofs.show.read.Goals as goal

pub returns-in-Some-clause-reads : goal.returns-in-Some-clause-reads
returns-in-Some-clause-reads g c =
    let first = c.has.ensures.keeps in
    let second = keeps-then first c.name_of.ensures.keeps in
    let third = keeps-then second c.props_of.ensures.keeps in
    ok_rows _ (λ told rows are.
    let there = sym (c.in_ok-has.ensures.reads.value told rows are) ∙ c.if-not-branch.false in
    let kind = (moved first c.in_ok-kind.ensures.reads).value told rows are in
    present rows c.args.id _ _ _ there
    (same_some _ _ (sym (type_named rows (facts rows are.sound) c.args.id there) ∙ sym kind ∙ c.in-Some.is))
    ((moved second c.in_ok-props.ensures.reads).value told rows are)
    ((moved third c.in_ok-links.ensures.reads).value told rows are))

pub returns-in-None-clause-reads : goal.returns-in-None-clause-reads
returns-in-None-clause-reads g c = record {
  value = λ told rows are. tt;
  damaged = λ told rows are place is.
      let there = sym (c.in_ok-has.ensures.reads.value told rows are) ∙ c.if-not-branch.false in
      let kind = (moved c.has.ensures.keeps c.in_ok-kind.ensures.reads).value told rows are in
      not_none _ (sym (type_named rows (facts rows are.sound) c.args.id there) ∙ sym kind ∙ c.in-None.is);
}
