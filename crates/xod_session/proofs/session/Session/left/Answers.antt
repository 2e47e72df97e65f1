use Rattle.std.proofs.Common.{◌∙◌, ap, sym}
use Rattle.std.specs.Prelude.{not}
use Rattle.xod_session.specs.Answers.{first_line}
use Rattle.xod_session.proofs.CourseLemmas.{ended-closed, first_is, none-first}
use Rattle.xod_session.proofs.session.Session.left.Goals as goal

pub returns-in_err-statement-clause-none : goal.returns-in_err-statement-clause-none
returns-in_err-statement-clause-none g c none =
    ended-closed c.args.self.now.course c.is_stopped.ensures.course (sym c.is_stopped.ensures.stopped ∙ c.if-is_stopped.false) (sym c.rest.ensures.rest ∙ none-first c.rest.result.now c.in_err-statement.ensures.value)

pub returns-clause-line : goal.returns-clause-line
returns-clause-line g c = record {
  going = sym c.is_stopped.ensures.stopped ∙ c.if-is_stopped.false;
  open_is = sym c.args.self.now.held ∙ c.is_none.ensures ∙ ap not c.if-is_none.false;
  first = ap first_line (sym c.rest.ensures.rest ∙ first_is c.rest.result.now c.in_ok-statement.statement.now c.in_ok-statement.ensures.value);
}
