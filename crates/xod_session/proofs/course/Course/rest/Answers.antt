use Rattle.std.proofs.Common.{◌∙◌, drop, ap, sym, subst, IsTrue}
use Rattle.xod_session.specs.Scripts.{are_named}
use Rattle.xod_session.proofs.AgreeLemmas.{are_named-drop}
use Rattle.xod_session.proofs.course.Course.rest.Goals as goal

pub returns-clause-named : goal.returns-clause-named
returns-clause-named c =
    subst (λ l. IsTrue (are_named l)) (sym (c.split_at.ensures.back ∙ ap (drop c.self.inside.spot.at) c.as_slice.ensures)) (are_named-drop c.self.inside.spot.at c.self.inside.statements c.self.invariant.2.named)
