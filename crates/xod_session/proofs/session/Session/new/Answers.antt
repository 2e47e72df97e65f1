use mathlib.Core.Path.{transport}
use Rattle.std.proofs.Common.{None, refl, subst, sym}
use Rattle.xod_session.specs.Courses.{IsCourse}
use Rattle.xod_session.specs.Dialogues.{Prints, printed_of}
use Rattle.xod_session.specs.Seats.{PlaysAs}
use Rattle.xod_session.specs.States.{opened}
use Rattle.xod_session.proofs.WellFormedLemmas.{can_play}
use Rattle.xod_session.proofs.PlaysLemmas.{opens}
use Rattle.xod_session.proofs.session.Session.new.Goals as goal

pub new-requires-2-clause-named : goal.new-requires-2-clause-named
new-requires-2-clause-named g c = (can_play c.args.script c.requires).named

pub new-requires-2-clause-rising : goal.new-requires-2-clause-rising
new-requires-2-clause-rising g c = (can_play c.args.script c.requires).rising

pub new-requires-2-clause-stand : goal.new-requires-2-clause-stand
new-requires-2-clause-stand g c = (can_play c.args.script c.requires).stand

pub returns-clause-plays : goal.returns-clause-plays
returns-clause-plays g c space empty least most =
    transport (λ i. PlaysAs g.O.Local.tells g.O.Local.txn g.O.Local.faults space (record {
      actor = c.args.actor;
      course = sym c.new-2.ensures.start i;
      printed = printed_of c.in_ok-said.said;
      txn = None;
      met = None;
    }))
    (opens g.O.Local.tells g.O.Local.txn g.O.Local.faults space c.args.actor c.args.script.statements (printed_of c.in_ok-said.said) (subst IsCourse c.new-2.ensures.start c.new-2.ensures.course)
    (subst (Prints (opened c.args.script.statements).said) (sym c.in_ok-said.ensures.printed) (record { variables = refl; text = refl; hits = refl; misses = refl; pending = refl })) empty least most)
