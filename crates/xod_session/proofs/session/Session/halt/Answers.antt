use Rattle.std.specs.Prelude.{not}
use Rattle.xod_journal.specs.declared.journal.Origin.TheVariants.{Order}
use Rattle.xod_journal.specs.Spaces.{faults_in}
use Rattle.xod_session.specs.Courses.{since_place}
use Rattle.xod_session.specs.Seats.{view_of}
use Rattle.xod_session.specs.Sessions.{can_stop}
use Rattle.xod_session.proofs.CourseLemmas.{not_true}
use Rattle.xod_session.proofs.OptionLemmas.{both_true}
use Rattle.xod_session.proofs.PlaysLemmas.{order_there, stoppable}
use Rattle.xod_session.proofs.session.Session.halt.Goals as goal

pub stop-requires : goal.stop-requires
stop-requires g c =
    let session = view_of c.args.self.now in
    let space = g.S.Space.view c.args.space.now in
    let can = both_true (not session.course.place.stopped) (can_stop (since_place session.course) c.args.line) c.requires.can in
    stoppable g.O.Local.tells g.O.Local.txn g.O.Local.faults space session c.requires.plays (not_true session.course.place.stopped can.0) c.args.line c.args.cause Order
    (record { can = can.1; answered = c.requires.answered }) (order_there space (faults_in g.O.Local.faults session.txn) c.args.cause)
