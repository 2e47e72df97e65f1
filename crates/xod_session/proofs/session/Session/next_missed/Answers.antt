use mathlib.Core.Path.{transport}
use Rattle.std.proofs.Common.{sym}
use Rattle.xod_session.specs.Seats.{PlaysAs, view_of}
use Rattle.xod_session.proofs.PlaysLemmas.{handed-out}
use Rattle.xod_session.proofs.session.Session.next_missed.Goals as goal

pub returns-clause-plays : goal.returns-clause-plays
returns-clause-plays g c space plays =
    transport (λ i. PlaysAs g.O.Local.tells g.O.Local.txn g.O.Local.faults space (record (view_of c.args.self.now) { printed = sym c.next_missed.ensures.others i }))
    (handed-out g.O.Local.tells g.O.Local.txn g.O.Local.faults space (view_of c.args.self.now) plays c.next_missed.new.self.pending.items c.next_missed.result c.next_missed.ensures.queries)
