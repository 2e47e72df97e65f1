use Rattle.xod_session.proofs.OrderLemmas.{order-determines}
use Rattle.xod_session.proofs.laws.order_determines_journal.Goals as goal

pub returns : goal.returns
returns c = order-determines c.same_is_equal.ensures
