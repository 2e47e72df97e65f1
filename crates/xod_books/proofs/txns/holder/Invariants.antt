use Rattle.std.proofs.Common.{◌≡◌}
use Rattle.xod_journal.specs.Books.{holder_among}
use Rattle.xod_books.proofs.txns.holder.Given as goal

abbrev pub invariant-loop-actor : goal.invariant-loop-actor
invariant-loop-actor l = holder_among l.mode l.actor-iterator ≡ holder_among l.mode l.txns.entries
