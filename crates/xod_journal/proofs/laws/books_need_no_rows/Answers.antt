use Rattle.xod_journal.proofs.JournalLemmas.{after-booked}
use Rattle.xod_journal.proofs.laws.books_need_no_rows.Goals as goal

pub returns : goal.returns
returns c = after-booked
