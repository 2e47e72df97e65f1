use Rattle.xod_journal.proofs.JournalLemmas.{after-append, all_booked-append}
use Rattle.xod_journal.proofs.laws.journals_go_on.Goals as goal

pub returns : goal.returns
returns c = (after-append, all_booked-append)
