use Rattle.xod_journal.proofs.ExpansionLemmas as lemmas
use Rattle.xod_journal.proofs.laws.expansions_fit.Goals as goal

pub returns : goal.returns
returns c = lemmas.expansions_fit
