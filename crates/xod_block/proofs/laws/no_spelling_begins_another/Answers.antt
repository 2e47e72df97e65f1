use Rattle.xod_block.proofs.RecordLemmas.{spelling-no_front}
use Rattle.xod_block.proofs.laws.no_spelling_begins_another.Goals as goal

pub returns : goal.returns
returns c = spelling-no_front
