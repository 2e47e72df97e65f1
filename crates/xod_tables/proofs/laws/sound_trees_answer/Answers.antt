use Rattle.xod_tables.proofs.Answering.{sound_answer}
use Rattle.xod_tables.proofs.laws.sound_trees_answer.Goals as goal

pub returns : goal.returns
returns c = sound_answer
