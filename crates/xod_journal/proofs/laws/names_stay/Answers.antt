use Rattle.xod_journal.proofs.SoundLemmas.{sound_are_named, change_keeps_names}
use Rattle.xod_journal.proofs.laws.names_stay.Goals as goal

pub returns : goal.returns
returns c = (sound_are_named, change_keeps_names)
