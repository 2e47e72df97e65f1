use Rattle.xod_journal.proofs.SoundLemmas.{change_keeps_sound}
use Rattle.xod_journal.proofs.laws.changes_keep_sound.Goals as goal

pub returns : goal.returns
returns c = change_keeps_sound
