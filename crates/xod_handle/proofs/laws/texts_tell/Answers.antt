use Rattle.xod_handle.proofs.Telling.{texts_tell}
use Rattle.xod_handle.proofs.laws.texts_tell.Goals as goal

pub returns : goal.returns
returns c = texts_tell
