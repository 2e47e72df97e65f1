use Rattle.xod_volume.proofs.AllFiles.{now_left}
use Rattle.xod_volume.proofs.laws.reads_may_be_left.Goals as goal

pub returns : goal.returns
returns c = λ start calls. now_left start calls
