use Rattle.std.proofs.Common.{refl, ap}
use Rattle.std.specs.FinMap.{get}
use Rattle.xod_volume.specs.Files.{Files}
use Rattle.xod_log.proofs.CallerLemmas.{listed}
use Rattle.xod_trial.proofs.files.is_there.Goals as goal

pub returns : goal.returns
returns c = listed _ _ _ _ c.args.file c.contains.result c.contains.ensures.value c.deref.ensures.value (c.in_ok-numbers.ensures.listed refl) (ap (λ (f : Files). get f c.args.file) (c.files.ensures.same refl))
