use Rattle.xod_recover.specs.Images.{Settled}
use Rattle.xod_shell.proofs.run.run.Given as goal

-- the run began where the volume was before it was opened
abbrev pub ghosts-play_out : goal.ghosts-play_out
ghosts-play_out g a = record {
  calm = Settled (g.V.Volume.files a.before.value) (g.V.Volume.may_leave a.before.value (g.V.Volume.moment a.before.value));
  since = g.V.Volume.moment a.before.value;
}
