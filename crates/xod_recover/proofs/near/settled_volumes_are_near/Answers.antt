use Rattle.xod_recover.proofs.Clearing.{settled_but}
use Rattle.xod_recover.proofs.CutReads.{settled_near}
use Rattle.xod_recover.proofs.near.settled_volumes_are_near.Goals as goal

pub returns-clause-near : goal.returns-clause-near
returns-clause-near g c newest volume found settled = settled_near newest _ found found.fits _ settled

pub returns-clause-but_one : goal.returns-clause-but_one
returns-clause-but_one g c newest above volume past found settled = settled_but newest _ found above past _ settled
