use Rattle.std.proofs.Common.{◌≡◌, drop}
use Rattle.xod_block.specs.Bodies.{bodies_in}
use Rattle.xod_block.proofs.body_fetch.bytes_of.Given as goal

abbrev pub invariant-loop-body : goal.invariant-loop-body
invariant-loop-body l = bodies_in (drop l.body-index l.bodies) l.file ≡ bodies_in l.bodies l.file
