use Rattle.std.proofs.Common.{◌≡◌, ◌+◌, drop}
use Rattle.std.specs.Prelude.{option_map}
use Rattle.xod_play.specs.Places.{place_named}
use Rattle.xod_play.proofs.rounds.place_of.Given as goal

abbrev pub invariant-loop-at : goal.invariant-loop-at
invariant-loop-at g l = place_named l.players l.name ≡ option_map (λ n. l.at + n) (place_named (drop l.at l.players) l.name)
