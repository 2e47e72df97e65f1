-- Players by their names.
use Rattle.std.specs.Prelude.{ℕ, ◌+◌, List, [], ◌∷◌, Option, Some, None, option_map, if◌then◌else◌}
use Rattle.xod_base.specs.Values.{same_bytes}
use Rattle.xod_play.specs.declared.player.Player.{Player}

-- the place of the first player with a name
abbrev pub place_named : {Open : Type 0} → List (Player Open) → List ℕ → Option ℕ
place_named [] name = None
place_named (player ∷ more) name = if same_bytes player.name name then Some 0 else option_map (λ at. at + 1) (place_named more name)
