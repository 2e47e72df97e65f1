-- Tries of which nothing is missing.
use Rattle.std.specs.Prelude.{◌≡◌, ◌<◌, ℕ, Bool, true, Some, IsSome}
use Rattle.xod_block.specs.declared.address.Address.{Address}
use Rattle.xod_block.specs.Addresses.{number_of}
use Rattle.xod_block.specs.Maps.{RecordsAt, map_at}
use Rattle.xod_trie.specs.Damage.{IsReached}
use Rattle.xod_recover.specs.Walks.{file_at}

-- What a record names is whole: it stands below that record and has a map, and each log file that is reached has a body.
pub record IsWhole (records : RecordsAt) (has_body : ℕ → Bool) (naming at : Address) : Type 0 where
  pub lower : number_of at < number_of naming
  pub map : IsSome (map_at records (number_of at))
  pub bodies : (reached : Address) → IsReached records (Some at) reached → has_body (file_at reached) ≡ true
