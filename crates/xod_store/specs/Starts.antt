-- What a store may start with.
use Rattle.std.specs.Prelude.{◌≡◌, ℕ, Bool, false, IsTrue, List, Some}
use Rattle.xod_audit.specs.Audits.{kinds_of}
use Rattle.xod_env.specs.Envs.{env_trees, newest_stored}
use Rattle.xod_log.specs.declared.log.Log.{Log}
use Rattle.xod_recover.specs.Stores.{stored_in}
use Rattle.xod_root.specs.Roots.{Roots}
use Rattle.xod_volume.specs.Files.{Files}

-- An environment that is not broken, and has nothing to seal. Where its volume tells, what the files store is its newest commit, and the names
-- that it found at opening are those of the types. One that was just opened is so.
pub record MayStart (tells is_broken : Bool) (log : Log) (files : Files) (roots : Roots) (commit : ℕ) (kinds : List (List ℕ)) : Type 0 where
  pub whole : is_broken ≡ false
  pub sealed : IsTrue log.is_sealed
  pub stored : IsTrue tells → stored_in files ≡ Some (newest_stored log.file files roots commit)
  pub kinds_are : IsTrue tells → kinds_of (env_trees log.file files roots) ≡ Some kinds
