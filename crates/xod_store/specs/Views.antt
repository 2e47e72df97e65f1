-- A store as a session sees it.
use Rattle.std.specs.Prelude.{ℕ, Bool, ◌==◌, ◌||◌, List}
use Rattle.xod_env.specs.Envs.{env_trees}
use Rattle.xod_env.specs.Flushes.{last_commit}
use Rattle.xod_estxn.specs.Txns.{base_rows}
use Rattle.xod_journal.specs.declared.journal.JournalEntry.{JournalEntry}
use Rattle.xod_journal.specs.Spaces.{SpaceView}
use Rattle.xod_journal.specs.Standing.{Newest}
use Rattle.xod_log.specs.declared.log.Log.{Log}
use Rattle.xod_log.specs.Standing.{is_last}
use Rattle.xod_root.specs.Roots.{Roots}
use Rattle.xod_volume.specs.Files.{Files}

-- the newest rows of an environment and the number of their commit
abbrev pub env_newest : Log → Files → Roots → ℕ → Newest
env_newest log files roots commit = record { rows = base_rows (env_trees log.file files roots); commit = commit }

-- whether the last number of a log file or of a commit stands
abbrev pub is_spent : Log → ℕ → Bool
is_spent log commit = is_last log || (commit == last_commit)

-- What a store has: what it started with, its journal, the count of its volume up to now and when it was made, the number
-- of sessions that it was made for, and its environment.
abbrev pub store_view : Bool → Newest → List JournalEntry → ℕ → ℕ → ℕ → Bool → Log → ℕ → SpaceView
store_view tells start journal faults made sessions is_broken log commit = record {
  tells = tells;
  start = start;
  journal = journal;
  faults = faults;
  made = made;
  sessions = sessions;
  is_broken = is_broken;
  is_last = is_spent log commit;
}
