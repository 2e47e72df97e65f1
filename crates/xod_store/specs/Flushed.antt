-- What a flush of the environment is answered, and what it leaves of a transaction's commit.
use Rattle.std.specs.Prelude.{◌≡◌, ℕ, false, IsTrue, Result, Ok, Err, None}
use Rattle.xod_base.specs.declared.answer.FlushAnswer.{FlushAnswer}
use Rattle.xod_base.specs.declared.answer.FlushAnswer.TheVariants as answer
use Rattle.xod_env.specs.declared.error.EnvError.{EnvError}
use Rattle.xod_env.specs.declared.error.EnvError.TheVariants as env_error
use Rattle.xod_env.specs.declared.error.FlushError.{FlushError}
use Rattle.xod_env.specs.declared.error.FlushError.TheVariants as flush_error
use Rattle.xod_env.specs.declared.flushed.Flushed.{Flushed}
use Rattle.xod_env.specs.declared.flushed.Flushed.TheVariants as flushed
use Rattle.xod_journal.specs.Spaces.{SpaceView, newest_of}
use Rattle.xod_journal.specs.Txns.{OpenTxn}

-- A conflict is an answer, and every other error of the environment a refusal. Of a commit nothing is said yet of where its
-- transaction goes on.
abbrev pub answered : Result Flushed FlushError → Result FlushAnswer EnvError
answered (Ok flushed.Nothing) = Ok answer.Nothing
answered (Ok (flushed.Commit version)) = Ok (answer.Committed version None)
answered (Err flush_error.Broken) = Err env_error.Broken
answered (Err flush_error.Device) = Err env_error.Device
answered (Err (flush_error.Damaged place)) = Err (env_error.Damaged place)
answered (Err (flush_error.NumbersSpent last)) = Err (env_error.NumbersSpent last)
answered (Err flush_error.Memory) = Err env_error.Memory
answered (Err (flush_error.Conflict base now)) = Ok (answer.Conflict base now)

-- Where a commit was made, its number is that of an environment that is not broken, and the newest rows are those of its
-- transaction.
abbrev pub MayGoOn : FlushAnswer → SpaceView → ℕ → OpenTxn → Type 0
MayGoOn answer.Nothing space commit txn = Unit {0}
MayGoOn (answer.Committed version fault) space commit txn =
    (space.is_broken ≡ false) × (commit ≡ version) × (IsTrue space.tells → (newest_of space).rows ≡ txn.rows)
MayGoOn (answer.Conflict base now) space commit txn = Unit {0}
