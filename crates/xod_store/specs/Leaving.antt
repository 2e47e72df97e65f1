-- What a crash may leave of a step of a store.
use Rattle.std.specs.Prelude.{◌≤◌, ℕ, IsTrue, List}
use Rattle.xod_env.specs.declared.env.Env.{Env}
use Rattle.xod_journal.specs.declared.journal.JournalEntry.{JournalEntry}
use Rattle.xod_recover.specs.Images.{Settled}
use Rattle.xod_volume.specs.declared.volume.Lease as leases
use Rattle.xod_volume.specs.declared.volume.Volume as volumes
use Rattle.xod_volume.specs.Crash.{LeftSince}
use Rattle.xod_volume.specs.Files.{Files}
use Rattle.xod_store.specs.Images.{commit_left, synced_in}
use Rattle.xod_store.specs.Views.{env_newest}

-- each image since a moment stores at least this commit
abbrev pub LeavesAtLeast : ℕ → ℕ → ℕ → (ℕ → Files → Type 0) → Type 0
LeavesAtLeast commit since now images = (left : Files) → LeftSince since now images left → commit ≤ commit_left left

-- Where the volume tells and was settled when the store was made, each image since a step's start has all that were synced
-- before it. That these images are good, and what each one has, stands in the store's type.
abbrev pub StepLeaves : {V Held : Type 0} {of_volume : volumes.Ghosts V Held} {of_lease : leases.Ghosts Held} → Env V Held of_volume of_lease → List JournalEntry → Env V Held of_volume of_lease → Env V Held of_volume of_lease → Type 0
StepLeaves {of_volume = v} origin journal before now =
    IsTrue (v.tells before.volume) → Settled (v.files origin.volume) (v.may_leave origin.volume (v.moment origin.volume))
    → LeavesAtLeast (synced_in (env_newest origin.log (v.files origin.volume) origin.roots origin.commit) journal) (v.moment before.volume) (v.moment now.volume) (v.may_leave now.volume)
