-- What a flush answers, and what a refusal leaves.
use Rattle.std.specs.Prelude.{◌≡◌, ◌≢◌, ◌≤◌, ◌⊎◌, ℕ, suc, Bool, true, false, if◌then◌else◌, IsTrue, List, Some, Result, Ok, Err, IsErr, IsErrOf, OnOk}
use Rattle.std.specs.FinMap.{contains_key, empty}
use Rattle.xod_base.specs.Views.{Trees}
use Rattle.xod_log.specs.declared.error.LogError.{LogError}
use Rattle.xod_log.specs.declared.error.LogError.TheVariants.{Device}
use Rattle.xod_log.specs.declared.log.Log.{Log}
use Rattle.xod_log.specs.Standing.{body_file, is_due, is_last, last_file}
use Rattle.xod_overlay.specs.Marks.{TouchMap}
use Rattle.xod_recover.specs.Images.{Stores}
use Rattle.xod_root.specs.Roots.{Roots}
use Rattle.xod_volume.specs.Crash.{Passes}
use Rattle.xod_volume.specs.Files.{Files}
use Rattle.xod_env.specs.declared.error.FlushError.{FlushError}
use Rattle.xod_env.specs.declared.flushed.Flushed.{Flushed}
use Rattle.xod_env.specs.declared.flushed.Flushed.TheVariants.{Nothing, Commit}
use Rattle.xod_env.specs.Blocks.{IsNextBlock, trees_with}
use Rattle.xod_env.specs.Envs.{ArePlaced, IsAt, IsSteady, env_trees, log_file_count, newest_stored}

-- no key of any tree is touched
abbrev pub IsUntouched : (ℕ → TouchMap) → Type 0
IsUntouched touches = (tree : ℕ) → touches tree ≡ empty

-- the last number that a commit has
abbrev pub last_commit : ℕ
last_commit = 18446744073709551615

-- Another commit came: the environment is not broken, a key is touched, and the commit that was seen is not the newest one.
-- Both are told.
pub record IsConflict (was_broken : Bool) (touches : ℕ → TouchMap) (base commit seen now : ℕ) : Type 0 where
  pub whole : was_broken ≡ false
  pub touched : ¬ (IsUntouched touches)
  pub other : base ≢ commit
  pub seen_is : seen ≡ base
  pub now_is : now ≡ commit

-- the last log file is as long as its target, so that a next one would be needed
pub record IsFileSpent (log : Log) (last : ℕ) : Type 0 where
  pub due : is_due log ≡ true
  pub at_last : is_last log ≡ true
  pub last_is : last ≡ last_file

-- which number was the last one: that of a commit, or that of a log file
abbrev pub IsSpent : ℕ → Log → ℕ → Type 0
IsSpent commit log last = ((commit ≡ last_commit) × (last ≡ last_commit)) ⊎ IsFileSpent log last

-- The log goes on in the file that it was in or, where a commit found it as long as its target, in the next one; its
-- target is the same. A refusal leaves it in its file.
pub record GoesOn (before after : Log) (has_committed : Bool) : Type 0 where
  pub target : after.target ≡ before.target
  pub rises : before.file ≤ after.file
  pub within : after.file ≤ suc before.file
  pub committed : IsTrue has_committed → after.file ≡ (if is_due before then suc before.file else before.file)
  pub refused : has_committed ≡ false → after.file ≡ before.file

-- whether a flush made a commit
abbrev pub is_commit : Result Flushed FlushError → Bool
is_commit (Ok Nothing) = false
is_commit (Ok (Commit version)) = true
is_commit (Err error) = false

-- The newest commit, its roots and its trees are as they were.
pub record KeepsCommit (told : Bool) (commit_before commit_now : ℕ) (roots_before roots_now : Roots) (trees_before trees_now : Trees) : Type 0 where
  pub commit : commit_now ≡ commit_before
  pub roots : roots_now ≡ roots_before
  pub trees : IsTrue told → (tree : ℕ) → trees_now tree ≡ trees_before tree

-- What the block of a commit leaves that was written, and what a refusal leaves: of where the environment is, of its trees,
-- of the number of log files, of the body that the log was on, and of what a crash may leave. The members are those of a
-- volume's trait.
pub record WritesBlock {V A : Type 0} (files : V → Files) (moment : V → ℕ) (may_leave : V → ℕ → Files → Type 0) (log after : Log) (count_before count_now : ℕ) (block : List ℕ) (back : ℕ) (before now : V) (result : Result A LogError) : Type 0 where
  pub at : (roots : Roots) (commit : ℕ) (new_roots : Roots) (new_commit : ℕ)
      → IsAt log roots commit (files before) (may_leave before (moment before))
      → IsNextBlock log (files before) block back new_roots new_commit
      → OnOk result (IsAt after new_roots new_commit (files now) (may_leave now (moment now)))
  pub at_kept : (roots : Roots) (commit : ℕ)
      → IsAt log roots commit (files before) (may_leave before (moment before))
      → IsErr result → ¬ (IsErrOf result Device)
      → IsAt after roots commit (files now) (may_leave now (moment now))
  pub count : count_before ≡ log_file_count (files before) → count_now ≡ log_file_count (files now)
  pub body_stays : contains_key (files before) (body_file log) ≡ true → contains_key (files now) (body_file log) ≡ true
  pub new_trees : (roots : Roots) (commit : ℕ) (new_roots : Roots) (new_commit : ℕ)
      → IsAt log roots commit (files before) (may_leave before (moment before))
      → IsNextBlock log (files before) block back new_roots new_commit
      → OnOk result (env_trees after.file (files now) new_roots ≡ trees_with log (files before) block new_roots)
  pub old_trees : (roots : Roots) (commit : ℕ)
      → IsAt log roots commit (files before) (may_leave before (moment before))
      → env_trees log.file (files now) roots ≡ env_trees log.file (files before) roots
  pub kept : may_leave before (moment before) (files before) → may_leave now (moment now) (files now)
  pub crash : (roots : Roots) (commit : ℕ)
      → IsAt log roots commit (files before) (may_leave before (moment before)) → ArePlaced log roots
      → IsSteady log (files before) (may_leave before (moment before))
      → Passes (moment before) (moment now) (may_leave before) (may_leave now) (Stores (Some (newest_stored log.file (files before) roots commit)))
  pub steady : (roots : Roots) (commit : ℕ)
      → IsAt log roots commit (files before) (may_leave before (moment before))
      → IsSteady log (files before) (may_leave before (moment before)) → ¬ (IsErrOf result Device)
      → IsSteady after (files now) (may_leave now (moment now))
