-- What every image held from the start of a run up to the opening of its store.
use Rattle.std.specs.Prelude.{◌≤◌, ℕ, Bool, IsTrue}
use Rattle.std.specs.FinMap.{code}
use Rattle.std.specs.Coded.{Coded-set, coded_list, coded_ℕ}
use Rattle.xod_base.specs.Views.{Tree}
use Rattle.xod_journal.specs.Standing.{Newest}
use Rattle.xod_log.specs.declared.log.Log.{Log}
use Rattle.xod_recover.specs.Images.{Settled}
use Rattle.xod_root.specs.Roots.{Roots}
use Rattle.xod_store.specs.Images.{Holds}
use Rattle.xod_store.specs.Views.{env_newest}
use Rattle.xod_volume.specs.Files.{Files}

-- Each image from a moment to now holds these rows at this commit, and the volume is settled.
pub record HoldsSince (since now : ℕ) (newest : Newest) (files : Files) (images : ℕ → Files → Type 0) : Type 0 where
  pub later : since ≤ now
  pub settled : Settled files (images now)
  pub held : (moment : ℕ) (left : Files) → since ≤ moment → moment ≤ now → images moment left → Holds left newest

-- Over a volume that tells, where a run began calm, each image since then holds what an environment over it has.
abbrev pub HasBegun : {V : Type 0} → (V → Bool) → (V → Files) → (V → ℕ) → (V → ℕ → Files → Type 0) → V → Log → Roots → ℕ → Type 0 → ℕ → Type 0
HasBegun tells files moment may_leave volume log roots commit calm since =
    IsTrue (tells volume) → calm → HoldsSince since (moment volume) (env_newest log (files volume) roots commit) (files volume) (may_leave volume)

-- two trees are equal in one way at most
pub same_tree : IsSet Tree
same_tree = Coded-set (code (coded_list coded_ℕ) (coded_list coded_ℕ))
