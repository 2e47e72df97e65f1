-- Leases: which files are lent, what a lease holds, and how many bytes a read gives.
use Rattle.std.specs.Prelude.{◌≡◌, ◌==◌, ◌≤◌, ℕ, ◌+◌, ◌-◌, ◌^◌, min, Bool, List, [], ◌∷◌, length, take, drop, nat_eq, if◌then◌else◌}
use Rattle.std.specs.List.{list_any}
use Rattle.std.specs.Cmp.Lexicographic.{pointwise}
use Rattle.std.specs.FinMap.{retain_keys}
use base.Fml.{GName}
use Rattle.xod_volume.specs.Files.{Files}

-- The list names the file.
abbrev pub names : List ℕ → ℕ → Bool
names list file = list_any (λ other. other == file) list

-- One of the leases out names the file; a lease is told by its list of files alone.
abbrev pub holds_file : List (List ℕ) → ℕ → Bool
holds_file leases file = list_any (λ list. names list file) leases

-- The leases without the first that has this list, where there is one.
abbrev pub without : List ℕ → List (List ℕ) → List (List ℕ)
without list [] = []
without list (other ∷ leases) = if pointwise nat_eq other list then leases else (other ∷ without list leases)

-- The files that the list names, as they are, and no other.
abbrev pub lent_of : List ℕ → Files → Files
lent_of list files = retain_keys files (names list)

-- A read fills as much as there are bytes from a place on, and leaves the rest of the buffer as it was.
pub record Filled (bytes : List ℕ) (at : ℕ) (before after : List ℕ) (n : ℕ) : Type 0 where
  pub size : n ≡ min (length before) (length bytes - at)
  pub front : take n after ≡ take n (drop at bytes)
  pub rest : drop n after ≡ drop n before

-- A count came to that of a lease, up to the last number that a u64 has, and no more came to it.
pub record Added (before own now : ℕ) : Type 0 where
  pub at_least : min (before + own) (2 ^ 64 - 1) ≤ now
  pub no_more : now ≤ before + own

-- What nearly every call leaves: whether the volume tells, the leases out, and the references that it holds are as
-- they were, and its count of faults has not fallen.
pub record Stays (tells_before tells_now : Bool) (leases_before leases_now : List (List ℕ)) (refs_before refs_now : List GName) (faults_before faults_now : ℕ) : Type 0 where
  pub tells : tells_now ≡ tells_before
  pub leases : leases_now ≡ leases_before
  pub refs : refs_now ≡ refs_before
  pub faults : faults_before ≤ faults_now

-- Nothing moved: neither time, nor the leases out, nor the count of faults.
pub record Unmoved (moment_before moment_now : ℕ) (leases_before leases_now : List (List ℕ)) (faults_before faults_now : ℕ) : Type 0 where
  pub moment : moment_now ≡ moment_before
  pub leases : leases_now ≡ leases_before
  pub faults : faults_now ≡ faults_before
