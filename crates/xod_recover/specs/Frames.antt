-- What a walk over tries knows: the volume files there are, and the addresses that are walked to their end.
use Rattle.std.specs.Prelude.{◌≡◌, ◌<◌, ◌^◌, ℕ, Bool, true, ◌==◌, nat_eq, IsTrue, IsSome, List, Option, None}
use Rattle.std.specs.List.{list_any}
use Rattle.std.specs.HashSet.{HashSet, contains}
use Rattle.xod_base.specs.declared.causes.Place.{Place}
use Rattle.xod_block.specs.declared.address.Address.{Address}
use Rattle.xod_block.specs.Addresses.{number_of}
use Rattle.xod_block.specs.Maps.{RecordsAt}
use Rattle.xod_block.specs.Records.{Link}
use Rattle.xod_trie.specs.Branches.{branch_of}
use Rattle.xod_log.specs.Ends.{body_of}
use Rattle.xod_recover.specs.Walks.{file_at, first_bad, bad_branch, bad_under}

-- a list of volume files has the body of a log file
abbrev pub lists_body : List ℕ → ℕ → Bool
lists_body numbers file = list_any (λ other. other == body_of file) numbers

-- records stand only in log files that have a body
abbrev pub StandInBodies : RecordsAt → (ℕ → Bool) → Type 0
StandInBodies records has_body = (at : Address) → at.at < 2 ^ 64 → IsSome (records (number_of at)) → has_body (file_at at) ≡ true

-- the first bad place below an address, whatever names it
abbrev pub bad_below : RecordsAt → (ℕ → Bool) → Address → Option Place
bad_below records has_body at = bad_branch (bad_under records has_body) at (branch_of (records (number_of at)))

-- Whatever is walked to its end has nothing bad below it. Addresses stand there by their numbers.
abbrev pub AreClean : {S : Type 0} → RecordsAt → (ℕ → Bool) → HashSet ℕ S → Type 0
AreClean records has_body walked = (at : Address) → at.at < 2 ^ 64 → IsTrue (contains nat_eq walked (number_of at)) → bad_below records has_body at ≡ None

-- What a record names stands below it, in a file that has a body, and is a branch with these children.
pub record Enters (records : RecordsAt) (has_body : ℕ → Bool) (naming at : Address) (children : List Link) : Type 0 where
  pub under : bad_under records has_body naming at ≡ bad_below records has_body at
  pub below : bad_below records has_body at ≡ first_bad (bad_under records has_body at) children

-- Bad places are found by a walk: the records are known and stand in bodies, and what is walked is clean.
pub record IsReady {S : Type 0} (tells : Bool) (records : RecordsAt) (has_body : ℕ → Bool) (walked : HashSet ℕ S) : Type 0 where
  pub told : IsTrue tells
  pub stand : StandInBodies records has_body
  pub clean : AreClean records has_body walked
