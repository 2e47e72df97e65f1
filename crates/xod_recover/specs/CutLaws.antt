-- What holds of each record holds of those that count.
use Rattle.std.proofs.Common.{ℕ, ◌-◌, ◌/◌, ◌%◌, ◌^◌, Bool, true, false, cond, leb, eqb, length, Option, Some, None}
use Rattle.std.specs.Prelude.{IfSome}
use Rattle.xod_block.specs.Bodies.{records_of}
use Rattle.xod_block.specs.Maps.{RecordsAt, HasRisingChildren, RisesEverywhere, HasEnoughChildren, BranchesEverywhere}
use Rattle.xod_block.specs.Records.{RecordValue, spelling}
use Rattle.xod_block.specs.Rising.{records_of-rises, records_of-branches}
use Rattle.xod_volume.specs.Files.{Files}
use Rattle.xod_pages.specs.Lent.{lent_bodies}
use Rattle.xod_recover.specs.Cuts.{fitting, ended_by, lent_upto}

chosen : (P : RecordValue → Type 0) (fits : Bool) (item : RecordValue) → P item → IfSome (cond fits (Some item) None) P
chosen P true item holds = holds
chosen P false item holds = tt

fitting-keeps : (P : RecordValue → Type 0) (room : ℕ) (item : Option RecordValue) → IfSome item P → IfSome (fitting room item) P
fitting-keeps P room None holds = tt
fitting-keeps P room (Some item) holds = chosen P (leb (length (spelling item)) room) item holds

either : (P : RecordValue → Type 0) (own : Bool) (a b : Option RecordValue) → IfSome a P → IfSome b P → IfSome (cond own a b) P
either P true a b first second = first
either P false a b first second = second

ended_by-keeps : (P : RecordValue → Type 0) (records : RecordsAt) (file end : ℕ) → ((at : ℕ) → IfSome (records at) P) → (at : ℕ) → IfSome (ended_by records file end at) P
ended_by-keeps P records file end holds at = either P (eqb (at / 2 ^ 64) file) (fitting (end - at % 2 ^ 64) (records at)) (records at) (fitting-keeps P (end - at % 2 ^ 64) (records at) (holds at)) (holds at)

pub lent_upto-rises : (lent : Files) (file end : ℕ) → RisesEverywhere (lent_upto lent file end)
lent_upto-rises lent file end = ended_by-keeps HasRisingChildren (records_of (lent_bodies lent)) file end (records_of-rises (lent_bodies lent))

pub lent_upto-branches : (lent : Files) (file end : ℕ) → BranchesEverywhere (lent_upto lent file end)
lent_upto-branches lent file end = ended_by-keeps HasEnoughChildren (records_of (lent_bodies lent)) file end (records_of-branches (lent_bodies lent))
