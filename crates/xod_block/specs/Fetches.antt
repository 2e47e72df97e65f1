-- What a fetch puts out, and what stays.
use base.Fml.{GName}
use Rattle.std.specs.Prelude.{◌≡◌, ◌≤◌, ℕ, ◌*◌, Bool, IsTrue, List, ◌++◌, length, Option, Some}
use Rattle.xod_base.specs.declared.causes.Place.{Place}
use Rattle.xod_block.specs.declared.address.Address.{Address}
use Rattle.xod_block.specs.Maps.{RecordsAt}
use Rattle.xod_block.specs.Records.{RecordValue, Fits, spelling}

-- One whole record was put at the end, and the number is its length. Where the fetch tells, that record stands there.
pub record Fetched (tells : Bool) (stands : Option RecordValue) (old new : List ℕ) (count : ℕ) : Type 0 where
  pub value : RecordValue
  pub fits : Fits value
  pub put : new ≡ old ++ spelling value
  pub count_is : count ≡ length (spelling value)
  pub told : IsTrue tells → stands ≡ Some value

-- an address as a place in a volume file: the body of log file f is volume file 2 * f
abbrev pub place_of : Address → Place
place_of address = record { file = 2 * address.file; at = address.at }

-- Nothing of a fetch changed but the count of its faults, which has not fallen. The members are those of its trait.
pub record Stays {F : Type 0} (tells : F → Bool) (records : F → RecordsAt) (refs : F → List GName) (faults : F → ℕ) (before now : F) : Type 0 where
  pub tells_same : tells now ≡ tells before
  pub records_same : records now ≡ records before
  pub refs_same : refs now ≡ refs before
  pub count : faults before ≤ faults now
