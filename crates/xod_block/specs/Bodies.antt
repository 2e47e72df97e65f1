-- The records of bodies in memory, and what stays where bodies grow.
use Rattle.std.specs.Prelude.{◌≡◌, ℕ, ◌-◌, ◌/◌, ◌%◌, ◌^◌, ◌==◌, nat_lt, if◌then◌else◌, List, [], ◌∷◌, ◌++◌, length, drop, Some}
use Rattle.xod_block.specs.declared.body_fetch.Body.{Body}
use Rattle.xod_block.specs.Maps.{RecordsAt}
use Rattle.xod_block.specs.Reading.{record_at, record_in}
use Rattle.xod_block.specs.Records.{RecordValue, Fits, spelling}

-- the bytes of each log file's body, by its number; a file that is absent has none
abbrev pub Bodies : Type 0
Bodies = ℕ → List ℕ

-- the record that the bytes at each address begin with
abbrev pub records_of : Bodies → RecordsAt
records_of bodies number = record_in (drop (number % 2 ^ 64) (bodies (number / 2 ^ 64)))

-- the first body of a list that has a number
abbrev pub bodies_in : List Body → Bodies
bodies_in [] file = []
bodies_in (body ∷ bodies) file = if body.file == file then body.bytes.now else bodies_in bodies file

-- bodies with a block at the end of one of them
abbrev pub appended : Bodies → ℕ → List ℕ → Bodies
appended bodies file block other = if other == file then bodies other ++ block else bodies other

-- the records below an address, and from there on those of a block that begins there
abbrev pub with_block : ℕ → List ℕ → RecordsAt → RecordsAt
with_block start block records at = if nat_lt at start then records at else record_in (drop (at - start) block)

-- more bytes came at the end, if any
pub record HasGrown (old new : List ℕ) : Type 0 where
  pub more : List ℕ
  pub is : new ≡ old ++ more

-- in each file
abbrev pub HaveGrown : Bodies → Bodies → Type 0
HaveGrown old new = (file : ℕ) → HasGrown (old file) (new file)

-- the bytes of the record at a place of a body
pub record IsRecordAt (body : List ℕ) (at : ℕ) (bytes : List ℕ) : Type 0 where
  pub value : RecordValue
  pub fits : Fits value
  pub spelled : bytes ≡ spelling value
  pub stands : record_at (drop at body) ≡ Some (value, length bytes)
