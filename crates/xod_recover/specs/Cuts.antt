-- The records that count in a log file: those that end at or before a place.
use Rattle.std.specs.Prelude.{ℕ, ◌-◌, ◌/◌, ◌%◌, ◌^◌, ◌==◌, nat_le, if◌then◌else◌, length, Option, Some, None}
use Rattle.xod_block.specs.Bodies.{records_of}
use Rattle.xod_block.specs.Maps.{RecordsAt}
use Rattle.xod_block.specs.Records.{RecordValue, spelling}
use Rattle.xod_volume.specs.Files.{Files}
use Rattle.xod_pages.specs.Lent.{lent_bodies}

-- a record that fits in so many bytes
abbrev pub fitting : ℕ → Option RecordValue → Option RecordValue
fitting room None = None
fitting room (Some item) = if nat_le (length (spelling item)) room then Some item else None

-- records, of which those in one log file end before a place of it or there
abbrev pub ended_by : RecordsAt → ℕ → ℕ → RecordsAt
ended_by records file end number = if number / 2 ^ 64 == file then fitting (end - number % 2 ^ 64) (records number) else records number

-- those of the files of a lease
abbrev pub lent_upto : Files → ℕ → ℕ → RecordsAt
lent_upto lent file end = ended_by (records_of (lent_bodies lent)) file end
