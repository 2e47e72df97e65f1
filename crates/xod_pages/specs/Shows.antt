-- What the first bytes of a place show of the record there.
use Rattle.std.specs.Prelude.{◌≡◌, ◌<◌, ℕ, Bool, IsTrue, List, length, take, Some, None}
use Rattle.xod_block.specs.Records.{RecordValue, BeginsWith}
use Rattle.xod_block.specs.Reading.{record_at}
use Rattle.xod_pages.specs.declared.shown.Shown.{Shown}
use Rattle.xod_pages.specs.declared.shown.Shown.TheVariants.{Whole, Nothing, Cut}
use Rattle.xod_pages.specs.declared.shown.TheConstants.{LONGEST_RECORD}

-- A front begins with a record, and so do all bytes of which it is the first so many, or all where they are fewer.
pub record ShowsRecord (wanted : ℕ) (front : List ℕ) (count : ℕ) : Type 0 where
  pub value : RecordValue
  pub begins : BeginsWith front value count
  pub stands : (bytes : List ℕ) → take wanted bytes ≡ front → record_at bytes ≡ Some (value, count)

-- what a front of so many bytes shows of the bytes that begin with it
abbrev pub Shows : ℕ → List ℕ → Shown → Type 0
Shows wanted front (Whole count) = ShowsRecord wanted front count
Shows wanted front Nothing = (bytes : List ℕ) → take wanted bytes ≡ front → record_at bytes ≡ None
Shows wanted front Cut = wanted < LONGEST_RECORD

-- A piece was read, and what came of the bytes shows this. Where they are told, it is as many of them as fill the piece.
pub record Looked (tells : Bool) (bytes piece : List ℕ) (shown : Shown) : Type 0 where
  pub front : List ℕ
  pub came : take (length front) piece ≡ front
  pub told : IsTrue tells → take (length piece) bytes ≡ front
  pub shows : Shows (length piece) front shown
