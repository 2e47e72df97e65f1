-- The way down from a tree to where a walk has come: the records on it, each with the children that are left.
use Rattle.std.specs.Prelude.{◌≡◌, ◌+◌, ◌*◌, ◌^◌, ℕ, Bool, List, [], ◌∷◌, length, drop, Option}
use Rattle.std.specs.List.{sum_by}
use Rattle.xod_base.specs.declared.causes.Place.{Place}
use Rattle.xod_block.specs.declared.address.Address.{Address}
use Rattle.xod_block.specs.Addresses.{number_of}
use Rattle.xod_block.specs.Maps.{RecordsAt}
use Rattle.xod_block.specs.Records.{Link}
use Rattle.xod_recover.specs.declared.walk.Frame.{Frame}
use Rattle.xod_recover.specs.Frames.{bad_below}
use Rattle.xod_recover.specs.Walks.{or_else, first_bad, bad_under}

-- the children of a frame that are left
abbrev pub left_of : Frame → List Link
left_of frame = drop frame.next frame.children

-- a frame goes on behind the next child
pub record Advances (old new : Frame) (child : Address) : Type 0 where
  pub at_same : new.at ≡ old.at
  pub byte : ℕ
  pub left : left_of old ≡ (byte, child) ∷ left_of new

-- The first bad place below a record is the one that was found further down, or else one of the children that are left.
abbrev pub IsLeft : RecordsAt → (ℕ → Bool) → Option Place → Frame → Type 0
IsLeft records has_body found frame = bad_below records has_body frame.at ≡ or_else found (first_bad (bad_under records has_body frame.at) (left_of frame))

-- So it is all the way up, from the frame of the last record to the first one: there it is `total`.
abbrev pub LeadsUp : RecordsAt → (ℕ → Bool) → Option Place → Option Place → List Frame → Type 0
LeadsUp records has_body total found [] = total ≡ found
LeadsUp records has_body total found (frame ∷ frames) = IsLeft records has_body found frame × LeadsUp records has_body total (bad_below records has_body frame.at) frames

-- ---- why a walk ends: each record has 256 children at most, of which each is below it

abbrev pub weight : Frame → ℕ
weight frame = (1 + length (left_of frame)) * 2 ^ (9 * number_of frame.at)

abbrev pub weight_of : Frame → List Frame → ℕ
weight_of top way = weight top + sum_by weight way
