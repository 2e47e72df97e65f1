-- What a record of calls says of each file: what reads give, what was synced last, and what a crash may leave.
use Rattle.std.specs.Prelude.{◌≡◌, ◌==◌, ◌≤◌, ◌⊎◌, ℕ, ◌+◌, List, [], ◌∷◌, ◌++◌, length, take, drop, replicate, reverse, Some, None, nat_lt, if◌then◌else◌}
use Rattle.std.specs.FinMap.{get, len}
use Rattle.xod_volume.specs.Files.{Files, Content, bytes_in, overwritten, with_file}
use Rattle.xod_volume.specs.Crash.{OnBytes, Torn, Shortened}
use Rattle.xod_volume.specs.declared.history.Call.{Call}
use Rattle.xod_volume.specs.declared.history.Deed.{Deed}
use Rattle.xod_volume.specs.declared.history.Deed.TheVariants.{Create, Append, WriteAt, Cut, Sync, Remove, Tear, Nothing}
use Rattle.xod_volume.specs.declared.fate.Fate.{Fate}
use Rattle.xod_volume.specs.declared.fate.Crash.{Crash}
use Rattle.xod_volume.specs.declared.fate.Crash.TheVariants.{Kept, Lost, Scrambled}

-- the bytes of a file changed, where there is one
abbrev pub changed : (List ℕ → List ℕ) → Content → Content
changed change None = None
changed change (Some bytes) = Some (change bytes)

-- What reads give of a file after one call more.
abbrev pub done : Deed → Content → Content
done Create old = Some []
done (Append bytes) old = changed (λ was. was ++ bytes) old
done (WriteAt at bytes) old = changed (λ was. overwritten was at bytes) old
done (Cut n) old = changed (take n) old
done Sync old = old
done Remove old = None
done (Tear at n) old = old
done Nothing old = old

-- What reads give of a file. Here and below the calls on it are the newest first.
abbrev pub reads : Content → List Deed → Content
reads start [] = start
reads start (deed ∷ deeds) = done deed (reads start deeds)

-- The file as it was synced last, after one call more: a sync makes it what reads give, and no other call changes it.
abbrev pub synced_by : Deed → Content → Content → Content
synced_by Sync now was = now
synced_by _ now was = was

-- The file as it was at its last sync, in whichever of its lives.
abbrev pub synced : Content → List Deed → Content
synced start [] = start
synced start (deed ∷ deeds) = synced_by deed (reads start deeds) (synced start deeds)

-- n bytes 0xFF over the bytes at a place, past their end too; nothing where the place is past the end
abbrev pub blotted : ℕ → ℕ → List ℕ → List ℕ
blotted at n old = if nat_lt (length old) at then old else (take at old ++ replicate n 255 ++ drop (at + n) old)

-- The scrambled file after one call more: where it wrote there is 0xFF, a cut takes nothing off, a sync makes it what
-- reads give.
abbrev pub scrambled_by : Deed → Content → Content → Content
scrambled_by Create now was = Some []
scrambled_by (Append bytes) now was = changed (blotted (length (bytes_in now)) (length bytes)) was
scrambled_by (WriteAt at bytes) now was = changed (blotted at (length bytes)) was
scrambled_by (Tear at n) now was = changed (blotted at n) was
scrambled_by Sync now was = now
scrambled_by Remove now was = None
scrambled_by _ now was = was

-- The file with 0xFF for each byte that was written since its last sync, at the greatest length that it had.
abbrev pub scrambled : Content → List Deed → Content
scrambled start [] = start
scrambled start (deed ∷ deeds) = scrambled_by deed (reads start deeds) (scrambled start deeds)

-- What a choice of crash gives of a file.
abbrev pub crashed : Crash → Content → List Deed → Content
crashed Kept start deeds = reads start deeds
crashed Lost start deeds = synced start deeds
crashed Scrambled start deeds = scrambled start deeds

-- What all three choices give of a file.
abbrev pub fate_of : Content → List Deed → Fate
fate_of start deeds = record { reads = reads start deeds; synced = synced start deeds; scrambled = scrambled start deeds }

-- What is there comes by a step from one of the things that might have been there.
abbrev pub By : (Content → Content → Type 0) → (Content → Type 0) → Content → Type 0
By step old new = (from : Content) × old from × step from new

-- What a crash may leave of one file: after a sync what reads give; after a write what might have been there before,
-- torn where it was written; after a cut that, cut or not; after a creation that, or empty; after a removal nothing,
-- or the file as it was synced last.
abbrev pub Leaves : Content → List Deed → Content → Type 0
Leaves start [] c = c ≡ start
Leaves start (Create ∷ deeds) c = Leaves start deeds c ⊎ (c ≡ Some [])
Leaves start (Append bytes ∷ deeds) c = By (OnBytes (Torn (length (bytes_in (reads start deeds))) (length bytes))) (Leaves start deeds) c
Leaves start (WriteAt at bytes ∷ deeds) c = By (OnBytes (Torn at (length bytes))) (Leaves start deeds) c
Leaves start (Cut n ∷ deeds) c = By (OnBytes (Shortened n)) (Leaves start deeds) c
Leaves start (Sync ∷ deeds) c = c ≡ reads start deeds
Leaves start (Remove ∷ deeds) c = (c ≡ None) ⊎ (c ≡ synced start deeds)
Leaves start (Tear at n ∷ deeds) c = By (OnBytes (Torn at n)) (Leaves start deeds) c
Leaves start (Nothing ∷ deeds) c = Leaves start deeds c

-- the calls on one file
abbrev pub on_file : ℕ → List Call → List Deed
on_file file [] = []
on_file file (call ∷ calls) = if call.file == file then (call.deed ∷ on_file file calls) else on_file file calls

-- What reads give of all files after these calls, the newest first.
abbrev pub files_after : Files → List Call → Files
files_after start [] = start
files_after start (call ∷ calls) = with_file (files_after start calls) call.file (done call.deed (get (files_after start calls) call.file))

-- A crash after these calls, the newest first, may leave these files: of each by itself what its own calls say.
abbrev pub IsImage : Files → List Call → Files → Type 0
IsImage start calls files = (file : ℕ) → Leaves (get start file) (on_file file calls) (get files file)

-- What reads give after a record of calls, the oldest first.
unfoldable pub files_now : Files → List Call → Files
files_now start calls = files_after start (reverse calls)

-- What a crash may leave at a moment of a record of calls, the oldest first; a moment is the number of calls before it.
unfoldable pub image_at : Files → List Call → ℕ → Files → Type 0
image_at start calls moment files = IsImage start (reverse (take moment calls)) files

-- What a crash gives, by a choice, at a moment of a record of calls.
abbrev pub crashed_at : Crash → Files → List Call → ℕ → ℕ → Content
crashed_at choice start calls moment file = crashed choice (get start file) (on_file file (reverse (take moment calls)))

-- The call has come to the record.
abbrev pub Adds : Call → List Call → List Call → Type 0
Adds call calls later = later ≡ calls ++ call ∷ []

-- The record is as it was, or the call has come to it: what a call that failed leaves.
abbrev pub MayAdd : Call → List Call → List Call → Type 0
MayAdd call calls later = (later ≡ calls) ⊎ Adds call calls later

-- The record has room for as many further calls as there are files, and for 1024 more.
abbrev pub HasRoom : Files → ℕ → ℕ → Type 0
HasRoom files used capacity = used + len files + 1024 ≤ capacity
