-- What becomes of a store in a run, and of the run over it.
use Rattle.std.specs.Prelude.{◌≡◌, ◌⊎◌, ℕ, ◌+◌, Bool, true, false, IsTrue, List, [], ◌++◌, map, codes, Option, Some, None, is_some, Result, Ok, Err}
use Rattle.std.specs.FinMap.{contains_key}
use Rattle.std.specs.Fmt.{decimal}
use Rattle.std.specs.Option.{unwrap_or}
use Rattle.xod_base.specs.Causes.{Rose}
use Rattle.xod_base.specs.Rows.{no_rows}
use Rattle.xod_base.specs.declared.causes.Cause.{Cause}
use Rattle.xod_base.specs.declared.causes.Memory.{Memory}
use Rattle.xod_base.specs.declared.causes.Place.{Place}
use Rattle.xod_lang.specs.declared.script.Item.{Item}
use Rattle.xod_lang.specs.declared.script.Script.{Script}
use Rattle.xod_journal.specs.declared.journal.JournalEntry.{JournalEntry}
use Rattle.xod_journal.specs.Spaces.{IsCounted, device_stops}
use Rattle.xod_journal.specs.Standing.{Newest, newest_after}
use Rattle.xod_session.specs.World.{World, world_after, world_at}
use Rattle.xod_session.specs.Transcripts.{item_of, names_of, transcript_of}
use Rattle.xod_play.specs.Follows.{Follows, StopsAt}
use Rattle.xod_play.specs.Orders.{is_finished, items_of, order_played}
use Rattle.xod_play.specs.declared.gathered.Gathered.{Gathered}
use Rattle.xod_play.specs.Told.{gathered_text}
use Rattle.xod_play.specs.Stops.{has_met, is_damage, is_disturbed, is_fault, is_memory, is_spent}
use Rattle.xod_log.specs.Ends.{body_of}
use Rattle.xod_log.specs.Standing.{last_file}
use Rattle.xod_recover.specs.Check.{check}
use Rattle.xod_recover.specs.Images.{Settled}
use Rattle.xod_recover.specs.Stores.{commit_in, rows_in, stored_in}
use Rattle.xod_volume.specs.Crash.{LeftSince}
use Rattle.xod_volume.specs.Files.{Files}
use Rattle.xod_env.specs.declared.error.EnvError.{EnvError}
use Rattle.xod_recover.specs.declared.error.OpenError.{OpenError}
use Rattle.xod_recover.specs.declared.error.OpenError.TheVariants as refusal
use Rattle.xod_env.specs.Envs.{log_file_count}
use Rattle.xod_env.specs.Flushes.{last_commit}
use Rattle.xod_store.specs.Causes.{cause_of}
use Rattle.xod_store.specs.Images.{Holds, LeavesPrefixes, commit_left}
use Rattle.xod_shell.specs.declared.ending.Ending.{Ending}
use Rattle.xod_shell.specs.declared.ending.Ending.TheVariants.{DeviceFailed, Damaged, Untaken, NoMemory, Printed}
use Rattle.xod_shell.specs.Statuses.{is_refused_for, status_after}

-- ---- the volume

-- What a volume was before a run and is after it: whether it tells what it holds, its files, its counts of faults, its
-- moments, and what a crash might have left before the run, and may leave now.
pub record Disk : Type 1 where
  pub tells : Bool
  pub files : Files
  pub files_now : Files
  pub faults : ℕ
  pub faults_now : ℕ
  pub since : ℕ
  pub now : ℕ
  pub past : Files → Type 0
  pub images : ℕ → Files → Type 0

abbrev pub disk_of : {V : Type 0} → (V → Bool) → (V → Files) → (V → ℕ) → (V → ℕ) → (V → ℕ → Files → Type 0) → V → V → Disk
disk_of tells files faults moment may_leave old new = record {
  tells = tells old;
  files = files old;
  files_now = files new;
  faults = faults old;
  faults_now = faults new;
  since = moment old;
  now = moment new;
  past = may_leave old (moment old);
  images = may_leave new;
}

-- the volume was settled before the run
abbrev pub WasSettled : Disk → Type 0
WasSettled disk = Settled disk.files disk.past

-- the rows that files store and the number of their commit; where they are damaged, those of an empty store
abbrev pub start_in : Files → Newest
start_in files = record { rows = unwrap_or (rows_in files) no_rows; commit = unwrap_or (commit_in files) 0 }

-- ---- an order that was played

abbrev pub names_in : Newest → Script → List (List ℕ)
names_in start script = names_of (world_at start script.sessions)

-- A journal is legal and finished for the sessions of a script, and a text is its transcript. Where this run met no stop,
-- the journal is the order of the script, whole.
pub record IsTranscript (start : Newest) (script : Script) (journal : List JournalEntry) (files : ℕ) (text : List ℕ) : Type 0 where
  pub world : World
  pub legal : world_after (Some (world_at start script.sessions)) journal ≡ Some world
  pub finished : is_finished world ≡ true
  pub exact : text ≡ transcript_of world journal files
  pub whole : is_disturbed journal ≡ false → map (item_of (names_in start script)) journal ≡ items_of script.order

-- A journal is legal and follows the order up to an item, which is not passed over and can't be taken; or up to its end,
-- where a session is not over. Where this run met no stop before, the item is the order's first such one, by the order alone.
pub record IsUntaken (start : Newest) (script : Script) (journal : List JournalEntry) (item : ℕ) : Type 0 where
  pub world : World
  pub legal : world_after (Some (world_at start script.sessions)) journal ≡ Some world
  pub stops : StopsAt world journal (items_of script.order) item
  pub first : is_disturbed journal ≡ false → order_played (world_at start script.sessions) (items_of script.order) ≡ Err item

-- A journal is legal and follows a front of the order.
pub record IsCutShort (start : Newest) (script : Script) (journal : List JournalEntry) : Type 0 where
  pub world : World
  pub legal : world_after (Some (world_at start script.sessions)) journal ≡ Some world
  pub before : List Item
  pub behind : List Item
  pub items_are : items_of script.order ≡ before ++ behind
  pub follows : Follows (names_in start script) before journal []

-- A transcript was printed: the journal follows the order, with the stops that this run met put in, and behind one the items
-- of its session passed over, and no others. The status is that of these stops and of the closing.
pub record IsPrinted (tells : Bool) (start : Newest) (script : Script) (journal : List JournalEntry) (closing : Option Cause) (files status : ℕ) (text : List ℕ) : Type 0 where
  pub status_is : status ≡ status_after journal closing
  pub follows : Follows (names_in start script) (items_of script.order) journal []
  pub told : IsTrue tells → IsTranscript start script journal files text

abbrev pub untaken_text : ℕ → List ℕ
untaken_text item = codes "xod: order item " ++ (decimal item ++ codes "\n")

-- An item could not be taken. A run that wants memory tells that instead.
pub record IsStopped (tells : Bool) (start : Newest) (script : Script) (journal : List JournalEntry) (item : ℕ) (text : List ℕ) : Type 0 where
  pub text_is : text ≡ untaken_text item
  pub no_memory : has_met is_memory journal ≡ false
  pub told : IsTrue tells → IsUntaken start script journal item

-- how a run over an opened store ends
abbrev pub IsEnd : Bool → Newest → Script → List JournalEntry → Option Cause → ℕ → Ending → Type 0
IsEnd tells start script journal closing files (Printed status text) = IsPrinted tells start script journal closing files status text
IsEnd tells start script journal closing files (Untaken item text) = IsStopped tells start script journal item text
IsEnd tells start script journal closing files NoMemory = IsTrue tells → IsCutShort start script journal
IsEnd tells start script journal closing files other = ⊥

-- ---- how endings come

-- for which cause a store was not closed
abbrev pub closing_of : Result (Unit {0}) EnvError → Option Cause
closing_of (Ok done) = None
closing_of (Err error) = Some (cause_of error)

-- a transcript of what was gathered, or no memory for it
abbrev pub IsPrintedAs : Result Gathered Memory → ℕ → ℕ → List JournalEntry → ℕ → Ending → Type 0
IsPrintedAs gathered commit files journal wanted (Printed status text) = (status ≡ wanted) × ((said : Gathered) × (gathered ≡ Ok said) × (text ≡ gathered_text said commit files journal))
IsPrintedAs gathered commit files journal wanted NoMemory = Unit {0}
IsPrintedAs gathered commit files journal wanted other = ⊥

-- an item that could not be taken, where the run does not want memory
abbrev pub IsUntakenAs : ℕ → List JournalEntry → Ending → Type 0
IsUntakenAs number journal (Untaken item text) = (item ≡ number) × (text ≡ untaken_text item) × (has_met is_memory journal ≡ false)
IsUntakenAs number journal NoMemory = Unit {0}
IsUntakenAs number journal other = ⊥

-- the ending of an order that was played to its end, or up to an item
abbrev pub EndsAs : Option ℕ → Result Gathered Memory → ℕ → ℕ → List JournalEntry → Option Cause → Ending → Type 0
EndsAs None gathered commit files journal closing ending = IsPrintedAs gathered commit files journal (status_after journal closing) ending
EndsAs (Some item) gathered commit files journal closing ending = IsUntakenAs item journal ending

-- ---- why sessions stopped

-- The last number of a commit or of a log file stands.
abbrev pub LastStands : Newest → Files → Type 0
LastStands newest files = (newest.commit ≡ last_commit) ⊎ (contains_key files (body_of last_file) ≡ true)

-- The stops that this run met for a device's fault are no more than its count rose by, and it rose where a session or the
-- closing met a fault. No bytes are damaged that are told. Where a number was spent, a last one stands.
pub record HaveCauses (disk : Disk) (journal : List JournalEntry) (closing : Option Cause) : Type 0 where
  pub counted : IsCounted (disk.faults + device_stops journal) disk.faults_now
  pub faults : has_met is_fault journal ≡ true → Rose disk.faults disk.faults_now
  pub damaged : has_met is_damage journal ≡ true → disk.tells ≡ false
  pub spent : has_met is_spent journal ≡ true → IsTrue disk.tells → LastStands (newest_after (start_in disk.files) journal) disk.files_now
  pub closed : is_refused_for is_fault closing ≡ true → Rose disk.faults disk.faults_now
  pub closes : (is_refused_for is_damage closing ≡ false) × (is_refused_for is_spent closing ≡ false)

-- ---- what a run and a crash leave

-- Each image since the run's start is a good store after some of the journal's commits, none included, and each one now has
-- all that were synced. Where the store was closed, each one now has all commits, and the volume is settled.
pub record IsSafeRun (disk : Disk) (journal : List JournalEntry) (closing : Option Cause) : Type 0 where
  pub leaves : LeavesPrefixes (start_in disk.files) journal disk.since disk.now disk.images
  pub all : closing ≡ None → (left : Files) → disk.images disk.now left → commit_left left ≡ (newest_after (start_in disk.files) journal).commit
  pub settled : closing ≡ None → Settled disk.files_now (disk.images disk.now)

-- A run over a store that was opened: its journal, and for which cause the store was not closed. It started with what the
-- files stored; where the store was closed, they store what stands after the journal. Where the volume was settled, what a
-- crash leaves is safe.
pub record Ran (disk : Disk) (script : Script) (ending : Ending) : Type 0 where
  pub journal : List JournalEntry
  pub closing : Option Cause
  pub end : IsEnd disk.tells (start_in disk.files) script journal closing (log_file_count disk.files_now) ending
  pub causes : HaveCauses disk journal closing
  pub good : IsTrue disk.tells → is_some (stored_in disk.files) ≡ true
  pub holds : IsTrue disk.tells → closing ≡ None → Holds disk.files_now (newest_after (start_in disk.files) journal)
  pub safe : IsTrue disk.tells → WasSettled disk → IsSafeRun disk journal closing

-- ---- a store that was not opened

abbrev pub damaged_text : Place → List ℕ
damaged_text place = codes "xod: damaged file " ++ (decimal place.file ++ (codes " at " ++ (decimal place.at ++ codes "\n")))

-- the ending of a refused opening, or no memory for its text
abbrev pub IsRefusedAs : OpenError → Ending → Type 0
IsRefusedAs refusal.Device ending = ending ≡ DeviceFailed
IsRefusedAs (refusal.Damaged place) ending = (ending ≡ Damaged place (damaged_text place)) ⊎ (ending ≡ NoMemory)
IsRefusedAs refusal.Memory ending = ending ≡ NoMemory

-- Why a store was not opened: the device failed; its files are damaged, where the first bad place is told; or memory.
abbrev pub IsRefusal : Disk → Ending → Type 0
IsRefusal disk DeviceFailed = Rose disk.faults disk.faults_now
IsRefusal disk (Damaged place text) = (text ≡ damaged_text place) × (IsTrue disk.tells → check disk.files ≡ Err place)
IsRefusal disk NoMemory = Unit {0}
IsRefusal disk other = ⊥

-- A store that was not opened: the files store what they did, and so does each image since the run's start where the volume
-- was settled.
pub record NotOpened (disk : Disk) (ending : Ending) : Type 0 where
  pub why : IsRefusal disk ending
  pub stored : IsTrue disk.tells → stored_in disk.files_now ≡ stored_in disk.files
  pub safe : IsTrue disk.tells → WasSettled disk → (left : Files) → LeftSince disk.since disk.now disk.images left → stored_in left ≡ stored_in disk.files

-- what becomes of a script that was read, and of the store
abbrev pub IsPlayed : Disk → Script → Ending → Type 0
IsPlayed disk script ending = NotOpened disk ending ⊎ Ran disk script ending
