-- How a run of `xod replay` ends: with which status and text, and for which cause.
use Rattle.std.specs.Prelude.{◌≡◌, ℕ, ◌+◌, ◌≤◌, Bool, true, false, IsTrue, List, ◌++◌, ◌⊎◌, length, codes, Option, Some, None, Result, Ok, Err, is_some}
use Rattle.std.specs.FinMap.{contains_key}
use Rattle.std.specs.Fmt.{decimal}
use Rattle.std.specs.Io.KnownBytes.{Appends}
use Rattle.xod_base.specs.Causes.{Rose}
use Rattle.xod_base.specs.declared.limits.TheConstants.{INPUT_LIMIT}
use Rattle.xod_io.specs.Outside.{IsAllOf, IsMoreThan, GainsFront, LosesAtMost}
use Rattle.xod_lang.specs.declared.script.Script.{Script}
use Rattle.xod_lang.specs.Scripts.{script_of}
use Rattle.xod_journal.specs.declared.journal.JournalEntry.{JournalEntry}
use Rattle.xod_journal.specs.Standing.{Newest, newest_after}
use Rattle.xod_session.specs.World.{Played, World, world_after, world_at}
use Rattle.xod_play.specs.Orders.{items_of, order_played}
use Rattle.xod_log.specs.Ends.{body_of}
use Rattle.xod_log.specs.Standing.{last_file}
use Rattle.xod_env.specs.Flushes.{last_commit}
use Rattle.xod_recover.specs.Stores.{stored_in}
use Rattle.xod_shell.specs.declared.ending.Ending.{Ending}
use Rattle.xod_shell.specs.declared.ending.Ending.TheVariants.{Usage, SourceFailed, TooLong, BadLine, DeviceFailed, Damaged, Untaken, NoMemory, Printed}
use Rattle.xod_shell.specs.Runs.{Disk, IsPlayed, start_in}
pub use Rattle.xod_shell.specs.Runs.{damaged_text, untaken_text}

-- ---- status and text

abbrev pub status_of : Ending → ℕ
status_of Usage = 2
status_of SourceFailed = 6
status_of TooLong = 3
status_of (BadLine line text) = 3
status_of DeviceFailed = 4
status_of (Damaged place text) = 8
status_of (Untaken item text) = 9
status_of NoMemory = 5
status_of (Printed status text) = status

abbrev pub bad_line_text : ℕ → List ℕ
bad_line_text line = codes "xod: script line " ++ (decimal line ++ codes "\n")

abbrev pub text_of : Ending → List ℕ
text_of Usage = codes "xod: usage\n"
text_of SourceFailed = codes "xod: source failed\n"
text_of TooLong = codes "xod: script too long\n"
text_of (BadLine line text) = text
text_of DeviceFailed = codes "xod: device failed\n"
text_of (Damaged place text) = text
text_of (Untaken item text) = text
text_of NoMemory = codes "xod: memory\n"
text_of (Printed status text) = text

-- ---- what the outside had and has

-- What a source had left before a run and has after it, and its counts of faults.
pub record Taken : Type 0 where
  pub left : Option (List ℕ)
  pub left_now : Option (List ℕ)
  pub faults : ℕ
  pub faults_now : ℕ

abbrev pub taken_from : {S : Type 0} → (S → Option (List ℕ)) → (S → ℕ) → S → S → Taken
taken_from left faults old new = record { left = left old; left_now = left new; faults = faults old; faults_now = faults new }

-- What was written to a sink before a run and after it, and its counts of faults.
pub record Given : Type 0 where
  pub written : Option (List ℕ)
  pub written_now : Option (List ℕ)
  pub faults : ℕ
  pub faults_now : ℕ

abbrev pub given_to : {K : Type 0} → (K → Option (List ℕ)) → (K → ℕ) → K → K → Given
given_to written faults old new = record { written = written old; written_now = written new; faults = faults old; faults_now = faults new }

-- ---- causes

-- how bytes are answered that are not too long: by the first bad line, or as the script that they are is played
abbrev pub IsAnswered : Disk → Result Script ℕ → Ending → Type 0
IsAnswered disk (Err bad) (BadLine line text) = (line ≡ bad) × (text ≡ bad_line_text line)
IsAnswered disk (Err bad) other = ⊥
IsAnswered disk (Ok script) ending = IsPlayed disk script ending

-- how bytes are answered, or memory was refused before they were read; `same` says that the volume is as it was
abbrev pub Answers : Disk → Type 0 → Result Script ℕ → Ending → Type 0
Answers disk same expected ending = (same × (ending ≡ NoMemory)) ⊎ IsAnswered disk expected ending

-- the bytes that were read, which are all that the source told, decide the ending
pub record IsReadAs (disk : Disk) (left : Option (List ℕ)) (ending : Ending) : Type 0 where
  pub bytes : List ℕ
  pub all : IsAllOf bytes left
  pub short : length bytes ≤ INPUT_LIMIT
  pub answered : IsAnswered disk (script_of bytes) ending

-- The cause of an ending where the words are the command; `same` says that the volume is as it was. Memory may be refused
-- before a script is read.
abbrev pub IsCause : Disk → Type 0 → Taken → Ending → Type 0
IsCause disk same source Usage = ⊥
IsCause disk same source SourceFailed = Rose source.faults source.faults_now
IsCause disk same source TooLong = IsMoreThan INPUT_LIMIT source.left
IsCause disk same source NoMemory = same ⊎ IsReadAs disk source.left NoMemory
IsCause disk same source (BadLine line text) = IsReadAs disk source.left (BadLine line text)
IsCause disk same source DeviceFailed = IsReadAs disk source.left DeviceFailed
IsCause disk same source (Damaged place text) = IsReadAs disk source.left (Damaged place text)
IsCause disk same source (Untaken item text) = IsReadAs disk source.left (Untaken item text)
IsCause disk same source (Printed status text) = IsReadAs disk source.left (Printed status text)

-- Why a run ends as it does, by its words and by what became of the source and of the volume.
-- Wrong words are told before anything is read; a source that fails is told before what it gave; an input that is too
-- long before a bad line; a bad line before the store is opened; a refused opening before the order.
abbrev pub IsDue : Disk → Type 0 → Option ℕ → Taken → Ending → Type 0
IsDue disk same None source ending = ending ≡ Usage
IsDue disk same (Some target) source ending = IsCause disk same source ending

-- the endings of runs that touch no volume
abbrev pub is_before_opening : Ending → Bool
is_before_opening Usage = true
is_before_opening SourceFailed = true
is_before_opening TooLong = true
is_before_opening (BadLine line text) = true
is_before_opening other = false

-- a source that failed is told, and one that is not told did not fail
abbrev pub IsBlamed : Taken → Ending → Type 0
IsBlamed source SourceFailed = Rose source.faults source.faults_now
IsBlamed source other = source.faults_now ≡ source.faults

-- ---- what a run leaves

-- Without the command nothing is read; with it at most one byte more than the limit.
abbrev pub IsReadOnly : Option ℕ → Taken → Type 0
IsReadOnly None source = (source.left_now ≡ source.left) × (source.faults_now ≡ source.faults)
IsReadOnly (Some target) source = LosesAtMost (INPUT_LIMIT + 1) source.left source.left_now

-- An ending was told: its status and its whole text, and no fault of the sink; or the sink failed, which takes the place
-- of any other status, and a front of the text was written.
abbrev pub IsTold : Ending → ℕ → Given → Type 0
IsTold ending status sink =
    ((status ≡ status_of ending) × Appends sink.written sink.written_now (text_of ending) × (sink.faults_now ≡ sink.faults))
    ⊎ ((status ≡ 7) × Rose sink.faults sink.faults_now × GainsFront (text_of ending) sink.written sink.written_now)

-- How a run ended: an ending that is due, with a fault of the source exactly where that is told, and that was told. A run
-- that ends before the store is opened leaves the volume as it was.
pub record Ends (disk : Disk) (same : Type 0) (asked : Option ℕ) (source : Taken) (sink : Given) (status : ℕ) : Type 0 where
  pub ending : Ending
  pub due : IsDue disk same asked source ending
  pub blamed : IsBlamed source ending
  pub untouched : IsTrue (is_before_opening ending) → same
  pub told : IsTold ending status sink

-- ---- completeness

-- The sessions of a script can come to the last number that a commit has.
pub record ReachesLast (start : Newest) (script : Script) : Type 0 where
  pub world : World
  pub journal : List JournalEntry
  pub legal : world_after (Some (world_at start script.sessions)) journal ≡ Some world
  pub last : (newest_after start journal).commit ≡ last_commit

-- The premises under which a run goes through: the command, an input in the grammar that is not too long, a good store in a
-- volume that tells, an order that can be taken to its end, no last number reached, and a source, a sink and a volume whose
-- counts of faults do not rise.
pub record GoesThrough (disk : Disk) (asked : Option ℕ) (source : Taken) (sink : Given) : Type 0 where
  pub command : is_some asked ≡ true
  pub bytes : List ℕ
  pub all : source.left ≡ Some bytes
  pub short : length bytes ≤ INPUT_LIMIT
  pub script : Script
  pub read : script_of bytes ≡ Ok script
  pub tells : IsTrue disk.tells
  pub good : is_some (stored_in disk.files) ≡ true
  pub played : Played
  pub whole : order_played (world_at (start_in disk.files) script.sessions) (items_of script.order) ≡ Ok played
  pub no_last : ¬ (ReachesLast (start_in disk.files) script)
  pub no_last_file : contains_key disk.files_now (body_of last_file) ≡ false
  pub no_fault : ¬ (Rose disk.faults disk.faults_now)
  pub no_source_fault : ¬ (Rose source.faults source.faults_now)
  pub no_sink_fault : ¬ (Rose sink.faults sink.faults_now)
