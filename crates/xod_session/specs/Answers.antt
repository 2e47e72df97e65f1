-- What a private statement does to what is said and to a transaction, told or not.
use Rattle.std.specs.Prelude.{◌≡◌, ◌≤◌, ℕ, List, [], ◌∷◌, drop, Bool, IsTrue, nat_lt, false, true, Option, Some, None, Result, Ok, Err, IfErr, OnErr, OnOk}
use Rattle.xod_base.specs.declared.answer.StmtError.{StmtError}
use Rattle.xod_base.specs.declared.answer.StmtError.TheVariants as error
use Rattle.xod_base.specs.declared.causes.Cause.{Cause}
use Rattle.xod_base.specs.declared.causes.Cause.TheVariants as cause
use Rattle.xod_base.specs.Causes.{Rose}
use Rattle.xod_journal.specs.Txns.{OpenTxn, pinned_of}
use Rattle.xod_session.specs.declared.dialogue.Dialogue.{Dialogue}
use Rattle.xod_lang.specs.declared.script.Statement.{Statement}
use Rattle.xod_session.specs.declared.row.Halt.{Halt}
use Rattle.xod_session.specs.declared.row.Row.{Row}
use Rattle.xod_session.specs.Dialogues.{HasStopRoom, Printed, Spoken, printed_by, printed_of}
use Rattle.xod_session.specs.Sessions.{private_before, private_count}

-- Why a statement was not answered: the device failed, and the transaction has counted faults; damaged bytes, which no
-- transaction meets that tells its rows; memory.
abbrev pub IsMetBy : Bool → ℕ → Cause → Type 0
IsMetBy tells faults cause.Device = Rose 0 faults
IsMetBy tells faults cause.Broken = ⊥
IsMetBy tells faults cause.Damaged = tells ≡ false
IsMetBy tells faults cause.Spent = ⊥
IsMetBy tells faults cause.Memory = Unit {0}

-- why an error stops a session; none where it is a refusal
abbrev pub cause_in : StmtError → Option Cause
cause_in error.Device = Some cause.Device
cause_in (error.Damaged _) = Some cause.Damaged
cause_in error.Memory = Some cause.Memory
cause_in (error.NoEntity _) = None
cause_in error.ReadOnly = None
cause_in (error.TooMany _ _) = None
cause_in (error.IdsSpent _) = None
cause_in (error.TextTooLong _) = None

-- an answer, or a refusal
abbrev pub IsRefusal : {A : Type 0} → Result A StmtError → Type 0
IsRefusal (Ok answer) = Unit {0}
IsRefusal (Err error) = cause_in error ≡ None

-- an error that stops a session for a cause
abbrev pub IsCauseOf : {A : Type 0} → Result A StmtError → Cause → Type 0
IsCauseOf (Ok answer) reason = ⊥
IsCauseOf (Err error) reason = cause_in error ≡ Some reason

-- what no private statement changes: whether the rows are told, the mode and the base; and the count never falls
pub record Stays {Open : Type 0} (tells : Open → Bool) (txn : Open → OpenTxn) (faults : Open → ℕ) (old new : Open) : Type 0 where
  pub tells_same : tells new ≡ tells old
  pub pinned_same : pinned_of (txn new) ≡ pinned_of (txn old)
  pub never_falls : faults old ≤ faults new

-- A private statement: where the rows are told, its line and its changes are the expected ones. One that was not answered
-- prints nothing.
pub record Answers {Open : Type 0} (tells : Open → Bool) (txn : Open → OpenTxn) (faults : Open → ℕ) (expected : Printed → OpenTxn → Spoken) (said later : Dialogue) (old new : Open) (result : Result (Unit {0}) Cause) : Type 0 where
  pub told : IsTrue (tells old) → OnOk result ((printed_of later, txn new) ≡ expected (printed_of said) (txn old))
  pub silent : OnErr result (printed_of later ≡ printed_of said)
  pub room : HasStopRoom said → HasStopRoom later
  pub met : IfErr result (IsMetBy (tells old) (faults new))
  pub stays : Stays tells txn faults old new

-- ---- statements in a row

-- the line of the first statement
abbrev pub first_line : List Statement → Option ℕ
first_line [] = None
first_line (statement ∷ more) = Some statement.line

-- whether a line is before another one, where one is given
abbrev pub is_below : Option ℕ → ℕ → Bool
is_below None line = true
is_below (Some last) line = nat_lt line last

-- how many private statements come before the next shared step, or before a line
abbrev pub count_until : Option ℕ → List Statement → ℕ
count_until None rest = private_count rest
count_until (Some line) rest = private_before line rest

-- what stopped a row: nothing, or the first statement of the rest, which was not answered
abbrev pub IsHaltedAt : List Statement → Bool → ℕ → Option ℕ → Option Halt → Type 0
IsHaltedAt rest tells faults until None = count_until until rest ≡ 0
IsHaltedAt rest tells faults until (Some halt) = (first_line rest ≡ Some halt.line) × IsMetBy tells faults halt.cause

-- what is printed, and the transaction where nothing stopped the row
abbrev pub Speaks : Spoken → Printed → OpenTxn → Option Halt → Type 0
Speaks expected printed txn None = expected ≡ (printed, txn)
Speaks expected printed txn (Some halt) = expected.0 ≡ printed

-- Private statements in a row, of which some were answered.
pub record AnswersRow {Open : Type 0} (tells : Open → Bool) (txn : Open → OpenTxn) (faults : Open → ℕ) (rest : List Statement) (until : Option ℕ) (said later : Dialogue) (old new : Open) (row : Row) : Type 0 where
  pub within : row.count ≤ count_until until rest
  pub told : IsTrue (tells old) → Speaks (printed_by row.count (printed_of said) (txn old) rest) (printed_of later) (txn new) row.met
  pub halted : IsHaltedAt (drop row.count rest) (tells old) (faults new) until row.met
  pub room : HasStopRoom said → HasStopRoom later
  pub stays : Stays tells txn faults old new
