-- What a session asks of its open transaction, and what it is answered.
use base.Fml.{GName}
use Rattle.std.specs.Prelude.{◌≡◌, ◌≢◌, ◌≤◌, ℕ, Bool, true, false, IsTrue, List, ◌++◌, Result, Ok, Err, OnOk, OnErr, IfOk, IfErr}
use Rattle.xod_base.specs.declared.query.Act.{Act}
use Rattle.xod_base.specs.declared.query.Mode.TheVariants.{ReadOnly}
use Rattle.xod_base.specs.declared.query.Query.{Query}
use Rattle.xod_base.specs.declared.answer.ActAnswer.{ActAnswer}
use Rattle.xod_base.specs.declared.answer.Answer.{Answer}
use Rattle.xod_base.specs.declared.answer.StmtError.{StmtError}
use Rattle.xod_base.specs.declared.answer.StmtError.TheVariants as refusal
use Rattle.xod_base.specs.Causes.{Rose}
use Rattle.xod_base.specs.Evaluation.{answer_of}
use Rattle.xod_journal.specs.declared.change.RowChange.{RowChange}
use Rattle.xod_journal.specs.declared.journal.Pinned.{Pinned}
use Rattle.xod_journal.specs.Changes.{act_answer, act_outcome, outcome_of}
use Rattle.xod_journal.specs.Txns.{OpenTxn, is_hit, pinned_of, txn_acted}

-- ---- answers and their causes

-- An answer is the expected one, where the rows are told. Want of memory and a device's fault may come at any place;
-- damaged bytes never.
abbrev pub IsExpected : {A : Type 0} → Result A StmtError → Result A StmtError → Type 0
IsExpected expected (Ok answer) = expected ≡ Ok answer
IsExpected expected (Err (refusal.NoEntity id)) = expected ≡ Err (refusal.NoEntity id)
IsExpected expected (Err refusal.ReadOnly) = expected ≡ Err refusal.ReadOnly
IsExpected expected (Err (refusal.TooMany kind limit)) = expected ≡ Err (refusal.TooMany kind limit)
IsExpected expected (Err (refusal.IdsSpent kind)) = expected ≡ Err (refusal.IdsSpent kind)
IsExpected expected (Err (refusal.TextTooLong bytes)) = expected ≡ Err (refusal.TextTooLong bytes)
IsExpected expected (Err refusal.Device) = Unit {0}
IsExpected expected (Err (refusal.Damaged place)) = ⊥
IsExpected expected (Err refusal.Memory) = Unit {0}

-- whether an error comes from outside or is want of memory, so that it says nothing of the rows
abbrev pub is_outside : StmtError → Bool
is_outside (refusal.NoEntity _) = false
is_outside refusal.ReadOnly = false
is_outside (refusal.TooMany _ _) = false
is_outside (refusal.IdsSpent _) = false
is_outside (refusal.TextTooLong _) = false
is_outside refusal.Device = true
is_outside (refusal.Damaged _) = true
is_outside refusal.Memory = true

-- whether an error is one that rows give
abbrev pub is_of_rows : StmtError → Bool
is_of_rows (refusal.NoEntity _) = true
is_of_rows refusal.ReadOnly = false
is_of_rows (refusal.TooMany _ _) = true
is_of_rows (refusal.IdsSpent _) = true
is_of_rows (refusal.TextTooLong _) = true
is_of_rows refusal.Device = false
is_of_rows (refusal.Damaged _) = false
is_of_rows refusal.Memory = false

-- How the count of faults goes with a call's answer: it never falls, it rose where the device failed, and it stands
-- where the call answered or memory was refused.
pub record CountsFaults {A : Type 0} (before now : ℕ) (result : Result A StmtError) : Type 0 where
  pub never_falls : before ≤ now
  pub device : result ≡ Err refusal.Device → Rose before now
  pub memory : result ≡ Err refusal.Memory → now ≡ before
  pub ok : OnOk result (now ≡ before)

-- ---- what stays

-- A transaction is as it was, but for its count of faults, which has not fallen.
pub record KeepsLocal {Local : Type 0} (tells : Local → Bool) (txn : Local → OpenTxn) (refs : Local → List GName) (faults : Local → ℕ) (old new : Local) : Type 0 where
  pub tells_same : tells new ≡ tells old
  pub txn_same : txn new ≡ txn old
  pub refs_same : refs new ≡ refs old
  pub never_falls : faults old ≤ faults new

-- what is known of a transaction without its rows: its mode and base, and its own changes
abbrev pub held_of : OpenTxn → Pinned × List RowChange
held_of txn = (pinned_of txn, txn.own)

-- ---- acts

-- An act that was not refused: the mode writes, its changes are at the end of the transaction's own, and the answer
-- goes by them.
pub record Makes (old new : OpenTxn) (answer : ActAnswer) : Type 0 where
  pub changes : List RowChange
  pub writes : old.mode ≢ ReadOnly
  pub grown : held_of new ≡ (pinned_of old, old.own ++ changes)
  pub answer_is : answer ≡ act_answer changes

-- What an act did to a transaction, and what it was answered. A refusal changes nothing. Where the rows are told, the
-- answer and the changes are those that the rows and the mode give.
pub record Acts (tells : Bool) (act : Act) (old new : OpenTxn) (result : Result ActAnswer StmtError) : Type 0 where
  pub made : IfOk result (Makes old new)
  pub refused : OnErr result (new ≡ old)
  pub reads_only : result ≡ Err refusal.ReadOnly → old.mode ≡ ReadOnly
  pub answer : IsTrue tells → IsExpected (act_outcome (outcome_of old.mode old.rows act)) result
  pub changed : IsTrue tells → OnOk result (new ≡ txn_acted old (outcome_of old.mode old.rows act))

-- ---- queries

-- The ids of a query over a transaction's rows, and whether they were cached.
abbrev pub found_in : OpenTxn → Query → Answer
found_in txn query = record { ids = answer_of query txn.rows; hit = is_hit txn query }

-- what a query was answered; only the outside refuses one
pub record Finds (tells : Bool) (query : Query) (txn : OpenTxn) (result : Result Answer StmtError) : Type 0 where
  pub outside : IfErr result (λ error. IsTrue (is_outside error))
  pub answer : IsTrue tells → IsExpected (Ok (found_in txn query)) result
