-- Which shared step comes next, what it answers, and where a session goes on behind it.
use Rattle.std.specs.Prelude.{ℕ, ◌-◌, Bool, true, false, not, ◌&&◌, List, [], ◌∷◌, Option, Some, None, is_some, nat_lt, if◌then◌else◌}
use Rattle.xod_base.specs.declared.query.Mode.{Mode}
use Rattle.xod_base.specs.declared.query.Mode.TheVariants.{Ordinary, ReadOnly, Exclusive}
use Rattle.xod_base.specs.declared.answer.FlushAnswer.{FlushAnswer}
use Rattle.xod_base.specs.declared.answer.FlushAnswer.TheVariants as flush
use Rattle.xod_base.specs.declared.answer.Reply.{Reply}
use Rattle.xod_base.specs.declared.answer.Reply.TheVariants as reply
use Rattle.xod_base.specs.Values.{same_bytes}
use Rattle.xod_base.specs.Rows.{same_id}
use Rattle.xod_lang.specs.declared.script.Form.{Form}
use Rattle.xod_lang.specs.declared.script.Form.TheVariants as form
use Rattle.xod_lang.specs.declared.script.Statement.{Statement}
use Rattle.xod_journal.specs.declared.change.RowChange.{RowChange}
use Rattle.xod_journal.specs.declared.change.RowChange.TheVariants.{AddEntity, RemoveEntity, Prop, LinkAdd, LinkDel}
use Rattle.xod_journal.specs.declared.journal.Step.{Step}
use Rattle.xod_journal.specs.declared.journal.Step.TheVariants as step
use Rattle.xod_journal.specs.Changes.{same_option}
use Rattle.xod_journal.specs.Books.{flush_answer, version_of, same_version}
use Rattle.xod_journal.specs.Standing.{Newest}
use Rattle.xod_journal.specs.Txns.{OpenTxn, txn_at, txn_flushed}
use Rattle.xod_session.specs.declared.course.Due.{Due}
use Rattle.xod_session.specs.declared.course.Due.TheVariants.{Fresh, Ending, Reverting}
use Rattle.xod_session.specs.declared.course.SharedStep.{SharedStep}
use Rattle.xod_session.specs.declared.course.SharedStep.TheVariants as shared
use Rattle.xod_session.specs.States.{Block, Place}

-- ---- which step

-- The shared step that a statement asks for first; none where it is private. `commit` is a flush and then an end. A `do`
-- begins, and its `done` flushes.
abbrev pub asks : Form → Option SharedStep
asks (form.Begin mode) = Some (shared.Begin mode)
asks form.Flush = Some shared.Flush
asks form.Revert = Some shared.Revert
asks form.End = Some shared.End
asks form.Commit = Some shared.Flush
asks form.Sync = Some shared.Sync
asks (form.Do tries) = Some (shared.Begin Ordinary)
asks form.Done = Some shared.Flush
asks other = None

-- the shared step of a statement of which something is due
abbrev pub asks_then : Due → Form → Option SharedStep
asks_then Fresh asked = asks asked
asks_then Ending asked = Some shared.End
asks_then Reverting asked = Some shared.Revert

abbrev pub is_private : Form → Bool
is_private asked = not (is_some (asks asked))

-- ---- the step

abbrev pub same_change : RowChange → RowChange → Bool
same_change (AddEntity i k) (AddEntity j l) = same_id i j && same_bytes k l
same_change (RemoveEntity i) (RemoveEntity j) = same_id i j
same_change (Prop i m t u) (Prop j n v w) = same_id i j && (same_bytes m n && (same_option t v && same_option u w))
same_change (LinkAdd s l t) (LinkAdd u m v) = same_id s u && (same_bytes l m && same_id t v)
same_change (LinkDel s l t) (LinkDel u m v) = same_id s u && (same_bytes l m && same_id t v)
same_change a b = false

abbrev pub same_changes : List RowChange → List RowChange → Bool
same_changes [] [] = true
same_changes [] (b ∷ more) = false
same_changes (a ∷ more) [] = false
same_changes (a ∷ others) (b ∷ more) = same_change a b && same_changes others more

abbrev pub same_mode : Mode → Mode → Bool
same_mode Ordinary Ordinary = true
same_mode ReadOnly ReadOnly = true
same_mode Exclusive Exclusive = true
same_mode a b = false

-- what a flush of a transaction answers at the newest commit
abbrev pub flush_there : Newest → OpenTxn → FlushAnswer
flush_there now txn = flush_answer now.commit txn.base txn.own

-- a shared step that was taken: the transaction after it, and the answer
pub record Turned : Type 0 where
  pub txn : Option OpenTxn
  pub reply : Reply

abbrev pub turned_to : Option OpenTxn → Reply → Turned
turned_to txn answer = record { txn = txn; reply = answer }

-- a flush: the step has the transaction's own changes, and the version that they make
abbrev pub flush_turned : Newest → OpenTxn → List RowChange → Option ℕ → Option Turned
flush_turned now txn changes version =
    if same_changes changes txn.own && same_version version (version_of (flush_there now txn))
    then Some (turned_to (Some (txn_flushed txn (flush_there now txn))) (reply.Flushed (flush_there now txn))) else None

-- What a step makes of a session that asks for a shared step; none where it is another one.
abbrev pub turned : Option SharedStep → Newest → Option OpenTxn → Step → Option Turned
turned (Some (shared.Begin mode)) now None (step.Begin given) =
    if same_mode mode given then Some (turned_to (Some (txn_at mode now)) (reply.At now.commit)) else None
turned (Some shared.Flush) now (Some txn) (step.Flush changes version) = flush_turned now txn changes version
turned (Some shared.Revert) now (Some txn) step.Revert = Some (turned_to (Some (txn_at txn.mode now)) (reply.At now.commit))
turned (Some shared.End) now (Some txn) step.End = Some (turned_to None reply.Ended)
turned (Some shared.Sync) now txn step.Sync = Some (turned_to txn reply.Synced)
turned other now txn taken = None

-- ---- where it goes on

-- the line of a flush that committed
abbrev pub just_of : ℕ → Reply → Option ℕ
just_of line (reply.Flushed (flush.Committed version fault)) = Some line
just_of line other = None

-- behind the flush of a block: another try where it conflicted and tries are left, and else its end
abbrev pub due_after : Option Block → Reply → Due
due_after (Some block) (reply.Flushed (flush.Conflict base now)) = if nat_lt 0 block.left then Reverting else Ending
due_after block answer = Ending

abbrev pub back_to : Option Block → List Statement → List Statement
back_to None rest = rest
back_to (Some block) rest = block.body

-- the block with one try less
abbrev pub tried : Option Block → Option Block
tried None = None
tried (Some block) = Some (record block { left = block.left - 1 })

-- behind the first step that a statement asks for
abbrev pub placed_fresh : Place → Statement → List Statement → Form → Reply → Place
placed_fresh place statement more (form.Do tries) answer =
    record place { rest = more; block = Some (record { left = tries - 1; body = more }); just = None }
placed_fresh place statement more form.Commit answer =
    record place { rest = statement ∷ more; due = Ending; just = just_of statement.line answer }
placed_fresh place statement more form.Done answer =
    record place { rest = statement ∷ more; due = due_after place.block answer; just = just_of statement.line answer }
placed_fresh place statement more other answer = record place { rest = more; just = just_of statement.line answer }

-- Where a session goes on behind a step of its next statement: behind the end of a `commit` or of a block at the next
-- statement, and behind a revert at the front of the block.
abbrev pub placed_then : Place → Due → Statement → List Statement → Reply → Place
placed_then place Fresh statement more answer = placed_fresh place statement more statement.form answer
placed_then place Ending statement more answer = record place { rest = more; due = Fresh; block = None; just = None }
placed_then place Reverting statement more answer =
    record place { rest = back_to place.block (statement ∷ more); due = Fresh; block = tried place.block; just = None }
