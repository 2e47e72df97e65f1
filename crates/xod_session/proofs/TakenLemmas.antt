-- What a call of a space that answered is as a shared step of a session.
use base.Fml.{GName}
use Rattle.std.proofs.Common.{◌≡◌, ℕ, Bool, true, false, cond, List, Option, Some, None, refl, sym, ap, subst, ◌∙◌, inl, IsTrue}
use Rattle.std.specs.Prelude.{option_map, is_some}
use Rattle.std.proofs.lemmas.Option.{none-some, same_Some}
use Rattle.xod_base.specs.declared.answer.FlushAnswer.{FlushAnswer}
use Rattle.xod_base.specs.declared.answer.FlushAnswer.TheVariants as flush
use Rattle.xod_base.specs.declared.answer.Reply.TheVariants as reply
use Rattle.xod_base.specs.declared.causes.Cause.{Cause}
use Rattle.xod_base.specs.declared.causes.Cause.TheVariants as cause
use Rattle.xod_base.specs.declared.query.Mode.{Mode}
use Rattle.xod_journal.specs.declared.journal.JournalEntry.{JournalEntry}
use Rattle.xod_journal.specs.declared.journal.Pinned.{Pinned}
use Rattle.xod_journal.specs.declared.journal.Step.TheVariants as step
use Rattle.xod_journal.specs.Books.{same_version, version_of}
use Rattle.xod_journal.specs.Laws.{SameIsEqual}
use Rattle.xod_journal.specs.Seats.{books_after, entered, has_open, seat_of}
use Rattle.xod_journal.specs.Spaces.{Begins, Flushes, IsFault, IsFlushed, IsSpace, IsTxn, KeepsSpace, Reverts, SpaceView, Syncs, newest_of, without_fault}
use Rattle.xod_journal.specs.Txns.{OpenTxn, pinned_of, txn_at, txn_flushed}
use Rattle.xod_journal.proofs.CallerLemmas.{booked-on, fault-met, seat-begun, seat-ended, seat-flushed, seat-reverted, seat-synced, same_version-refl}
use Rattle.xod_session.specs.declared.course.SharedStep.TheVariants as shared
use Rattle.xod_session.specs.Steps.{IsFaulted, IsReason, Takes, fault_in}
use Rattle.xod_session.specs.Turns.{flush_there, same_changes, turned, turned_to}
use Rattle.xod_session.proofs.OptionLemmas.{and_true}
use Rattle.xod_session.proofs.SameLemmas.{same_changes-refl, same_mode-refl}

module _ {Open : Type 0} (tells : Open → Bool) (txn : Open → OpenTxn) (faults : Open → ℕ) (old new : SpaceView) (actor : ℕ) (keeps : KeepsSpace old new) (lawful : IsSpace new) where
  -- the seat behind a step, as the new view has it
  seat_now : (journal : List JournalEntry) (seat : Option (Bool × Option Pinned)) → new.journal ≡ journal → seat_of old.start journal actor ≡ seat → seat_of new.start new.journal actor ≡ seat
  seat_now journal seat entry is = (λ i. seat_of (keeps.start_same i) (entry i) actor) ∙ is

  there : (journal : List JournalEntry) → new.journal ≡ journal → is_some (books_after old.start journal) ≡ true
  there journal entry = booked-on old new journal lawful keeps entry

  no_fault : (reason : Cause) → ◌≡◌ {A = Option Cause} None (Some reason) → ⊥
  no_fault reason e = none-some reason e

  -- the transaction behind a step that leaves one open
  goes_on_open : (after : Open) (expected : OpenTxn) → IsTxn old (tells after) (txn after) expected → seat_of new.start new.journal actor ≡ Some (false, Some (pinned_of expected))
      → (IsTrue old.tells → ◌≡◌ {A = Option OpenTxn} (Some (txn after)) (Some expected)) × (seat_of new.start new.journal actor ≡ Some (false, Some (pinned_of (txn after)))) × ((one : Open) → ◌≡◌ {A = Option Open} (Some after) (Some one) → IsTrue old.tells → IsTrue (tells one))
  goes_on_open after expected is seat = (
    λ t. ap Some (is.all t),
    seat ∙ (λ i. Some (false, Some ((sym is.held i).0))),
    λ one e t. subst (λ o. IsTrue (tells o)) (same_Some _ _ e) (is.told t),
  )

  pub begun-takes : (mode : Mode) (commit : ℕ) (after : Open) → seat_of old.start old.journal actor ≡ Some (false, None) → Begins actor mode old new commit (tells after) (txn after)
      → Takes tells txn faults old new actor (shared.Begin mode) None (reply.At commit) None (Some after)
  begun-takes mode commit after seat begins = record {
    step = step.Begin mode;
    entry = begins.entry;
    kind = refl;
    answers = refl;
    has_txn = refl;
    later = Some (txn_at mode (newest_of old));
    has_later = refl;
    told = λ t. ap (λ b. cond b (Some (turned_to (Some (txn_at mode (newest_of old))) (reply.At (newest_of old).commit))) None) (same_mode-refl mode)
        ∙ ap (λ n. Some (turned_to (Some (txn_at mode (newest_of old))) (reply.At n))) (sym begins.at);
    goes_on = λ e. goes_on_open after (txn_at mode (newest_of old)) begins.txn_is
        (seat_now (entered old.journal actor (step.Begin mode)) _ begins.entry (seat-begun old.start old.journal actor mode seat (there _ begins.entry)));
    faulted = λ reason e. absurd (no_fault reason e);
  }

  pub reverted-takes : (before after : Open) (commit : ℕ) → seat_of old.start old.journal actor ≡ Some (false, Some (pinned_of (txn before))) → Reverts actor old new commit (txn before) (tells after) (txn after)
      → Takes tells txn faults old new actor shared.Revert (Some before) (reply.At commit) None (Some after)
  reverted-takes before after commit seat reverts = record {
    step = step.Revert;
    entry = reverts.entry;
    kind = refl;
    answers = refl;
    has_txn = refl;
    later = Some (txn_at (txn before).mode (newest_of old));
    has_later = refl;
    told = λ t. ap (λ n. Some (turned_to (Some (txn_at (txn before).mode (newest_of old))) (reply.At n))) (sym reverts.at);
    goes_on = λ e. goes_on_open after (txn_at (txn before).mode (newest_of old)) reverts.txn_is
        (seat_now (entered old.journal actor step.Revert) _ reverts.entry (seat-reverted old.start old.journal actor (pinned_of (txn before)) seat (there _ reverts.entry)));
    faulted = λ reason e. absurd (no_fault reason e);
  }

  pub ended-takes : (before : Open) → seat_of old.start old.journal actor ≡ Some (false, Some (pinned_of (txn before))) → new.journal ≡ entered old.journal actor step.End
      → Takes tells txn faults old new actor shared.End (Some before) reply.Ended None None
  ended-takes before seat entry = record {
    step = step.End;
    entry = entry;
    kind = refl;
    answers = refl;
    has_txn = refl;
    later = None;
    has_later = refl;
    told = λ t. refl;
    goes_on = λ e. (λ t. refl, seat_now (entered old.journal actor step.End) _ entry (seat-ended old.start old.journal actor (pinned_of (txn before)) seat (there _ entry)), λ one e t. absurd (none-some one e));
    faulted = λ reason e. absurd (no_fault reason e);
  }

  mapped_is : (held : Option Open) → is_some (option_map txn held) ≡ is_some held
  mapped_is None = refl
  mapped_is (Some one) = refl

  pub synced-takes : (held : Option Open) → seat_of old.start old.journal actor ≡ Some (false, option_map pinned_of (option_map txn held)) → ((one : Open) → held ≡ Some one → IsTrue old.tells → IsTrue (tells one)) → Syncs actor old new
      → Takes tells txn faults old new actor shared.Sync held reply.Synced None held
  synced-takes held seat told syncs = record {
    step = step.Sync;
    entry = syncs.entry;
    kind = refl;
    answers = refl;
    has_txn = refl;
    later = option_map txn held;
    has_later = mapped_is held;
    told = λ t. refl;
    goes_on = λ e. (λ t. refl, seat_now (entered old.journal actor step.Sync) _ syncs.entry (seat-synced old.start old.journal actor (option_map pinned_of (option_map txn held)) seat (there _ syncs.entry)), told);
    faulted = λ reason e. absurd (no_fault reason e);
  }

  -- ---- flushes

  without_version : (answered : FlushAnswer) → version_of (without_fault answered) ≡ version_of answered
  without_version flush.Nothing = refl
  without_version (flush.Committed version fault) = refl
  without_version (flush.Conflict base now) = refl

  flush_told : SameIsEqual → (before : OpenTxn) (answered : FlushAnswer) → without_fault answered ≡ flush_there (newest_of old) before
      → turned (Some shared.Flush) (newest_of old) (Some before) (step.Flush before.own (version_of answered)) ≡ Some (turned_to (Some (txn_flushed before (without_fault answered))) (reply.Flushed (without_fault answered)))
  flush_told same before answered is =
      let v : version_of answered ≡ version_of (flush_there (newest_of old) before) = sym (without_version answered) ∙ ap version_of is in
      ap (λ b. cond b (Some (turned_to (Some (txn_flushed before (flush_there (newest_of old) before))) (reply.Flushed (flush_there (newest_of old) before)))) None)
      (and_true (same_changes before.own before.own) (same_version (version_of answered) (version_of (flush_there (newest_of old) before))) (same_changes-refl same before.own)
      (ap (λ w. same_version w (version_of (flush_there (newest_of old) before))) v ∙ same_version-refl (version_of (flush_there (newest_of old) before))))
      ∙ ap (λ a. Some (turned_to (Some (txn_flushed before a)) (reply.Flushed a))) (sym is)

  flush_seat : (before : OpenTxn) (answered : FlushAnswer) → without_fault answered ≡ flush_there (newest_of old) before → seat_of old.start old.journal actor ≡ Some (false, Some (pinned_of before))
      → new.journal ≡ entered old.journal actor (step.Flush before.own (version_of answered))
      → seat_of new.start new.journal actor ≡ Some (false, Some (pinned_of (txn_flushed before (without_fault answered))))
  flush_seat before answered is seat entry =
      let e : new.journal ≡ entered old.journal actor (step.Flush before.own (version_of (flush_there (newest_of old) before))) = entry ∙ ap (λ v. entered old.journal actor (step.Flush before.own v)) (sym (without_version answered) ∙ ap version_of is) in
      seat_now _ _ e (seat-flushed old.start old.journal actor before seat (there _ e)) ∙ ap (λ a. Some (false, Some (pinned_of (txn_flushed before a)))) (sym is)

  module _ (same : SameIsEqual) (old_lawful : IsSpace old) (refs : Open → List GName) (before after : Open) (seat : seat_of old.start old.journal actor ≡ Some (false, Some (pinned_of (txn before)))) where
    fault_why : (reason : Cause) → IsFault old new reason → IsReason old new (faults before) (faults after) shared.Flush reason
    fault_why cause.Device rose = inl rose
    fault_why cause.Broken none = absurd none
    fault_why cause.Damaged none = absurd none
    fault_why cause.Spent none = absurd none
    fault_why cause.Memory fault = tt

    flushed_at : (answered : FlushAnswer) → Flushes actor old new answered (txn before) → IsTxn old (tells after) (txn after) (txn_flushed (txn before) (without_fault answered))
        → Takes tells txn faults old new actor shared.Flush (Some before) (reply.Flushed (without_fault answered)) None (Some after)
    flushed_at answered flushes is = record {
      step = step.Flush (txn before).own (version_of answered);
      entry = flushes.entry;
      kind = refl;
      answers = refl;
      has_txn = refl;
      later = Some (txn_flushed (txn before) (without_fault answered));
      has_later = refl;
      told = λ t. flush_told same (txn before) answered flushes.answer_is;
      goes_on = λ e. goes_on_open after (txn_flushed (txn before) (without_fault answered)) is (flush_seat (txn before) answered flushes.answer_is seat flushes.entry);
      faulted = λ reason e. absurd (no_fault reason e);
    }

    faulted_at : (version : ℕ) (reason : Cause) → Flushes actor old new (flush.Committed version (Some reason)) (txn before) → IsFault old new reason
        → Takes tells txn faults old new actor shared.Flush (Some before) (reply.Flushed (flush.Committed version None)) (Some reason) (Some after)
    faulted_at version reason flushes fault = record {
      step = step.Flush (txn before).own (Some version);
      entry = flushes.entry;
      kind = refl;
      answers = refl;
      has_txn = refl;
      later = Some (txn_flushed (txn before) (flush.Committed version None));
      has_later = refl;
      told = λ t. flush_told same (txn before) (flush.Committed version (Some reason)) flushes.answer_is;
      goes_on = λ e. absurd (no_fault reason (sym e));
      faulted = λ met e. subst (λ r. IsFaulted old new actor shared.Flush true (faults before) (faults after) (reply.Flushed (flush.Committed version None)) r) (same_Some _ _ e) (record {
        flushes = refl;
        version = version;
        committed = refl;
        seat = ap (option_map has_open) (flush_seat (txn before) (flush.Committed version (Some reason)) flushes.answer_is seat flushes.entry);
        met = fault-met old new old_lawful keeps actor (step.Flush (txn before).own (Some version)) (faults after) reason flushes.entry refl fault;
        why = fault_why reason fault;
      });
    }

    pub flushed-takes : (answered : FlushAnswer) → Flushes actor old new answered (txn before) → IsFlushed tells txn refs faults old new answered before after
        → Takes tells txn faults old new actor shared.Flush (Some before) (reply.Flushed (without_fault answered)) (fault_in answered) (Some after)
    flushed-takes flush.Nothing flushes is = flushed_at flush.Nothing flushes is
    flushed-takes (flush.Committed version None) flushes is = flushed_at (flush.Committed version None) flushes is
    flushed-takes (flush.Committed version (Some reason)) flushes is = faulted_at version reason flushes is.1
    flushed-takes (flush.Conflict base now) flushes is = flushed_at (flush.Conflict base now) flushes is
