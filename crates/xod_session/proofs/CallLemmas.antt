-- What the calls of a session come to.
use Rattle.std.proofs.Common.{◌≡◌, ℕ, true, false, cond, List, [], ◌∷◌, ◌++◌, map, Option, Some, None, sym, ap, subst, ◌∙◌, inl, inr, arith, append_assoc}
use Rattle.std.proofs.lemmas.List.{map-append}
use Rattle.xod_base.specs.declared.causes.Cause.{Cause}
use Rattle.xod_base.specs.declared.causes.Cause.TheVariants as cause
use Rattle.xod_journal.specs.declared.journal.Origin.TheVariants.{Run}
use Rattle.xod_journal.specs.declared.journal.Step.{Step}
use Rattle.xod_journal.specs.declared.journal.Step.TheVariants as step
use Rattle.xod_journal.specs.Seats.{entered}
use Rattle.xod_journal.specs.Spaces.{KeepsSpace, SpaceView, faults_in}
use Rattle.xod_session.specs.declared.course.SharedStep.{SharedStep}
use Rattle.xod_session.specs.declared.course.SharedStep.TheVariants as shared
use Rattle.xod_session.specs.declared.session.Next.TheVariants as next
use Rattle.xod_session.specs.declared.session.Session.{Session}
use Rattle.xod_session.specs.Calls.{HasStopped, IsFlushAlone, front_of, next_of, next_step, next_with}
use Rattle.xod_session.specs.Steps.{IsReason, turn_of}
use Rattle.xod_session.specs.Transcripts.{turned_of}
use Rattle.xod_session.specs.World.{entry_of}

-- a reason stays one in what a later call leaves
later : (old mid new : SpaceView) (early late : ℕ) (asked : SharedStep) (reason : Cause) → KeepsSpace mid new → IsReason old mid early late asked reason → IsReason old new early late asked reason
later old mid new early late asked cause.Device keeps (inl rose) = inl (omega (arith, rose, keeps.never_falls))
later old mid new early late asked cause.Device keeps (inr rose) = inr rose
later old mid new early late asked cause.Broken keeps why = why
later old mid new early late asked cause.Damaged keeps why = why
later old mid new early late asked cause.Spent keeps why = (why.0, keeps.stays_last why.1)
later old mid new early late asked cause.Memory keeps why = why

pub finishes : {Open : Type 0} (session : Session Open) → session.course.place.stopped ≡ false → front_of session.course ≡ None → next_of session ≡ next.Finished
finishes session going none = ap (λ b. cond b next.Finished (next_with (front_of session.course) session.met)) going ∙ ap (λ f. next_with f session.met) none

module _ {Open : Type 0} (faults : Open → ℕ) (old : SpaceView) (before : Session Open) (going : before.course.place.stopped ≡ false) (free : before.met ≡ None)
    (line : ℕ) (asked : SharedStep) (front : front_of before.course ≡ Some (line, asked)) where
  pub comes : next_of before ≡ next_step asked
  comes = ap (λ b. cond b next.Finished (next_with (front_of before.course) before.met)) going ∙ (λ i. next_with (front i) (free i))

  -- a flush that was asked for
  pub flush-alone : (taken : Step) → turned_of taken ≡ turn_of asked → asked ≡ shared.Flush → IsFlushAlone (next_of before) (taken ∷ [])
  flush-alone taken kind is = (comes ∙ ap next_step is, kind ∙ ap turn_of is)

  -- a step that could not be taken, or could not go on
  pub has_stopped : (mid new : SpaceView) (after : Session Open) (flushed : List Step) (held back : Option Open) (reason : Cause) → held ≡ before.txn → KeepsSpace mid new → mid.journal ≡ old.journal ++ map (entry_of before.actor) flushed → IsFlushAlone (next_of before) flushed
      → IsReason old mid (faults_in faults held) (faults_in faults back) asked reason → new.journal ≡ entered mid.journal before.actor (step.Stop line reason Run) → after.course.place.stopped ≡ true
      → HasStopped faults old new before after line reason
  has_stopped mid new after flushed held back reason was keeps grown flushes why entry stopped = record {
    flushed = flushed;
    flushes = flushes;
    entries = entry ∙ ap (λ j. entered j before.actor (step.Stop line reason Run)) grown ∙ append_assoc old.journal _ _ ∙ ap (λ l. old.journal ++ l) (sym (map-append (entry_of before.actor) flushed _));
    stopped = stopped;
    why = inr (record {
      asked = asked;
      comes = comes;
      front = front;
      back = back;
      why = later old mid new (faults_in faults before.txn) (faults_in faults back) asked reason keeps (subst (λ h. IsReason old mid (faults_in faults h) (faults_in faults back) asked reason) was why);
    });
  }
