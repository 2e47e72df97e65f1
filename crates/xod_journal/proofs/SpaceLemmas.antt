-- What a caller of a space goes on with: the books after a call, and that whoever met a cause may stop for it.
use Rattle.std.proofs.Common.{◌≡◌, ℕ, ◌+◌, ◌≤◌, List, [], ◌∷◌, ◌++◌, sym, ap, subst, ◌∙◌, ◌⊎◌, inl, inr, true, false, arith, length, append-nil, cond}
use Rattle.std.specs.Prelude.{Bool, IsTrue, Result, Ok, Err, is_some}
use Rattle.std.specs.List.{filter}
use Rattle.std.proofs.lemmas.List.Elements.{filter-append}
use Rattle.xod_base.specs.Causes.{Rose}
use Rattle.xod_base.specs.declared.answer.ActAnswer.{ActAnswer}
use Rattle.xod_base.specs.declared.answer.StmtError.{StmtError}
use Rattle.xod_base.specs.declared.causes.Cause.{Cause}
use Rattle.xod_base.specs.declared.causes.Cause.TheVariants as cause
use Rattle.xod_base.specs.declared.query.Act.{Act}
use Rattle.xod_journal.specs.declared.journal.JournalEntry.{JournalEntry}
use Rattle.xod_journal.specs.declared.journal.Origin.TheVariants as origin
use Rattle.xod_journal.specs.declared.journal.Step.{Step}
use Rattle.xod_journal.specs.Locals.{Acts}
use Rattle.xod_journal.specs.Seats.{books_after, entered}
use Rattle.xod_journal.specs.Spaces.{HasReason, IsCounted, IsFault, IsMet, IsSpace, KeepsSpace, Refuses, SpaceView, device_stops, is_device_stop}
use Rattle.xod_journal.specs.Txns.{OpenTxn, pinned_of}

-- the books after a call that appended an entry
pub booked-on : (old new : SpaceView) (journal : List JournalEntry) → IsSpace new → KeepsSpace old new → new.journal ≡ journal → is_some (books_after old.start journal) ≡ true
booked-on old new journal lawful keeps is =
    subst (λ j. is_some (books_after old.start j) ≡ true) is (subst (λ n. is_some (books_after n new.journal) ≡ true) keeps.start_same lawful.booked)

-- a step that is no stop of this run for a device's fault leaves the number of these
pub device_stops-entered : (journal : List JournalEntry) (actor : ℕ) (step : Step) → is_device_stop step ≡ false → device_stops (entered journal actor step) ≡ device_stops journal
device_stops-entered journal actor step is =
    ap length (filter-append (λ entry. is_device_stop entry.step) journal _
    ∙ ap (λ b. filter (λ entry. is_device_stop entry.step) journal ++ cond b (record { actor = actor; step = step } ∷ []) []) is ∙ append-nil _)

-- more faults than stops, where the count of the space or that of a transaction rose
more : (made stops before now : ℕ) (early late : ℕ) → IsCounted (made + stops) before → before ≤ now → Rose before now ⊎ Rose early late → Rose (made + stops) (now + late)
more made stops before now early late counted later (inl rose) = omega arith
more made stops before now early late counted later (inr rose) = omega arith

module _ (old new : SpaceView) (lawful : IsSpace old) (keeps : KeepsSpace old new) where
  met : (early late : ℕ) (stops : device_stops new.journal ≡ device_stops old.journal) → Rose old.faults new.faults ⊎ Rose early late → Rose (new.made + device_stops new.journal) (new.faults + late)
  met early late stops rose =
      subst (λ n. Rose (n + device_stops new.journal) (new.faults + late)) (sym keeps.made_same)
      (subst (λ n. Rose (old.made + n) (new.faults + late)) (sym stops) (more old.made (device_stops old.journal) old.faults new.faults early late lawful.counted keeps.never_falls rose))

  met_why : (rose spent : Type 0) (early late : ℕ) (reason : Cause) → new.journal ≡ old.journal → HasReason old rose spent reason → (rose → Rose old.faults new.faults ⊎ Rose early late) → (spent → IsTrue new.is_last)
      → IsMet new late reason origin.Run
  met_why rose spent early late cause.Device same why counts last = met early late (ap device_stops same) (counts why.0)
  met_why rose spent early late cause.Broken same why counts last = keeps.stays_broken why
  met_why rose spent early late cause.Damaged same why counts last = tt
  met_why rose spent early late cause.Spent same why counts last = last why.0
  met_why rose spent early late cause.Memory same why counts last = tt

  -- a call that was refused
  pub refused-met : (rose spent : Type 0) (early late : ℕ) (reason : Cause) → Refuses old new rose spent reason → (rose → Rose old.faults new.faults ⊎ Rose early late) → (spent → IsTrue new.is_last)
      → IsMet new late reason origin.Run
  refused-met rose spent early late reason refuses = met_why rose spent early late reason refuses.journal_same refuses.why

  -- a commit that the transaction could not go on at
  pub fault-met : (actor : ℕ) (step : Step) (late : ℕ) (fault : Cause) → new.journal ≡ entered old.journal actor step → is_device_stop step ≡ false → IsFault old new fault → IsMet new late fault origin.Run
  fault-met actor step late cause.Device grown is rose = met 0 late (ap device_stops grown ∙ device_stops-entered old.journal actor step is) (inl rose)
  fault-met actor step late cause.Broken grown is none = absurd none
  fault-met actor step late cause.Damaged grown is none = absurd none
  fault-met actor step late cause.Spent grown is none = absurd none
  fault-met actor step late cause.Memory grown is fault = tt

-- a private statement whose transaction's count rose
pub rose-met : (space : SpaceView) (early late : ℕ) → IsSpace space → Rose early late → IsMet space late cause.Device origin.Run
rose-met space early late lawful rose = more space.made (device_stops space.journal) space.faults space.faults early late lawful.counted (omega arith) (inr rose)

-- no act changes the mode or the base
pub act-pinned : (tells : Bool) (act : Act) (old new : OpenTxn) (result : Result ActAnswer StmtError) → Acts tells act old new result → pinned_of new ≡ pinned_of old
act-pinned tells act old new (Ok answer) acts = ap (λ p. p.0) acts.made.grown
act-pinned tells act old new (Err error) acts = ap pinned_of acts.refused
