-- Where a journal goes on to by each step, if it stands and the actor has not stopped.
use Rattle.std.proofs.Common.{◌≡◌, ℕ, Bool, true, false, cond, List, [], ◌∷◌, Option, Some, None, refl, sym, ap, ◌∙◌, arith}
use Rattle.std.specs.Prelude.{option_map, is_some}
use Rattle.std.specs.FinMap.{get, insert}
use Rattle.std.proofs.lemmas.Option.{none-some, same_Some}
use Rattle.xod_base.specs.declared.answer.FlushAnswer.{FlushAnswer}
use Rattle.xod_base.specs.declared.causes.Cause.{Cause}
use Rattle.xod_base.specs.declared.query.Mode.{Mode}
use Rattle.xod_journal.specs.Books.{Books, booked, booked_in, committed, flush_answer, has_stopped, holder, pinned, same_version, unpinned, version_of}
use Rattle.xod_journal.specs.Changes.{all_applied}
use Rattle.xod_journal.specs.Seats.{Seat, entered, has_open, is_over, seat_in, seat_of}
use Rattle.xod_journal.specs.Standing.{Newest, Standing, after, after_step, changes_fit, fit_there, moved, opening, rows_at}
use Rattle.xod_journal.specs.Txns.{FitsRows, OpenTxn, pinned_of}
use Rattle.xod_journal.specs.declared.journal.JournalEntry.{JournalEntry}
use Rattle.xod_journal.specs.declared.journal.Origin.{Origin}
use Rattle.xod_journal.specs.declared.journal.Pinned.{Pinned}
use Rattle.xod_journal.specs.declared.journal.Step.{Step}
use Rattle.xod_journal.specs.declared.journal.Step.TheVariants as step
use Rattle.xod_journal.proofs.JournalLemmas.{after-append, after-booked, opening-told}
use Rattle.xod_journal.proofs.SeatLemmas.{same_version-refl}

-- ---- seats

-- an actor that has not stopped has some transaction open, or none
pub seat-going : (seat : Option Seat) → option_map is_over seat ≡ Some false → (txn : Option Pinned) × (seat ≡ Some (false, txn))
seat-going None going = absurd (none-some _ going)
seat-going (Some seat) going = (seat.1, (λ i. Some (same_Some _ _ going i, seat.1)))

pub seat-open : (seat : Option Seat) (has : Bool) → option_map has_open seat ≡ Some (false, has) → (txn : Option Pinned) × (seat ≡ Some (false, txn)) × (is_some txn ≡ has)
seat-open None has is = absurd (none-some _ is)
seat-open (Some seat) has is = let same = same_Some _ _ is in (seat.1, (λ i. Some ((same i).0, seat.1)), ap (λ (p : Bool × Bool). p.1) same)

-- ---- steps

taken : (now : Standing) (books : Books) (actor : ℕ) (st : Step) (txn : Option Pinned) → has_stopped now.books actor ≡ false → get now.books.txns actor ≡ txn → changes_fit now actor st ≡ true → booked_in now.books actor st txn ≡ Some books
    → after_step now actor st ≡ Some (moved now actor st books)
unfolding after_step booked
taken now books actor st txn going is_open fit done =
    ap (λ b. cond b (option_map (moved now actor st) (booked now.books actor st)) None) fit
    ∙ ap (option_map (moved now actor st)) (ap (λ b. cond b None (booked_in now.books actor st (get now.books.txns actor))) going ∙ ap (booked_in now.books actor st) is_open ∙ done)

module _ (start : Newest) (journal : List JournalEntry) (now : Standing) (stands : after (Some (opening start)) journal ≡ Some now) (actor : ℕ) (txn : Option Pinned) (seat : seat_of start journal actor ≡ Some (false, txn)) where
  pub stands-seat : seat_in actor now.books ≡ (false, txn)
  stands-seat = same_Some _ _ (ap (option_map (seat_in actor)) (sym (after-booked (opening start) now journal stands)) ∙ seat)

  goes : (st : Step) (books : Books) → changes_fit now actor st ≡ true → booked_in now.books actor st txn ≡ Some books → after (Some (opening start)) (entered journal actor st) ≡ Some (moved now actor st books)
  goes st books fit done =
      after-append (Some (opening start)) journal _ ∙ ap (λ o. after o (record { actor = actor; step = st } ∷ [])) stands
      ∙ taken now books actor st txn (ap is_over stands-seat) (ap (λ (s : Seat). s.1) stands-seat) fit done

  pub goes-begun : (mode : Mode) → txn ≡ None → holder now.books mode ≡ None
      → after (Some (opening start)) (entered journal actor (step.Begin mode)) ≡ Some (moved now actor (step.Begin mode) (pinned now.books actor (record { mode = mode; base = now.books.commit })))
  goes-begun mode none free =
      goes (step.Begin mode) _ refl (ap (booked_in now.books actor (step.Begin mode)) none
      ∙ ap (λ o. cond (is_some o) None (Some (pinned now.books actor (record { mode = mode; base = now.books.commit })))) free)

  pub goes-reverted : (held : Pinned) → txn ≡ Some held
      → after (Some (opening start)) (entered journal actor step.Revert) ≡ Some (moved now actor step.Revert (pinned now.books actor (record held { base = now.books.commit })))
  goes-reverted held is = goes step.Revert _ refl (ap (booked_in now.books actor step.Revert) is)

  pub goes-ended : (held : Pinned) → txn ≡ Some held → after (Some (opening start)) (entered journal actor step.End) ≡ Some (moved now actor step.End (unpinned now.books actor))
  goes-ended held is = goes step.End _ refl (ap (booked_in now.books actor step.End) is)

  pub goes-synced : after (Some (opening start)) (entered journal actor step.Sync) ≡ Some (moved now actor step.Sync (record now.books { synced = now.books.commit }))
  goes-synced = goes step.Sync _ refl refl

  pub goes-stopped : (line : ℕ) (cause : Cause) (origin : Origin)
      → after (Some (opening start)) (entered journal actor (step.Stop line cause origin))
      ≡ Some (moved now actor (step.Stop line cause origin) (record (unpinned now.books actor) { stopped = insert now.books.stopped actor tt }))
  goes-stopped line cause origin = goes (step.Stop line cause origin) _ refl refl

  -- a transaction that is the one open for the actor
  module _ (held : OpenTxn) (is : txn ≡ Some (pinned_of held)) (fits : FitsRows (rows_at held.base start.rows journal) held) where
    fit : (version : Option ℕ) → changes_fit now actor (step.Flush held.own version) ≡ true
    fit version =
        ap (λ o. fit_there o held.own) ((opening-told start now journal stands).bases actor (pinned_of held) (ap (λ (s : Seat). s.1) stands-seat ∙ is)).1 ∙ fits.fit

    pub goes-flushed : (answered : FlushAnswer) → flush_answer now.books.commit held.base held.own ≡ answered
        → after (Some (opening start)) (entered journal actor (step.Flush held.own (version_of answered)))
        ≡ Some (moved now actor (step.Flush held.own (version_of answered)) (committed now.books actor (pinned_of held) (version_of answered)))
    goes-flushed answered answer =
        goes (step.Flush held.own (version_of answered)) _ (fit (version_of answered))
        (ap (booked_in now.books actor (step.Flush held.own (version_of answered))) is
        ∙ ap (λ b. cond b (Some (committed now.books actor (pinned_of held) (version_of answered))) None)
        (ap (λ a. same_version (version_of answered) (version_of a)) answer ∙ same_version-refl (version_of answered)))

    -- at the newest commit its rows are the newest ones with its changes
    pub newest-held : held.base ≡ now.books.commit → held.rows ≡ all_applied now.rows held.own
    newest-held here = fits.now ∙ ap (λ r. all_applied r held.own) (ap (λ n. rows_at n start.rows journal) here ∙ (opening-told start now journal stands).past now.books.commit (omega arith))
