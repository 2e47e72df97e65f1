-- A session over a journal that goes on, and over entries of others.
use Rattle.std.proofs.Common.{◌≡◌, ℕ, true, false, cond, List, [], ◌∷◌, ◌++◌, Option, Some, None, refl, ap, ◌∙◌, eq-eqb}
use Rattle.std.specs.Prelude.{option_and_then, ◌==◌, ◌&&◌, not}
use Rattle.std.specs.List.{list_all}
use Rattle.std.proofs.lemmas.Bool.{false≢true}
use Rattle.xod_journal.specs.declared.journal.JournalEntry.{JournalEntry}
use Rattle.xod_journal.specs.declared.journal.Step.{Step}
use Rattle.xod_journal.specs.Seats.{entered}
use Rattle.xod_journal.specs.Standing.{Newest, newest_step, newest_after}
use Rattle.xod_session.specs.Laws.{is_others}
use Rattle.xod_session.specs.Sessions.{entry_seen, session_after, session_step}
use Rattle.xod_session.specs.States.{SessionState}

pub session_after-append : (now : Newest) (actor : ℕ) (session : Option SessionState) (journal more : List JournalEntry)
    → session_after now actor session (journal ++ more) ≡ session_after (newest_after now journal) actor (session_after now actor session journal) more
session_after-append now actor session [] more = refl
session_after-append now actor session (entry ∷ journal) more = session_after-append (newest_step now entry.step) actor (entry_seen now actor entry session) journal more

pub session_after-none : (now : Newest) (actor : ℕ) (journal : List JournalEntry) → session_after now actor None journal ≡ None
session_after-none now actor [] = refl
session_after-none now actor (entry ∷ more) =
    elim (entry.actor == actor) as (λ b. session_after (newest_step now entry.step) actor (cond b None None) more ≡ None) [
      | true ↦ session_after-none (newest_step now entry.step) actor more
      | false ↦ session_after-none (newest_step now entry.step) actor more
    ]

pub others_leave : (now : Newest) (actor : ℕ) (session : Option SessionState) (journal : List JournalEntry)
    → list_all (is_others actor) journal ≡ true → session_after now actor session journal ≡ session
others_leave now actor session [] all = refl
others_leave now actor session (entry ∷ more) all =
    elim (entry.actor == actor) as (λ b. (not b && list_all (is_others actor) more) ≡ true
    → session_after (newest_step now entry.step) actor (cond b (option_and_then (λ here. session_step now here entry.step) session) session) more ≡ session) [
      | true ↦ λ all. absurd (false≢true all)
      | false ↦ λ all. others_leave (newest_step now entry.step) actor session more all
    ] all

-- a session that takes one more step of its own
pub session_after-entered : (start : Newest) (actor : ℕ) (session : Option SessionState) (journal : List JournalEntry) (here : SessionState) (taken : Step)
    → session_after start actor session journal ≡ Some here → session_after start actor session (entered journal actor taken) ≡ session_step (newest_after start journal) here taken
session_after-entered start actor session journal here taken is =
    session_after-append start actor session journal _
    ∙ ap (λ o. session_after (newest_after start journal) actor o (record { actor = actor; step = taken } ∷ [])) is
    ∙ ap (λ b. cond b (session_step (newest_after start journal) here taken) (Some here)) (eq-eqb actor actor refl)
