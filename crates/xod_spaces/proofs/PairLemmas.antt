-- Two sessions over one space go on together.
use Rattle.std.proofs.Common.{◌≡◌, ℕ, Bool, true, false, List, [], ◌∷◌, ◌++◌, Option, Some, None, refl, sym, ap, ◌∙◌, IsTrue}
use Rattle.std.specs.Prelude.{◌&&◌, ◌==◌, if◌then◌else◌}
use Rattle.std.specs.List.{list_all}
use Rattle.std.proofs.lemmas.Bool.{false≢true}
use Rattle.std.proofs.lemmas.List.Folds.{list_all-append}
use Rattle.xod_base.specs.declared.causes.Cause.{Cause}
use Rattle.xod_lang.specs.WellFormed.{is_well_formed, is_well_formed_session}
use Rattle.xod_lang.specs.declared.script.Script.{Script}
use Rattle.xod_lang.specs.declared.script.SessionScript.{SessionScript}
use Rattle.xod_journal.specs.Spaces.{IsSpace, KeepsSpace, SpaceView}
use Rattle.xod_journal.specs.Txns.{OpenTxn}
use Rattle.xod_session.specs.declared.course.SharedStep.{SharedStep}
use Rattle.xod_session.specs.declared.row.Halt.{Halt}
use Rattle.xod_session.specs.declared.session.Next.{Next}
use Rattle.xod_session.specs.declared.session.Next.TheVariants as next
use Rattle.xod_session.specs.declared.session.Session.{Session}
use Rattle.xod_session.specs.Calls.{Grows, next_with}
use Rattle.xod_session.specs.Seats.{Plays, view_of}
use Rattle.xod_session.proofs.CallerLemmas.{beside}
use Rattle.xod_spaces.specs.Pairs.{PlayBoth}

both_true : (a b : Bool) → (a && b) ≡ true → (a ≡ true) × (b ≡ true)
both_true true b e = (refl, e)
both_true false b e = absurd (false≢true e)

-- the last of some scripts is well formed, and so are the others
pub last-formed : (scripts others : List SessionScript) (last : SessionScript) → scripts ≡ others ++ last ∷ [] → list_all is_well_formed_session scripts ≡ true
    → (list_all is_well_formed_session others ≡ true) × (is_well_formed_session last ≡ true)
last-formed scripts others last is formed =
    let parts = both_true (list_all is_well_formed_session others) _ (sym (list_all-append is_well_formed_session others (last ∷ [])) ∙ ap (list_all is_well_formed_session) (sym is) ∙ formed) in
    (parts.0, (both_true (is_well_formed_session last) true parts.1).0)

pub sessions-formed : (script : Script) → IsTrue (is_well_formed script) → list_all is_well_formed_session script.sessions ≡ true
unfolding is_well_formed
sessions-formed script formed = (both_true (list_all is_well_formed_session script.sessions) _ formed).0

module _ {Open : Type 0} (tells : Open → Bool) (txn : Open → OpenTxn) (faults : Open → ℕ) (old new : SpaceView) (lawful : IsSpace new) (keeps : KeepsSpace old new) where
  -- a turn of one of two sessions
  pub turned : (mine before after other : Session Open) → PlayBoth tells txn faults old mine other → before.actor ≡ mine.actor → after.actor ≡ before.actor → Plays tells txn faults new after → Grows old.journal new.journal before.actor
      → PlayBoth tells txn faults new after other
  turned mine before after other both is same plays grows = record {
    mine_plays = plays;
    other_plays = beside tells txn faults old new (view_of other) before.actor keeps lawful grows (ap (λ n. n == other.actor) is ∙ both.apart) both.other_plays;
    apart = ap (λ n. n == other.actor) (same ∙ is) ∙ both.apart;
    beside = ap (λ n. other.actor == n) (same ∙ is) ∙ both.beside;
  }

-- what comes next is a shared step, so each private statement was answered
pub unmet : (stopped : Bool) (front : Option (ℕ × SharedStep)) (met : Option Halt) (one : Next) → one ≡ (if stopped then next.Finished else next_with front met) → ((line : ℕ) (why : Cause) → one ≡ next.Stop line why → ⊥) → (one ≡ next.Finished → ⊥) → met ≡ None
unmet true front met one is no_stop no_end = absurd (no_end is)
unmet false None met one is no_stop no_end = absurd (no_end is)
unmet false (Some front) None one is no_stop no_end = refl
unmet false (Some front) (Some halt) one is no_stop no_end = absurd (no_stop halt.line halt.cause is)
