-- What a flush of the environment answers, in the words of a store, and why it refuses.
use Rattle.std.proofs.Common.{◌≡◌, ℕ, suc, ◌+◌, Bool, true, false, cond, List, None, inl, inr, refl, sym, ap, ◌∙◌, nat_eq, eqb-true, eq-eqb}
use Rattle.std.specs.Prelude.{◌↔◌, ◌||◌, IsTrue, Result, Ok, Err}
use Rattle.std.proofs.lemmas.Bool.{false≢true}
use Rattle.xod_base.specs.declared.answer.FlushAnswer.{FlushAnswer}
use Rattle.xod_base.specs.declared.answer.FlushAnswer.TheVariants as answer
use Rattle.xod_base.specs.declared.causes.Place.{Place}
use Rattle.xod_env.specs.declared.error.EnvError.{EnvError}
use Rattle.xod_env.specs.declared.error.EnvError.TheVariants as env_error
use Rattle.xod_env.specs.declared.error.FlushError.{FlushError}
use Rattle.xod_env.specs.declared.error.FlushError.TheVariants as flush_error
use Rattle.xod_env.specs.declared.flushed.Flushed.{Flushed}
use Rattle.xod_env.specs.declared.flushed.Flushed.TheVariants as flushed
use Rattle.xod_env.specs.Errors.{flush_error_of}
use Rattle.xod_env.specs.Flushes.{GoesOn, IsConflict, IsSpent, IsUntouched, is_commit, last_commit}
use Rattle.xod_estxn.specs.Txns.{IsKept}
use Rattle.xod_journal.specs.declared.change.RowChange.{RowChange}
use Rattle.xod_journal.specs.Books.{flush_answer}
use Rattle.xod_journal.specs.Spaces.{HasReason, Refuses, SpaceView}
use Rattle.xod_journal.proofs.CallerLemmas.{flush-nothing, flush-conflict, flush-commits}
use Rattle.xod_log.specs.declared.log.Log.{Log}
use Rattle.xod_log.specs.Standing.{is_due, is_last, last_file}
use Rattle.xod_overlay.specs.Marks.{TouchMap}
use Rattle.xod_store.specs.Causes.{cause_of}
use Rattle.xod_store.specs.Flushed.{answered}
use Rattle.xod_store.specs.Views.{is_spent}
use Rattle.xod_store.proofs.Writing.{spent-stays}

-- ---- what the environment said

-- what is behind an answer
abbrev pub said : Result FlushAnswer EnvError → Result Flushed FlushError
said (Ok answer.Nothing) = Ok flushed.Nothing
said (Ok (answer.Committed version fault)) = Ok (flushed.Commit version)
said (Ok (answer.Conflict base now)) = Err (flush_error.Conflict base now)
said (Err error) = Err (flush_error_of error)

said-answered : (result : Result Flushed FlushError) → said (answered result) ≡ result
said-answered (Ok flushed.Nothing) = refl
said-answered (Ok (flushed.Commit version)) = refl
said-answered (Err flush_error.Broken) = refl
said-answered (Err flush_error.Device) = refl
said-answered (Err (flush_error.Damaged place)) = refl
said-answered (Err (flush_error.NumbersSpent last)) = refl
said-answered (Err flush_error.Memory) = refl
said-answered (Err (flush_error.Conflict base now)) = refl

pub behind : (result : Result Flushed FlushError) (told : Result FlushAnswer EnvError) → answered result ≡ told → result ≡ said told
behind result told is = sym (said-answered result) ∙ ap said is

module _ {result : Result Flushed FlushError} {was_broken : Bool} {touches : ℕ → TouchMap} {base commit : ℕ} {own : List RowChange} (kept : IsKept own touches)
    (broken : (result ≡ Err flush_error.Broken) ↔ (was_broken ≡ true)) (nothing : (result ≡ Ok flushed.Nothing) ↔ ((was_broken ≡ false) × IsUntouched touches))
    (conflict : (seen now : ℕ) → (result ≡ Err (flush_error.Conflict seen now)) ↔ IsConflict was_broken touches base commit seen now) where
  -- ---- it was not broken

  whole : ((result ≡ Err flush_error.Broken) → ⊥) → was_broken ≡ false
  whole other = elim was_broken as (λ b. was_broken ≡ b → was_broken ≡ false) [ true ↦ λ is. absurd (other (broken.1 is)) | false ↦ λ is. is ] refl

  pub whole-nothing : result ≡ Ok flushed.Nothing → was_broken ≡ false
  whole-nothing at = (nothing.0 at).0

  pub whole-conflict : (seen now : ℕ) → result ≡ Err (flush_error.Conflict seen now) → was_broken ≡ false
  whole-conflict seen now at = ((conflict seen now).0 at).whole

  pub whole-commit : (version : ℕ) → result ≡ Ok (flushed.Commit version) → was_broken ≡ false
  whole-commit version at = whole (λ is. absurd (cc))

  -- nor is it so after a commit
  pub unbroken-commit : (version : ℕ) → result ≡ Ok (flushed.Commit version) → (is_broken : Bool) → (was_broken ≡ false → is_broken ≡ true → result ≡ Err flush_error.Device) → is_broken ≡ false
  unbroken-commit version at false breaks = refl
  unbroken-commit version at true breaks = let no = breaks (whole-commit version at) refl in absurd (cc)

  -- ---- what it answers

  pub answer-nothing : result ≡ Ok flushed.Nothing → flush_answer commit base own ≡ answer.Nothing
  answer-nothing at = flush-nothing commit base own (kept.alike.1 ((nothing.0 at).1))

  pub answer-conflict : (seen now : ℕ) → result ≡ Err (flush_error.Conflict seen now) → flush_answer commit base own ≡ answer.Conflict seen now
  answer-conflict seen now at =
      let is = (conflict seen now).0 at in
      flush-conflict commit base own (λ none. is.touched (kept.alike.0 none)) is.other ∙ (λ i. answer.Conflict (sym is.seen_is i) (sym is.now_is i))

  pub some-commit : (version : ℕ) → result ≡ Ok (flushed.Commit version) → IsUntouched touches → ⊥
  some-commit version at none = let is = nothing.1 (whole-commit version at, none) in absurd (cc)

  pub here-commit : (version : ℕ) → result ≡ Ok (flushed.Commit version) → base ≡ commit
  here-commit version at = elim (nat_eq base commit) as (λ b. nat_eq base commit ≡ b → base ≡ commit) [
    | true ↦ λ is. eqb-true base commit is
    | false ↦ λ is.
        let other = (conflict base commit).1 (record {
          whole = whole-commit version at;
          touched = some-commit version at;
          other = λ same. false≢true (sym is ∙ eq-eqb base commit same);
          seen_is = refl;
          now_is = refl;
        }) in
        absurd (cc)
  ] refl

  pub answer-commit : (version : ℕ) → result ≡ Ok (flushed.Commit version) → version ≡ commit + 1 → flush_answer commit base own ≡ answer.Committed version None
  answer-commit version at next =
      flush-commits commit base own (λ none. some-commit version at (kept.alike.0 none)) (here-commit version at) ∙ ap (λ n. answer.Committed n None) (sym next)

  -- ---- the last number

  module _ {log log2 : Log} (commit2 : ℕ) (goes_on : GoesOn log log2 (is_commit result)) where
    -- no commit, and the number of the newest one is the same
    pub last-refused : is_commit result ≡ false → commit2 ≡ commit → IsTrue (is_spent log commit) → IsTrue (is_spent log2 commit2)
    last-refused none same = spent-stays log log2 commit commit2 (λ is. ap (λ n. nat_eq n last_file) (goes_on.refused none) ∙ is) same

    -- a commit comes neither after the last number nor into a file behind the last one
    pub last-commit : (version : ℕ) → result ≡ Ok (flushed.Commit version) → (is_due log ≡ true → is_last log ≡ true → is_commit result ≡ false)
        → (was_broken ≡ false → ¬ (IsUntouched touches) → base ≡ commit → commit ≡ last_commit → result ≡ Err (flush_error.NumbersSpent last_commit))
        → IsTrue (is_spent log commit) → IsTrue (is_spent log2 commit2)
    last-commit version at by_file by_commit spent =
        split (is_last log) refl (nat_eq commit last_commit) refl spent
      where
        made : is_commit result ≡ true
        made = ap is_commit at

        stays : is_last log ≡ true → log2.file ≡ log.file
        stays is = elim (is_due log) as (λ b. is_due log ≡ b → log2.file ≡ cond b (suc log.file) log.file → log2.file ≡ log.file) [
          | true ↦ λ due _. absurd (false≢true (sym (by_file due is) ∙ made))
          | false ↦ λ due same. same
        ] refl (goes_on.committed made)

        split : (b : Bool) → is_last log ≡ b → (d : Bool) → nat_eq commit last_commit ≡ d → (b || d) ≡ true → is_spent log2 commit2 ≡ true
        split true is d there _ = ap (λ b. b || nat_eq commit2 last_commit) (ap (λ n. nat_eq n last_file) (stays is) ∙ is)
        split false is true there _ =
            let other = by_commit (whole-commit version at) (some-commit version at) (here-commit version at) (eqb-true commit last_commit there) in
            absurd (cc)
        split false is false there some = absurd (false≢true some)

    -- ---- why it refuses

    flush-reason : (old : SpaceView) (rose spent : Type 0) (error : EnvError) → result ≡ Err (flush_error_of error) → old.is_broken ≡ was_broken → (result ≡ Err flush_error.Device → rose)
        → (IsTrue old.tells → (place : Place) → ¬ (result ≡ Err (flush_error.Damaged place))) → ((last : ℕ) → result ≡ Err (flush_error.NumbersSpent last) → IsSpent commit log last)
        → commit2 ≡ commit → (IsTrue (is_spent log2 commit2) → spent) → HasReason old rose spent (cause_of error)
    flush-reason old rose spent env_error.Broken at same up undamaged by_last is to = same ∙ broken.0 at
    flush-reason old rose spent env_error.Device at same up undamaged by_last is to = (up at, same ∙ whole (λ no. absurd (cc)))
    flush-reason old rose spent (env_error.Damaged place) at same up undamaged by_last is to =
        (elim (old.tells) as (λ b. old.tells ≡ b → old.tells ≡ false) [ true ↦ λ told. absurd (undamaged told place at) | false ↦ λ told. told ] refl, same ∙ whole (λ no. absurd (cc)))
    flush-reason old rose spent (env_error.NumbersSpent last) at same up undamaged by_last is to = (
      to (last-refused (ap is_commit at) is (elim (by_last last at) [
        | inl number ↦ ap (λ n. is_last log || nat_eq n last_commit) number.0 ∙ any (is_last log)
        | inr file ↦ ap (λ b. b || nat_eq commit last_commit) file.at_last
      ])),
      same ∙ whole (λ no. absurd (cc)),
    )
      where
        any : (b : Bool) → (b || true) ≡ true
        any true = refl
        any false = refl
    flush-reason old rose spent env_error.Memory at same up undamaged by_last is to = tt

    pub flush-refused : (old new : SpaceView) (rose spent : Type 0) (error : EnvError) → result ≡ Err (flush_error_of error) → new.journal ≡ old.journal → old.is_broken ≡ was_broken → (result ≡ Err flush_error.Device → rose)
        → (IsTrue old.tells → (place : Place) → ¬ (result ≡ Err (flush_error.Damaged place))) → ((last : ℕ) → result ≡ Err (flush_error.NumbersSpent last) → IsSpent commit log last)
        → commit2 ≡ commit → (IsTrue (is_spent log2 commit2) → spent) → Refuses old new rose spent (cause_of error)
    flush-refused old new rose spent error at same_journal same up undamaged by_last is to =
        record { journal_same = same_journal; why = flush-reason old rose spent error at same up undamaged by_last is to }
