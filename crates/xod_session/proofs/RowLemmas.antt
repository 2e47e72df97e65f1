-- Private statements in a row, one after another.
use Rattle.std.proofs.Common.{◌≡◌, ℕ, suc, ◌+◌, Bool, true, false, cond, List, [], ◌∷◌, drop, Option, Some, None, refl, sym, ap, subst, ◌∙◌, arith, IsTrue}
use Rattle.std.specs.Prelude.{◌&&◌, Ok, Err}
use Rattle.std.proofs.lemmas.List.{drop-drop}
use Rattle.xod_base.specs.declared.causes.Cause.{Cause}
use Rattle.xod_lang.specs.declared.script.Statement.{Statement}
use Rattle.xod_journal.specs.Txns.{OpenTxn}
use Rattle.xod_session.specs.declared.dialogue.Dialogue.{Dialogue}
use Rattle.xod_session.specs.Answers.{Answers, AnswersRow, IsMetBy, Stays, count_until, first_line, is_below}
use Rattle.xod_session.specs.Dialogues.{HasStopRoom, form_printed, printed_by, printed_of}
use Rattle.xod_session.specs.Scripts.{are_named, is_named_form}
use Rattle.xod_session.specs.Sessions.{private_count}
use Rattle.xod_session.specs.Turns.{is_private}
use Rattle.xod_session.proofs.OptionLemmas.{both_true}

true_last : (b : Bool) → (b && true) ≡ b
true_last true = refl
true_last false = refl

-- a statement at the front counts where the row goes on to it
counted : (until : Option ℕ) (statement : Statement) (more : List Statement) → count_until until (statement ∷ more) ≡ cond (is_private statement.form && is_below until statement.line) (suc (count_until until more)) 0
counted None statement more = ap (λ b. cond b (suc (private_count more)) 0) (sym (true_last (is_private statement.form)))
counted (Some line) statement more = refl

none_counted : (until : Option ℕ) → count_until until [] ≡ 0
none_counted None = refl
none_counted (Some line) = refl

-- the front of a row that goes no further
reached : (until : Option ℕ) (rest : List Statement) → ((statement : Statement) (more : List Statement) → rest ≡ statement ∷ more → (is_private statement.form && is_below until statement.line) ≡ false) → count_until until rest ≡ 0
reached until [] stop = none_counted until
reached until (statement ∷ more) stop = counted until statement more ∙ ap (λ b. cond b (suc (count_until until more)) 0) (stop statement more refl)

module _ {Open : Type 0} (tells : Open → Bool) (txn : Open → OpenTxn) (faults : Open → ℕ) (rest : List Statement) (until : Option ℕ) (said : Dialogue) (old : Open) where
  stays_on : (first mid last : Open) → Stays tells txn faults first mid → Stays tells txn faults mid last → Stays tells txn faults first last
  stays_on first mid last a b = record { tells_same = b.tells_same ∙ a.tells_same; pinned_same = b.pinned_same ∙ a.pinned_same; never_falls = omega (arith, a.never_falls, b.never_falls) }

  -- the first statements were answered
  pub record Goes (count : ℕ) (now : Dialogue) (new : Open) : Type 0 where
    pub told : IsTrue (tells old) → (more : ℕ) → printed_by more (printed_of now) (txn new) (drop count rest) ≡ printed_by (count + more) (printed_of said) (txn old) rest
    pub private : count + count_until until (drop count rest) ≡ count_until until rest
    pub named : IsTrue (are_named (drop count rest))
    pub room : HasStopRoom said → HasStopRoom now
    pub stays : Stays tells txn faults old new

  answered_all : (count : ℕ) (now : Dialogue) (new : Open) → Goes count now new → IsTrue (tells old) → printed_by count (printed_of said) (txn old) rest ≡ (printed_of now, txn new)
  answered_all count now new goes t = ap (λ n. printed_by n (printed_of said) (txn old) rest) (omega arith) ∙ sym (goes.told t 0)

  pub ends : (count : ℕ) (now : Dialogue) (new : Open) → Goes count now new → ((statement : Statement) (more : List Statement) → drop count rest ≡ statement ∷ more → (is_private statement.form && is_below until statement.line) ≡ false)
      → AnswersRow tells txn faults rest until said now old new (record { count = count; met = None })
  ends count now new goes stop = record {
    within = omega (arith, goes.private);
    told = λ t. answered_all count now new goes t;
    halted = reached until (drop count rest) stop;
    room = goes.room;
    stays = goes.stays;
  }

  pub meets : (count : ℕ) (now later : Dialogue) (new newer : Open) (statement : Statement) (more : List Statement) (cause : Cause) → Goes count now new → drop count rest ≡ statement ∷ more
      → Answers tells txn faults (λ p t. form_printed p t statement.line statement.form) now later new newer (Err cause)
      → AnswersRow tells txn faults rest until said later old newer (record { count = count; met = Some (record { line = statement.line; cause = cause }) })
  meets count now later new newer statement more cause goes is a = record {
    within = omega (arith, goes.private);
    told = λ t. ap (λ s. s.0) (answered_all count now new goes t) ∙ sym a.silent;
    halted = (ap first_line is, subst (λ t. IsMetBy t (faults newer) cause) goes.stays.tells_same a.met);
    room = λ r. a.room (goes.room r);
    stays = stays_on old new newer goes.stays a.stays;
  }

  pub goes_on : (count : ℕ) (now later : Dialogue) (new newer : Open) (statement : Statement) (more : List Statement) (done : Unit {0}) → Goes count now new → drop count rest ≡ statement ∷ more → (is_private statement.form && is_below until statement.line) ≡ true
      → Answers tells txn faults (λ p t. form_printed p t statement.line statement.form) now later new newer (Ok done) → Goes (count + 1) later newer
  goes_on count now later new newer statement more done goes is private a =
      let next : drop (count + 1) rest ≡ more = sym (drop-drop 1 count rest) ∙ ap (drop 1) is in
      record {
        told = λ t n.
            ap (printed_by n (printed_of later) (txn newer)) next
            ∙ ap (λ s. printed_by n s.0 s.1 more) (a.told (subst IsTrue (sym goes.stays.tells_same) t))
            ∙ sym (ap (printed_by (suc n) (printed_of now) (txn new)) is)
            ∙ goes.told t (suc n)
            ∙ ap (λ k. printed_by k (printed_of said) (txn old) rest) (omega arith);
        private = omega (arith, goes.private, ap (count_until until) next, ap (count_until until) is, counted until statement more ∙ ap (λ b. cond b (suc (count_until until more)) 0) private);
        named = subst (λ l. IsTrue (are_named l)) (sym next) (both_true (is_named_form statement.form) (are_named more) (subst (λ l. are_named l ≡ true) is goes.named)).1;
        room = λ r. a.room (goes.room r);
        stays = stays_on old new newer goes.stays a.stays;
      }

pub same_front : (a b : Statement) (more others : List Statement) → ◌≡◌ {A = List Statement} (a ∷ more) (b ∷ others) → a ≡ b
same_front a b more others e = cc

pub no_more : (a : Statement) (more : List Statement) → ◌≡◌ {A = List Statement} [] (a ∷ more) → ⊥
no_more a more e = cc
