-- What a session knows of its transaction is what the books have.
use Rattle.std.proofs.Common.{◌≡◌, ℕ, zero, suc, ◌+◌, Bool, true, false, cond, List, [], ◌∷◌, ◌++◌, Option, Some, None, refl, sym, ap, subst, ◌∙◌, arith, eqb-true, eq-eqb}
use Rattle.std.specs.Prelude.{option_map, ◌==◌, ◌&&◌, is_some, drop, Ok, Err}
use Rattle.std.specs.Ordering.{nat_cmp}
use Rattle.std.specs.FinMap.{FinMap, get, insert, remove, get-empty}
use Rattle.std.proofs.lemmas.Option.{none-some, same_Some}
use Rattle.std.proofs.lemmas.Bool.{false≢true}
use Rattle.xod_base.specs.declared.query.Act.{Act}
use Rattle.xod_base.specs.declared.query.Act.TheVariants as act
use Rattle.xod_base.specs.declared.query.Mode.{Mode}
use Rattle.xod_base.specs.declared.query.Mode.TheVariants.{Ordinary, ReadOnly, Exclusive}
use Rattle.xod_base.specs.declared.answer.FlushAnswer.{FlushAnswer}
use Rattle.xod_base.specs.declared.answer.Reply.{Reply}
use Rattle.xod_base.specs.declared.causes.Cause.{Cause}
use Rattle.xod_base.specs.Rows.{RowsValue}
use Rattle.xod_lang.specs.declared.script.Form.{Form}
use Rattle.xod_lang.specs.declared.script.Form.TheVariants as form
use Rattle.xod_lang.specs.declared.script.Statement.{Statement}
use Rattle.xod_journal.specs.declared.change.RowChange.{RowChange}
use Rattle.xod_journal.specs.declared.journal.JournalEntry.{JournalEntry}
use Rattle.xod_journal.specs.declared.journal.Origin.{Origin}
use Rattle.xod_journal.specs.declared.journal.Pinned.{Pinned}
use Rattle.xod_journal.specs.declared.journal.Step.{Step}
use Rattle.xod_journal.specs.declared.journal.Step.TheVariants as step
use Rattle.xod_journal.specs.Books.{Books, booked, booked_in, has_stopped, holder, pinned, unpinned, committed, same_version, version_of, flush_answer}
use Rattle.xod_journal.specs.Changes.{all_applied, all_fit, applied, are_all_named, fits, has_names, outcome_of}
use Rattle.xod_journal.specs.Laws.{ExpansionsFit, IsTold, NamesStay, SameIsEqual}
use Rattle.xod_journal.specs.Standing.{Newest, Standing, after, after_step, changes_fit, fit_there, moved, newest_step, opening}
use Rattle.xod_journal.specs.Txns.{FitsRows, OpenTxn, pinned_of, txn_acted, txn_at, txn_flushed}
use Rattle.xod_journal.proofs.CallerLemmas.{flush_cases, get-inserted, get-inserted_other, get-removed, get-removed_other, newest_after-append, step-told, stepped}
use Rattle.xod_session.specs.declared.course.Due.{Due}
use Rattle.xod_session.specs.declared.course.Due.TheVariants.{Fresh, Ending, Reverting}
use Rattle.xod_session.specs.declared.course.SharedStep.{SharedStep}
use Rattle.xod_session.specs.declared.course.SharedStep.TheVariants as shared
use Rattle.xod_session.specs.Laws.{FitsBase, Holds}
use Rattle.xod_session.specs.Private.{answered_in, outcome_unless}
use Rattle.xod_session.specs.Scripts.{are_named, is_named_form}
use Rattle.xod_session.specs.Sessions.{answered_by, answered_first, answered_with, can_stop, entry_seen, front_taken, halted, private_before, private_count, readied, session_after, session_step, step_taken, stop_taken}
use Rattle.xod_session.specs.Sessions as sessions
use Rattle.xod_session.specs.States.{Block, Place, Said, SessionState, opened}
use Rattle.xod_session.specs.Turns.{Turned, asks_then, back_to, flush_there, flush_turned, placed_fresh, placed_then, same_changes, same_mode, tried, turned, turned_to}
use Rattle.xod_session.specs.Variables.{Variables, first_unset, id_in, words_of}
use Rattle.xod_session.specs.World.{newest_in}
use Rattle.xod_session.proofs.OptionLemmas.{and_true, both_true, let_through}
use Rattle.xod_session.proofs.SameLemmas.{same_changes-is, same_mode-is, same_version-is}
use Rattle.xod_session.proofs.SessionLemmas.{session_after-none}

-- ---- changes one after another

all_applied-append : (rows : RowsValue) (a b : List RowChange) → all_applied rows (a ++ b) ≡ all_applied (all_applied rows a) b
all_applied-append rows [] b = refl
all_applied-append rows (change ∷ a) b = all_applied-append (applied rows change) a b

all_fit-append : (rows : RowsValue) (a b : List RowChange) → all_fit rows a ≡ true → all_fit (all_applied rows a) b ≡ true → all_fit rows (a ++ b) ≡ true
all_fit-append rows [] b p q = q
all_fit-append rows (change ∷ a) b p q =
    let t = both_true (fits rows change) (all_fit (applied rows change) a) p in
    and_true (fits rows change) (all_fit (applied rows change) (a ++ b)) t.0 (all_fit-append (applied rows change) a b t.1 q)

all_applied-named : NamesStay → (rows : RowsValue) (changes : List RowChange) → are_all_named rows ≡ true → all_fit rows changes ≡ true → are_all_named (all_applied rows changes) ≡ true
all_applied-named stay rows [] named fit = named
all_applied-named stay rows (change ∷ more) named fit =
    let t = both_true (fits rows change) (all_fit (applied rows change) more) fit in
    all_applied-named stay (applied rows change) more (stay.1 rows change named t.0) t.1

-- ---- private statements

module _ (fit : ExpansionsFit) (stay : NamesStay) where
  outcome-fits : (mode : Mode) (rows : RowsValue) (a : Act) (changes : List RowChange) → are_all_named rows ≡ true → has_names a ≡ true → outcome_of mode rows a ≡ Ok changes → all_fit rows changes ≡ true
  outcome-fits ReadOnly rows a changes rows_named named e = absurd cc
  outcome-fits Ordinary rows a changes rows_named named e = fit rows a changes rows_named named e
  outcome-fits Exclusive rows a changes rows_named named e = fit rows a changes rows_named named e

  -- a transaction after a private statement is the one that it was, with more changes that fit
  pub record Goes (base : Option RowsValue) (old new : OpenTxn) : Type 0 where
    pub same : pinned_of new ≡ pinned_of old
    pub fits : FitsBase base new

  module _ (base : Option RowsValue) (base_named : (rows : RowsValue) → base ≡ Some rows → are_all_named rows ≡ true) where
    acted-goes : (txn : OpenTxn) (a : Act) → has_names a ≡ true → FitsBase base txn → Goes base txn (txn_acted txn (outcome_of txn.mode txn.rows a))
    acted-goes txn a named f =
        elim (outcome_of txn.mode txn.rows a) as (λ o. outcome_of txn.mode txn.rows a ≡ o → Goes base txn (txn_acted txn o)) [
          | Ok changes ↦ λ is.
              let rows_named : are_all_named txn.rows ≡ true = subst (λ r. are_all_named r ≡ true) (sym f.fits.now) (all_applied-named stay f.rows txn.own (base_named f.rows f.is) f.fits.fit) in
              record {
                same = refl;
                fits = record {
                  rows = f.rows;
                  is = f.is;
                  fits = record {
                    began = f.fits.began;
                    fit = all_fit-append f.rows txn.own changes f.fits.fit (subst (λ r. all_fit r changes ≡ true) f.fits.now (outcome-fits txn.mode txn.rows a changes rows_named named is));
                    now = ap (λ r. all_applied r changes) f.fits.now ∙ sym (all_applied-append f.rows txn.own changes);
                  };
                };
              }
          | Err error ↦ λ is. record { same = refl; fits = f }
        ] refl

    unless-goes : (vars : Variables) (txn : OpenTxn) (f : Form) (name : Option (List ℕ)) → is_named_form f ≡ true → FitsBase base txn → Goes base txn (outcome_unless vars txn f name).txn
    unless-goes vars txn f (Some name) named held = record { same = refl; fits = held }
    unless-goes vars txn (form.New kind var) None named held = acted-goes txn (act.New kind) named held
    unless-goes vars txn (form.Delete ent) None named held = acted-goes txn (act.Delete (id_in vars ent)) refl held
    unless-goes vars txn (form.Set ent prop value) None named held = acted-goes txn (act.Set (id_in vars ent) prop value) named held
    unless-goes vars txn (form.Unset ent prop) None named held = acted-goes txn (act.Unset (id_in vars ent) prop) named held
    unless-goes vars txn (form.Link source link target) None named held = acted-goes txn (act.Link (id_in vars source) link (id_in vars target)) named held
    unless-goes vars txn (form.SetLink source link target) None named held = acted-goes txn (act.SetLink (id_in vars source) link (id_in vars target)) named held
    unless-goes vars txn (form.Unlink source link target) None named held = acted-goes txn (act.Unlink (id_in vars source) link (id_in vars target)) named held
    unless-goes vars txn (form.UnlinkAll source link) None named held = acted-goes txn (act.UnlinkAll (id_in vars source) link) named held
    unless-goes vars txn (form.Show ent) None named held = record { same = refl; fits = held }
    unless-goes vars txn (form.Query draft) None named held = record { same = refl; fits = held }
    unless-goes vars txn (form.Count draft) None named held = record { same = refl; fits = held }
    unless-goes vars txn (form.Begin mode) None named held = record { same = refl; fits = held }
    unless-goes vars txn form.Flush None named held = record { same = refl; fits = held }
    unless-goes vars txn form.Revert None named held = record { same = refl; fits = held }
    unless-goes vars txn form.End None named held = record { same = refl; fits = held }
    unless-goes vars txn form.Commit None named held = record { same = refl; fits = held }
    unless-goes vars txn form.Sync None named held = record { same = refl; fits = held }
    unless-goes vars txn (form.Do tries) None named held = record { same = refl; fits = held }
    unless-goes vars txn form.Done None named held = record { same = refl; fits = held }

    pub answered-goes : (count : ℕ) (said : Said) (txn : OpenTxn) (rest : List Statement) → are_named rest ≡ true → FitsBase base txn → Goes base txn (answered_by count said txn rest).1
    answered-goes zero said txn rest named held = record { same = refl; fits = held }
    answered-goes (suc count) said txn [] named held = record { same = refl; fits = held }
    answered-goes (suc count) said txn (statement ∷ more) named held =
        let t = both_true (is_named_form statement.form) (are_named more) named in
        let new = answered_in said txn statement.line statement.form in
        let one = unless-goes said.variables txn statement.form (first_unset said.variables (words_of statement.form)) t.0 held in
        let all = answered-goes count new.0 new.1 more t.1 one.fits in
        record { same = all.same ∙ one.same; fits = all.fits }

-- ---- names of statements still to come

abbrev pub is_named_block : Option Block → Bool
is_named_block None = true
is_named_block (Some block) = are_named block.body

pub are_named-drop : (count : ℕ) (rest : List Statement) → are_named rest ≡ true → are_named (drop count rest) ≡ true
are_named-drop zero rest named = named
are_named-drop (suc count) [] named = named
are_named-drop (suc count) (statement ∷ more) named = are_named-drop count more (both_true (is_named_form statement.form) (are_named more) named).1

placed_fresh-named : (place : Place) (statement : Statement) (more : List Statement) (f : Form) (reply : Reply) → are_named (statement ∷ more) ≡ true → are_named more ≡ true → is_named_block place.block ≡ true
    → (are_named (placed_fresh place statement more f reply).rest ≡ true) × (is_named_block (placed_fresh place statement more f reply).block ≡ true)
placed_fresh-named place statement more (form.Do tries) reply all rest block = (rest, rest)
placed_fresh-named place statement more form.Commit reply all rest block = (all, block)
placed_fresh-named place statement more form.Done reply all rest block = (all, block)
placed_fresh-named place statement more other reply all rest block = (rest, block)

back-named : (block : Option Block) (rest : List Statement) → are_named rest ≡ true → is_named_block block ≡ true → (are_named (back_to block rest) ≡ true) × (is_named_block (tried block) ≡ true)
back-named None rest all block = (all, refl)
back-named (Some b) rest all block = (block, block)

pub placed-named : (place : Place) (due : Due) (statement : Statement) (more : List Statement) (reply : Reply) → are_named (statement ∷ more) ≡ true → are_named more ≡ true → is_named_block place.block ≡ true
    → (are_named (placed_then place due statement more reply).rest ≡ true) × (is_named_block (placed_then place due statement more reply).block ≡ true)
placed-named place Fresh statement more reply all rest block = placed_fresh-named place statement more statement.form reply all rest block
placed-named place Ending statement more reply all rest block = (rest, refl)
placed-named place Reverting statement more reply all rest block = back-named place.block (statement ∷ more) all block

placed_fresh-stopped : (place : Place) (statement : Statement) (more : List Statement) (f : Form) (reply : Reply) → (placed_fresh place statement more f reply).stopped ≡ place.stopped
placed_fresh-stopped place statement more (form.Do tries) reply = refl
placed_fresh-stopped place statement more form.Commit reply = refl
placed_fresh-stopped place statement more form.Done reply = refl
placed_fresh-stopped place statement more other reply = refl

pub placed-stopped : (place : Place) (due : Due) (statement : Statement) (more : List Statement) (reply : Reply) → (placed_then place due statement more reply).stopped ≡ place.stopped
placed-stopped place Fresh statement more reply = placed_fresh-stopped place statement more statement.form reply
placed-stopped place Ending statement more reply = refl
placed-stopped place Reverting statement more reply = refl

-- ---- names of rows

-- the newest rows, and those that transactions began with, have names of 1 to 255 bytes alone
pub record RowsNamed (now : Standing) : Type 0 where
  pub newest : are_all_named now.rows ≡ true
  pub bases : (actor : ℕ) (rows : RowsValue) → get now.bases actor ≡ Some rows → are_all_named rows ≡ true

-- maps by actor, one key set or taken out
set_named : (bases : FinMap nat_cmp RowsValue) (a : ℕ) (rows : RowsValue) → are_all_named rows ≡ true → ((actor : ℕ) (r : RowsValue) → get bases actor ≡ Some r → are_all_named r ≡ true)
    → (actor : ℕ) (r : RowsValue) → get (insert bases a rows) actor ≡ Some r → are_all_named r ≡ true
set_named bases a rows named all actor r is =
    elim (actor == a) as (λ b. (actor == a) ≡ b → are_all_named r ≡ true) [
      | true ↦ λ e. subst (λ k. are_all_named k ≡ true) (same_Some _ _ (sym (get-inserted bases a rows) ∙ ap (get (insert bases a rows)) (sym (eqb-true actor a e)) ∙ is)) named
      | false ↦ λ e. all actor r (sym (get-inserted_other bases a actor rows e) ∙ is)
    ] refl

unset_named : (bases : FinMap nat_cmp RowsValue) (a : ℕ) → ((actor : ℕ) (r : RowsValue) → get bases actor ≡ Some r → are_all_named r ≡ true)
    → (actor : ℕ) (r : RowsValue) → get (remove bases a) actor ≡ Some r → are_all_named r ≡ true
unset_named bases a all actor r is =
    elim (actor == a) as (λ b. (actor == a) ≡ b → are_all_named r ≡ true) [
      | true ↦ λ e. absurd (none-some r (sym (ap (get (remove bases a)) (eqb-true actor a e) ∙ get-removed bases a) ∙ is))
      | false ↦ λ e. all actor r (sym (get-removed_other bases a actor e) ∙ is)
    ] refl

version_base : (commit base version : ℕ) (changes : List RowChange) → same_version (Some version) (version_of (flush_answer commit base changes)) ≡ true → base ≡ commit
version_base commit base version changes =
    flush_cases (λ a. same_version (Some version) (version_of a) ≡ true → base ≡ commit) commit base changes (λ no. absurd (false≢true no)) (λ here yes. here) (λ no. absurd (false≢true no))

fit_rows : (base : Option RowsValue) (rows : RowsValue) (changes : List RowChange) → base ≡ Some rows → fit_there base changes ≡ true → all_fit rows changes ≡ true
fit_rows None rows changes is fit = absurd (none-some rows is)
fit_rows (Some r) rows changes is fit = subst (λ k. all_fit k changes ≡ true) (same_Some _ _ is) fit

module _ (stay : NamesStay) (start : Newest) (journal : List JournalEntry) (now : Standing) (told : IsTold start journal now) where
  -- the rows that a commit is made on
  base_rows : (a : ℕ) (t : Pinned) → get now.books.txns a ≡ Some t → t.base ≡ now.books.commit → get now.bases a ≡ Some now.rows
  base_rows a t is here = (told.bases a t is).1 ∙ ap Some (told.past t.base (omega arith))

  commit_named : (a : ℕ) (changes : List RowChange) (version : ℕ) (t : Pinned) (books : Books) → RowsNamed now → fit_there (get now.bases a) changes ≡ true → get now.books.txns a ≡ Some t
      → booked_in now.books a (step.Flush changes (Some version)) (Some t) ≡ Some books → are_all_named (all_applied now.rows changes) ≡ true
  commit_named a changes version t books named fit is b =
      let v = let_through (same_version (Some version) (version_of (flush_answer now.books.commit t.base changes))) (Some (committed now.books a t (Some version))) books b in
      let base = base_rows a t is (version_base now.books.commit t.base version changes v.0) in
      all_applied-named stay now.rows changes named.newest (fit_rows (get now.bases a) now.rows changes base fit)

  pub booked_named : (a : ℕ) (st : Step) (t : Option Pinned) (books : Books) → RowsNamed now → changes_fit now a st ≡ true → get now.books.txns a ≡ t → booked_in now.books a st t ≡ Some books → RowsNamed (moved now a st books)
  booked_named a (step.Begin mode) t books named fit is b = record { newest = named.newest; bases = set_named now.bases a now.rows named.newest named.bases }
  booked_named a (step.Flush changes None) t books named fit is b = record { newest = named.newest; bases = named.bases }
  booked_named a (step.Flush changes (Some version)) None books named fit is b = absurd (none-some books b)
  booked_named a (step.Flush changes (Some version)) (Some t) books named fit is b =
      let rows = commit_named a changes version t books named fit is b in
      record { newest = rows; bases = set_named now.bases a (all_applied now.rows changes) rows named.bases }
  booked_named a step.Revert t books named fit is b = record { newest = named.newest; bases = set_named now.bases a now.rows named.newest named.bases }
  booked_named a step.End t books named fit is b = record { newest = named.newest; bases = unset_named now.bases a named.bases }
  booked_named a step.Sync t books named fit is b = record { newest = named.newest; bases = named.bases }
  booked_named a (step.Stop line cause origin) t books named fit is b = record { newest = named.newest; bases = unset_named now.bases a named.bases }

pub not_stopped : (books next : Books) (actor : ℕ) (st : Step) → booked books actor st ≡ Some next → (has_stopped books actor ≡ false) × (booked_in books actor st (get books.txns actor) ≡ Some next)
unfolding booked
not_stopped books next actor st e =
    elim (has_stopped books actor) as (λ b. cond b None (booked_in books actor st (get books.txns actor)) ≡ Some next → (b ≡ false) × (booked_in books actor st (get books.txns actor) ≡ Some next)) [
      | true ↦ λ e. absurd (none-some next e)
      | false ↦ λ e. (refl, e)
    ] e

flipped : (a b : ℕ) → (a == b) ≡ false → (b == a) ≡ false
flipped a b e = elim (b == a) as (λ p. (b == a) ≡ p → p ≡ false) [ true ↦ λ f. absurd (false≢true (sym e ∙ eq-eqb a b (sym (eqb-true b a f)))) | false ↦ λ f. refl ] refl

after-none : (journal : List JournalEntry) → after None journal ≡ None
after-none [] = refl
after-none (entry ∷ more) = after-none more

-- the newest rows before and after one entry more
told-newest : (start : Newest) (journal : List JournalEntry) (now next : Standing) (entry : JournalEntry) → IsTold start journal now → IsTold start (journal ++ entry ∷ []) next → newest_step (newest_in now) entry.step ≡ newest_in next
told-newest start journal now next entry old new = ap (λ n. newest_step n entry.step) (sym old.newest) ∙ sym (newest_after-append start journal (entry ∷ [])) ∙ new.newest

-- ---- steps of others

module _ (now : Standing) (actor : ℕ) (stopped : Bool) (txn : Option OpenTxn) (held : Holds now actor stopped txn) where
  elsewhere : (later : Standing) → has_stopped later.books actor ≡ has_stopped now.books actor → get later.books.txns actor ≡ get now.books.txns actor → get later.bases actor ≡ get now.bases actor → Holds later actor stopped txn
  elsewhere later s t b = record { stopped = s ∙ held.stopped; open_is = t ∙ held.open_is; fits = λ x e. subst (λ o. FitsBase o x) (sym b) (held.fits x e) }

  pub others-hold : (a : ℕ) (st : Step) (t : Option Pinned) (books : Books) → (actor == a) ≡ false → booked_in now.books a st t ≡ Some books → Holds (moved now a st books) actor stopped txn
  others-hold a (step.Begin mode) None books other e =
      elim (is_some (holder now.books mode)) as (λ b. cond b None (Some (pinned now.books a (record { mode = mode; base = now.books.commit }))) ≡ Some books → Holds (moved now a (step.Begin mode) books) actor stopped txn) [
        | true ↦ λ is. absurd (none-some books is)
        | false ↦ λ is. subst (λ b. Holds (moved now a (step.Begin mode) b) actor stopped txn) (same_Some _ _ is) (elsewhere _ refl (get-inserted_other now.books.txns a actor _ other) (get-inserted_other now.bases a actor _ other))
      ] e
  others-hold a (step.Begin mode) (Some t) books other e = absurd (none-some books e)
  others-hold a (step.Flush changes version) None books other e = absurd (none-some books e)
  others-hold a (step.Flush changes None) (Some t) books other e =
      let v = let_through (same_version None (version_of (flush_answer now.books.commit t.base changes))) (Some now.books) books e in
      subst (λ b. Holds (moved now a (step.Flush changes None) b) actor stopped txn) (same_Some _ _ v.1) (elsewhere _ refl refl refl)
  others-hold a (step.Flush changes (Some version)) (Some t) books other e =
      let v = let_through (same_version (Some version) (version_of (flush_answer now.books.commit t.base changes))) (Some (committed now.books a t (Some version))) books e in
      subst (λ b. Holds (moved now a (step.Flush changes (Some version)) b) actor stopped txn) (same_Some _ _ v.1) (elsewhere _ refl (get-inserted_other now.books.txns a actor _ other) (get-inserted_other now.bases a actor _ other))
  others-hold a step.Revert None books other e = absurd (none-some books e)
  others-hold a step.Revert (Some t) books other e = subst (λ b. Holds (moved now a step.Revert b) actor stopped txn) (same_Some _ _ e) (elsewhere _ refl (get-inserted_other now.books.txns a actor _ other) (get-inserted_other now.bases a actor _ other))
  others-hold a step.End None books other e = absurd (none-some books e)
  others-hold a step.End (Some t) books other e = subst (λ b. Holds (moved now a step.End b) actor stopped txn) (same_Some _ _ e) (elsewhere _ refl (get-removed_other now.books.txns a actor other) (get-removed_other now.bases a actor other))
  others-hold a step.Sync t books other e = subst (λ b. Holds (moved now a step.Sync b) actor stopped txn) (same_Some _ _ e) (elsewhere _ refl refl refl)
  others-hold a (step.Stop line cause origin) t books other e =
      subst (λ b. Holds (moved now a (step.Stop line cause origin) b) actor stopped txn) (same_Some _ _ e)
      (elsewhere _ (ap is_some (get-inserted_other now.books.stopped a actor _ other)) (get-removed_other now.books.txns a actor other) (get-removed_other now.bases a actor other))

-- ---- its own steps

module _ (same : SameIsEqual) (start : Newest) (journal : List JournalEntry) (now : Standing) (told : IsTold start journal now) (actor : ℕ) where
  put : (later : Standing) (txn : OpenTxn) (rows : RowsValue) → has_stopped later.books actor ≡ false → get later.books.txns actor ≡ Some (pinned_of txn) → get later.bases actor ≡ Some rows
      → FitsRows rows txn → Holds later actor false (Some txn)
  put later txn rows s t b fits = record { stopped = s; open_is = t; fits = λ x e. subst (FitsBase (get later.bases actor)) (same_Some _ _ e) (record { rows = rows; is = b; fits = fits }) }

  taken_out : (later : Standing) (stopped : Bool) → has_stopped later.books actor ≡ stopped → get later.books.txns actor ≡ None → Holds later actor stopped None
  taken_out later stopped s t = record { stopped = s; open_is = t; fits = λ x e. absurd (none-some x e) }

  -- a transaction at the newest commit has the newest rows under its own changes
  at_newest : (txn : OpenTxn) → Holds now actor false (Some txn) → txn.base ≡ now.books.commit → txn.rows ≡ all_applied now.rows txn.own
  at_newest txn held here =
      let f = held.fits txn refl in
      let base = (told.bases actor (pinned_of txn) held.open_is).1 in
      let newest = told.past txn.base (omega arith) in
      f.fits.now ∙ ap (λ r. all_applied r txn.own) (same_Some _ _ (sym f.is ∙ base ∙ ap Some newest))

  flush-holds : (txn : OpenTxn) → Holds now actor false (Some txn) → (a : FlushAnswer) → flush_answer now.books.commit txn.base txn.own ≡ a
      → Holds (moved now actor (step.Flush txn.own (version_of a)) (committed now.books actor (pinned_of txn) (version_of a))) actor false (Some (txn_flushed txn a))
  flush-holds txn held a is =
      subst (λ a. Holds (moved now actor (step.Flush txn.own (version_of a)) (committed now.books actor (pinned_of txn) (version_of a))) actor false (Some (txn_flushed txn a))) is
      (flush_cases (λ a. Holds (moved now actor (step.Flush txn.own (version_of a)) (committed now.books actor (pinned_of txn) (version_of a))) actor false (Some (txn_flushed txn a))) now.books.commit txn.base txn.own
      (elsewhere now actor false (Some txn) held _ refl refl refl)
      (λ here. put _ (record txn { base = now.books.commit + 1; begun = txn.rows; own = [] }) (all_applied now.rows txn.own) held.stopped (get-inserted now.books.txns actor _) (get-inserted now.bases actor _) (record { began = at_newest txn held here; fit = refl; now = at_newest txn held here }))
      (elsewhere now actor false (Some txn) held _ refl refl refl))

  flush-turned : (txn : OpenTxn) (changes : List RowChange) (version : Option ℕ) (done : Turned) (books : Books) → Holds now actor false (Some txn)
      → flush_turned (newest_in now) txn changes version ≡ Some done → booked_in now.books actor (step.Flush changes version) (Some (pinned_of txn)) ≡ Some books
      → Holds (moved now actor (step.Flush changes version) books) actor false done.txn
  flush-turned txn changes version done books held e b =
      let a : FlushAnswer = flush_there (newest_in now) txn in
      let l = let_through (same_changes changes txn.own && same_version version (version_of a)) (Some (turned_to (Some (txn_flushed txn a)) (Rattle.xod_base.specs.declared.answer.Reply.TheVariants.Flushed a))) done e in
      let t = both_true (same_changes changes txn.own) (same_version version (version_of a)) l.0 in
      let own : changes ≡ txn.own = same_changes-is same changes txn.own t.0 in
      let v : version ≡ version_of a = same_version-is version (version_of a) t.1 in
      let done_is : done.txn ≡ Some (txn_flushed txn a) = ap (λ (d : Turned). d.txn) (sym (same_Some _ _ l.1)) in
      let books_is : committed now.books actor (pinned_of txn) version ≡ books = same_Some _ _ (let_through (same_version version (version_of (flush_answer now.books.commit txn.base changes))) (Some (committed now.books actor (pinned_of txn) version)) books b).1 in
      subst (Holds (moved now actor (step.Flush changes version) books) actor false) (sym done_is)
      (subst (λ k. Holds (moved now actor (step.Flush changes version) k) actor false (Some (txn_flushed txn a))) books_is
      (subst (λ v. Holds (moved now actor (step.Flush changes v) (committed now.books actor (pinned_of txn) v)) actor false (Some (txn_flushed txn a))) (sym v)
      (subst (λ c. Holds (moved now actor (step.Flush c (version_of a)) (committed now.books actor (pinned_of txn) (version_of a))) actor false (Some (txn_flushed txn a))) (sym own)
      (flush-holds txn held a refl))))

  begin-turned : (mode given : Mode) (done : Turned) (books : Books) → Holds now actor false None
      → turned (Some (shared.Begin mode)) (newest_in now) None (step.Begin given) ≡ Some done → booked_in now.books actor (step.Begin given) None ≡ Some books
      → Holds (moved now actor (step.Begin given) books) actor false done.txn
  begin-turned mode given done books held e b =
      let l = let_through (same_mode mode given) _ done e in
      let done_is : Some (txn_at mode (newest_in now)) ≡ done.txn = ap (λ (d : Turned). d.txn) (same_Some _ _ l.1) in
      elim (is_some (holder now.books given)) as (λ p. cond p None (Some (pinned now.books actor (record { mode = given; base = now.books.commit }))) ≡ Some books → Holds (moved now actor (step.Begin given) books) actor false done.txn) [
        | true ↦ λ b. absurd (none-some books b)
        | false ↦ λ b. subst (λ k. Holds (moved now actor (step.Begin given) k) actor false done.txn) (same_Some _ _ b)
            (subst (Holds (moved now actor (step.Begin given) (pinned now.books actor (record { mode = given; base = now.books.commit }))) actor false) done_is
            (put _ (txn_at mode (newest_in now)) now.rows held.stopped (get-inserted now.books.txns actor _ ∙ ap (λ m. Some (record { mode = m; base = now.books.commit })) (sym (same_mode-is mode given l.0))) (get-inserted now.bases actor _) (record { began = refl; fit = refl; now = refl })))
      ] b

  pub turned-holds : (asked : Option SharedStep) (txn : Option OpenTxn) (st : Step) (done : Turned) (books : Books) → Holds now actor false txn
      → turned asked (newest_in now) txn st ≡ Some done → booked_in now.books actor st (option_map pinned_of txn) ≡ Some books
      → Holds (moved now actor st books) actor false done.txn
  turned-holds (Some (shared.Begin mode)) None (step.Begin given) done books held e b = begin-turned mode given done books held e b
  turned-holds (Some shared.Flush) (Some txn) (step.Flush changes version) done books held e b = flush-turned txn changes version done books held e b
  turned-holds (Some shared.Revert) (Some txn) step.Revert done books held e b =
      subst (λ k. Holds (moved now actor step.Revert k) actor false done.txn) (same_Some _ _ b)
      (subst (Holds (moved now actor step.Revert (pinned now.books actor (record { mode = txn.mode; base = now.books.commit }))) actor false) (ap (λ (d : Turned). d.txn) (same_Some _ _ e))
      (put _ (txn_at txn.mode (newest_in now)) now.rows held.stopped (get-inserted now.books.txns actor _) (get-inserted now.bases actor _) (record { began = refl; fit = refl; now = refl })))
  turned-holds (Some shared.End) (Some txn) step.End done books held e b =
      subst (λ k. Holds (moved now actor step.End k) actor false done.txn) (same_Some _ _ b)
      (subst (Holds (moved now actor step.End (unpinned now.books actor)) actor false) (ap (λ (d : Turned). d.txn) (same_Some _ _ e))
      (taken_out _ false held.stopped (get-removed now.books.txns actor)))
  turned-holds (Some shared.Sync) txn step.Sync done books held e b =
      subst (λ k. Holds (moved now actor step.Sync k) actor false done.txn) (same_Some _ _ b)
      (subst (Holds (moved now actor step.Sync (record now.books { synced = now.books.commit })) actor false) (ap (λ (d : Turned). d.txn) (same_Some _ _ e))
      (elsewhere now actor false txn held _ refl refl refl))
  turned-holds asked txn st done books held e b = absurd (none-some done e)

-- ---- a session agrees with the books

pub record Agrees (now : Standing) (actor : ℕ) (s : SessionState) : Type 0 where
  pub holds : Holds now actor s.place.stopped s.txn
  pub rest : are_named s.place.rest ≡ true
  pub block : is_named_block s.place.block ≡ true

module _ (fit : ExpansionsFit) (stay : NamesStay) (now : Standing) (actor : ℕ) (named : RowsNamed now) where
  with-agrees : (count : ℕ) (s : SessionState) (txn : Option OpenTxn) → s.txn ≡ txn → Agrees now actor s → Agrees now actor (answered_with count s txn)
  with-agrees count s None is agrees = agrees
  with-agrees count s (Some txn) is agrees =
      let all = answered-goes fit stay (get now.bases actor) (named.bases actor) count s.said txn s.place.rest agrees.rest (agrees.holds.fits txn is) in
      record {
        holds = record {
          stopped = agrees.holds.stopped;
          open_is = agrees.holds.open_is ∙ ap (option_map pinned_of) is ∙ ap Some (sym all.same);
          fits = λ t e. subst (FitsBase (get now.bases actor)) (same_Some _ _ e) all.fits;
        };
        rest = are_named-drop count s.place.rest agrees.rest;
        block = agrees.block;
      }

  pub answered-agrees : (count : ℕ) (s : SessionState) → Agrees now actor s → Agrees now actor (answered_first count s)
  answered-agrees count s agrees = with-agrees count s s.txn refl agrees

with-stopped : (count : ℕ) (s : SessionState) (txn : Option OpenTxn) → (answered_with count s txn).place.stopped ≡ s.place.stopped
with-stopped count s None = refl
with-stopped count s (Some txn) = refl

pub answered-stopped : (count : ℕ) (s : SessionState) → (answered_first count s).place.stopped ≡ s.place.stopped
answered-stopped count s = with-stopped count s s.txn

module _ (fit : ExpansionsFit) (stay : NamesStay) (same : SameIsEqual) (start : Newest) (journal : List JournalEntry) (now : Standing) (told : IsTold start journal now) (named : RowsNamed now) (actor : ℕ) where
  front-agrees : (s s2 : SessionState) (rest : List Statement) (st : Step) (books : Books) → s.place.rest ≡ rest → s.place.stopped ≡ false → Agrees now actor s
      → front_taken (newest_in now) s rest st ≡ Some s2 → booked_in now.books actor st (get now.books.txns actor) ≡ Some books → Agrees (moved now actor st books) actor s2
  front-agrees s s2 [] st books is free agrees e b = absurd (none-some s2 e)
  front-agrees s s2 (statement ∷ more) st books is free agrees e b =
      let held : Holds now actor false s.txn = subst (λ p. Holds now actor p s.txn) free agrees.holds in
      let b2 : booked_in now.books actor st (option_map pinned_of s.txn) ≡ Some books = subst (λ o. booked_in now.books actor st o ≡ Some books) agrees.holds.open_is b in
      let all : are_named (statement ∷ more) ≡ true = subst (λ l. are_named l ≡ true) is agrees.rest in
      let rest = (both_true (is_named_form statement.form) (are_named more) all).1 in
      elim (turned (asks_then s.place.due statement.form) (newest_in now) s.txn st) as (λ o. turned (asks_then s.place.due statement.form) (newest_in now) s.txn st ≡ o → sessions.stepped s statement more o ≡ Some s2 → Agrees (moved now actor st books) actor s2) [
        | None ↦ λ t e. absurd (none-some s2 e)
        | Some done ↦ λ t e. subst (Agrees (moved now actor st books) actor) (same_Some _ _ e) (record {
          holds = subst (λ p. Holds (moved now actor st books) actor p done.txn) (sym (placed-stopped s.place s.place.due statement more done.reply ∙ free)) (turned-holds same start journal now told actor (asks_then s.place.due statement.form) s.txn st done books held t b2);
          rest = (placed-named s.place s.place.due statement more done.reply all rest agrees.block).0;
          block = (placed-named s.place s.place.due statement more done.reply all rest agrees.block).1;
        })
      ] refl e

  halted-agrees : (s : SessionState) (line : ℕ) (cause : Cause) (origin : Origin) (books : Books) → Agrees now actor s
      → booked_in now.books actor (step.Stop line cause origin) (get now.books.txns actor) ≡ Some books → Agrees (moved now actor (step.Stop line cause origin) books) actor (halted s line cause)
  halted-agrees s line cause origin books agrees b =
      subst (λ k. Agrees (moved now actor (step.Stop line cause origin) k) actor (halted s line cause)) (same_Some _ _ b) (record {
        holds = taken_out same start journal now told actor _ true (ap is_some (get-inserted now.books.stopped actor _)) (get-removed now.books.txns actor);
        rest = agrees.rest;
        block = agrees.block;
      })

  ready-agrees : (s s2 : SessionState) (st : Step) (books : Books) → s.place.stopped ≡ false → Agrees now actor s → front_taken (newest_in now) (readied s) (readied s).place.rest st ≡ Some s2
      → booked_in now.books actor st (get now.books.txns actor) ≡ Some books → Agrees (moved now actor st books) actor s2
  ready-agrees s s2 st books free agrees e b =
      front-agrees (readied s) s2 (readied s).place.rest st books refl (answered-stopped (private_count s.place.rest) s ∙ free) (answered-agrees fit stay now actor named (private_count s.place.rest) s agrees) e b

  taken-agrees : (s s2 : SessionState) (st : Step) (books : Books) → s.place.stopped ≡ false → Agrees now actor s → step_taken (newest_in now) s st ≡ Some s2
      → booked_in now.books actor st (get now.books.txns actor) ≡ Some books → Agrees (moved now actor st books) actor s2
  taken-agrees s s2 (step.Stop line cause origin) books free agrees e b =
      let l = let_through (can_stop s.place line) (Some (halted (answered_first (private_before line s.place.rest) s) line cause)) s2 e in
      subst (Agrees (moved now actor (step.Stop line cause origin) books) actor) (same_Some _ _ l.1)
      (halted-agrees (answered_first (private_before line s.place.rest) s) line cause origin books (answered-agrees fit stay now actor named (private_before line s.place.rest) s agrees) b)
  taken-agrees s s2 (step.Begin mode) books free agrees e b = ready-agrees s s2 (step.Begin mode) books free agrees e b
  taken-agrees s s2 (step.Flush changes version) books free agrees e b = ready-agrees s s2 (step.Flush changes version) books free agrees e b
  taken-agrees s s2 step.Revert books free agrees e b = ready-agrees s s2 step.Revert books free agrees e b
  taken-agrees s s2 step.End books free agrees e b = ready-agrees s s2 step.End books free agrees e b
  taken-agrees s s2 step.Sync books free agrees e b = ready-agrees s s2 step.Sync books free agrees e b

  own-agrees : (later : Standing) (s s2 : SessionState) (st : Step) → Agrees now actor s → after_step now actor st ≡ Some later → session_step (newest_in now) s st ≡ Some s2 → Agrees later actor s2
  unfolding session_step
  own-agrees later s s2 st agrees a e =
      let x = stepped now later actor st a in
      let b = not_stopped now.books later.books actor st x.booked in
      elim s.place.stopped as (λ p. s.place.stopped ≡ p → cond p None (step_taken (newest_in now) s st) ≡ Some s2 → Agrees later actor s2) [
        | true ↦ λ p e. absurd (none-some s2 e)
        | false ↦ λ p e. subst (λ n. Agrees n actor s2) x.moved (taken-agrees s s2 st later.books p agrees e b.1)
      ] refl e

  others-agree : (later : Standing) (s : SessionState) (entry : JournalEntry) → (entry.actor == actor) ≡ false → Agrees now actor s → after_step now entry.actor entry.step ≡ Some later → Agrees later actor s
  others-agree later s entry other agrees a =
      let x = stepped now later entry.actor entry.step a in
      let b = not_stopped now.books later.books entry.actor entry.step x.booked in
      record {
        holds = subst (λ n. Holds n actor s.place.stopped s.txn) x.moved (others-hold now actor s.place.stopped s.txn agrees.holds entry.actor entry.step _ later.books (flipped entry.actor actor other) b.1);
        rest = agrees.rest;
        block = agrees.block;
      }

  named-step : (later : Standing) (a : ℕ) (st : Step) → after_step now a st ≡ Some later → RowsNamed later
  named-step later a st e =
      let x = stepped now later a st e in
      let b = not_stopped now.books later.books a st x.booked in
      subst RowsNamed x.moved (booked_named stay start journal now told a st _ later.books named x.fit refl b.1)

-- ---- over a journal

module _ (fit : ExpansionsFit) (stay : NamesStay) (same : SameIsEqual) (start : Newest) (actor : ℕ) where
  after-agrees : (before journal : List JournalEntry) (now later : Standing) (s s2 : SessionState)
      → IsTold start before now → RowsNamed now → Agrees now actor s → after (Some now) journal ≡ Some later → session_after (newest_in now) actor (Some s) journal ≡ Some s2 → RowsNamed later × Agrees later actor s2
  after-agrees before [] now later s s2 told named agrees a e =
      let same_now : now ≡ later = same_Some _ _ a in
      (subst RowsNamed same_now named, subst (λ n. Agrees n actor s2) same_now (subst (Agrees now actor) (same_Some _ _ e) agrees))
  after-agrees before (entry ∷ more) now later s s2 told named agrees a e =
      elim (after_step now entry.actor entry.step) as (λ o. after_step now entry.actor entry.step ≡ o → after o more ≡ Some later → RowsNamed later × Agrees later actor s2) [
        | None ↦ λ is a. absurd (none-some later (sym (after-none more) ∙ a))
        | Some here ↦ λ is a.
            let told2 = step-told start before now here entry told is in
            let newest = told-newest start before now here entry told told2 in
            let named2 = named-step fit stay same start before now told named actor here entry.actor entry.step is in
            elim (entry.actor == actor) as (λ p. (entry.actor == actor) ≡ p → session_after (newest_step (newest_in now) entry.step) actor (cond p (session_step (newest_in now) s entry.step) (Some s)) more ≡ Some s2 → RowsNamed later × Agrees later actor s2) [
              | true ↦ λ own e. elim (session_step (newest_in now) s entry.step) as (λ o. session_step (newest_in now) s entry.step ≡ o → session_after (newest_step (newest_in now) entry.step) actor o more ≡ Some s2 → RowsNamed later × Agrees later actor s2) [
                | None ↦ λ step e. absurd (none-some s2 (sym (session_after-none _ actor more) ∙ e))
                | Some s1 ↦ λ step e. after-agrees (before ++ entry ∷ []) more here later s1 s2 told2 named2
                    (own-agrees fit stay same start before now told named actor here s s1 entry.step agrees (subst (λ k. after_step now k entry.step ≡ Some here) (eqb-true entry.actor actor own) is) step)
                    a (subst (λ n. session_after n actor (Some s1) more ≡ Some s2) newest e)
              ] refl e
              | false ↦ λ other e. after-agrees (before ++ entry ∷ []) more here later s s2 told2 named2
                  (others-agree fit stay same start before now told named actor here s entry other agrees is)
                  a (subst (λ n. session_after n actor (Some s) more ≡ Some s2) newest e)
            ] refl e
      ] refl a

pub sessions-agree : ExpansionsFit → NamesStay → SameIsEqual → (start : Newest) (script : List Statement) (actor : ℕ) (journal : List JournalEntry) (now : Standing) (s : SessionState) (count : ℕ)
    → are_named script ≡ true → are_all_named start.rows ≡ true → after (Some (opening start)) journal ≡ Some now → session_after start actor (Some (opened script)) journal ≡ Some s
    → Holds now actor s.place.stopped (answered_first count s).txn
sessions-agree fit stay same start script actor journal now s count named rows_named a e =
    let all = after-agrees fit stay same start actor [] journal (opening start) now (opened script) s
    (record { newest = refl; past = λ n le. refl; bases = λ q txn is. absurd (none-some txn (sym (get-empty nat_cmp q) ∙ is)) })
    (record { newest = rows_named; bases = λ q rows is. absurd (none-some rows (sym (get-empty nat_cmp q) ∙ is)) })
    (record {
      holds = record { stopped = ap is_some (get-empty nat_cmp actor); open_is = get-empty nat_cmp actor; fits = λ t is. absurd (none-some t is) };
      rest = named;
      block = refl;
    }) a e in
    subst (λ p. Holds now actor p (answered_first count s).txn) (answered-stopped count s) (answered-agrees fit stay now actor all.0 count s all.1).holds
