-- What an entry leaves of what a store knows of its rows.
use Rattle.std.proofs.Common.{◌≡◌, ℕ, true, false, cond, List, [], ◌∷◌, Option, Some, None, refl, sym, ap, subst, ◌∙◌, arith}
use Rattle.std.specs.Prelude.{IsTrue, is_some, option_map}
use Rattle.std.specs.Option.{unwrap_or}
use Rattle.std.proofs.lemmas.Bool.{false≢true}
use Rattle.std.proofs.lemmas.Option.{none-some, same_Some}
use Rattle.xod_base.specs.Rows.{RowsValue, is_sound, no_rows}
use Rattle.xod_base.specs.Views.{Tree, Trees}
use Rattle.xod_journal.specs.declared.change.RowChange.{RowChange}
use Rattle.xod_journal.specs.declared.journal.JournalEntry.{JournalEntry}
use Rattle.xod_journal.specs.declared.journal.Step.{Step}
use Rattle.xod_journal.specs.declared.journal.Step.TheVariants as step
use Rattle.xod_journal.specs.Books.{Books, all_booked, booked}
use Rattle.xod_journal.specs.Changes.{all_applied, all_fit}
use Rattle.xod_journal.specs.Seats.{Seat, books_after, entered, seat_of}
use Rattle.xod_journal.specs.Standing.{Newest, Standing, after, after_step, changes_fit, fit_there, moved, newest_after, newest_step, opening, rows_at}
use Rattle.xod_journal.specs.Txns.{FitsRows, OpenTxn, pinned_of}
use Rattle.xod_journal.proofs.CallerLemmas.{after-append, after-booked, after-newest, all_booked-append, newest_after-append, opening-told, stands-seat}
use Rattle.xod_cache.specs.Kinds.{kinds_after}
use Rattle.xod_cache.proofs.KindLemmas.{kinds-follow}
use Rattle.xod_estxn.specs.Txns.{IsOver, base_rows}
use Rattle.xod_overlay.specs.Marks.{TouchMap, overlaid, overlaid_trees}
use Rattle.xod_tables.specs.Reading.{rows_of}
use Rattle.xod_tables.specs.Tables.{AreTables}
use Rattle.xod_tables.specs.declared.trees.TheConstants.{NAMES, NUMBERS, NEXT, ENTITIES, PROPERTIES, INDEX, LINKS, BACK}
use Rattle.xod_tables.proofs.CallerLemmas.{rows_of_tables, tables_of_rows}
use Rattle.xod_store.specs.Parts.{IsTold}

-- where the journal stands
pub record Stands (start : Newest) (journal : List JournalEntry) : Type 0 where
  pub now : Standing
  pub is : after (Some (opening start)) journal ≡ Some now

pub stands : (start : Newest) (journal : List JournalEntry) → is_some (after (Some (opening start)) journal) ≡ true → Stands start journal
stands start journal some =
    elim (after (Some (opening start)) journal) as (λ o. after (Some (opening start)) journal ≡ o → is_some o ≡ true → Stands start journal) [
      | None ↦ λ is some. absurd (false≢true some)
      | Some now ↦ λ is some. record { now = now; is = is }
    ] refl some

-- a step that the books admit and whose changes fit
entered-stands : (start : Newest) (journal : List JournalEntry) (now : Standing) (actor : ℕ) (st : Step) → after (Some (opening start)) journal ≡ Some now → changes_fit now actor st ≡ true
    → is_some (books_after start (entered journal actor st)) ≡ true → is_some (after (Some (opening start)) (entered journal actor st)) ≡ true
unfolding after_step
entered-stands start journal now actor st is fit there =
    let admitted : books_after start (entered journal actor st) ≡ booked now.books actor st =
    all_booked-append _ journal _ ∙ ap (λ o. all_booked o (record { actor = actor; step = st } ∷ [])) (after-booked (opening start) now journal is) in
    ap is_some (after-append (Some (opening start)) journal _ ∙ ap (λ o. after o (record { actor = actor; step = st } ∷ [])) is ∙ ap (λ b. cond b (option_map (moved now actor st) (booked now.books actor st)) None) fit)
    ∙ mapped (booked now.books actor st) ∙ ap is_some (sym admitted) ∙ there
  where
    mapped : (o : Option Books) → is_some (option_map (moved now actor st) o) ≡ is_some o
    mapped None = refl
    mapped (Some books) = refl

module _ (start : Newest) (journal : List JournalEntry) (trees : Trees) (kinds : List (List ℕ)) (old : IsTold start journal trees kinds) where
  pub stands-now : Stands start journal
  stands-now = stands start journal old.stands

  -- nothing changed that is known
  pub told-same : (journal2 : List JournalEntry) (trees2 : Trees) (kinds2 : List (List ℕ)) → journal2 ≡ journal → trees2 ≡ trees → kinds2 ≡ kinds → IsTold start journal2 trees2 kinds2
  told-same journal2 trees2 kinds2 same over named = record {
    stands = ap (λ j. is_some (after (Some (opening start)) j)) same ∙ old.stands;
    sound = old.sound;
    tables = ap rows_of over ∙ old.tables ∙ ap (λ j. Some ((newest_after start j).rows)) (sym same);
    kinds_are = named ∙ old.kinds_are ∙ ap (λ j. ((newest_after start j).rows).types) (sym same);
  }

  -- one entry more
  pub told-entered : (actor : ℕ) (st : Step) (grown : List JournalEntry) (trees2 : Trees) (kinds2 : List (List ℕ)) → ((now : Standing) → after (Some (opening start)) journal ≡ Some now → changes_fit now actor st ≡ true)
      → grown ≡ entered journal actor st → is_some (books_after start grown) ≡ true
      → rows_of trees2 ≡ Some ((newest_step (newest_after start journal) st).rows) → kinds2 ≡ ((newest_step (newest_after start journal) st).rows).types → IsTold start grown trees2 kinds2
  told-entered actor st grown trees2 kinds2 fit entry booked tables named =
      let s = stands-now in
      let newest = ap (newest_after start) entry ∙ newest_after-append start journal _ in
      record {
        stands = ap (λ j. is_some (after (Some (opening start)) j)) entry ∙ entered-stands start journal s.now actor st s.is (fit s.now s.is) (ap (λ j. is_some (books_after start j)) (sym entry) ∙ booked);
        sound = old.sound;
        tables = tables ∙ ap (λ (n : Newest). Some n.rows) (sym newest);
        kinds_are = named ∙ ap (λ (n : Newest). (n.rows).types) (sym newest);
      }

  -- one entry more that is no flush
  pub told-quiet : (actor : ℕ) (st : Step) (grown : List JournalEntry) (trees2 : Trees) (kinds2 : List (List ℕ)) → ((now : Standing) → changes_fit now actor st ≡ true) → ((n : Newest) → newest_step n st ≡ n)
      → grown ≡ entered journal actor st → is_some (books_after start grown) ≡ true → trees2 ≡ trees → kinds2 ≡ kinds → IsTold start grown trees2 kinds2
  told-quiet actor st grown trees2 kinds2 fit stays entry booked over named =
      let same = sym (stays (newest_after start journal)) in
      told-entered actor st grown trees2 kinds2 (λ now _. fit now) entry booked
      (ap rows_of over ∙ old.tables ∙ ap (λ (n : Newest). Some n.rows) same) (named ∙ old.kinds_are ∙ ap (λ (n : Newest). (n.rows).types) same)

  -- the newest rows are those after the newest commit
  pub newest-rows : rows_at ((newest_after start journal).commit) start.rows journal ≡ (newest_after start journal).rows
  newest-rows =
      let s = stands-now in
      let newest = after-newest (opening start) s.now journal s.is in
      ap (λ (n : Newest). rows_at n.commit start.rows journal) newest ∙ (opening-told start s.now journal s.is).past s.now.books.commit (omega arith) ∙ ap (λ (n : Newest). n.rows) (sym newest)

  -- ---- a flush of the transaction that an actor has open

  module _ (actor : ℕ) (held : OpenTxn) (seat : seat_of start journal actor ≡ Some (false, Some (pinned_of held))) (fits : FitsRows (rows_at held.base start.rows journal) held) where
    flush-fits : (version : Option ℕ) (now : Standing) → after (Some (opening start)) journal ≡ Some now → changes_fit now actor (step.Flush held.own version) ≡ true
    flush-fits version now is =
        let here = ap (λ (s : Seat). s.1) (stands-seat start journal now is actor (Some (pinned_of held)) seat) in
        ap (λ o. fit_there o held.own) ((opening-told start now journal is).bases actor (pinned_of held) here).1 ∙ fits.fit

    pub told-unchanged : (grown : List JournalEntry) (trees2 : Trees) (kinds2 : List (List ℕ)) → grown ≡ entered journal actor (step.Flush held.own None) → is_some (books_after start grown) ≡ true
        → trees2 ≡ trees → kinds2 ≡ kinds → IsTold start grown trees2 kinds2
    told-unchanged grown trees2 kinds2 entry booked over named =
        told-entered actor (step.Flush held.own None) grown trees2 kinds2 (flush-fits None) entry booked (ap rows_of over ∙ old.tables) (named ∙ old.kinds_are)

    -- at the newest commit it began with the newest rows
    pub began-newest : held.base ≡ (newest_after start journal).commit → held.begun ≡ (newest_after start journal).rows
    began-newest here = fits.began ∙ ap (λ n. rows_at n start.rows journal) here ∙ newest-rows

    pub told-committed : (version : ℕ) (grown : List JournalEntry) (trees2 : Trees) (kinds2 : List (List ℕ)) → held.base ≡ (newest_after start journal).commit
        → grown ≡ entered journal actor (step.Flush held.own (Some version)) → is_some (books_after start grown) ≡ true
        → rows_of trees2 ≡ Some (all_applied ((newest_after start journal).rows) held.own) → kinds2 ≡ kinds_after kinds held.own → IsTold start grown trees2 kinds2
    told-committed version grown trees2 kinds2 here entry booked tables named =
        let fit : all_fit ((newest_after start journal).rows) held.own ≡ true = subst (λ r. all_fit r held.own ≡ true) (ap (λ n. rows_at n start.rows journal) here ∙ newest-rows) fits.fit in
        told-entered actor (step.Flush held.own (Some version)) grown trees2 kinds2 (flush-fits (Some version)) entry booked tables
        (named ∙ ap (λ k. kinds_after k held.own) old.kinds_are ∙ kinds-follow ((newest_after start journal).rows) held.own fit)

-- ---- touched keys over trees

-- trees that are the tables of one rows are so with one overlay
module _ (touches : ℕ → TouchMap) (trees other : Trees) (rows later : RowsValue) (these : AreTables trees rows) (those : AreTables other rows) (shown : AreTables (overlaid_trees touches trees) later) where
  over : (tree : ℕ) → trees tree ≡ other tree → overlaid_trees touches other tree ≡ overlaid_trees touches trees tree
  over tree same = ap (option_map (λ (base : Tree). overlaid base (touches tree))) (sym same)

  pub over-same : AreTables (overlaid_trees touches other) later
  over-same = record {
    sound = shown.sound;
    names = over NAMES (these.names ∙ sym those.names) ∙ shown.names;
    numbers = over NUMBERS (these.numbers ∙ sym those.numbers) ∙ shown.numbers;
    nexts = over NEXT (these.nexts ∙ sym those.nexts) ∙ shown.nexts;
    entities = over ENTITIES (these.entities ∙ sym those.entities) ∙ shown.entities;
    properties = over PROPERTIES (these.properties ∙ sym those.properties) ∙ shown.properties;
    indexed = over INDEX (these.indexed ∙ sym those.indexed) ∙ shown.indexed;
    linked = over LINKS (these.linked ∙ sym those.linked) ∙ shown.linked;
    linked_back = over BACK (these.linked_back ∙ sym those.linked_back) ∙ shown.linked_back;
  }

-- the newest trees with a transaction's touched keys, where its base is the newest commit
pub overlaid-rows : (touches : ℕ → TouchMap) (trees newest : Trees) (rows : RowsValue) (own : List RowChange) → IsOver trees own touches → base_rows trees ≡ rows → rows_of newest ≡ Some rows
    → rows_of (overlaid_trees touches newest) ≡ Some (all_applied rows own)
overlaid-rows touches trees newest rows own kept began there =
    let base : AreTables trees rows = subst (AreTables trees) began kept.base in
    let seen : AreTables (overlaid_trees touches trees) (all_applied rows own) = subst (λ r. AreTables (overlaid_trees touches trees) (all_applied r own)) began kept.seen in
    rows_of_tables _ _ (over-same touches trees newest rows (all_applied rows own) base (tables_of_rows newest rows there) seen)

-- ---- a new store

pub told-new : (start : Newest) (journal : List JournalEntry) (trees : Trees) (kinds : List (List ℕ)) → start.rows ≡ base_rows trees → journal ≡ [] → option_map (λ (r : RowsValue). r.types) (rows_of trees) ≡ Some kinds → IsTold start journal trees kinds
told-new start journal trees kinds rows none named =
    elim (rows_of trees) as (λ o. rows_of trees ≡ o → option_map (λ (r : RowsValue). r.types) o ≡ Some kinds → IsTold start journal trees kinds) [
      | None ↦ λ is named. absurd (none-some kinds named)
      | Some there ↦ λ is named.
          let same : start.rows ≡ there = rows ∙ ap (λ o. unwrap_or o no_rows) is in
          record {
            stands = ap (λ j. is_some (after (Some (opening start)) j)) none;
            sound = subst (λ r. IsTrue (is_sound r)) (sym same) (tables_of_rows trees there is).sound;
            tables = is ∙ ap Some (sym same) ∙ ap (λ j. Some ((newest_after start j).rows)) (sym none);
            kinds_are = sym (same_Some _ _ named) ∙ ap (λ (r : RowsValue). r.types) (sym same) ∙ ap (λ j. ((newest_after start j).rows).types) (sym none);
          }
    ] refl named
