-- A journal that follows an order, one turn further.
use Rattle.std.proofs.Common.{◌≡◌, ◌≤◌, ◌<◌, ℕ, ◌+◌, Bool, true, false, cond, List, [], ◌∷◌, ◌++◌, map, Option, Some, None, refl, sym, ap, subst, ◌∙◌, inl, inr, arith, append-nil, append_assoc, eqb-true, eq-eqb}
use Rattle.std.specs.Prelude.{◌==◌, ◌&&◌, ◌||◌, not}
use Rattle.std.specs.List.{list_any}
use Rattle.std.specs.Cmp.Lexicographic.{bytes_decides}
use Rattle.std.proofs.lemmas.Option.{none-some, same_Some}
use Rattle.std.proofs.lemmas.Bool.{false≢true}
use Rattle.std.proofs.lemmas.List.Folds.{list_any-append}
use Rattle.xod_base.specs.Values.{same_bytes}
use Rattle.xod_lang.specs.declared.script.Item.{Item}
use Rattle.xod_lang.specs.declared.script.Item.TheVariants.{Turn}
use Rattle.xod_lang.specs.declared.script.Turned.{Turned}
use Rattle.xod_journal.specs.declared.journal.JournalEntry.{JournalEntry}
use Rattle.xod_journal.specs.declared.journal.Step.{Step}
use Rattle.xod_session.specs.Transcripts.{item_of, name_of, turned_of}
use Rattle.xod_session.specs.World.{entry_of}
use Rattle.xod_play.specs.Follows.{Follows, GoesOn, has_given_up, has_given_up_there, is_actor, is_passed, is_run_stop, number_named, session_of_item, without}
use Rattle.xod_play.specs.Players.{IsPlayedAs, IsStepOf}
use Rattle.xod_play.specs.Rounds.{unpassed}
use Rattle.xod_play.specs.Stops.{is_disturbed, is_met}

-- ---- who gave up

either_false : (b : Bool) → (b || false) ≡ b
either_false true = refl
either_false false = refl

neither_both : (b : Bool) → (b && false) ≡ false
neither_both true = refl
neither_both false = refl

both_and : (b : Bool) → (b && true) ≡ b
both_and true = refl
both_and false = refl

pub given-append : (journal more : List JournalEntry) (actor : ℕ) → has_given_up (journal ++ more) actor ≡ (has_given_up journal actor || has_given_up more actor)
given-append journal more actor = list_any-append (λ (e : JournalEntry). (e.actor == actor) && is_run_stop e) journal more

-- of one's own steps
pub given-own : (actor : ℕ) (steps : List Step) → has_given_up (map (entry_of actor) steps) actor ≡ list_any (is_met (λ why. true)) steps
given-own actor [] = refl
given-own actor (made ∷ more) = λ i. (eq-eqb actor actor refl i && is_met (λ why. true) made) || given-own actor more i

-- of another one's
pub given-other : (actor other : ℕ) (steps : List Step) → (actor == other) ≡ false → has_given_up (map (entry_of actor) steps) other ≡ false
given-other actor other [] apart = refl
given-other actor other (made ∷ more) apart = λ i. (apart i && is_met (λ why. true) made) || given-other actor other more apart i

-- a run in which a session gave up is disturbed
pub given-disturbed : (journal : List JournalEntry) (actor : ℕ) → has_given_up journal actor ≡ true → is_disturbed journal ≡ true
given-disturbed [] actor e = absurd (false≢true e)
given-disturbed (entry ∷ more) actor e =
    elim (is_run_stop entry) as (λ b. (((entry.actor == actor) && b) || has_given_up more actor) ≡ true → (b || is_disturbed more) ≡ true) [
      | true ↦ λ e. refl
      | false ↦ λ e. given-disturbed more actor (sym (ap (λ b. b || has_given_up more actor) (neither_both (entry.actor == actor))) ∙ e)
    ] e

-- one entry more
given_one : (journal : List JournalEntry) (actor : ℕ) (made : Step) (who : Option ℕ) → has_given_up_there (journal ++ entry_of actor made ∷ []) who ≡ (has_given_up_there journal who || (is_actor actor who && is_met (λ why. true) made))
given_one journal actor made None = refl
given_one journal actor made (Some other) = given-append journal (entry_of actor made ∷ []) other ∙ ap (λ b. has_given_up journal other || b) (either_false ((actor == other) && is_met (λ why. true) made))

-- a step that is no stop of this run
given_calm : (journal : List JournalEntry) (actor : ℕ) (made : Step) → is_met (λ why. true) made ≡ false → (who : Option ℕ) → has_given_up_there (journal ++ entry_of actor made ∷ []) who ≡ has_given_up_there journal who
given_calm journal actor made calm who =
    given_one journal actor made who ∙ ap (λ b. has_given_up_there journal who || (is_actor actor who && b)) calm
    ∙ ap (λ b. has_given_up_there journal who || b) (neither_both (is_actor actor who)) ∙ either_false (has_given_up_there journal who)

-- a stop
given_stop : (journal : List JournalEntry) (actor : ℕ) (made : Step) → is_met (λ why. true) made ≡ true → (who : Option ℕ) → has_given_up_there (journal ++ entry_of actor made ∷ []) who ≡ (has_given_up_there journal who || is_actor actor who)
given_stop journal actor made stops who =
    given_one journal actor made who ∙ ap (λ b. has_given_up_there journal who || (is_actor actor who && b)) stops ∙ ap (λ b. has_given_up_there journal who || b) (both_and (is_actor actor who))

-- ---- items that are passed over

same_unpassed : (names : List (List ℕ)) (journal other : List JournalEntry) → ((who : Option ℕ) → has_given_up_there other who ≡ has_given_up_there journal who) → (rest : List Item) → unpassed names journal rest ≡ unpassed names other rest
same_unpassed names journal other same [] = refl
same_unpassed names journal other same (item ∷ rest) = λ i. cond (not (sym (same (session_of_item names item)) i)) (item ∷ same_unpassed names journal other same rest i) (same_unpassed names journal other same rest i)

without_unpassed : (names : List (List ℕ)) (journal other : List JournalEntry) (actor : ℕ) → ((who : Option ℕ) → has_given_up_there other who ≡ (has_given_up_there journal who || is_actor actor who)) → (rest : List Item)
    → without names actor (unpassed names journal rest) ≡ unpassed names other rest
without_unpassed names journal other actor more [] = refl
without_unpassed names journal other actor more (item ∷ rest) =
    let who = session_of_item names item in
    let behind = without_unpassed names journal other actor more rest in
    let after = unpassed names other rest in
    elim (has_given_up_there journal who) as (λ b. has_given_up_there other who ≡ (b || is_actor actor who)
    → without names actor (cond (not b) (item ∷ unpassed names journal rest) (unpassed names journal rest)) ≡ cond (not (has_given_up_there other who)) (item ∷ after) after) [
      | true ↦ λ m. behind ∙ ap (λ b. cond (not b) (item ∷ after) after) (sym m)
      | false ↦ λ m. (λ i. cond (not (is_actor actor who)) (item ∷ behind i) (behind i)) ∙ ap (λ b. cond (not b) (item ∷ after) after) (sym m)
    ] (more who)

-- ---- names

named_least : (k : ℕ) (names : List (List ℕ)) (name : List ℕ) (actor : ℕ) → number_named k names name ≡ Some actor → k ≤ actor
named_least k [] name actor e = absurd (none-some actor e)
named_least k (first ∷ names) name actor e =
    elim (same_bytes first name) as (λ b. cond b (Some k) (number_named (k + 1) names name) ≡ Some actor → k ≤ actor) [
      | true ↦ λ e. let is : k ≡ actor = same_Some _ _ e in omega arith
      | false ↦ λ e. let above = named_least (k + 1) names name actor e in omega (arith, above)
    ] e

apart : (a k : ℕ) → k < a → (a == k) ≡ false
apart a k above = elim (a == k) as (λ p. (a == k) ≡ p → p ≡ false) [ true ↦ λ e. let is = eqb-true a k e in absurd (omega arith) | false ↦ λ e. refl ] refl

pub named-name : (k : ℕ) (names : List (List ℕ)) (name : List ℕ) (actor : ℕ) → number_named k names name ≡ Some actor → name_of k names actor ≡ name
named-name k [] name actor e = absurd (none-some actor e)
named-name k (first ∷ names) name actor e =
    elim (same_bytes first name) as (λ b. same_bytes first name ≡ b → cond b (Some k) (number_named (k + 1) names name) ≡ Some actor → cond (actor == k) first (name_of (k + 1) names actor) ≡ name) [
      | true ↦ λ same e. ap (λ b. cond b first (name_of (k + 1) names actor)) (eq-eqb actor k (sym (same_Some _ _ e))) ∙ (bytes_decides first name).0 same
      | false ↦ λ same e.
          let above = named_least (k + 1) names name actor e in
          ap (λ b. cond b first (name_of (k + 1) names actor)) (apart actor k (omega (arith, above))) ∙ named-name (k + 1) names name actor e
    ] refl e

-- ---- a journal that goes on

goes_map : (b : Bool) (names : List (List ℕ)) (entry : JournalEntry) (items : List Item) (P Q : List Item → Type 0) → ((l : List Item) → P l → Q l) → GoesOn b names entry items P → GoesOn b names entry items Q
goes_map true names entry items P Q f g = f _ g
goes_map false names entry [] P Q f g = g
goes_map false names entry (item ∷ items) P Q f g = (g.0, f items g.1)

follows_append : (names : List (List ℕ)) (items mid left : List Item) (journal more : List JournalEntry) → Follows names items journal mid → Follows names mid more left → Follows names items (journal ++ more) left
follows_append names items mid left [] more f g = subst (λ l. Follows names l more left) (sym f) g
follows_append names items mid left (entry ∷ journal) more f g = goes_map (is_run_stop entry) names entry items _ _ (λ l h. follows_append names l mid left journal more h g) f

module _ (names : List (List ℕ)) (journal : List JournalEntry) (actor : ℕ) (name : List ℕ) (named : number_named 1 names name ≡ Some actor) (wanted : Turned) where
  -- the item of a step
  item_is : (made : Step) → turned_of made ≡ wanted → Turn name wanted ≡ item_of names (entry_of actor made)
  item_is made kind = λ i. Turn (sym (named-name 1 names name actor named) i) (sym kind i)

  one_step : (made : Step) → IsStepOf wanted made → (rest : List Item) → Follows names (Turn name wanted ∷ unpassed names journal rest) (entry_of actor made ∷ []) (unpassed names (journal ++ entry_of actor made ∷ []) rest)
  one_step made is rest =
      subst (λ b. GoesOn b names (entry_of actor made) (Turn name wanted ∷ unpassed names journal rest) (λ l. l ≡ unpassed names (journal ++ entry_of actor made ∷ []) rest)) (sym is.calm)
      (item_is made is.kind, same_unpassed names journal (journal ++ entry_of actor made ∷ []) (given_calm journal actor made is.calm) rest)

  one_stop : (before : List JournalEntry) (made : Step) → is_met (λ why. true) made ≡ true → (rest : List Item) → Follows names (unpassed names before rest) (entry_of actor made ∷ []) (unpassed names (before ++ entry_of actor made ∷ []) rest)
  one_stop before made stops rest =
      subst (λ b. GoesOn b names (entry_of actor made) (unpassed names before rest) (λ l. l ≡ unpassed names (before ++ entry_of actor made ∷ []) rest)) (sym stops)
      (without_unpassed names before (before ++ entry_of actor made ∷ []) actor (given_stop before actor made stops) rest)

  -- whether the item is passed over
  passed_is : is_passed names journal (Turn name wanted) ≡ has_given_up journal actor
  passed_is = ap (has_given_up_there journal) named

  passed_over : has_given_up journal actor ≡ true → (rest : List Item) → unpassed names journal (Turn name wanted ∷ rest) ≡ unpassed names journal rest
  passed_over gave rest = ap (λ b. cond (not b) (Turn name wanted ∷ unpassed names journal rest) (unpassed names journal rest)) (passed_is ∙ gave)

  not_passed : has_given_up journal actor ≡ false → (rest : List Item) → unpassed names journal (Turn name wanted ∷ rest) ≡ Turn name wanted ∷ unpassed names journal rest
  not_passed gave rest = ap (λ b. cond (not b) (Turn name wanted ∷ unpassed names journal rest) (unpassed names journal rest)) (passed_is ∙ gave)

  -- behind the stop of a session its own items are none of the rest
  passed_then : (made : Step) → is_met (λ why. true) made ≡ true → (rest : List Item) → unpassed names (journal ++ entry_of actor made ∷ []) (Turn name wanted ∷ rest) ≡ unpassed names (journal ++ entry_of actor made ∷ []) rest
  passed_then made stops rest =
      ap (λ b. cond (not b) (Turn name wanted ∷ unpassed names (journal ++ entry_of actor made ∷ []) rest) (unpassed names (journal ++ entry_of actor made ∷ []) rest))
      (ap (has_given_up_there (journal ++ entry_of actor made ∷ [])) named ∙ given_stop journal actor made stops (Some actor) ∙ ap (λ b. has_given_up journal actor || b) (eq-eqb actor actor refl) ∙ either_true (has_given_up journal actor))
    where
      either_true : (b : Bool) → (b || true) ≡ true
      either_true true = refl
      either_true false = refl

  -- one turn further
  module _ (items : List Item) (follows : (rest : List Item) → Follows names (items ++ rest) journal (unpassed names journal rest)) where
    there : (rest : List Item) → (items ++ Turn name wanted ∷ []) ++ rest ≡ items ++ Turn name wanted ∷ rest
    there rest = append_assoc items (Turn name wanted ∷ []) rest

    played : (gave : Bool) → has_given_up journal actor ≡ gave → (steps : List Step) → IsPlayedAs gave wanted steps → (rest : List Item)
        → Follows names (items ++ Turn name wanted ∷ rest) (journal ++ map (entry_of actor) steps) (unpassed names (journal ++ map (entry_of actor) steps) rest)
    played true gave steps none rest =
        subst (λ l. Follows names (items ++ Turn name wanted ∷ rest) (journal ++ map (entry_of actor) l) (unpassed names (journal ++ map (entry_of actor) l) rest)) (sym none)
        (subst (λ j. Follows names (items ++ Turn name wanted ∷ rest) j (unpassed names j rest)) (sym (append-nil journal))
        (subst (λ l. Follows names (items ++ Turn name wanted ∷ rest) journal l) (passed_over gave rest) (follows (Turn name wanted ∷ rest))))
    played false gave [] none rest = absurd none
    played false gave (made ∷ []) (inl is) rest =
        follows_append names (items ++ Turn name wanted ∷ rest) (Turn name wanted ∷ unpassed names journal rest) (unpassed names (journal ++ entry_of actor made ∷ []) rest) journal (entry_of actor made ∷ []) (subst (λ l. Follows names (items ++ Turn name wanted ∷ rest) journal l) (not_passed gave rest) (follows (Turn name wanted ∷ rest))) (one_step made is rest)
    played false gave (made ∷ []) (inr stops) rest =
        subst (λ l. Follows names (items ++ Turn name wanted ∷ rest) (journal ++ entry_of actor made ∷ []) l) (passed_then made stops rest)
        (follows_append names (items ++ Turn name wanted ∷ rest) (unpassed names journal (Turn name wanted ∷ rest)) (unpassed names (journal ++ entry_of actor made ∷ []) (Turn name wanted ∷ rest)) journal (entry_of actor made ∷ []) (follows (Turn name wanted ∷ rest)) (one_stop journal made stops (Turn name wanted ∷ rest)))
    played false gave (made ∷ stop ∷ []) is rest =
        let first = journal ++ entry_of actor made ∷ [] in
        let whole : first ++ entry_of actor stop ∷ [] ≡ journal ++ entry_of actor made ∷ entry_of actor stop ∷ [] = append_assoc journal (entry_of actor made ∷ []) (entry_of actor stop ∷ []) in
        subst (λ j. Follows names (items ++ Turn name wanted ∷ rest) j (unpassed names j rest)) whole
        (follows_append names (items ++ Turn name wanted ∷ rest) (unpassed names first rest) (unpassed names (first ++ entry_of actor stop ∷ []) rest) first (entry_of actor stop ∷ []) (played false gave (made ∷ []) (inl is.0) rest) (one_stop first stop is.1 rest))
    played false gave (made ∷ stop ∷ another ∷ more) none rest = absurd none

    pub turn-follows : (gave : Bool) → has_given_up journal actor ≡ gave → (steps : List Step) → IsPlayedAs gave wanted steps → (rest : List Item)
        → Follows names ((items ++ Turn name wanted ∷ []) ++ rest) (journal ++ map (entry_of actor) steps) (unpassed names (journal ++ map (entry_of actor) steps) rest)
    turn-follows gave gave_is steps is rest =
        subst (λ l. Follows names l (journal ++ map (entry_of actor) steps) (unpassed names (journal ++ map (entry_of actor) steps) rest)) (sym (there rest)) (played gave gave_is steps is rest)
