-- Items taken one after the other.
use Rattle.std.proofs.Common.{◌≡◌, ◌<◌, ◌≤◌, ℕ, ◌+◌, Bool, true, false, List, [], ◌∷◌, ◌++◌, length, take, drop, get_or, refl, sym, ap, subst, ◌∙◌, arith, cond, IsTrue, Option, Some, None}
use Rattle.std.specs.Prelude.{not}
use Rattle.std.specs.List.{list_all}
use Rattle.std.proofs.lemmas.Bool.{false≢true}
use Rattle.std.proofs.lemmas.List.{drop_more, length-map, length-take-le, map-append, take-append-drop, take_all, take_more}
use Rattle.xod_lang.specs.declared.script.Item.{Item}
use Rattle.xod_lang.specs.declared.script.OrderItem.{OrderItem}
use Rattle.xod_journal.specs.Spaces.{IsSpace, KeepsSpace, SpaceView}
use Rattle.xod_journal.specs.Txns.{OpenTxn}
use Rattle.xod_session.specs.Transcripts.{names_of}
use Rattle.xod_session.specs.Laws.{ItemsMakeAJournal, SessionsMakeAWorld, is_players}
use Rattle.xod_session.specs.World.{World, world_at}
use Rattle.xod_play.specs.declared.player.Player.{Player}
use Rattle.xod_play.specs.Orders.{items_of}
use Rattle.xod_play.specs.Follows.{Follows, has_given_up_there, session_of_item}
use Rattle.xod_play.specs.Rounds.{AllSit, CantTakeItem, GetsStuck, HasRun, HasTakenAll, IsPlayedOut, IsStage, IsStuck, PlaysOut, TookItem, are_done, begun, start_of, unpassed}
use Rattle.xod_play.specs.Stops.{has_met, is_broken, is_damage, is_spent}
use Rattle.xod_play.proofs.CauseLemmas.{causes-kept}
use Rattle.xod_play.proofs.PlayLemmas.{follows-here, played-out, stuck-at, stuck-over}

-- So many items of an order were taken.
pub record HasTaken {Open : Type 0} (tells : Open → Bool) (txn : Open → OpenTxn) (faults : Open → ℕ) (space : SpaceView) (players : List (Player Open)) (start : World) (order : List OrderItem) (count : ℕ) : Type 0 where
  pub sit : AllSit tells txn faults 1 space players
  pub start_is : start_of space players ≡ start
  pub stage : IsStage space start (items_of (take count order))

-- in a journal without entries nothing is passed over
all_left : (names : List (List ℕ)) (rest : List Item) → unpassed names [] rest ≡ rest
all_left names [] = refl
all_left names (item ∷ rest) = by (session_of_item names item) ∙ ap (λ l. item ∷ l) (all_left names rest)
  where
    by : (who : Option ℕ) → cond (not (has_given_up_there [] who)) (item ∷ unpassed names [] rest) (unpassed names [] rest) ≡ item ∷ unpassed names [] rest
    by None = refl
    by (Some actor) = refl

module _ {Open : Type 0} (tells : Open → Bool) (txn : Open → OpenTxn) (faults : Open → ℕ) where
  -- none
  pub none-taken : (space : SpaceView) (players : List (Player Open)) (order : List OrderItem) → AllSit tells txn faults 1 space players → space.journal ≡ [] → HasTaken tells txn faults space players (start_of space players) order 0
  none-taken space players order sit empty =
      let start = start_of space players in
      record {
        sit = sit;
        start_is = refl;
        stage = record {
          own = subst (λ j. list_all (is_players start) j ≡ true) (sym empty) refl;
          follows = λ rest. subst (λ j. Follows (names_of start) rest j (unpassed (names_of start) j rest)) (sym empty) (sym (all_left (names_of start) rest));
          causes = record {
            broken = λ e. absurd (false≢true (sym (ap (has_met is_broken) empty) ∙ e));
            damaged = λ e. absurd (false≢true (sym (ap (has_met is_damage) empty) ∙ e));
            spent = λ e. absurd (false≢true (sym (ap (has_met is_spent) empty) ∙ e));
          };
          played = λ t calm. record { now = begun start; taken_is = refl; journal_is = sym empty };
        };
      }

  module _ (old new : SpaceView) (players later : List (Player Open)) (start : World) (order : List OrderItem) (count : ℕ) (item : OrderItem) (within : count < length order) (read : item ≡ get_or order count item) (has : HasTaken tells txn faults old players start order count) (keeps : KeepsSpace old new) where
    -- one more
    pub one-taken : TookItem tells txn faults old new players later item.item → HasTaken tells txn faults new later start order (count + 1)
    one-taken took = record {
      sit = took.sit;
      start_is = (λ i. world_at (keeps.start_same i) (took.scripts i)) ∙ has.start_is;
      stage =
          let grown : items_of (take (count + 1) order) ≡ items_of (take count order) ++ item.item ∷ [] =
          ap items_of (take_more order count item within) ∙ ap (λ (x : OrderItem). items_of (take count order ++ x ∷ [])) (sym read) ∙ map-append (λ (x : OrderItem). x.item) (take count order) (item ∷ []) in
          subst (λ l. IsStage new start l) (sym grown)
          (subst (λ w. IsStage new w (items_of (take count order) ++ item.item ∷ [])) has.start_is
          (took.stage (items_of (take count order)) (subst (λ w. IsStage old w (items_of (take count order))) (sym has.start_is) has.stage)));
    }

    -- one that can't be taken
    pub stuck-there : IsSpace old → SessionsMakeAWorld → ItemsMakeAJournal → CantTakeItem tells txn faults old new players later item.item → GetsStuck tells txn faults new later start (items_of order) (count + 1)
    stuck-there lawful law played_law cant = record {
      run = record {
        sit = cant.part;
        start_is = (λ i. world_at (keeps.start_same i) (cant.scripts i)) ∙ has.start_is;
        own = ap (list_all (is_players start)) cant.journal ∙ has.stage.own;
        causes = causes-kept old new keeps (λ test. ap (has_met test) cant.journal) has.stage.causes;
      };
      told = λ t.
          let items = items_of (take count order) in
          let more = items_of (drop (count + 1) order) in
          let whole : items ++ item.item ∷ more ≡ items_of order =
          sym (map-append (λ (x : OrderItem). x.item) (take count order) (item ∷ drop (count + 1) order))
          ∙ ap (λ (x : OrderItem). items_of (take count order ++ x ∷ drop (count + 1) order)) read
          ∙ ap (λ l. items_of (take count order ++ l)) (sym (drop_more order count item within))
          ∙ ap items_of (take-append-drop count order) in
          let number : 1 + length items ≡ count + 1 = omega (arith, length-map (take count order) (λ (x : OrderItem). x.item), length-take-le count order (omega (arith, within))) in
          subst (λ n. IsStuck new start (items_of order) n) number
          (subst (λ l. IsStuck new start l (1 + length items)) whole
          (subst (λ w. IsStuck new w (items ++ item.item ∷ more) (1 + length items)) has.start_is
          (stuck-at tells txn faults old (subst IsTrue keeps.tells_same t) lawful law played_law players has.sit items (subst (λ w. IsStage old w items) (sym has.start_is) has.stage) new later item.item more keeps cant)));
    }

  -- ---- behind all items

  pub all-taken : (space : SpaceView) (players : List (Player Open)) (start : World) (order : List OrderItem) (count : ℕ) → HasTaken tells txn faults space players start order count → length order ≤ count → HasTakenAll tells txn faults space players start (items_of order)
  all-taken space players start order count has past = record {
    sit = has.sit;
    start_is = has.start_is;
    stage = subst (λ l. IsStage space start (items_of l)) (take_all count order past) has.stage;
  }

  module _ (space : SpaceView) (players : List (Player Open)) (start : World) (items : List Item) (has : HasTakenAll tells txn faults space players start items) where
    run_of : HasRun tells txn faults space players start
    run_of = record { sit = has.sit.part; start_is = has.start_is; own = has.stage.own; causes = has.stage.causes }

    stage_of : IsStage space (start_of space players) items
    stage_of = subst (λ w. IsStage space w items) (sym has.start_is) has.stage

    pub out-of : IsSpace space → SessionsMakeAWorld → ItemsMakeAJournal → are_done players ≡ true → PlaysOut tells txn faults space players start items
    out-of lawful law played_law over = record {
      run = run_of;
      done = over;
      follows = follows-here space start items has.stage;
      told = λ t. subst (λ w. IsPlayedOut space players w items) has.start_is (played-out tells txn faults space t lawful law played_law players has.sit items stage_of over);
    }

  -- a session that is not over, behind all items
  pub stuck-of : (space : SpaceView) (players : List (Player Open)) (start : World) (order : List OrderItem) → HasTakenAll tells txn faults space players start (items_of order) → IsSpace space → SessionsMakeAWorld → ItemsMakeAJournal → are_done players ≡ false
      → GetsStuck tells txn faults space players start (items_of order) (length order + 1)
  stuck-of space players start order has lawful law played_law left = record {
    run = run_of space players start (items_of order) has;
    told = λ t.
        let number : 1 + length (items_of order) ≡ length order + 1 = omega (arith, length-map order (λ (x : OrderItem). x.item)) in
        subst (λ n. IsStuck space start (items_of order) n) number
        (subst (λ w. IsStuck space w (items_of order) (1 + length (items_of order))) has.start_is
        (stuck-over tells txn faults space t lawful law played_law players has.sit (items_of order) (stage_of space players start (items_of order) has) left));
  }
