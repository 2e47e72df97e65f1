-- An order that was played, by the items that were taken.
use Rattle.std.proofs.Common.{◌≡◌, ℕ, ◌+◌, Bool, true, false, List, [], ◌∷◌, ◌++◌, map, length, Some, Ok, Err, refl, sym, ap, subst, ◌∙◌, arith, IsTrue, append-nil, inl, inr}
use Rattle.std.specs.Prelude.{if◌then◌else◌}
use Rattle.std.proofs.lemmas.Option.{same_Some}
use Rattle.xod_lang.specs.declared.script.Item.{Item}
use Rattle.xod_journal.specs.Spaces.{IsSpace, KeepsSpace, SpaceView, newest_of}
use Rattle.xod_journal.specs.Txns.{OpenTxn}
use Rattle.xod_session.specs.Laws.{ItemsMakeAJournal, SessionsMakeAWorld}
use Rattle.xod_session.specs.Transcripts.{item_of, names_of}
use Rattle.xod_session.specs.World.{World, taken, world_after}
use Rattle.xod_play.specs.declared.player.Player.{Player}
use Rattle.xod_play.specs.Follows.{Follows, is_passed}
use Rattle.xod_play.specs.Orders.{is_finished}
use Rattle.xod_play.specs.Rounds.{AllSit, CantTakeItem, HasPlayed, IsPlayedOut, IsStage, IsStuck, are_done, start_of}
use Rattle.xod_play.specs.Stops.{is_disturbed}
use Rattle.xod_play.proofs.AlikeLemmas.{commit-is, finished-is, transcript-is}
use Rattle.xod_play.proofs.OrderLemmas.{order-over, order-untaken}
use Rattle.xod_play.proofs.SeatedLemmas.{Stands, legal-run}

-- the journal follows the items
pub follows-here : (space : SpaceView) (start : World) (items : List Item) → IsStage space start items → Follows (names_of start) items space.journal []
follows-here space start items stage = subst (λ l. Follows (names_of start) l space.journal []) (append-nil items) (stage.follows [])

-- where the rows are told
module _ {Open : Type 0} (tells : Open → Bool) (txn : Open → OpenTxn) (faults : Open → ℕ) (space : SpaceView) (t : IsTrue space.tells) (lawful : IsSpace space) (law : SessionsMakeAWorld) (played_law : ItemsMakeAJournal) (players : List (Player Open)) (sit : AllSit tells txn faults 1 space players) (items : List Item)
    (stage : IsStage space (start_of space players) items) where
  stood : Stands space players
  stood = legal-run tells txn faults space players sit.part t lawful law stage.own

  follows_world : Follows (names_of stood.legal.world) items space.journal []
  follows_world = subst (λ n. Follows n items space.journal []) (sym stood.legal.names) (follows-here space (start_of space players) items stage)

  world_same : (played : HasPlayed (start_of space players) items space.journal) → played.now.world ≡ stood.legal.world
  world_same played =
      let all = played_law (start_of space players) items played.now played.taken_is in
      same_Some _ _ (sym all.world ∙ ap (world_after (Some (start_of space players))) played.journal_is ∙ stood.legal.is)

  commit_here : stood.legal.world.standing.books.commit ≡ (newest_of space).commit
  commit_here = commit-is tells txn faults space t players sit stood

  -- the place of an item that was not taken
  pub stuck-at : (new : SpaceView) (later : List (Player Open)) (item : Item) (more : List Item) → KeepsSpace space new → CantTakeItem tells txn faults space new players later item → IsStuck new (start_of space players) (items ++ item ∷ more) (1 + length items)
  stuck-at new later item more keeps cant = record {
    world = stood.legal.world;
    legal = ap (world_after (Some (start_of space players))) cant.journal ∙ stood.legal.is;
    commit = commit_here ∙ (λ i. (newest_of (record new { start = sym keeps.start_same i; journal = sym cant.journal i })).commit);
    stops = inl (record {
      before = items;
      item = item;
      behind = more;
      items_are = refl;
      number_is = omega arith;
      follows = subst (λ j. Follows (names_of stood.legal.world) items j []) (sym cant.journal) follows_world;
      goes = (λ i. is_passed (stood.legal.names i) (cant.journal i) item) ∙ cant.goes;
      cant = ap (λ j. taken (record { world = stood.legal.world; journal = j }) item) cant.journal ∙ cant.none t stage.own stood.legal.world stood.legal.is;
    });
    first = λ calm.
        let played = stage.played t (ap is_disturbed (sym cant.journal) ∙ calm) in
        order-untaken (start_of space players) items more item played.now played.taken_is
        ((λ i. taken (record { world = world_same played i; journal = played.journal_is i }) item) ∙ cant.none t stage.own stood.legal.world stood.legal.is);
  }

  -- a session that is not over
  pub stuck-over : are_done players ≡ false → IsStuck space (start_of space players) items (1 + length items)
  stuck-over left = record {
    world = stood.legal.world;
    legal = stood.legal.is;
    commit = commit_here;
    stops = inr (record {
      number_is = omega arith;
      follows = follows_world;
      unfinished = sym (finished-is tells txn faults space t players sit stood) ∙ left;
    });
    first = λ calm.
        let played = stage.played t calm in
        let unfinished : is_finished played.now.world ≡ false = ap is_finished (world_same played) ∙ sym (finished-is tells txn faults space t players sit stood) ∙ left in
        order-over (start_of space players) items played.now played.taken_is ∙ ap (λ b. if b then Ok played.now else Err (1 + length items)) unfinished;
  }

  -- an order that was taken to its end
  pub played-out : are_done players ≡ true → IsPlayedOut space players (start_of space players) items
  played-out over = record {
    world = stood.legal.world;
    legal = stood.legal.is;
    commit = commit_here;
    finished = sym (finished-is tells txn faults space t players sit stood) ∙ over;
    whole = λ calm.
        let played = stage.played t calm in
        let all = played_law (start_of space players) items played.now played.taken_is in
        ap (map (item_of (names_of (start_of space players)))) (sym played.journal_is) ∙ all.printed;
    exact = transcript-is tells txn faults space t players sit stood;
  }
