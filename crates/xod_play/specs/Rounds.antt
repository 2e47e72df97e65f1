-- An order played by sessions over a space: what stands behind some of its items, and behind all of them.
use Rattle.std.specs.Prelude.{◌≡◌, ℕ, ◌+◌, Bool, true, false, IsTrue, not, List, [], ◌∷◌, ◌++◌, map, Option, Some, None, Err}
use Rattle.std.specs.List.{filter, list_all}
use Rattle.xod_lang.specs.declared.script.Item.{Item}
use Rattle.xod_lang.specs.declared.script.SessionScript.{SessionScript}
use Rattle.xod_journal.specs.declared.journal.JournalEntry.{JournalEntry}
use Rattle.xod_journal.specs.Spaces.{SpaceView, newest_of}
use Rattle.xod_journal.specs.Txns.{OpenTxn}
use Rattle.xod_session.specs.Calls.{IsFresh, next_of}
use Rattle.xod_session.specs.Laws.{is_players}
use Rattle.xod_session.specs.Transcripts.{item_of, names_of, transcript_of}
use Rattle.xod_session.specs.World.{Played, World, all_taken, taken, world_after, world_at}
use Rattle.xod_play.specs.declared.player.Player.{Player}
use Rattle.xod_play.specs.Follows.{Follows, StopsAt, is_passed}
use Rattle.xod_play.specs.Orders.{is_finished, order_played}
use Rattle.xod_play.specs.Players.{TakesPart, is_done, script_in}
use Rattle.xod_play.specs.Stops.{has_met, is_broken, is_damage, is_disturbed, is_spent}
use Rattle.xod_play.specs.Told.{told_transcript}

-- ---- all players

abbrev pub scripts_in : {Open : Type 0} → List (Player Open) → List SessionScript
scripts_in players = map script_in players

-- the player with a number
pub record IsNumbered {Open : Type 0} (tells : Open → Bool) (txn : Open → OpenTxn) (faults : Open → ℕ) (number : ℕ) (space : SpaceView) (player : Player Open) : Type 0 where
  pub actor : player.session.actor ≡ number
  pub part : TakesPart tells txn faults space player

-- all players take part, the first of whom has this number
abbrev pub AllTakePart : {Open : Type 0} → (Open → Bool) → (Open → OpenTxn) → (Open → ℕ) → ℕ → SpaceView → List (Player Open) → Type 0
AllTakePart tells txn faults number space [] = Unit {0}
AllTakePart tells txn faults number space (player ∷ more) = IsNumbered tells txn faults number space player × AllTakePart tells txn faults (number + 1) space more

-- none has answered a private statement since its last shared step
abbrev pub AllFresh : {Open : Type 0} → List (Player Open) → Type 0
AllFresh [] = Unit {0}
AllFresh (player ∷ more) = IsFresh player.session × AllFresh more

-- all players sit between their turns, the first of whom has this number
pub record AllSit {Open : Type 0} (tells : Open → Bool) (txn : Open → OpenTxn) (faults : Open → ℕ) (number : ℕ) (space : SpaceView) (players : List (Player Open)) : Type 0 where
  pub part : AllTakePart tells txn faults number space players
  pub fresh : AllFresh players

-- all sessions at the start of their scripts
abbrev pub start_of : {Open : Type 0} → SpaceView → List (Player Open) → World
start_of space players = world_at space.start (scripts_in players)

-- all have stopped, or are at the end of their scripts
abbrev pub are_done : {Open : Type 0} → List (Player Open) → Bool
are_done players = list_all (λ player. is_done (next_of player.session)) players

-- none has a transaction open
abbrev pub are_closed : {Open : Type 0} → List (Player Open) → Bool
are_closed players = list_all (λ player. not player.session.course.is_open) players

-- ---- behind some items

abbrev pub begun : World → Played
begun start = record { world = start; journal = [] }

-- the items were taken one by one, and made this journal
pub record HasPlayed (start : World) (items : List Item) (journal : List JournalEntry) : Type 0 where
  pub now : Played
  pub taken_is : all_taken (Some (begun start)) items ≡ Some now
  pub journal_is : now.journal ≡ journal

-- items that are not passed over
abbrev pub unpassed : List (List ℕ) → List JournalEntry → List Item → List Item
unpassed names journal items = filter (λ item. not (is_passed names journal item)) items

-- Each cause for which this run met a stop has its reason in a space, whether or not that tells its rows: it is broken, it
-- does not tell its rows, or the last number stands. The device's faults are counted by the space itself, and memory may
-- be refused at any time.
pub record StopsHaveCauses (space : SpaceView) : Type 0 where
  pub broken : has_met is_broken space.journal ≡ true → IsTrue space.is_broken
  pub damaged : has_met is_damage space.journal ≡ true → space.tells ≡ false
  pub spent : has_met is_spent space.journal ≡ true → IsTrue space.is_last

-- Behind some items: each entry is a player's; the journal follows the items, with more behind them; what this run met has
-- its cause; and where the rows are told and this run met no stop, the items were taken one by one.
pub record IsStage (space : SpaceView) (start : World) (items : List Item) : Type 0 where
  pub own : list_all (is_players start) space.journal ≡ true
  pub follows : (rest : List Item) → Follows (names_of start) (items ++ rest) space.journal (unpassed (names_of start) space.journal rest)
  pub causes : StopsHaveCauses space
  pub played : IsTrue space.tells → is_disturbed space.journal ≡ false → HasPlayed start items space.journal

-- an item was taken by one of the players
pub record TookItem {Open : Type 0} (tells : Open → Bool) (txn : Open → OpenTxn) (faults : Open → ℕ) (old new : SpaceView) (players later : List (Player Open)) (item : Item) : Type 0 where
  pub sit : AllSit tells txn faults 1 new later
  pub scripts : scripts_in later ≡ scripts_in players
  pub stage : (items : List Item) → IsStage old (start_of old players) items → IsStage new (start_of old players) (items ++ item ∷ [])

-- an item can't be taken
pub record CantTakeItem {Open : Type 0} (tells : Open → Bool) (txn : Open → OpenTxn) (faults : Open → ℕ) (old new : SpaceView) (players later : List (Player Open)) (item : Item) : Type 0 where
  pub part : AllTakePart tells txn faults 1 new later
  pub scripts : scripts_in later ≡ scripts_in players
  pub journal : new.journal ≡ old.journal
  pub goes : is_passed (names_of (start_of old players)) old.journal item ≡ false
  pub none : IsTrue old.tells → list_all (is_players (start_of old players)) old.journal ≡ true → (world : World) → world_after (Some (start_of old players)) old.journal ≡ Some world
      → taken (record { world = world; journal = old.journal }) item ≡ None

-- What an item comes to, by whether it was taken.
abbrev pub TurnsItem : {Open : Type 0} → (Open → Bool) → (Open → OpenTxn) → (Open → ℕ) → SpaceView → SpaceView → List (Player Open) → List (Player Open) → Item → Bool → Type 0
TurnsItem tells txn faults old new players later item true = TookItem tells txn faults old new players later item
TurnsItem tells txn faults old new players later item false = CantTakeItem tells txn faults old new players later item

-- ---- behind all items, where the rows are told

-- An order that was played to its end: its journal is legal and finished, it is the order, whole, where this run met no
-- stop, and what the players tell is its transcript.
pub record IsPlayedOut {Open : Type 0} (space : SpaceView) (players : List (Player Open)) (start : World) (items : List Item) : Type 0 where
  pub world : World
  pub legal : world_after (Some start) space.journal ≡ Some world
  pub commit : world.standing.books.commit ≡ (newest_of space).commit
  pub finished : is_finished world ≡ true
  pub whole : is_disturbed space.journal ≡ false → map (item_of (names_of start)) space.journal ≡ items
  pub exact : (files : ℕ) → told_transcript (newest_of space).commit files space.journal players ≡ transcript_of world space.journal files

-- An order that can't be taken to its end, by the number of the item: its journal is legal and stops there, and where this
-- run met no stop, that is the order's first such item, by the order alone.
pub record IsStuck (space : SpaceView) (start : World) (items : List Item) (number : ℕ) : Type 0 where
  pub world : World
  pub legal : world_after (Some start) space.journal ≡ Some world
  pub commit : world.standing.books.commit ≡ (newest_of space).commit
  pub stops : StopsAt world space.journal items number
  pub first : is_disturbed space.journal ≡ false → order_played start items ≡ Err number

-- ---- behind all items, told or not

-- The players behind an order, or behind its items up to one: they take part, each entry is one of theirs, and each stop
-- that this run met has its cause.
pub record HasRun {Open : Type 0} (tells : Open → Bool) (txn : Open → OpenTxn) (faults : Open → ℕ) (space : SpaceView) (players : List (Player Open)) (start : World) : Type 0 where
  pub sit : AllTakePart tells txn faults 1 space players
  pub start_is : start_of space players ≡ start
  pub own : list_all (is_players start) space.journal ≡ true
  pub causes : StopsHaveCauses space

-- all items were taken or passed over
pub record HasTakenAll {Open : Type 0} (tells : Open → Bool) (txn : Open → OpenTxn) (faults : Open → ℕ) (space : SpaceView) (players : List (Player Open)) (start : World) (items : List Item) : Type 0 where
  pub sit : AllSit tells txn faults 1 space players
  pub start_is : start_of space players ≡ start
  pub stage : IsStage space start items

-- An order was played to its end, where all players are done, and the journal follows it.
pub record PlaysOut {Open : Type 0} (tells : Open → Bool) (txn : Open → OpenTxn) (faults : Open → ℕ) (space : SpaceView) (players : List (Player Open)) (start : World) (items : List Item) : Type 0 where
  pub run : HasRun tells txn faults space players start
  pub done : are_done players ≡ true
  pub follows : Follows (names_of start) items space.journal []
  pub told : IsTrue space.tells → IsPlayedOut space players start items

-- An item can't be taken, or a session is left over.
pub record GetsStuck {Open : Type 0} (tells : Open → Bool) (txn : Open → OpenTxn) (faults : Open → ℕ) (space : SpaceView) (players : List (Player Open)) (start : World) (items : List Item) (number : ℕ) : Type 0 where
  pub run : HasRun tells txn faults space players start
  pub told : IsTrue space.tells → IsStuck space start items number

-- Taking all items: by the place of the first that can't be taken.
abbrev pub TakesAll : {Open : Type 0} → (Open → Bool) → (Open → OpenTxn) → (Open → ℕ) → SpaceView → List (Player Open) → World → List Item → Option ℕ → Type 0
TakesAll tells txn faults space players start items None = HasTakenAll tells txn faults space players start items
TakesAll tells txn faults space players start items (Some at) = GetsStuck tells txn faults space players start items (at + 1)

-- Playing an order: to its end, where all players are done, or up to the item with a number.
abbrev pub Replays : {Open : Type 0} → (Open → Bool) → (Open → OpenTxn) → (Open → ℕ) → SpaceView → List (Player Open) → World → List Item → Option ℕ → Type 0
Replays tells txn faults space players start items None = PlaysOut tells txn faults space players start items
Replays tells txn faults space players start items (Some number) = GetsStuck tells txn faults space players start items number
