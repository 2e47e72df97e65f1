-- What sessions, books and orders have to do with each other.
use Rattle.std.specs.Prelude.{◌≡◌, ℕ, Bool, true, not, List, [], ◌++◌, map, Option, Some, option_map, is_some, ◌==◌}
use Rattle.std.specs.List.{list_all}
use Rattle.std.specs.FinMap.{get}
use Rattle.xod_base.specs.Rows.{RowsValue, are_distinct}
use Rattle.xod_lang.specs.declared.script.Item.{Item}
use Rattle.xod_lang.specs.declared.script.Statement.{Statement}
use Rattle.xod_journal.specs.declared.journal.JournalEntry.{JournalEntry}
use Rattle.xod_journal.specs.declared.journal.Origin.TheVariants.{Order}
use Rattle.xod_journal.specs.declared.journal.Step.{Step}
use Rattle.xod_journal.specs.declared.journal.Step.TheVariants as step
use Rattle.xod_journal.specs.Books.{has_stopped}
use Rattle.xod_journal.specs.Changes.{are_all_named}
use Rattle.xod_journal.specs.Standing.{Newest, Standing, opening, after, newest_after}
use Rattle.xod_journal.specs.Txns.{FitsRows, OpenTxn, pinned_of}
use Rattle.xod_session.specs.Scripts.{are_named}
use Rattle.xod_session.specs.Sessions.{answered_first, session_after}
use Rattle.xod_session.specs.States.{SessionState, opened}
use Rattle.xod_session.specs.Transcripts.{item_of, names_of}
use Rattle.xod_session.specs.World.{Played, World, all_taken, newest_in, session_of, world_after}

-- ---- one session over a journal

-- whether an entry is another actor's
abbrev pub is_others : ℕ → JournalEntry → Bool
is_others actor entry = not (entry.actor == actor)

-- Entries of others leave a session as it is.
abbrev pub OthersLeaveASession : Type 0
OthersLeaveASession = (now : Newest) (actor : ℕ) (session : Option SessionState) (journal : List JournalEntry)
    → list_all (is_others actor) journal ≡ true → session_after now actor session journal ≡ session

-- A session goes on over a journal that goes on.
abbrev pub SessionsGoOn : Type 0
SessionsGoOn = (now : Newest) (actor : ℕ) (session : Option SessionState) (journal more : List JournalEntry)
    → session_after now actor session (journal ++ more) ≡ session_after (newest_after now journal) actor (session_after now actor session journal) more

-- ---- what the books have of a session's transaction

-- its own changes fit the rows that it began with, and its rows are those with the changes
pub record FitsBase (base : Option RowsValue) (txn : OpenTxn) : Type 0 where
  pub rows : RowsValue
  pub is : base ≡ Some rows
  pub fits : FitsRows rows txn

-- The books have this transaction open for an actor, who has stopped or not.
pub record Holds (now : Standing) (actor : ℕ) (has_ended : Bool) (txn : Option OpenTxn) : Type 0 where
  pub stopped : has_stopped now.books actor ≡ has_ended
  pub open_is : get now.books.txns actor ≡ option_map pinned_of txn
  pub fits : (there : OpenTxn) → txn ≡ Some there → FitsBase (get now.bases actor) there

-- Where a journal stands and a session has come, the books have the session's transaction open with its mode and base,
-- and its own changes fit; also behind each of its private statements.
abbrev pub SessionsAgree : Type 0
SessionsAgree = (start : Newest) (script : List Statement) (actor : ℕ) (journal : List JournalEntry) (now : Standing) (session : SessionState) (count : ℕ)
    → are_named script ≡ true → are_all_named start.rows ≡ true
    → after (Some (opening start)) journal ≡ Some now → session_after start actor (Some (opened script)) journal ≡ Some session
    → Holds now actor session.place.stopped (answered_first count session).txn

-- ---- all sessions over one journal

-- whether an entry's actor is one of the sessions
abbrev pub is_players : World → JournalEntry → Bool
is_players start entry = is_some (session_of 1 start.players entry.actor)

-- A legal journal: the world is where it stands, and each session where its own script and the journal have come.
pub record IsLegal (start : World) (journal : List JournalEntry) (now : Standing) : Type 0 where
  pub world : World
  pub is : world_after (Some start) journal ≡ Some world
  pub standing : world.standing ≡ now
  pub names : names_of world ≡ names_of start
  pub sessions : (actor : ℕ) → session_of 1 world.players actor ≡ session_after (newest_in start.standing) actor (session_of 1 start.players actor) journal

-- Where a journal stands, each entry is a session's, and each session has come somewhere by it, it is legal.
abbrev pub SessionsMakeAWorld : Type 0
SessionsMakeAWorld = (start : World) (journal : List JournalEntry) (now : Standing)
    → after (Some start.standing) journal ≡ Some now → list_all (is_players start) journal ≡ true
    → ((actor : ℕ) → is_some (session_of 1 start.players actor) ≡ true → is_some (session_after (newest_in start.standing) actor (session_of 1 start.players actor) journal) ≡ true)
    → IsLegal start journal now

-- ---- orders

-- Taking items one by one makes a journal that is printed as these items. The world is where that journal stands, and
-- each session is what its own script and that journal make of it.
pub record IsPlayed (start : World) (items : List Item) (now : Played) : Type 0 where
  pub printed : map (item_of (names_of start)) now.journal ≡ items
  pub world : world_after (Some start) now.journal ≡ Some now.world
  pub standing : after (Some start.standing) now.journal ≡ Some now.world.standing
  pub sessions : (actor : ℕ) → session_after (newest_in start.standing) actor (session_of 1 start.players actor) now.journal ≡ session_of 1 now.world.players actor

abbrev pub ItemsMakeAJournal : Type 0
ItemsMakeAJournal = (start : World) (items : List Item) (now : Played)
    → all_taken (Some (record { world = start; journal = [] })) items ≡ Some now → IsPlayed start items now

-- a step without where its stop comes from
abbrev pub without_origin : Step → Step
without_origin (step.Stop line cause origin) = step.Stop line cause Order
without_origin taken = taken

abbrev pub entry_without_origin : JournalEntry → JournalEntry
entry_without_origin entry = record entry { step = without_origin entry.step }

-- The printed order determines the journal: two journals of one world that are printed alike are equal, but for where
-- their stops come from. The sessions have different names.
abbrev pub OrderDeterminesJournal : Type 0
OrderDeterminesJournal = (start : World) (journal other : List JournalEntry) (now later : World)
    → are_distinct (names_of start) ≡ true → world_after (Some start) journal ≡ Some now → world_after (Some start) other ≡ Some later
    → map (item_of (names_of start)) journal ≡ map (item_of (names_of start)) other → map entry_without_origin journal ≡ map entry_without_origin other
