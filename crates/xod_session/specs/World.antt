-- All sessions over one journal, and the order in which their steps are taken.
use Rattle.std.specs.Prelude.{ℕ, ◌+◌, List, [], ◌∷◌, ◌++◌, map, Option, Some, None, option_and_then, option_map, ◌==◌, if◌then◌else◌}
use Rattle.xod_base.specs.Values.{same_bytes}
use Rattle.xod_lang.specs.declared.script.Statement.{Statement}
use Rattle.xod_lang.specs.declared.script.SessionScript.{SessionScript}
use Rattle.xod_lang.specs.declared.script.Item.{Item}
use Rattle.xod_lang.specs.declared.script.Item.TheVariants.{Turn}
use Rattle.xod_lang.specs.declared.script.Turned.{Turned}
use Rattle.xod_lang.specs.declared.script.Turned.TheVariants as turn
use Rattle.xod_journal.specs.declared.journal.Origin.TheVariants.{Order}
use Rattle.xod_journal.specs.declared.journal.Step.{Step}
use Rattle.xod_journal.specs.declared.journal.Step.TheVariants as step
use Rattle.xod_journal.specs.declared.journal.JournalEntry.{JournalEntry}
use Rattle.xod_journal.specs.Books.{version_of}
use Rattle.xod_journal.specs.Standing.{Newest, Standing, after_step, opening}
use Rattle.xod_journal.specs.Txns.{OpenTxn}
use Rattle.xod_session.specs.declared.course.SharedStep.{SharedStep}
use Rattle.xod_session.specs.declared.course.SharedStep.TheVariants as shared
use Rattle.xod_session.specs.States.{SessionState, opened}
use Rattle.xod_session.specs.Turns.{asks_then, flush_there}
use Rattle.xod_session.specs.Sessions.{readied, session_step}

-- a session by its name
pub record Player : Type 0 where
  pub name : List ℕ
  pub state : SessionState

-- Where a journal stands, and its sessions in the order of the input. The first has the actor number 1.
pub record World : Type 0 where
  pub standing : Standing
  pub players : List Player

abbrev pub player_of : SessionScript → Player
player_of script = record { name = script.name; state = opened script.statements }

-- all sessions at the start of their scripts, over a store with these rows at this commit
abbrev pub world_at : Newest → List SessionScript → World
world_at start scripts = record { standing = opening start; players = map player_of scripts }

abbrev pub newest_in : Standing → Newest
newest_in now = record { rows = now.rows; commit = now.books.commit }

-- ---- entries

abbrev pub in_front : Player → List Player → Option SessionState → Option (List Player)
in_front player more None = None
in_front player more (Some state) = Some (record player { state = state } ∷ more)

abbrev pub beside : Player → Option (List Player) → Option (List Player)
beside player None = None
beside player (Some more) = Some (player ∷ more)

-- the sessions after an entry, the first of which has this number; none where no session has the entry's actor, or the
-- entry is not its next step
abbrev pub players_step : Newest → ℕ → List Player → JournalEntry → Option (List Player)
players_step now number [] entry = None
players_step now number (player ∷ more) entry =
    if entry.actor == number then in_front player more (session_step now player.state entry.step)
    else beside player (players_step now (number + 1) more entry)

abbrev pub world_with : Option Standing → Option (List Player) → Option World
world_with None players = None
world_with (Some standing) None = None
world_with (Some standing) (Some players) = Some (record { standing = standing; players = players })

-- an entry stands where the journal can have it, and it is the next step of its session
abbrev pub world_step : World → JournalEntry → Option World
world_step world entry = world_with (after_step world.standing entry.actor entry.step) (players_step (newest_in world.standing) 1 world.players entry)

-- A journal is legal where each entry stands.
abbrev pub world_after : Option World → List JournalEntry → Option World
world_after world [] = world
world_after world (entry ∷ more) = world_after (option_and_then (λ here. world_step here entry) world) more

-- ---- items

-- the number of the session with a name, where the first has this one
abbrev pub actor_named : ℕ → List Player → List ℕ → Option ℕ
actor_named number [] name = None
actor_named number (player ∷ more) name = if same_bytes player.name name then Some number else actor_named (number + 1) more name

-- the session with a number, where the first has this one
abbrev pub session_of : ℕ → List Player → ℕ → Option SessionState
session_of number [] actor = None
session_of number (player ∷ more) actor = if actor == number then Some player.state else session_of (number + 1) more actor

-- The step that a session makes of a turn. What a flush changes, and whether it commits, goes by the session and the
-- newest commit.
abbrev pub step_of : Newest → Option SharedStep → Option OpenTxn → Turned → Option Step
step_of now (Some (shared.Begin mode)) txn turn.Begin = Some (step.Begin mode)
step_of now (Some shared.Flush) (Some txn) turn.Flush = Some (step.Flush txn.own (version_of (flush_there now txn)))
step_of now (Some shared.Revert) txn turn.Revert = Some step.Revert
step_of now (Some shared.End) txn turn.End = Some step.End
step_of now (Some shared.Sync) txn turn.Sync = Some step.Sync
step_of now other txn taken = None

abbrev pub front_made : Newest → SessionState → List Statement → Turned → Option Step
front_made now session rest (turn.Stop line cause) = Some (step.Stop line cause Order)
front_made now session [] taken = None
front_made now session (statement ∷ more) taken = step_of now (asks_then session.place.due statement.form) session.txn taken

abbrev pub step_made : Newest → SessionState → Turned → Option Step
step_made now session taken = front_made now (readied session) (readied session).place.rest taken

abbrev pub entry_of : ℕ → Step → JournalEntry
entry_of actor taken = record { actor = actor; step = taken }

-- the entry of a turn of the session with a number
abbrev pub turn_made : Newest → List Player → Turned → ℕ → Option JournalEntry
turn_made now players taken actor =
    option_and_then (λ session. option_map (entry_of actor) (step_made now session taken)) (session_of 1 players actor)

-- The entry that an item makes; none where there is no session with its name, or it can't make such a step.
abbrev pub made_of : World → Item → Option JournalEntry
made_of world (Turn name taken) =
    option_and_then (turn_made (newest_in world.standing) world.players taken) (actor_named 1 world.players name)

-- the world, and the journal so far
pub record Played : Type 0 where
  pub world : World
  pub journal : List JournalEntry

abbrev pub played_with : List JournalEntry → JournalEntry → World → Played
played_with journal entry world = record { world = world; journal = journal ++ entry ∷ [] }

abbrev pub entry_taken : Played → JournalEntry → Option Played
entry_taken now entry = option_map (played_with now.journal entry) (world_step now.world entry)

-- An item is taken where it makes an entry that stands.
unfoldable pub taken : Played → Item → Option Played
taken now item = option_and_then (entry_taken now) (made_of now.world item)

abbrev pub all_taken : Option Played → List Item → Option Played
all_taken now [] = now
all_taken now (item ∷ more) = all_taken (option_and_then (λ here. taken here item) now) more
