-- The text of an order and of a whole transcript.
use Rattle.std.specs.Prelude.{ℕ, ◌+◌, ◌==◌, List, [], ◌∷◌, ◌++◌, codes, length, map, sum_by, if◌then◌else◌}
use Rattle.std.specs.List.{flat_map}
use Rattle.std.specs.Fmt.{decimal}
use Rattle.xod_lang.specs.declared.script.Item.{Item}
use Rattle.xod_lang.specs.declared.script.Item.TheVariants.{Turn}
use Rattle.xod_lang.specs.declared.script.Turned.{Turned}
use Rattle.xod_lang.specs.declared.script.Turned.TheVariants as turn
use Rattle.xod_journal.specs.declared.journal.Step.{Step}
use Rattle.xod_journal.specs.declared.journal.Step.TheVariants as step
use Rattle.xod_journal.specs.declared.journal.JournalEntry.{JournalEntry}
use Rattle.xod_print.specs.Texts.{answer_line, cause_text}
use Rattle.xod_session.specs.States.{Answered}
use Rattle.xod_session.specs.World.{Player, World}

-- ---- sessions

abbrev pub answered_text : Answered → List ℕ
answered_text answered = answer_line answered.line answered.reply

-- the lines of some answers
abbrev pub answers_text : List Answered → List ℕ
answers_text answers = flat_map answered_text answers

-- a session's name, and a line for each of its answers
abbrev pub player_text : Player → List ℕ
player_text player = codes "session " ++ (player.name ++ (10 ∷ answers_text player.state.said.replies))

-- ---- the order

-- what is printed of a step: of a flush neither its changes nor its version, of a begin no mode, of a stop no origin
abbrev pub turned_of : Step → Turned
turned_of (step.Begin mode) = turn.Begin
turned_of (step.Flush changes version) = turn.Flush
turned_of step.Revert = turn.Revert
turned_of step.End = turn.End
turned_of step.Sync = turn.Sync
turned_of (step.Stop line cause origin) = turn.Stop line cause

-- the name of the session with a number, where the first has this one
abbrev pub name_of : ℕ → List (List ℕ) → ℕ → List ℕ
name_of number [] actor = []
name_of number (name ∷ names) actor = if actor == number then name else name_of (number + 1) names actor

-- an entry as an item of an order
abbrev pub item_of : List (List ℕ) → JournalEntry → Item
item_of names entry = Turn (name_of 1 names entry.actor) (turned_of entry.step)

abbrev pub turned_text : Turned → List ℕ
turned_text turn.Begin = codes "begin"
turned_text turn.Flush = codes "flush"
turned_text turn.Revert = codes "revert"
turned_text turn.End = codes "end"
turned_text turn.Sync = codes "sync"
turned_text (turn.Stop line cause) = codes "stop " ++ (decimal line ++ (32 ∷ cause_text cause))

-- the line of an item
abbrev pub item_text : Item → List ℕ
item_text (Turn name taken) = codes "turn " ++ (name ++ (32 ∷ (turned_text taken ++ (10 ∷ []))))

-- the order and its items
abbrev pub order_text : List Item → List ℕ
order_text items = codes "order\n" ++ flat_map item_text items

-- ---- all of it

-- the newest commit, the queries that were answered from the cache and those that were not, and the number of log files
abbrev pub total_text : ℕ → ℕ → ℕ → ℕ → List ℕ
total_text commit hits misses files =
    codes "total commit " ++ (decimal commit ++ (codes " hits " ++ (decimal hits ++ (codes " misses " ++ (decimal misses
    ++ (codes " files " ++ (decimal files ++ (10 ∷ []))))))))

abbrev pub names_of : World → List (List ℕ)
names_of world = map (λ player. player.name) world.players

abbrev pub hits_of : List Player → ℕ
hits_of players = sum_by (λ player. player.state.said.hits) players

abbrev pub misses_of : List Player → ℕ
misses_of players = sum_by (λ player. length player.state.said.missed) players

-- The transcript of a journal: each session in turn, the totals, and the journal's entries as the order.
unfoldable pub transcript_of : World → List JournalEntry → ℕ → List ℕ
transcript_of world journal files =
    flat_map player_text world.players
    ++ (total_text world.standing.books.commit (hits_of world.players) (misses_of world.players) files
    ++ order_text (map (item_of (names_of world)) journal))
