-- What players tell of themselves, as it is printed.
use Rattle.std.specs.Prelude.{◌≡◌, ℕ, List, ◌∷◌, ◌++◌, codes, map, sum_by}
use Rattle.std.specs.List.{flat_map}
use Rattle.xod_journal.specs.declared.journal.JournalEntry.{JournalEntry}
use Rattle.xod_session.specs.Seats.{counts_in, text_in}
use Rattle.xod_session.specs.Transcripts.{item_of, order_text, total_text}
use Rattle.xod_play.specs.declared.gathered.Gathered.{Gathered}
use Rattle.xod_play.specs.declared.player.Player.{Player}

-- a session's name and its lines
abbrev pub told_text : {Open : Type 0} → Player Open → List ℕ
told_text player = codes "session " ++ (player.name ++ (10 ∷ text_in player.session))

abbrev pub names_in : {Open : Type 0} → List (Player Open) → List (List ℕ)
names_in players = map (λ player. player.name) players

-- how many queries of all hit, and how many missed
abbrev pub hits_in : {Open : Type 0} → List (Player Open) → ℕ
hits_in players = sum_by (λ player. (counts_in player.session).0) players

abbrev pub misses_in : {Open : Type 0} → List (Player Open) → ℕ
misses_in players = sum_by (λ player. (counts_in player.session).1) players

-- what was gathered of players
pub record IsGathered {Open : Type 0} (players : List (Player Open)) (gathered : Gathered) : Type 0 where
  pub lines : gathered.lines ≡ flat_map told_text players
  pub names : gathered.names.items ≡ names_in players
  pub hits : gathered.hits ≡ hits_in players
  pub misses : gathered.misses ≡ misses_in players

-- what was gathered, the totals, and the journal as an order
abbrev pub gathered_text : Gathered → ℕ → ℕ → List JournalEntry → List ℕ
gathered_text gathered commit files journal =
    gathered.lines ++ (total_text commit gathered.hits gathered.misses files ++ order_text (map (item_of gathered.names.items) journal))

-- Each player in turn, the totals with the newest commit and the number of log files, and the journal as an order.
unfoldable pub told_transcript : {Open : Type 0} → ℕ → ℕ → List JournalEntry → List (Player Open) → List ℕ
told_transcript commit files journal players =
    flat_map told_text players
    ++ (total_text commit (hits_in players) (misses_in players) files
    ++ order_text (map (item_of (names_in players)) journal))
