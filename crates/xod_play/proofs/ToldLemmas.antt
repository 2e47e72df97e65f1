-- What was gathered of players, and what they tell.
use Rattle.std.proofs.Common.{◌≡◌, ℕ, List, ◌++◌, map, Result, Ok, Err}
use Rattle.std.specs.Prelude.{IfOk}
use Rattle.xod_journal.specs.declared.journal.JournalEntry.{JournalEntry}
use Rattle.xod_session.specs.Transcripts.{item_of, order_text, total_text}
use Rattle.xod_play.specs.declared.gathered.Gathered.{Gathered}
use Rattle.xod_play.specs.declared.player.Player.{Player}
use Rattle.xod_play.specs.Told.{IsGathered, gathered_text, told_transcript}

pub gathered-told : {Open : Type 0} (players : List (Player Open)) (gathered : Gathered) (commit files : ℕ) (journal : List JournalEntry) → IsGathered players gathered → gathered_text gathered commit files journal ≡ told_transcript commit files journal players
unfolding told_transcript
gathered-told players gathered commit files journal is = λ i. is.lines i ++ (total_text commit (is.hits i) (is.misses i) files ++ order_text (map (item_of (is.names i)) journal))

-- a fact of what was answered
pub if_ok : {A E : Type 0} (result : Result A E) (P Q : A → Type 0) → ((x : A) → P x → Q x) → IfOk result P → IfOk result Q
if_ok (Ok x) P Q f is = f x is
if_ok (Err e) P Q f is = is
