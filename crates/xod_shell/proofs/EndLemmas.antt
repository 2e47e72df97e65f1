-- How a run over an open store ends, by what its players came to.
use Rattle.std.proofs.Common.{◌≡◌, ℕ, Bool, true, List, [], ◌∷◌, ◌++◌, Option, Some, None, Result, Err, inl, inr, sym, ap, subst, ◌∙◌}
use Rattle.std.proofs.lemmas.List.{append-nil}
use Rattle.std.specs.Prelude.{IsTrue, IfOk, map}
use Rattle.xod_base.specs.declared.causes.Cause.{Cause}
use Rattle.xod_base.specs.declared.causes.Memory.{Memory}
use Rattle.xod_lang.specs.declared.script.Item.{Item}
use Rattle.xod_lang.specs.declared.script.OrderItem.{OrderItem}
use Rattle.xod_lang.specs.declared.script.Script.{Script}
use Rattle.xod_journal.specs.declared.journal.JournalEntry.{JournalEntry}
use Rattle.xod_journal.specs.Spaces.{SpaceView, newest_of}
use Rattle.xod_journal.specs.Standing.{Newest}
use Rattle.xod_journal.specs.Txns.{OpenTxn}
use Rattle.xod_session.specs.World.{World, world_after, world_at}
use Rattle.xod_session.specs.Transcripts.{names_of}
use Rattle.xod_play.specs.declared.gathered.Gathered.{Gathered}
use Rattle.xod_play.specs.declared.player.Player.{Player}
use Rattle.xod_play.specs.Follows.{Follows, StopsAt}
use Rattle.xod_play.specs.Orders.{items_of, order_played}
use Rattle.xod_play.specs.Rounds.{GetsStuck, IsPlayedOut, IsStuck, PlaysOut, Replays, are_done, scripts_in, start_of}
use Rattle.xod_play.specs.Stops.{has_met, is_memory}
use Rattle.xod_play.specs.Told.{IsGathered, gathered_text, told_transcript}
use Rattle.xod_play.proofs.CallerLemmas.{gathered-told, names-stay}
use Rattle.xod_shell.specs.declared.ending.Ending.{Ending}
use Rattle.xod_shell.specs.declared.ending.Ending.TheVariants.{Usage, SourceFailed, TooLong, BadLine, DeviceFailed, Damaged, Untaken, NoMemory, Printed}
use Rattle.xod_shell.specs.Runs.{EndsAs, IsCutShort, IsEnd, IsPrintedAs, IsTranscript, IsUntaken, IsUntakenAs}
use Rattle.xod_shell.specs.Statuses.{status_after}

-- what was gathered is what is told
pub told-of : {Open : Type 0} (players : List (Player Open)) (said : Gathered) (commit commit2 files : ℕ) (journal journal2 : List JournalEntry) → IsGathered players said → commit ≡ commit2 → journal ≡ journal2
    → gathered_text said commit files journal ≡ told_transcript commit2 files journal2 players
told-of players said commit commit2 files journal journal2 is same entries =
    gathered-told players said commit files journal is ∙ (λ i. told_transcript (same i) files (entries i) players)

-- an order that stops at an item was followed up to there
pub front-of : (world : World) (journal : List JournalEntry) (items : List Item) (number : ℕ) (names : List (List ℕ)) → names ≡ map (λ player. player.name) world.players → StopsAt world journal items number
    → (before : List Item) × (behind : List Item) × (items ≡ before ++ behind) × Follows names before journal []
front-of world journal items number names same (inl stops) = (stops.before, stops.item ∷ stops.behind, stops.items_are, subst (λ n. Follows n stops.before journal []) (sym same) stops.follows)
front-of world journal items number names same (inr left) = (items, [], sym (append-nil items), subst (λ n. Follows n items journal []) (sym same) left.follows)

module _ {Open : Type 0} (tells : Open → Bool) (txn : Open → OpenTxn) (faults : Open → ℕ) (space now : SpaceView) (players later : List (Player Open)) (line : Option ℕ) (order : List OrderItem) (start : Newest) (start_is : IsTrue now.tells → start ≡ space.start) where
  abbrev script : Script
  script = record { sessions = scripts_in players; order_line = line; order = order }

  started : IsTrue now.tells → start_of space players ≡ world_at start (scripts_in players)
  started told = λ i. world_at (sym (start_is told) i) (scripts_in players)

  transcript : IsTrue now.tells → IsPlayedOut now later (start_of space players) (items_of order) → (files : ℕ) (text : List ℕ) → text ≡ told_transcript (newest_of now).commit files now.journal later → IsTranscript start script now.journal files text
  transcript told out files text is = record {
    world = out.world;
    legal = subst (λ w. world_after (Some w) now.journal ≡ Some out.world) (started told) out.legal;
    finished = out.finished;
    exact = is ∙ out.exact files;
    whole = out.whole;
  }

  untaken-at : IsTrue now.tells → (item : ℕ) → IsStuck now (start_of space players) (items_of order) item → IsUntaken start script now.journal item
  untaken-at told item stuck = record {
    world = stuck.world;
    legal = subst (λ w. world_after (Some w) now.journal ≡ Some stuck.world) (started told) stuck.legal;
    stops = stuck.stops;
    first = λ calm. subst (λ w. order_played w (items_of order) ≡ Err item) (started told) (stuck.first calm);
  }

  cut-short : IsTrue now.tells → (world : World) → world_after (Some (start_of space players)) now.journal ≡ Some world → (before behind : List Item) → items_of order ≡ before ++ behind → Follows (names_of (start_of space players)) before now.journal []
      → IsCutShort start script now.journal
  cut-short told world legal before behind are follows = record {
    world = world;
    legal = subst (λ w. world_after (Some w) now.journal ≡ Some world) (started told) legal;
    before = before;
    behind = behind;
    items_are = are;
    follows = follows;
  }

  module _ (gathered : Result Gathered Memory) (gathers : IfOk gathered (IsGathered later)) (commit files count : ℕ) (journal : List JournalEntry) (closing : Option Cause) (same : are_done later ≡ true → journal ≡ now.journal)
      (met : has_met is_memory journal ≡ has_met is_memory now.journal) (commit_is : commit ≡ (newest_of now).commit) (files_are : IsTrue now.tells → files ≡ count) where
    played-out : PlaysOut tells txn faults now later (start_of space players) (items_of order) → (ending : Ending) → IsPrintedAs gathered commit files journal (status_after journal closing) ending → IsEnd now.tells start script now.journal closing count ending
    played-out out Usage e = absurd e
    played-out out SourceFailed e = absurd e
    played-out out TooLong e = absurd e
    played-out out (BadLine line text) e = absurd e
    played-out out DeviceFailed e = absurd e
    played-out out (Damaged place text) e = absurd e
    played-out out (Untaken item text) e = absurd e
    played-out out NoMemory e = λ told. let over = out.told told in cut-short told over.world over.legal (items_of order) [] (sym (append-nil _)) out.follows
    played-out out (Printed status text) e = record {
      status_is = e.0 ∙ ap (λ j. status_after j closing) (same out.done);
      follows = out.follows;
      told = λ told. transcript told (out.told told) count text
          (e.1.2 ∙ told-of later e.1.0 commit _ files journal now.journal (subst (λ r. IfOk r (IsGathered later)) e.1.1 gathers) commit_is (same out.done) ∙ ap (λ n. told_transcript (newest_of now).commit n now.journal later) (files_are told));
    }

    got-stuck : (number : ℕ) → GetsStuck tells txn faults now later (start_of space players) (items_of order) number → (ending : Ending) → IsUntakenAs number journal ending → IsEnd now.tells start script now.journal closing count ending
    got-stuck number stuck Usage e = absurd e
    got-stuck number stuck SourceFailed e = absurd e
    got-stuck number stuck TooLong e = absurd e
    got-stuck number stuck (BadLine line text) e = absurd e
    got-stuck number stuck DeviceFailed e = absurd e
    got-stuck number stuck (Damaged place text) e = absurd e
    got-stuck number stuck (Printed status text) e = absurd e
    got-stuck number stuck NoMemory e = λ told.
        let at = stuck.told told in
        let front = front-of at.world now.journal (items_of order) number (names_of (start_of space players)) (sym (names-stay _ at.world now.journal at.legal)) at.stops in
        cut-short told at.world at.legal front.0 front.1 front.2 front.3
    got-stuck number stuck (Untaken item text) e = record {
      text_is = e.1;
      no_memory = sym met ∙ e.2;
      told = λ told. subst (λ n. IsUntaken start script now.journal n) (sym e.0) (untaken-at told number (stuck.told told));
    }

    pub ends-as : (untaken : Option ℕ) → Replays tells txn faults now later (start_of space players) (items_of order) untaken → (ending : Ending) → EndsAs untaken gathered commit files journal closing ending
        → IsEnd now.tells start script now.journal closing count ending
    ends-as None out ending e = played-out out ending e
    ends-as (Some number) stuck ending e = got-stuck number stuck ending e
