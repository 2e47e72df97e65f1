-- What a run leaves of a store: from the store's own promises to those of the run.
use Rattle.std.proofs.Common.{leb-true, eqb-true, nat_eq}
use Rattle.xod_session.proofs.OptionLemmas.{both_true}
use Rattle.std.specs.Prelude.{◌||◌}
use Rattle.std.specs.FinMap.{FinMap, contains_key, empty}
use Rattle.std.specs.Ordering.{nat_cmp}
use Rattle.std.proofs.lemmas.Option.{none-some, same_Some}
use Rattle.xod_base.specs.declared.causes.Place.{Place}
use Rattle.xod_lang.specs.WellFormed.{is_well_formed, is_well_formed_session}
use Rattle.xod_lang.specs.declared.script.Item.{Item}
use Rattle.xod_journal.specs.declared.journal.Pinned.{Pinned}
use Rattle.xod_journal.specs.Books.{Books}
use Rattle.xod_journal.specs.Txns.{OpenTxn}
use Rattle.xod_session.specs.World.{World}
use Rattle.xod_log.specs.Ends.{body_of}
use Rattle.xod_log.specs.Standing.{is_last, last_file}
use Rattle.xod_env.specs.Flushes.{last_commit}
use Rattle.xod_recover.specs.Check.{check}
use Rattle.xod_recover.specs.declared.error.OpenError.{OpenError}
use Rattle.xod_recover.specs.declared.error.OpenError.TheVariants as refusal
use Rattle.xod_play.specs.declared.player.Player.{Player}
use Rattle.xod_session.specs.Laws.{is_players}
use Rattle.xod_play.specs.Rounds.{AllTakePart, HasRun, Replays, start_of}
use Rattle.std.proofs.Common.{◌≡◌, ◌≤◌, ℕ, ◌+◌, Bool, true, false, List, ◌++◌, length, Option, Some, None, Result, Ok, Err, inl, inr, refl, sym, ap, subst, ◌∙◌, arith}
use Rattle.std.specs.Prelude.{IsTrue, OnOk, is_some, option_map, option_and_then}
use Rattle.std.specs.Option.{unwrap_or}
use Rattle.std.specs.List.{list_all}
use Rattle.std.proofs.lemmas.Bool.{cases_lt, false≢true}
use Rattle.xod_base.specs.Causes.{Rose}
use Rattle.xod_base.specs.Rows.{RowsValue, no_rows}
use Rattle.xod_base.specs.declared.causes.Cause.{Cause}
use Rattle.xod_journal.specs.declared.journal.JournalEntry.{JournalEntry}
use Rattle.xod_journal.specs.Spaces.{IsCounted, SpaceView, device_stops}
use Rattle.xod_journal.specs.Seats.{books_after}
use Rattle.xod_journal.specs.Standing.{Newest, newest_after, rows_at}
use Rattle.xod_log.specs.declared.log.Log.{Log}
use Rattle.xod_recover.specs.Images.{Settled, Stores}
use Rattle.xod_recover.specs.Stores.{Stored, rows_stored, stored_in}
use Rattle.xod_root.specs.Roots.{Roots}
use Rattle.xod_volume.specs.Crash.{LeftSince, Passes}
use Rattle.xod_volume.specs.Files.{Files}
use Rattle.xod_env.specs.declared.error.EnvError.{EnvError}
use Rattle.xod_env.specs.declared.error.EnvError.TheVariants as env_error
use Rattle.xod_env.specs.EnvCalls.{Refuses}
use Rattle.xod_env.specs.Envs.{env_trees, newest_stored}
use Rattle.xod_tables.specs.Reading.{rows_of}
use Rattle.xod_play.specs.Finished.{is_left_stop}
use Rattle.xod_play.specs.Stops.{has_met, is_broken, is_damage, is_fault, is_spent}
use Rattle.xod_play.proofs.CallerLemmas.{left-device, left-newest, left-rows, left-synced}
use Rattle.xod_store.specs.Images.{Holds, HoldsEarlier, IsPrefix, LeavesPrefixes, commit_left, synced_in}
use Rattle.xod_store.specs.Parts.{IsAccounted, kept_in}
use Rattle.xod_store.specs.Views.{env_newest, is_spent as is_last_number}
use Rattle.xod_lang.specs.declared.script.Script.{Script}
use Rattle.xod_env.specs.Envs.{log_file_count}
use Rattle.xod_shell.specs.declared.ending.Ending.{Ending}
use Rattle.xod_shell.specs.Runs.{Disk, HaveCauses, IsEnd, IsRefusal, IsRefusedAs, LastStands, Ran, WasSettled, closing_of, start_in}
use Rattle.xod_shell.specs.Statuses.{is_refused_for}
use Rattle.xod_shell.proofs.CauseLemmas.{fault-rose}

-- ---- what a run starts with

-- an environment that has what files store starts with it
pub start-stored : (left files : Files) (log : Log) (roots : Roots) (commit : ℕ) → stored_in left ≡ Some (newest_stored log.file files roots commit) → start_in left ≡ env_newest log files roots commit
start-stored left files log roots commit is = λ i. record { rows = unwrap_or (option_and_then rows_stored (is i)) no_rows; commit = unwrap_or (option_map (λ (s : Stored). s.commit) (is i)) 0 }

-- ---- with the stops of sessions that were left

module _ (start : Newest) (journal left more : List JournalEntry) (grown : more ≡ journal ++ left) (only : list_all (λ (entry : JournalEntry). is_left_stop entry.step) left ≡ true) where
  pub newest-same : newest_after start more ≡ newest_after start journal
  newest-same = ap (newest_after start) grown ∙ left-newest start journal left only

  pub synced-same : is_some (books_after start more) ≡ true → synced_in start more ≡ synced_in start journal
  synced-same there = ap (synced_in start) grown ∙ left-synced start journal left only (ap (λ j. is_some (books_after start j)) (sym grown) ∙ there)

  prefix-same : (files : Files) → IsPrefix start more files → IsPrefix start journal files
  prefix-same files old =
      let newest = ap (λ (n : Newest). n.commit) newest-same in
      let high = old.high in
      record {
        good = old.good;
        low = old.low;
        high = omega (arith, newest);
        rows = old.rows ∙ ap Some (ap (λ j. rows_at (commit_left files) start.rows j) grown ∙ left-rows (commit_left files) start.rows journal left only);
      }

  pub leaves-same : is_some (books_after start more) ≡ true → (since now : ℕ) (images : ℕ → Files → Type 0) → LeavesPrefixes start more since now images → LeavesPrefixes start journal since now images
  leaves-same there since now images old = record {
    each = λ files when. prefix-same files (old.each files when);
    synced = λ files at. let low = old.synced files at in let same = synced-same there in omega (arith, same);
  }

-- ---- closing

-- what a refused closing says
pub closed-fault : (was_broken : Bool) (made before now : ℕ) (result : Result (Unit {0}) EnvError) → Refuses was_broken before now result → IsCounted made before → before ≤ now → (IsTrue was_broken → Rose made before) → is_refused_for is_fault (closing_of result) ≡ true → Rose made now
closed-fault was_broken made before now (Ok done) refuses low grows broken is = absurd (false≢true is)
closed-fault was_broken made before now (Err env_error.Broken) refuses low grows broken is = let rose = broken (refuses.broken_exactly.0 refl) in omega arith
closed-fault was_broken made before now (Err env_error.Device) refuses low grows broken is = let rose = refuses.device refl in omega arith
closed-fault was_broken made before now (Err (env_error.Damaged place)) refuses low grows broken is = absurd (false≢true is)
closed-fault was_broken made before now (Err (env_error.NumbersSpent last)) refuses low grows broken is = absurd (false≢true is)
closed-fault was_broken made before now (Err env_error.Memory) refuses low grows broken is = absurd (false≢true is)

pub closed-cause : (was_broken : Bool) (before now : ℕ) (result : Result (Unit {0}) EnvError) → Refuses was_broken before now result → (is_refused_for is_damage (closing_of result) ≡ false) × (is_refused_for is_spent (closing_of result) ≡ false)
closed-cause was_broken before now (Ok done) refuses = (refl, refl)
closed-cause was_broken before now (Err env_error.Broken) refuses = (refl, refl)
closed-cause was_broken before now (Err env_error.Device) refuses = (refl, refl)
closed-cause was_broken before now (Err (env_error.Damaged place)) refuses = absurd (refuses.undamaged place refl)
closed-cause was_broken before now (Err (env_error.NumbersSpent last)) refuses = absurd (refuses.numbers_left last refl)
closed-cause was_broken before now (Err env_error.Memory) refuses = (refl, refl)

-- what holds where a closing answers Ok holds where it was not refused
pub when-closed : (result : Result (Unit {0}) EnvError) (P : Type 0) → OnOk result P → closing_of result ≡ None → P
when-closed (Ok done) P is none = is
when-closed (Err error) P is none = absurd (false≢true (ap is_some (sym none)))

-- ---- why sessions stopped

module _ (disk : Disk) (journal left more : List JournalEntry) (grown : more ≡ journal ++ left) (only : list_all (λ (entry : JournalEntry). is_left_stop entry.step) left ≡ true) (faults : ℕ) (is_broken_now is_last_now : Bool)
    (accounted : IsAccounted more disk.faults faults is_broken_now is_last_now) (grows : faults ≤ disk.faults_now) (result : Result (Unit {0}) EnvError) (refuses : Refuses is_broken_now faults disk.faults_now result)
    (broken : has_met is_broken journal ≡ true → IsTrue is_broken_now) (damaged : has_met is_damage journal ≡ true → disk.tells ≡ false) (spent : has_met is_spent journal ≡ true → IsTrue is_last_now)
    (last : IsTrue is_last_now → IsTrue disk.tells → LastStands (newest_after (start_in disk.files) journal) disk.files_now) where
  counted-now : IsCounted (disk.faults + device_stops journal) disk.faults_now
  counted-now =
      let same : device_stops more ≡ device_stops journal = ap device_stops grown ∙ left-device journal left only in
      let counted = accounted.counted in
      omega (arith, same, counted)

  counted-start : IsCounted disk.faults faults
  counted-start = let counted = accounted.counted in omega (arith, counted)

  pub have-causes : HaveCauses disk journal (closing_of result)
  have-causes = record {
    counted = counted-now;
    faults = fault-rose journal disk.faults disk.faults_now counted-now (λ is. let rose = accounted.broken (broken is) in omega (arith, rose));
    damaged = damaged;
    spent = λ is. last (spent is);
    closed = closed-fault is_broken_now disk.faults faults disk.faults_now result refuses counted-start grows accounted.broken;
    closes = closed-cause is_broken_now faults disk.faults_now result refuses;
  }

-- ---- what a crash leaves

-- files that store what an environment has hold its rows
pub holds-stored : (left files : Files) (log : Log) (roots : Roots) (commit : ℕ) → is_some (rows_of (env_trees log.file files roots)) ≡ true → stored_in left ≡ Some (newest_stored log.file files roots commit) → Holds left (env_newest log files roots commit)
holds-stored left files log roots commit there is = record {
  rows = ap (option_and_then rows_stored) is ∙ filled (rows_of (env_trees log.file files roots)) there;
  commit = ap (option_map (λ (s : Stored). s.commit)) is;
}
  where
    filled : (o : Option RowsValue) → is_some o ≡ true → o ≡ Some (unwrap_or o no_rows)
    filled None there = absurd (false≢true there)
    filled (Some rows) there = refl

-- what an opening leaves, where each image stored what the files did
pub held-since : (start : Newest) (files : Files) (t0 t1 : ℕ) (before first : ℕ → Files → Type 0) → Passes t0 t1 before first (Stores (stored_in files)) → ((was : Files) → before t0 was → stored_in was ≡ stored_in files)
    → ((left : Files) → stored_in left ≡ stored_in files → Holds left start) → (moment : ℕ) (left : Files) → t0 ≤ moment → moment ≤ t1 → first moment left → Holds left start
held-since start files t0 t1 before first opening alike holds moment left least most there =
    let from = opening.each moment left least most there in
    holds left (elim from.2 [ inl same ↦ same ∙ alike from.0 from.1 | inr same ↦ same ])

-- Images since a run's start: those since the store was opened, and those of the opening, which held what it started with.
pub leaves-since : (start : Newest) (journal : List JournalEntry) (t0 t1 now : ℕ) (first images : ℕ → Files → Type 0) → LeavesPrefixes start journal t1 now images → HoldsEarlier start t1 first images
    → ((moment : ℕ) (left : Files) → t0 ≤ moment → moment ≤ t1 → first moment left → Holds left start) → ((left : Files) → Holds left start → IsPrefix start journal left) → LeavesPrefixes start journal t0 now images
leaves-since start journal t0 t1 now first images old earlier held begins = record {
  each = λ left when. elim (cases_lt when.0 t1) [
    | inl sooner ↦ begins left (earlier t0 held when.0 left when.1 (omega (arith, sooner)) when.3)
    | inr later ↦ old.each left (when.0, omega (arith, later), when.2, when.3)
  ];
  synced = old.synced;
}

-- ---- a store that was not opened

-- no time passed and nothing changed
pub rested-since : (files : Files) (now : ℕ) (images : ℕ → Files → Type 0) → Settled files (images now) → (left : Files) → LeftSince now now images left → stored_in left ≡ stored_in files
rested-since files now images settled left when =
    let same : when.0 ≡ now = let low = when.1 in let high = when.2 in omega (arith, low, high) in
    settled.alike left (subst (λ n. images n left) same when.3)

-- over a call that leaves what was stored
pub stored-since : (files : Files) (before now : ℕ) (past images : ℕ → Files → Type 0) → Settled files (past before) → Passes before now past images (Stores (stored_in files)) → (left : Files) → LeftSince before now images left → stored_in left ≡ stored_in files
stored-since files before now past images settled passes left when =
    let there = passes.each when.0 left when.1 when.2 when.3 in
    elim there.2 [ inl same ↦ same ∙ settled.alike there.0 there.1 | inr same ↦ same ]

-- ---- a run

-- from what the store promises to what the run does
pub ran-of : (disk : Disk) (script : Script) (ending : Ending) (start : Newest) (start_is : IsTrue disk.tells → start_in disk.files ≡ start)
    (journal left more : List JournalEntry) (grown : more ≡ journal ++ left) (only : list_all (λ (entry : JournalEntry). is_left_stop entry.step) left ≡ true) (books : is_some (books_after start more) ≡ true)
    (result : Result (Unit {0}) EnvError) (closing : Option Cause) (closing_is : closing ≡ closing_of result) (commit : ℕ) (commit_is : commit ≡ (newest_after start more).commit)
    → IsEnd disk.tells (start_in disk.files) script journal closing (log_file_count disk.files_now) ending → HaveCauses disk journal (closing_of result) → (IsTrue disk.tells → is_some (stored_in disk.files) ≡ true)
    → (IsTrue disk.tells → OnOk result (Holds disk.files_now (newest_after start more)))
    → (IsTrue disk.tells → WasSettled disk → LeavesPrefixes start more disk.since disk.now disk.images)
    → (IsTrue disk.tells → WasSettled disk → OnOk result ((files : Files) → disk.images disk.now files → commit_left files ≡ commit))
    → (IsTrue disk.tells → WasSettled disk → OnOk result (Settled disk.files_now (disk.images disk.now)))
    → Ran disk script ending
ran-of disk script ending start start_is journal left more grown only books result closing closing_is commit commit_is end causes good holds leaves durable settled = record {
  journal = journal;
  closing = closing;
  end = end;
  causes = subst (HaveCauses disk journal) (sym closing_is) causes;
  good = good;
  holds = λ told none. subst (Holds disk.files_now) (same told) (when-closed result (Holds disk.files_now (newest_after start more)) (holds told) (sym closing_is ∙ none));
  safe = λ told calm. record {
    leaves = subst (λ s. LeavesPrefixes s journal disk.since disk.now disk.images) (sym (start_is told)) (leaves-same start journal left more grown only books disk.since disk.now disk.images (leaves told calm));
    all = λ none files there.
        when-closed result ((files : Files) → disk.images disk.now files → commit_left files ≡ commit) (durable told calm) (sym closing_is ∙ none) files there ∙ commit_is ∙ ap (λ (n : Newest). n.commit) (same told);
    settled = λ none. when-closed result (Settled disk.files_now (disk.images disk.now)) (settled told calm) (sym closing_is ∙ none);
  };
}
  where
    same : IsTrue disk.tells → newest_after start more ≡ newest_after (start_in disk.files) journal
    same told = newest-same start journal left more grown only ∙ ap (λ s. newest_after s journal) (sym (start_is told))

-- ---- what a script and a store have

pub formed-of : (script : Script) → IsTrue (is_well_formed script) → (IsTrue (list_all is_well_formed_session script.sessions)) × (length script.sessions ≤ 64)
unfolding is_well_formed
formed-of script formed =
    let one = both_true (list_all is_well_formed_session script.sessions) _ formed in
    let two = both_true _ _ one.1 in
    let few = both_true _ _ two.1 in
    (one.0, leb-true (length script.sessions) 64 few.0)

-- books in which none is open, as a store has them
pub none-open : (o : Option Books) (commit : ℕ) (txns : FinMap nat_cmp Pinned) → option_map (λ (books : Books). books.txns) o ≡ Some empty → option_map kept_in o ≡ Some (commit, txns) → txns ≡ empty
none-open None commit txns closed kept = absurd (none-some _ closed)
none-open (Some books) commit txns closed kept = sym (ap (λ (k : ℕ × FinMap nat_cmp Pinned). k.1) (same_Some _ _ kept)) ∙ same_Some _ _ closed

-- books of which something is kept are there
pub books-there : (o : Option Books) (commit : ℕ) (txns : FinMap nat_cmp Pinned) → option_map kept_in o ≡ Some (commit, txns) → is_some o ≡ true
books-there None commit txns kept = absurd (none-some _ kept)
books-there (Some books) commit txns kept = refl

-- what players came to, to the end of their order or not
pub run-of : {Open : Type 0} (tells : Open → Bool) (txn : Open → OpenTxn) (faults : Open → ℕ) (space : SpaceView) (players : List (Player Open)) (start : World) (items : List Item) (untaken : Option ℕ) → Replays tells txn faults space players start items untaken
    → HasRun tells txn faults space players start
run-of tells txn faults space players start items None replays = replays.run
run-of tells txn faults space players start items (Some number) replays = replays.run

-- a last number that stands
pub last-stands : (log : Log) (commit : ℕ) (newest : Newest) (files : Files) → newest.commit ≡ commit → (is_last log ≡ true → contains_key files (body_of last_file) ≡ true) → IsTrue (is_last_number log commit) → LastStands newest files
last-stands log commit newest files same last is = by (is_last log) (nat_eq commit last_commit) refl refl is
  where
    by : (b c : Bool) → is_last log ≡ b → nat_eq commit last_commit ≡ c → (b || c) ≡ true → LastStands newest files
    by true c here there some = inr (last here)
    by false true here there some = inl (same ∙ eqb-true commit last_commit there)
    by false false here there some = absurd (false≢true some)

-- why an opening was refused
pub refusal-of : (disk : Disk) (error : OpenError) (ending : Ending) → IsRefusedAs error ending → (error ≡ refusal.Device → Rose disk.faults disk.faults_now) → ((place : Place) → error ≡ refusal.Damaged place → IsTrue disk.tells → check disk.files ≡ Err place) → IsRefusal disk ending
refusal-of disk refusal.Device ending is device damaged = subst (IsRefusal disk) (sym is) (device refl)
refusal-of disk (refusal.Damaged place) ending (inl is) device damaged = subst (IsRefusal disk) (sym is) (refl, damaged place refl)
refusal-of disk (refusal.Damaged place) ending (inr is) device damaged = subst (IsRefusal disk) (sym is) tt
refusal-of disk refusal.Memory ending is device damaged = subst (IsRefusal disk) (sym is) tt

-- players in another list that is the same
pub part-of : {Open : Type 0} {tells : Open → Bool} {txn : Open → OpenTxn} {faults : Open → ℕ} {space : SpaceView} {players : List (Player Open)} {start : World} → HasRun tells txn faults space players start → (others : List (Player Open)) → others ≡ players
    → AllTakePart tells txn faults 1 space others
part-of {tells = tells} {txn = txn} {faults = faults} {space = space} run others same = subst (λ l. AllTakePart tells txn faults 1 space l) (sym same) run.sit

pub own-of : {Open : Type 0} {tells : Open → Bool} {txn : Open → OpenTxn} {faults : Open → ℕ} {space : SpaceView} {players : List (Player Open)} {start : World} → HasRun tells txn faults space players start → (others : List (Player Open)) → others ≡ players
    → list_all (is_players (start_of space others)) space.journal ≡ true
own-of {space = space} run others same = ap (λ l. list_all (is_players (start_of space l)) space.journal) same ∙ ap (λ w. list_all (is_players w) space.journal) run.start_is ∙ run.own
