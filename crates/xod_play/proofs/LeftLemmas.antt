-- Stops of sessions that were left change no rows, and this run did not meet them.
use Rattle.std.proofs.Common.{◌≡◌, ℕ, Bool, true, false, List, [], ◌∷◌, ◌++◌, length, Option, Some, None, refl, sym, ap, ◌∙◌, append-nil}
use Rattle.std.specs.Prelude.{◌&&◌, ◌||◌, ◌==◌, if◌then◌else◌, is_some, option_map}
use Rattle.std.specs.List.{filter, list_all}
use Rattle.std.specs.Option.{unwrap_or}
use Rattle.std.proofs.lemmas.Bool.{false≢true}
use Rattle.std.proofs.lemmas.Option.{none-some, same_Some}
use Rattle.std.proofs.lemmas.List.Elements.{filter-append}
use Rattle.std.proofs.lemmas.List.Folds.{list_any-append}
use Rattle.xod_base.specs.Rows.{RowsValue}
use Rattle.xod_base.specs.declared.causes.Cause.{Cause}
use Rattle.xod_journal.specs.declared.journal.JournalEntry.{JournalEntry}
use Rattle.xod_journal.specs.declared.journal.Origin.TheVariants as origin
use Rattle.xod_journal.specs.declared.journal.Step.{Step}
use Rattle.xod_journal.specs.declared.journal.Step.TheVariants as step
use Rattle.xod_journal.specs.Books.{Books, all_booked, booked}
use Rattle.xod_journal.specs.Seats.{books_after}
use Rattle.xod_journal.specs.Spaces.{KeepsSpace, SpaceView, device_stops, is_device, is_device_stop}
use Rattle.xod_journal.specs.Standing.{Newest, newest_after, newest_step, opening, rows_at, rows_step}
use Rattle.xod_journal.proofs.CallerLemmas.{all_booked-append, newest_after-append, rows_at-append}
use Rattle.xod_journal.proofs.JournalLemmas.{all_booked-none, not_stopped}
use Rattle.xod_session.proofs.OptionLemmas.{both_true}
use Rattle.xod_play.specs.Finished.{HasFinished, is_left_stop}
use Rattle.xod_play.specs.Follows.{has_given_up}
use Rattle.xod_play.specs.Rounds.{StopsHaveCauses}
use Rattle.xod_play.specs.Stops.{has_met, is_met}
use Rattle.xod_play.proofs.CauseLemmas.{causes-kept}
use Rattle.xod_play.proofs.FollowLemmas.{given-append}

-- ---- one step

-- what is known of each such stop
by_stop : (P : Step → Type 0) → ((line : ℕ) (why : Cause) → P (step.Stop line why origin.Left)) → (one : Step) → is_left_stop one ≡ true → P one
by_stop P each (step.Begin mode) e = absurd (false≢true e)
by_stop P each step.Revert e = absurd (false≢true e)
by_stop P each (step.Flush changes version) e = absurd (false≢true e)
by_stop P each step.End e = absurd (false≢true e)
by_stop P each step.Sync e = absurd (false≢true e)
by_stop P each (step.Stop line why origin.Left) e = each line why
by_stop P each (step.Stop line why origin.Run) e = absurd (false≢true e)
by_stop P each (step.Stop line why origin.Order) e = absurd (false≢true e)

no_and : (b : Bool) → (b && false) ≡ false
no_and true = refl
no_and false = refl

either_false : (b : Bool) → (b || false) ≡ b
either_false true = refl
either_false false = refl

-- ---- all of them

newest_left : (now : Newest) (left : List JournalEntry) → list_all (λ entry. is_left_stop entry.step) left ≡ true → newest_after now left ≡ now
newest_left now [] only = refl
newest_left now (entry ∷ more) only =
    let both = both_true (is_left_stop entry.step) (list_all (λ entry. is_left_stop entry.step) more) only in
    ap (λ n. newest_after n more) (by_stop (λ one. newest_step now one ≡ now) (λ line why. refl) entry.step both.0) ∙ newest_left now more both.1

rows_left : (n : ℕ) (rows : RowsValue) (left : List JournalEntry) → list_all (λ entry. is_left_stop entry.step) left ≡ true → rows_at n rows left ≡ rows
rows_left n rows [] only = refl
rows_left n rows (entry ∷ more) only =
    let both = both_true (is_left_stop entry.step) (list_all (λ entry. is_left_stop entry.step) more) only in
    ap (λ r. rows_at n r more) (by_stop (λ one. rows_step n rows one ≡ rows) (λ line why. refl) entry.step both.0) ∙ rows_left n rows more both.1

met_left : (test : Cause → Bool) (left : List JournalEntry) → list_all (λ entry. is_left_stop entry.step) left ≡ true → has_met test left ≡ false
met_left test [] only = refl
met_left test (entry ∷ more) only =
    let both = both_true (is_left_stop entry.step) (list_all (λ entry. is_left_stop entry.step) more) only in
    λ i. by_stop (λ one. is_met test one ≡ false) (λ line why. refl) entry.step both.0 i || met_left test more both.1 i

given_left : (actor : ℕ) (left : List JournalEntry) → list_all (λ entry. is_left_stop entry.step) left ≡ true → has_given_up left actor ≡ false
given_left actor [] only = refl
given_left actor (entry ∷ more) only =
    let both = both_true (is_left_stop entry.step) (list_all (λ entry. is_left_stop entry.step) more) only in
    λ i. (ap (λ b. (entry.actor == actor) && b) (by_stop (λ one. is_met (λ why. true) one ≡ false) (λ line why. refl) entry.step both.0) ∙ no_and (entry.actor == actor)) i || given_left actor more both.1 i

device_left : (left : List JournalEntry) → list_all (λ entry. is_left_stop entry.step) left ≡ true → filter (λ (entry : JournalEntry). is_device_stop entry.step) left ≡ []
device_left [] only = refl
device_left (entry ∷ more) only =
    let both = both_true (is_left_stop entry.step) (list_all (λ entry. is_left_stop entry.step) more) only in
    ap (λ b. if b then entry ∷ filter (λ (entry : JournalEntry). is_device_stop entry.step) more else filter (λ (entry : JournalEntry). is_device_stop entry.step) more)
    (by_stop (λ one. is_device_stop one ≡ false) (λ line why. no_and (is_device why)) entry.step both.0) ∙ device_left more both.1

synced_left : (books next : Books) (left : List JournalEntry) → list_all (λ entry. is_left_stop entry.step) left ≡ true → all_booked (Some books) left ≡ Some next → next.synced ≡ books.synced
synced_left books next [] only e = ap (λ (b : Books). b.synced) (sym (same_Some _ _ e))
synced_left books next (entry ∷ more) only e =
    let both = both_true (is_left_stop entry.step) (list_all (λ entry. is_left_stop entry.step) more) only in
    elim (booked books entry.actor entry.step) as (λ o. booked books entry.actor entry.step ≡ o → all_booked o more ≡ Some next → next.synced ≡ books.synced) [
      | None ↦ λ is e. absurd (none-some next (sym (all_booked-none more) ∙ e))
      | Some here ↦ λ is e. synced_left here next more both.1 e
          ∙ by_stop (λ one. booked books entry.actor one ≡ Some here → here.synced ≡ books.synced) (λ line why b. ap (λ (b : Books). b.synced) (sym (same_Some _ _ (not_stopped books here entry.actor (step.Stop line why origin.Left) b).1))) entry.step both.0 is
    ] refl e

-- ---- a journal with such stops more

module _ (journal left : List JournalEntry) (only : list_all (λ entry. is_left_stop entry.step) left ≡ true) where
  -- this run met no more stops
  pub left-met : (test : Cause → Bool) → has_met test (journal ++ left) ≡ has_met test journal
  left-met test = list_any-append (λ (e : JournalEntry). is_met test e.step) journal left ∙ ap (λ b. has_met test journal || b) (met_left test left only) ∙ either_false (has_met test journal)

  -- nor of any session
  pub left-given : (actor : ℕ) → has_given_up (journal ++ left) actor ≡ has_given_up journal actor
  left-given actor = given-append journal left actor ∙ ap (λ b. has_given_up journal actor || b) (given_left actor left only) ∙ either_false (has_given_up journal actor)

  -- the stops for a device's fault are as many
  pub left-device : device_stops (journal ++ left) ≡ device_stops journal
  left-device = ap length (filter-append (λ (e : JournalEntry). is_device_stop e.step) journal left ∙ ap (λ l. filter (λ (e : JournalEntry). is_device_stop e.step) journal ++ l) (device_left left only) ∙ append-nil _)

-- the newest rows and their commit are the same
pub left-newest : (start : Newest) (journal left : List JournalEntry) → list_all (λ entry. is_left_stop entry.step) left ≡ true → newest_after start (journal ++ left) ≡ newest_after start journal
left-newest start journal left only = newest_after-append start journal left ∙ newest_left (newest_after start journal) left only

-- and so are those of each commit
pub left-rows : (n : ℕ) (rows : RowsValue) (journal left : List JournalEntry) → list_all (λ entry. is_left_stop entry.step) left ≡ true → rows_at n rows (journal ++ left) ≡ rows_at n rows journal
left-rows n rows journal left only = rows_at-append n rows journal left ∙ rows_left n (rows_at n rows journal) left only

-- and what is on the disk
pub left-synced : (start : Newest) (journal left : List JournalEntry) → list_all (λ entry. is_left_stop entry.step) left ≡ true → is_some (books_after start (journal ++ left)) ≡ true
    → unwrap_or (option_map (λ (books : Books). books.synced) (books_after start (journal ++ left))) 0 ≡ unwrap_or (option_map (λ (books : Books). books.synced) (books_after start journal)) 0
left-synced start journal left only there =
    let whole = all_booked-append (Some ((opening start).books)) journal left in
    elim (books_after start journal) as (λ o. books_after start (journal ++ left) ≡ all_booked o left
    → unwrap_or (option_map (λ (books : Books). books.synced) (books_after start (journal ++ left))) 0 ≡ unwrap_or (option_map (λ (books : Books). books.synced) o) 0) [
      | None ↦ λ is. ap (λ o. unwrap_or (option_map (λ (books : Books). books.synced) o) 0) (is ∙ all_booked-none left)
      | Some books ↦ λ is. by books (books_after start (journal ++ left)) there is
    ] whole
  where
    by : (books : Books) (o : Option Books) → is_some o ≡ true → o ≡ all_booked (Some books) left → unwrap_or (option_map (λ (books : Books). books.synced) o) 0 ≡ books.synced
    by books None there is = absurd (false≢true there)
    by books (Some next) there is = synced_left books next left only (sym is)

-- stops that have their causes keep them
pub left-causes : (old new : SpaceView) (were_done : Bool) → KeepsSpace old new → HasFinished old new were_done → StopsHaveCauses old → StopsHaveCauses new
left-causes old new were_done keeps finished = causes-kept old new keeps (λ test. ap (has_met test) finished.grown ∙ left-met old.journal finished.left finished.only test)
