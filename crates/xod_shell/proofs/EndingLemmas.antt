-- When a run goes through to its end.
use Rattle.std.proofs.Common.{◌≡◌, ℕ, ◌<◌, Bool, true, false, cond, List, [], ◌∷◌, length, Option, Some, None, Result, Ok, Err, refl, sym, ap, subst, ◌∙◌, arith, inl, inr}
use Rattle.std.specs.Prelude.{◌⊎◌, ◌||◌, ◌==◌, IsTrue, is_some, if◌then◌else◌}
use Rattle.std.specs.FinMap.{contains_key}
use Rattle.std.proofs.lemmas.Bool.{false≢true}
use Rattle.xod_base.specs.declared.limits.TheConstants.{INPUT_LIMIT}
use Rattle.xod_base.specs.Causes.{Rose}
use Rattle.xod_base.specs.declared.causes.Cause.{Cause}
use Rattle.xod_base.specs.declared.causes.Cause.TheVariants as cause
use Rattle.xod_base.specs.declared.causes.Place.{Place}
use Rattle.xod_io.specs.Outside.{IsAllOf, IsMoreThan}
use Rattle.xod_lang.specs.declared.script.Script.{Script}
use Rattle.xod_lang.specs.Scripts.{script_of}
use Rattle.xod_journal.specs.declared.journal.JournalEntry.{JournalEntry}
use Rattle.xod_journal.specs.declared.journal.Step.{Step}
use Rattle.xod_journal.specs.declared.journal.Step.TheVariants as step
use Rattle.xod_journal.specs.Spaces.{is_run}
use Rattle.xod_session.specs.World.{Played, World, world_after, world_at}
use Rattle.xod_play.specs.Orders.{items_of, order_played}
use Rattle.xod_play.specs.Stops.{has_met, is_damage, is_disturbed, is_fault, is_memory, is_met, is_spent}
use Rattle.xod_log.specs.Ends.{body_of}
use Rattle.xod_log.specs.Standing.{last_file}
use Rattle.xod_recover.specs.Check.{check}
use Rattle.xod_recover.specs.Stores.{stored_in, stored_of}
use Rattle.xod_volume.specs.Files.{Files}
use Rattle.xod_shell.specs.declared.ending.Ending.{Ending}
use Rattle.xod_shell.specs.declared.ending.Ending.TheVariants.{Usage, SourceFailed, TooLong, BadLine, DeviceFailed, Damaged, Untaken, NoMemory, Printed}
use Rattle.xod_shell.specs.Runs.{Disk, HaveCauses, IsPlayed, IsUntaken, NotOpened, Ran, start_in}
use Rattle.xod_shell.specs.Statuses.{is_refused_for, status_after}
use Rattle.xod_shell.specs.Endings.{Ends, Given, GoesThrough, IsAnswered, IsCause, IsDue, IsReadAs, IsTold, ReachesLast, Taken, is_before_opening, status_of}

-- ---- stops

either : (b c : Bool) → (b || c) ≡ false → (b ≡ false) × (c ≡ false)
either true c h = absurd (false≢true (sym h))
either false c h = (refl, h)

neither : (b c : Bool) → b ≡ false → c ≡ false → (b || c) ≡ false
neither b c p q = λ i. p i || q i

-- a stop for none of the causes is none
cause_apart : (why : Cause) → is_fault why ≡ false → is_damage why ≡ false → is_spent why ≡ false → is_memory why ≡ false → ⊥
cause_apart cause.Device f d s m = false≢true (sym f)
cause_apart cause.Broken f d s m = false≢true (sym f)
cause_apart cause.Damaged f d s m = false≢true (sym d)
cause_apart cause.Spent f d s m = false≢true (sym s)
cause_apart cause.Memory f d s m = false≢true (sym m)

step_apart : (taken : Step) → is_met is_fault taken ≡ false → is_met is_damage taken ≡ false → is_met is_spent taken ≡ false → is_met is_memory taken ≡ false → is_met (λ why. true) taken ≡ false
step_apart (step.Begin mode) f d s m = refl
step_apart step.Revert f d s m = refl
step_apart (step.Flush changes version) f d s m = refl
step_apart step.End f d s m = refl
step_apart step.Sync f d s m = refl
step_apart (step.Stop line why origin) f d s m =
    elim (is_run origin) as (λ b. cond b (is_fault why) false ≡ false → cond b (is_damage why) false ≡ false → cond b (is_spent why) false ≡ false → cond b (is_memory why) false ≡ false → cond b true false ≡ false) [
      | true ↦ λ f d s m. absurd (cause_apart why f d s m)
      | false ↦ λ f d s m. refl
    ] f d s m

-- a run that met no stop for a cause met none
pub undisturbed : (journal : List JournalEntry) → has_met is_fault journal ≡ false → has_met is_damage journal ≡ false → has_met is_spent journal ≡ false → has_met is_memory journal ≡ false → is_disturbed journal ≡ false
undisturbed [] f d s m = refl
undisturbed (entry ∷ more) f d s m =
    let a = either (is_met is_fault entry.step) (has_met is_fault more) f in
    let b = either (is_met is_damage entry.step) (has_met is_damage more) d in
    let c = either (is_met is_spent entry.step) (has_met is_spent more) s in
    let e = either (is_met is_memory entry.step) (has_met is_memory more) m in
    neither (is_met (λ why. true) entry.step) (is_disturbed more) (step_apart entry.step a.0 b.0 c.0 e.0) (undisturbed more a.1 b.1 c.1 e.1)

-- ---- a run that goes through

-- the status by what was met
abbrev status_by : Bool → Bool → Bool → Bool → ℕ
status_by f d s m = if f then 4 else if d then 8 else if s then 10 else if m then 5 else 0

-- a status that comes of no fault, no damage and no spent number
calm_status : (f d s m : Bool) → f ≡ false → d ≡ false → s ≡ false → (status_by f d s m ≡ 0) ⊎ (status_by f d s m ≡ 5)
calm_status f d s m no_fault no_damage no_spent =
    subst (λ n. (n ≡ 0) ⊎ (n ≡ 5))
    (sym (ap (λ b. cond b 4 (cond d 8 (cond s 10 (cond m 5 0)))) no_fault ∙ ap (λ b. cond b 8 (cond s 10 (cond m 5 0))) no_damage ∙ ap (λ b. cond b 10 (cond m 5 0)) no_spent))
    (by m)
  where
    by : (b : Bool) → (cond {A = ℕ} b 5 0 ≡ 0) ⊎ (cond {A = ℕ} b 5 0 ≡ 5)
    by true = inr refl
    by false = inl refl

-- what is not true is false
unless : (b : Bool) → (b ≡ true → ⊥) → b ≡ false
unless true never = absurd (never refl)
unless false never = refl

-- files that are good are not damaged
good_files : (files : Files) (place : Place) → is_some (stored_in files) ≡ true → check files ≡ Err place → ⊥
good_files files place good bad = false≢true (ap (λ r. is_some (stored_of files r)) (sym bad) ∙ good)

is_error : Result Played ℕ → Bool
is_error (Ok x) = false
is_error (Err k) = true

module _ (disk : Disk) (script : Script) (played : Played) (tells : IsTrue disk.tells) (no_fault : ¬ (Rose disk.faults disk.faults_now)) (good : is_some (stored_in disk.files) ≡ true)
    (no_last : ¬ (ReachesLast (start_in disk.files) script)) (no_last_file : contains_key disk.files_now (body_of last_file) ≡ false)
    (whole : order_played (world_at (start_in disk.files) script.sessions) (items_of script.order) ≡ Ok played) where
  module _ (journal : List JournalEntry) (closing : Option Cause) (causes : HaveCauses disk journal closing) where
    unfailed : has_met is_fault journal ≡ false
    unfailed = unless (has_met is_fault journal) (λ is. no_fault (causes.faults is))

    undamaged : has_met is_damage journal ≡ false
    undamaged = unless (has_met is_damage journal) (λ is. false≢true (sym (causes.damaged is) ∙ tells))

    module _ (world : World) (legal : world_after (Some (world_at (start_in disk.files) script.sessions)) journal ≡ Some world) where
      unspent : has_met is_spent journal ≡ false
      unspent = unless (has_met is_spent journal) (λ is. elim (causes.spent is tells) [
        | inl last ↦ no_last (record { world = world; journal = journal; legal = legal; last = last })
        | inr there ↦ false≢true (sym no_last_file ∙ there)
      ])

      printed : (status : ℕ) → status ≡ status_after journal closing → (status ≡ 0) ⊎ (status ≡ 5)
      printed status is =
          subst (λ n. (n ≡ 0) ⊎ (n ≡ 5)) (sym is)
          (calm_status (has_met is_fault journal || is_refused_for is_fault closing) (has_met is_damage journal || is_refused_for is_damage closing) (has_met is_spent journal || is_refused_for is_spent closing) (has_met is_memory journal || is_refused_for is_memory closing)
          (neither (has_met is_fault journal) (is_refused_for is_fault closing) unfailed (unless (is_refused_for is_fault closing) (λ is. no_fault (causes.closed is))))
          (neither (has_met is_damage journal) (is_refused_for is_damage closing) undamaged causes.closes.0)
          (neither (has_met is_spent journal) (is_refused_for is_spent closing) unspent causes.closes.1))

      not_untaken : (item : ℕ) → IsUntaken (start_in disk.files) script journal item → has_met is_memory journal ≡ false → ⊥
      unfolding is_error
      not_untaken item at no_memory = false≢true (ap is_error (sym whole ∙ at.first (undisturbed journal unfailed undamaged unspent no_memory)))

  -- how the script is answered
  ran : (ending : Ending) → Ran disk script ending → (status_of ending ≡ 0) ⊎ (status_of ending ≡ 5)
  ran Usage r = absurd r.end
  ran SourceFailed r = absurd r.end
  ran TooLong r = absurd r.end
  ran (BadLine line text) r = absurd r.end
  ran DeviceFailed r = absurd r.end
  ran (Damaged place text) r = absurd r.end
  ran NoMemory r = inr refl
  ran (Untaken item text) r = let at = r.end.told tells in absurd (not_untaken r.journal r.closing r.causes at.world at.legal item at r.end.no_memory)
  ran (Printed status text) r = let at = r.end.told tells in printed r.journal r.closing r.causes at.world at.legal status r.end.status_is

  refused : (ending : Ending) → NotOpened disk ending → (status_of ending ≡ 0) ⊎ (status_of ending ≡ 5)
  refused Usage r = absurd r.why
  refused SourceFailed r = absurd r.why
  refused TooLong r = absurd r.why
  refused (BadLine line text) r = absurd r.why
  refused DeviceFailed r = absurd (no_fault r.why)
  refused (Damaged place text) r = absurd (good_files disk.files place good (r.why.1 tells))
  refused NoMemory r = inr refl
  refused (Untaken item text) r = absurd r.why
  refused (Printed status text) r = absurd r.why

  answered : (ending : Ending) → IsPlayed disk script ending → (status_of ending ≡ 0) ⊎ (status_of ending ≡ 5)
  answered ending (inl r) = refused ending r
  answered ending (inr r) = ran ending r

read_through : (disk : Disk) (asked : Option ℕ) (source : Taken) (sink : Given) (ending : Ending) → (g : GoesThrough disk asked source sink) → IsReadAs disk source.left ending → (status_of ending ≡ 0) ⊎ (status_of ending ≡ 5)
read_through disk asked source sink ending g r =
    let same : r.bytes ≡ g.bytes = subst (λ left. IsAllOf r.bytes left) g.all r.all in
    answered disk g.script g.played g.tells g.no_fault g.good g.no_last g.no_last_file g.whole ending
    (subst (λ x. IsAnswered disk x ending) (ap script_of same ∙ g.read) r.answered)

due_through : (disk : Disk) (same : Type 0) (asked : Option ℕ) (source : Taken) (sink : Given) (ending : Ending) → (g : GoesThrough disk asked source sink) → IsCause disk same source ending → (status_of ending ≡ 0) ⊎ (status_of ending ≡ 5)
due_through disk same asked source sink Usage g h = absurd h
due_through disk same asked source sink SourceFailed g h = absurd (g.no_source_fault h)
due_through disk same asked source sink TooLong g h =
    let more : INPUT_LIMIT < length g.bytes = subst (λ left. IsMoreThan INPUT_LIMIT left) g.all h in
    let short = g.short in
    absurd (omega (arith, more, short))
due_through disk same asked source sink NoMemory g h = inr refl
due_through disk same asked source sink (BadLine line text) g h = read_through disk asked source sink (BadLine line text) g h
due_through disk same asked source sink DeviceFailed g h = read_through disk asked source sink DeviceFailed g h
due_through disk same asked source sink (Damaged place text) g h = read_through disk asked source sink (Damaged place text) g h
due_through disk same asked source sink (Untaken item text) g h = read_through disk asked source sink (Untaken item text) g h
due_through disk same asked source sink (Printed status text) g h = read_through disk asked source sink (Printed status text) g h

-- where a run goes through, its status is 0 or 5
pub through : (disk : Disk) (same : Type 0) (asked : Option ℕ) (source : Taken) (sink : Given) (status : ℕ) → Ends disk same asked source sink status → GoesThrough disk asked source sink → (status ≡ 0) ⊎ (status ≡ 5)
through disk same None source sink status e g = absurd (false≢true g.command)
through disk same (Some target) source sink status e g = told e.told
  where
    told : IsTold e.ending status sink → (status ≡ 0) ⊎ (status ≡ 5)
    told (inl t) = subst (λ n. (n ≡ 0) ⊎ (n ≡ 5)) (sym t.0) (due_through disk same (Some target) source sink e.ending g e.due)
    told (inr t) = absurd (g.no_sink_fault t.1)

-- ---- single statuses

-- the status 4 of a run comes of a fault
of_fault : (f d s m : Bool) → status_by f d s m ≡ 4 → f ≡ true
of_fault true d s m is = refl
of_fault false true s m is = absurd (omega (arith, is))
of_fault false false true m is = absurd (omega (arith, is))
of_fault false false false true is = absurd (omega (arith, is))
of_fault false false false false is = absurd (omega (arith, is))

-- and it is none of these
of_stops : (f d s m : Bool) (status : ℕ) → status ≡ status_by f d s m → (status ≡ 2) ⊎ (status ≡ 3) ⊎ (status ≡ 6) → ⊥
of_stops true d s m status is (inl e) = omega (arith, is, e)
of_stops true d s m status is (inr (inl e)) = omega (arith, is, e)
of_stops true d s m status is (inr (inr e)) = omega (arith, is, e)
of_stops false true s m status is (inl e) = omega (arith, is, e)
of_stops false true s m status is (inr (inl e)) = omega (arith, is, e)
of_stops false true s m status is (inr (inr e)) = omega (arith, is, e)
of_stops false false true m status is (inl e) = omega (arith, is, e)
of_stops false false true m status is (inr (inl e)) = omega (arith, is, e)
of_stops false false true m status is (inr (inr e)) = omega (arith, is, e)
of_stops false false false true status is (inl e) = omega (arith, is, e)
of_stops false false false true status is (inr (inl e)) = omega (arith, is, e)
of_stops false false false true status is (inr (inr e)) = omega (arith, is, e)
of_stops false false false false status is (inl e) = omega (arith, is, e)
of_stops false false false false status is (inr (inl e)) = omega (arith, is, e)
of_stops false false false false status is (inr (inr e)) = omega (arith, is, e)

-- other statuses
other : (n : ℕ) → (n == 5) || (n == 4) || (n == 8) || (n == 9) ≡ true → (n ≡ 2) ⊎ (n ≡ 3) ⊎ (n ≡ 6) → ⊥
other n is (inl e) = false≢true (ap (λ k. (k == 5) || (k == 4) || (k == 8) || (k == 9)) (sym e) ∙ is)
other n is (inr (inl e)) = false≢true (ap (λ k. (k == 5) || (k == 4) || (k == 8) || (k == 9)) (sym e) ∙ is)
other n is (inr (inr e)) = false≢true (ap (λ k. (k == 5) || (k == 4) || (k == 8) || (k == 9)) (sym e) ∙ is)

either_true : (b c : Bool) → (b || c) ≡ true → (b ≡ true) ⊎ (c ≡ true)
either_true true c is = inl refl
either_true false c is = inr is

module _ (disk : Disk) where
  printed_fault : (script : Script) (status : ℕ) (text : List ℕ) → IsPlayed disk script (Printed status text) → status ≡ 4 → Rose disk.faults disk.faults_now
  printed_fault script status text (inl r) four = absurd r.why
  printed_fault script status text (inr r) four =
      elim (either_true (has_met is_fault r.journal) (is_refused_for is_fault r.closing)
      (of_fault (has_met is_fault r.journal || is_refused_for is_fault r.closing) (has_met is_damage r.journal || is_refused_for is_damage r.closing) (has_met is_spent r.journal || is_refused_for is_spent r.closing) (has_met is_memory r.journal || is_refused_for is_memory r.closing)
      (sym r.end.status_is ∙ four))) [
        | inl met ↦ r.causes.faults met
        | inr closed ↦ r.causes.closed closed
      ]

  printed_apart : (script : Script) (status : ℕ) (text : List ℕ) → IsPlayed disk script (Printed status text) → (status ≡ 2) ⊎ (status ≡ 3) ⊎ (status ≡ 6) → ⊥
  printed_apart script status text (inl r) is = r.why
  printed_apart script status text (inr r) is =
      of_stops (has_met is_fault r.journal || is_refused_for is_fault r.closing) (has_met is_damage r.journal || is_refused_for is_damage r.closing) (has_met is_spent r.journal || is_refused_for is_spent r.closing) (has_met is_memory r.journal || is_refused_for is_memory r.closing)
      status r.end.status_is is

  opening_fault : (script : Script) → IsPlayed disk script DeviceFailed → Rose disk.faults disk.faults_now
  opening_fault script (inl r) = r.why
  opening_fault script (inr r) = absurd r.end

  -- what an ending that is read has, where a script was read
  of_script : (expected : Result Script ℕ) (ending : Ending) (P : Type 0) → IsAnswered disk expected ending → (ending ≡ DeviceFailed ⊎ ((status : ℕ) × (text : List ℕ) × (ending ≡ Printed status text))) → ((script : Script) → IsPlayed disk script ending → P) → P
  of_script (Ok script) ending P answered is goes = goes script answered
  of_script (Err bad) ending P answered (inl device) goes = absurd (subst (λ e. IsAnswered disk (Err bad) e) device answered)
  of_script (Err bad) ending P answered (inr printed) goes = absurd (subst (λ e. IsAnswered disk (Err bad) e) printed.2 answered)

  module _ (same : Type 0) (source : Taken) where
    cause_fault : (ending : Ending) → IsCause disk same source ending → status_of ending ≡ 4 → Rose disk.faults disk.faults_now
    cause_fault Usage h four = absurd h
    cause_fault SourceFailed h four = absurd (omega (arith, four))
    cause_fault TooLong h four = absurd (omega (arith, four))
    cause_fault NoMemory h four = absurd (omega (arith, four))
    cause_fault (BadLine line text) h four = absurd (omega (arith, four))
    cause_fault (Damaged place text) h four = absurd (omega (arith, four))
    cause_fault (Untaken item text) h four = absurd (omega (arith, four))
    cause_fault DeviceFailed h four = of_script (script_of h.bytes) DeviceFailed (Rose disk.faults disk.faults_now) h.answered (inl refl) (λ script played. opening_fault script played)
    cause_fault (Printed status text) h four =
        of_script (script_of h.bytes) (Printed status text) (Rose disk.faults disk.faults_now) h.answered (inr (status, text, refl)) (λ script played. printed_fault script status text played four)

    cause_apart_from : (ending : Ending) → IsCause disk same source ending → (IsTrue (is_before_opening ending) → same) → (status_of ending ≡ 2) ⊎ (status_of ending ≡ 3) ⊎ (status_of ending ≡ 6) → same
    cause_apart_from Usage h untouched is = absurd h
    cause_apart_from SourceFailed h untouched is = untouched refl
    cause_apart_from TooLong h untouched is = untouched refl
    cause_apart_from (BadLine line text) h untouched is = untouched refl
    cause_apart_from NoMemory h untouched is = absurd (other 5 refl is)
    cause_apart_from DeviceFailed h untouched is = absurd (other 4 refl is)
    cause_apart_from (Damaged place text) h untouched is = absurd (other 8 refl is)
    cause_apart_from (Untaken item text) h untouched is = absurd (other 9 refl is)
    cause_apart_from (Printed status text) h untouched is =
        absurd (of_script (script_of h.bytes) (Printed status text) ⊥ h.answered (inr (status, text, refl)) (λ script played. printed_apart script status text played is))

pub device-failed : (disk : Disk) (same : Type 0) (asked : Option ℕ) (source : Taken) (sink : Given) (status : ℕ) → Ends disk same asked source sink status → status ≡ 4 → Rose disk.faults disk.faults_now
device-failed disk same asked source sink status e four = by asked e.due e.told
  where
    by : (asked : Option ℕ) → IsDue disk same asked source e.ending → IsTold e.ending status sink → Rose disk.faults disk.faults_now
    by None due (inl t) = absurd (let no : status_of e.ending ≡ 2 = ap status_of due in let is = t.0 in omega (arith, no, is, four))
    by (Some target) due (inl t) = cause_fault disk same source e.ending due (sym t.0 ∙ four)
    by asked due (inr t) = absurd (let is = t.0 in omega (arith, is, four))

pub untouched-by : (disk : Disk) (same : Type 0) (asked : Option ℕ) (source : Taken) (sink : Given) (status : ℕ) → Ends disk same asked source sink status → (status ≡ 2) ⊎ (status ≡ 3) ⊎ (status ≡ 6) → same
untouched-by disk same asked source sink status e is = by asked e.due e.told
  where
    by : (asked : Option ℕ) → IsDue disk same asked source e.ending → IsTold e.ending status sink → same
    by None due (inl t) = e.untouched (ap is_before_opening due)
    by (Some target) due (inl t) = cause_apart_from disk same source e.ending due e.untouched (subst (λ n. (n ≡ 2) ⊎ (n ≡ 3) ⊎ (n ≡ 6)) t.0 is)
    by asked due (inr t) = absurd (seven is)
      where
        seven : (status ≡ 2) ⊎ (status ≡ 3) ⊎ (status ≡ 6) → ⊥
        seven (inl two) = let is = t.0 in omega (arith, is, two)
        seven (inr (inl three)) = let is = t.0 in omega (arith, is, three)
        seven (inr (inr six)) = let is = t.0 in omega (arith, is, six)
