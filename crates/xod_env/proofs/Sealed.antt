-- What a seal leaves of an environment.
use Rattle.std.proofs.Common.{◌≡◌, ◌<◌, ◌≤◌, ◌⊎◌, ℕ, suc, pred, ◌+◌, ◌*◌, ◌^◌, Bool, true, false, cond, eqb, List, take, Some, is_some, IsSome, refl, sym, ◌∙◌, ap, subst, arith, inl, inr}
use mathlib.Core.Logic.{◌≢◌}
use Rattle.std.proofs.lemmas.Bool.{cases_lt, cases_order, cond-true, cond-false, eq-eqb, ne_eqb, true≢false}
use Rattle.std.specs.FinMap.{get}
use Rattle.std.specs.Int.{w64, from_be_bytes}
use Rattle.xod_log.specs.declared.log.Log.{Log}
use Rattle.xod_log.specs.Calls.{IsClosed, IsMarked, Seals}
use Rattle.xod_log.specs.Ends.{end_at, body_of, ends_of}
use Rattle.xod_log.specs.Standing.{IsSettled, Stands, body_file, ends_file, sealed_log}
use Rattle.xod_log.proofs.CallerLemmas.{same_bytes, same_numbers, numbers-read, has_bytes, weakened}
use Rattle.xod_recover.specs.Images.{Stores, UnusedFrom}
use Rattle.xod_recover.specs.Opened.{is_used}
use Rattle.xod_recover.specs.Stores.{Stored}
use Rattle.xod_recover.specs.Tails.{Covers}
use Rattle.xod_recover.proofs.CallerLemmas.{greatest_alike, greatest_used_is, same_used}
use Rattle.xod_root.specs.Roots.{Roots}
use Rattle.xod_tables.specs.Reading.{rows_of}
use Rattle.xod_volume.specs.Crash.{Passes}
use Rattle.xod_volume.specs.Files.{Files, Content, bytes_in, bytes_of}
use Rattle.xod_snapshot.specs.Snapshots.{snapshot_trees}
use Rattle.xod_env.specs.Envs.{ArePlaced, IsAt, IsNewest, IsSound, IsSteady, bodies_up_to, env_trees, newest_stored, sealed_end}
use Rattle.xod_env.proofs.Reaching.{same-up-to}
use Rattle.xod_env.proofs.Sealing.{same_bodies}
use Rattle.xod_env.proofs.Stepping.{Beside, last_end-over, none_used, others-beside, seal-step}

-- ---- the log, sealed or not

-- It is the log that it was, or that log sealed, and then there was something to seal.
abbrev pub Either : Log → Log → Type 0
Either log now = (now ≡ log) ⊎ ((log.is_sealed ≡ false) × (now ≡ record log { marks = log.marks + 1; is_sealed = true }))

either-by : (b : Bool) (log now other : Log) → log.is_sealed ≡ b → now ≡ cond b log other → (now ≡ log) ⊎ ((log.is_sealed ≡ false) × (now ≡ other))
either-by true log now other is same = inl same
either-by false log now other is same = inr (is, same)

pub either-sealed : (log now : Log) → now ≡ sealed_log log → Either log now
either-sealed log now is = either-by log.is_sealed log now (record log { marks = log.marks + 1; is_sealed = true }) refl is

answered : (b : Bool) (log now : Log) → now ≡ cond b (sealed_log log) log → Either log now
answered true log now is = either-sealed log now is
answered false log now is = inl is

pub either-answered : (ok : Bool) (log now : Log) → now ≡ cond ok (sealed_log log) log → Either log now
either-answered ok log now is = answered ok log now is

-- the last open mark of a sealed log ends at its end
pub sealed-last : (log : Log) (end_fits : log.end < 2 ^ 64) (back_fits : log.back < 2 ^ 32) (files : Files) (images : Files → Type 0) → Stands log files images → log.is_sealed ≡ true → sealed_end log files ≤ log.end
sealed-last log end_fits back_fits files images stands sealed = elim (cases_lt 0 log.marks) [
  | inl some ↦
      let next : log.marks ≡ pred log.marks + 1 = omega (arith, some) in
      let read = numbers-read (bytes_of files (ends_file log)) (pred log.marks) log.end log.back end_fits back_fits ((stands.last sealed).some (pred log.marks) next) in
      let is : sealed_end log files ≡ end_at (bytes_of files (ends_file log)) (pred log.marks) = cond-false (eqb log.marks 0) 0 _ (ne_eqb log.marks 0 (λ e. omega (arith, e, some))) in
      omega (arith, is, read.0)
  | inr le ↦
      let none : log.marks ≡ 0 = omega (arith, le) in
      let is : sealed_end log files ≡ 0 = cond-true (eqb log.marks 0) 0 (end_at (bytes_of files (ends_file log)) (pred log.marks)) (ap (λ (n : ℕ). eqb n 0) none) in
      omega (arith, is)
]

-- ---- reads

same_used-over : (log : Log) (was left : Files) → ((other : ℕ) → other ≢ ends_file log → get left other ≡ get was other) → (other : ℕ) → other ≢ log.file → is_used left other ≡ is_used was other
same_used-over log was left others other apart =
    same_used left was other (others (body_of other) (λ e. omega (arith, e))) (others (ends_of other) (λ e. apart (omega (arith, e))))

module _ (log : Log) (roots : Roots) (commit : ℕ) (files : Files) (images : Files → Type 0) (at : IsAt log roots commit files images)
    (after : Files) (same-body : (file : ℕ) → file ≤ log.file → get after (body_of file) ≡ get files (body_of file))
    (front : take (13 * log.marks) (bytes_of after (ends_file log)) ≡ take (13 * log.marks) (bytes_of files (ends_file log)))
    (top-after : UnusedFrom (suc log.file) after) where
  abbrev B : List ℕ
  B = bytes_of files (body_file log)

  abbrev E : List ℕ
  E = bytes_of files (ends_file log)

  abbrev sealing : Log
  sealing = record log { marks = log.marks + 1; is_sealed = true }

  own-bytes : bytes_of after (body_file log) ≡ B
  own-bytes = ap (λ (c : Content). bytes_in c) (same-body log.file (omega arith))

  same-env : bodies_up_to log.file after ≡ bodies_up_to log.file files
  same-env = same-up-to log.file files after same-body

  newest-after : IsNewest log roots commit (bytes_of after (body_file log))
  newest-after = subst (IsNewest log roots commit) (sym own-bytes) at.newest

  maps-after : (tree : ℕ) → is_some (env_trees log.file after roots tree) ≡ true
  maps-after tree = subst (λ (F : Files). is_some (snapshot_trees F roots tree) ≡ true) (sym same-env) (at.maps tree)

  tables-after : is_some (rows_of (env_trees log.file after roots)) ≡ true
  tables-after = subst (λ (F : Files). is_some (rows_of (snapshot_trees F roots)) ≡ true) (sym same-env) at.tables

  -- the same bytes are sealed
  end-after : sealed_end log after ≡ sealed_end log files
  end-after = elim (cases_lt 0 log.marks) [
    | inl some ↦ ap (cond (eqb log.marks 0) 0) (ap (λ (l : List ℕ). from_be_bytes w64 (take 8 l)) (same_numbers log.marks (pred log.marks) (bytes_of after (ends_file log)) E front (omega (arith, some))))
    | inr le ↦
        let none : eqb log.marks 0 ≡ true = eq-eqb log.marks 0 (omega (arith, le)) in
        cond-true (eqb log.marks 0) 0 (end_at (bytes_of after (ends_file log)) (pred log.marks)) none ∙ sym (cond-true (eqb log.marks 0) 0 (end_at E (pred log.marks)) none)
  ]

  at-log : (now_images : Files → Type 0) → Stands log after now_images → IsAt log roots commit after now_images
  at-log now_images stands =
      let reaches = at.reaches in
      record {
        stands = stands;
        file_fits = at.file_fits;
        end_fits = at.end_fits;
        back_fits = at.back_fits;
        newest = newest-after;
        maps = maps-after;
        tables = tables-after;
        first_file = at.first_file;
        first_mark = at.first_mark;
        first_seal = at.first_seal;
        top = top-after;
        reaches = omega (arith, end-after, reaches);
      }

  at-sealing : (now_images : Files → Type 0) → log.is_sealed ≡ false → Stands sealing after now_images → IsAt sealing roots commit after now_images
  at-sealing now_images unsealed stands = record {
    stands = stands;
    file_fits = at.file_fits;
    end_fits = at.end_fits;
    back_fits = at.back_fits;
    newest = record {
      no_commit = newest-after.no_commit;
      no_roots = newest-after.no_roots;
      within = newest-after.within;
      fits = newest-after.fits;
      root = newest-after.root;
    };
    maps = maps-after;
    tables = tables-after;
    first_file = at.first_file;
    first_mark = λ none. absurd (true≢false (sym (at.first_seal none) ∙ unsealed));
    first_seal = λ none. refl;
    top = top-after;
    reaches = sealed-last sealing at.end_fits at.back_fits after now_images stands refl;
  }

  -- the environment is at the same commit, sealed or not
  pub either-at : (now : Log) (now_images : Files → Type 0) → Either log now → Stands now after now_images → IsAt now roots commit after now_images
  either-at now now_images (inl is) stands =
      subst (λ (l : Log). IsAt l roots commit after now_images) (sym is) (at-log now_images (subst (λ (l : Log). Stands l after now_images) is stands))
  either-at now now_images (inr both) stands =
      subst (λ (l : Log). IsAt l roots commit after now_images) (sym both.1) (at-sealing now_images both.0 (subst (λ (l : Log). Stands l after now_images) both.1 stands))

  -- ---- what a crash may leave

  module _ (steady : IsSteady log files images) (now_images : Files → Type 0)
      (each : (left : Files) → now_images left → (was : Files) × images was × Beside was left log.file × (IsClosed log was left ⊎ IsMarked log B E left))
      (over-beside : (file : ℕ) → file ≢ body_file log → file ≢ ends_file log → IsSettled file after now_images) where
    over-lower : (left : Files) → now_images left → (other : ℕ) → other < log.file → IsSome (get after (body_of other)) → get left (body_of other) ≡ get after (body_of other)
    over-lower left i other lt there =
        let from = each left i in
        let same = same-body other (omega (arith, lt)) in
        let here : IsSome (get files (body_of other)) = ap (λ (c : Content). is_some c) (sym same) ∙ there in
        let s = from.2.lower other lt in
        s.body ∙ (steady.sound from.0 from.1).lower other lt here ∙ sym same

    over-above : (left : Files) → now_images left → UnusedFrom (suc log.file) left
    over-above left i other gt low =
        let from = each left i in
        from.2.upper other (omega (arith, gt)) ∙ (steady.sound from.0 from.1).above other gt low

    covers-pair : (was left : Files) → IsSound log files was → IsClosed log was left ⊎ IsMarked log B E left → Covers B (bytes_of left (body_file log)) (sealed_end log files)
    covers-pair was left sound (inl c) = subst (λ (l : List ℕ). Covers B l (sealed_end log files)) (sym (same_bytes left was (body_file log) c.body)) sound.covers
    covers-pair was left sound (inr c) =
        subst (λ (l : List ℕ). Covers B l (sealed_end log files)) (sym (has_bytes left (body_file log) B c.whole).1) (omega (arith, at.reaches, at.stands.size), refl)

    steady-log : Stands log after now_images → IsSteady log after now_images
    steady-log stands = record {
      sound = λ left i.
          let from = each left i in
          let sound = steady.sound from.0 from.1 in
          record {
            above = over-above left i;
            lower = over-lower left i;
            covers = subst (Covers (bytes_of after (body_file log)) (bytes_of left (body_file log))) (sym end-after)
                (subst (λ (l : List ℕ). Covers l (bytes_of left (body_file log)) (sealed_end log files)) (sym own-bytes) (covers-pair from.0 left sound from.3));
            fits = λ none other greatest.
                let now_none = none_used log roots commit after now_images (at-log now_images stands) left i none in
                let was_none = none_used log roots commit files images at from.0 from.1 none in
                let used : (file : ℕ) → is_used left file ≡ is_used from.0 file = λ file. elim (cases_order file log.file) [
                  | inl is ↦ subst (λ (k : ℕ). is_used left k ≡ is_used from.0 k) (sym is) (now_none ∙ sym was_none)
                  | inr other_file ↦ elim other_file [
                    | inl lt ↦ let s = from.2.lower file lt in same_used left from.0 file s.body s.ends
                    | inr gt ↦ from.2.upper file gt
                  ]
                ] in
                let there = greatest_used_is left other greatest in
                let lt : other < log.file = elim (cases_order other log.file) [
                  | inl is ↦ absurd (true≢false (sym there.0 ∙ subst (λ (k : ℕ). is_used left k ≡ false) (sym is) now_none))
                  | inr other_file ↦ elim other_file [
                    | inl less ↦ less
                    | inr gt ↦ absurd (true≢false (sym there.0 ∙ over-above left i other gt there.1))
                  ]
                ] in
                let s = from.2.lower other lt in
                let ends : get left (ends_of other) ≡ get from.0 (ends_of other) = s.ends in
                subst (λ (n : ℕ). n < 2 ^ 64) (sym (last_end-over other from.0 left ends)) (sound.fits none other (sym (greatest_alike left from.0 used) ∙ greatest));
          };
      beside = over-beside;
    }

    steady-sealing : Stands sealing after now_images → IsSteady sealing after now_images
    steady-sealing stands = record {
      sound = λ left i.
          let body : bytes_of left (body_file log) ≡ bytes_of after (body_file log) = ap (λ (c : Content). bytes_in c) ((stands.settled refl).body left i) in
          record {
            above = over-above left i;
            lower = over-lower left i;
            covers = subst (λ (l : List ℕ). Covers (bytes_of after (body_file log)) l (sealed_end sealing after)) (sym body)
                (omega (arith, sealed-last sealing at.end_fits at.back_fits after now_images stands refl, stands.size), refl);
            fits = λ none. absurd (omega (arith, none));
          };
      beside = over-beside;
    }

    pub either-steady : (now : Log) → Either log now → Stands now after now_images → IsSteady now after now_images
    either-steady now (inl is) stands =
        subst (λ (l : Log). IsSteady l after now_images) (sym is) (steady-log (subst (λ (l : Log). Stands l after now_images) is stands))
    either-steady now (inr both) stands =
        subst (λ (l : Log). IsSteady l after now_images) (sym both.1) (steady-sealing (subst (λ (l : Log). Stands l after now_images) both.1 stands))

-- ---- a seal changes the ends alone

pub seal-beside : (log : Log) (B E : List ℕ) (was left : Files) → Seals log B E was left → Beside was left log.file
seal-beside log B E was left s =
    others-beside was left log.file (λ other apart. record { body = s.others (body_of other) (λ e. omega (arith, e)); ends = s.others (ends_of other) (λ e. apart (omega (arith, e))) })

module _ (log : Log) (roots : Roots) (commit : ℕ) (files : Files) (images : Files → Type 0) (at : IsAt log roots commit files images)
    (after : Files) (others : (other : ℕ) → other ≢ ends_file log → get after other ≡ get files other)
    (front : take (13 * log.marks) (bytes_of after (ends_file log)) ≡ take (13 * log.marks) (bytes_of files (ends_file log))) where
  seal-body : (file : ℕ) → file ≤ log.file → get after (body_of file) ≡ get files (body_of file)
  seal-body file le = others (body_of file) (λ e. omega (arith, e))

  seal-top : UnusedFrom (suc log.file) after
  seal-top other gt low = same_used-over log files after others other (λ e. omega (arith, e, gt)) ∙ at.top other gt low

  pub at-either : (now : Log) (now_images : Files → Type 0) → Either log now → Stands now after now_images → IsAt now roots commit after now_images
  at-either = either-at log roots commit files images at after seal-body front seal-top

  pub steady-either : IsSteady log files images → (now_images : Files → Type 0)
      → ((left : Files) → now_images left → (was : Files) × images was × Seals log (bytes_of files (body_file log)) (bytes_of files (ends_file log)) was left)
      → (now : Log) → Either log now → Stands now after now_images → IsSteady now after now_images
  steady-either steady now_images each = either-steady log roots commit files images at after seal-body front seal-top steady now_images
      (λ left i. let from = each left i in (from.0, from.1, seal-beside log (bytes_of files (body_file log)) (bytes_of files (ends_file log)) from.0 left from.2, from.2.pair))
      (λ file not_body not_ends there left i.
      let from = each left i in
      let same = others file not_ends in
      from.2.others file not_ends ∙ steady.beside file not_body not_ends (ap (λ (c : Content). is_some c) (sym same) ∙ there) from.0 from.1 ∙ sym same)

-- ---- since a seal began

pub since-seal : (log : Log) (roots : Roots) (commit : ℕ) (files : Files) (t0 t1 : ℕ) (i0 i1 : ℕ → Files → Type 0) → IsAt log roots commit files (i0 t0) → ArePlaced log roots → IsSteady log files (i0 t0)
    → Passes t0 t1 i0 i1 (Seals log (bytes_of files (body_file log)) (bytes_of files (ends_file log))) → Passes t0 t1 i0 i1 (Stores (Some (newest_stored log.file files roots commit)))
since-seal log roots commit files t0 t1 i0 i1 at placed steady passes =
    weakened t0 t1 i0 i1 (Seals log (bytes_of files (body_file log)) (bytes_of files (ends_file log))) (Stores (Some (newest_stored log.file files roots commit))) passes
    (λ was left im s.
    let sound = steady.sound was im in
    seal-step log roots commit files (i0 t0) at was im sound placed left
    (others-beside was left log.file (λ other apart. record { body = s.others (body_of other) (λ e. omega (arith, e)); ends = s.others (ends_of other) (λ e. apart (omega (arith, e))) }))
    (λ other lt there. s.others (body_of other) (λ e. omega (arith, e)) ∙ sound.lower other lt there)
    s.pair)

-- what reads give of the open marks
pub pair-front : (log : Log) (B E : List ℕ) (files after : Files) → bytes_of files (ends_file log) ≡ E → IsClosed log files after ⊎ IsMarked log B E after
    → take (13 * log.marks) (bytes_of after (ends_file log)) ≡ take (13 * log.marks) E
pair-front log B E files after is (inl c) = c.front ∙ ap (take (13 * log.marks)) is
pair-front log B E files after is (inr c) = c.front

pub seal-front : (log : Log) (files after : Files) → Seals log (bytes_of files (body_file log)) (bytes_of files (ends_file log)) files after
    → take (13 * log.marks) (bytes_of after (ends_file log)) ≡ take (13 * log.marks) (bytes_of files (ends_file log))
seal-front log files after s = pair-front log (bytes_of files (body_file log)) (bytes_of files (ends_file log)) files after refl s.pair

-- ---- the log after a seal

pub either-file : (log now : Log) → Either log now → now.file ≡ log.file
either-file log now (inl is) = ap (λ (l : Log). l.file) is
either-file log now (inr both) = ap (λ (l : Log). l.file) both.1

pub either-placed : (log now : Log) (roots : Roots) → Either log now → ArePlaced log roots → ArePlaced now roots
either-placed log now roots (inl is) placed = subst (λ (l : Log). ArePlaced l roots) (sym is) placed
either-placed log now roots (inr both) placed = subst (λ (l : Log). ArePlaced l roots) (sym both.1) (record { numbered = placed.numbered; below = placed.below; low = placed.low; some = placed.some; fits = placed.fits })

sealed-by : (b : Bool) (log now other : Log) → log.is_sealed ≡ b → other.is_sealed ≡ true → now ≡ cond b log other → now.is_sealed ≡ true
sealed-by true log now other is there same = ap (λ (l : Log). l.is_sealed) same ∙ is
sealed-by false log now other is there same = ap (λ (l : Log). l.is_sealed) same ∙ there

pub now-sealed : (log now : Log) → now ≡ sealed_log log → now.is_sealed ≡ true
now-sealed log now is = sealed-by log.is_sealed log now (record log { marks = log.marks + 1; is_sealed = true }) refl refl is

pub newest-either : (log now : Log) (roots : Roots) (commit : ℕ) (files after : Files) → Either log now → ((other : ℕ) → other ≢ ends_file log → get after other ≡ get files other)
    → newest_stored now.file after roots commit ≡ newest_stored log.file files roots commit
newest-either log now roots commit files after either others =
    let of : Files → Stored = λ F. record { commit = commit; trees = snapshot_trees F roots } in
    ap (λ (n : ℕ). newest_stored n after roots commit) (either-file log now either)
    ∙ ap of (same_bodies log.file files after others log.file)

pub pair-ends : (log : Log) (B E : List ℕ) (files after : Files) → Seals log B E files after → is_some (get after (ends_file log)) ≡ true
pair-ends log B E files after s = ends-by s.pair
  where
    ends-by : IsClosed log files after ⊎ IsMarked log B E after → is_some (get after (ends_file log)) ≡ true
    ends-by (inl c) = ap (λ (x : Content). is_some x) c.has_ends
    ends-by (inr c) = ap (λ (x : Content). is_some x) c.has_ends
