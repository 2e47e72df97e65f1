-- What a roll leaves of an environment, and the block that comes behind it.
use Rattle.std.proofs.Common.{◌≡◌, ◌<◌, ◌≤◌, ◌⊎◌, ℕ, suc, ◌+◌, ◌*◌, ◌-◌, ◌^◌, Bool, true, false, cond, eqb, ltb, List, [], ◌++◌, length, take, drop, Some, is_some, IsSome, refl, sym, ◌∙◌, ap, subst, arith, inl, inr}
use mathlib.Core.Logic.{◌≢◌}
use Rattle.std.proofs.Math.Path.{fun_ext}
use Rattle.std.proofs.lemmas.Bool.{cases_eq, cases_lt, cases_order, cond-true, cond-false, eq-eqb, lt-ltb, ltb-true, ne_eqb, true≢false}
use Rattle.std.specs.FinMap.{get}
use Rattle.xod_base.specs.Views.{Trees}
use Rattle.xod_block.specs.declared.address.Address.{Address}
use Rattle.xod_block.specs.Addresses.{number_of}
use Rattle.xod_block.specs.Bodies.{Bodies}
use Rattle.xod_block.specs.Maps.{OnlyMore}
use Rattle.xod_log.specs.declared.log.Log.{Log}
use Rattle.xod_log.specs.Calls.{IsClosed, IsElsewhere, IsMarked, IsRolled, Rolls}
use Rattle.xod_log.specs.Ends.{body_of, ends_of}
use Rattle.xod_log.specs.Standing.{IsDurablePair, IsSettled, Stands, appended_log, body_file, ends_file, is_due, is_last, last_file, next_place_of, receiving_log, rolled_log}
use Rattle.xod_log.proofs.CallerLemmas.{has_bytes, weakened}
use Rattle.xod_pages.specs.Lent.{lent_bodies}
use Rattle.xod_recover.specs.Images.{Stores, UnusedFrom}
use Rattle.xod_recover.specs.Opened.{greatest_used, is_used, open_count}
use Rattle.xod_recover.proofs.CallerLemmas.{count_is, greatest-above, greatest_used_is, same_used, used_by_count}
use Rattle.xod_root.specs.Roots.{Roots}
use Rattle.xod_tables.specs.Reading.{rows_of}
use Rattle.xod_volume.specs.Crash.{Passes}
use Rattle.xod_volume.specs.Files.{Content, Files, bytes_in, bytes_of}
use Rattle.xod_env.specs.Blocks.{IsNextBlock, records_with, trees_with}
use Rattle.xod_env.specs.Envs.{ArePlaced, IsAt, IsSteady, bodies_up_to, env_records, env_trees, last_end, newest_stored}
use Rattle.xod_snapshot.specs.Snapshots.{snapshot_trees}
use Rattle.xod_env.proofs.Growing.{block-more}
use Rattle.xod_env.proofs.Reaching.{body-not, body-up-to, map-kept, same-up-to}
use Rattle.xod_env.proofs.RestStores.{none-first, rest-count, rest-used}
use Rattle.xod_env.proofs.Sealed.{pair-front}
use Rattle.xod_env.proofs.Stepping.{Beside, front_end, seal-step}
use Rattle.xod_env.proofs.UsedFiles.{not-used, used-false}

-- ---- a roll leaves the bodies up to the current one

pair-body : (log : Log) (B E : List ℕ) (was left : Files) → get was (body_file log) ≡ Some B → IsClosed log was left ⊎ IsMarked log B E left → get left (body_file log) ≡ get was (body_file log)
pair-body log B E was left there (inl c) = c.body
pair-body log B E was left there (inr c) = c.whole ∙ sym there

module _ (log : Log) (files after : Files) (has : get files (body_file log) ≡ Some (bytes_of files (body_file log)))
    (r : Rolls log (bytes_of files (body_file log)) (bytes_of files (ends_file log)) files after) where
  pub roll-body : (file : ℕ) → file ≤ log.file → get after (body_of file) ≡ get files (body_of file)
  roll-body file le = elim (cases_eq file log.file) [
    | inl is ↦ subst (λ (k : ℕ). get after (body_of k) ≡ get files (body_of k)) (sym is) (pair-body log (bytes_of files (body_file log)) (bytes_of files (ends_file log)) files after has r.pair)
    | inr apart ↦ r.others (body_of file) (inl (omega (arith, le, apart)))
  ]

  pub roll-trees : (roots : Roots) → env_trees log.file after roots ≡ env_trees log.file files roots
  roll-trees roots = ap (λ (F : Files). snapshot_trees F roots) (same-up-to log.file files after roll-body)

  pub roll-front : take (13 * log.marks) (bytes_of after (ends_file log)) ≡ take (13 * log.marks) (bytes_of files (ends_file log))
  roll-front = pair-front log (bytes_of files (body_file log)) (bytes_of files (ends_file log)) files after refl r.pair

-- no more log files above are used
roll-above : (log : Log) (B E : List ℕ) (was left : Files) → Rolls log B E was left → (other : ℕ) → log.file < other → is_used was (log.file + 1) ≡ false → is_used left other ≡ is_used was other
roll-above log B E was left r other gt unused = elim (cases_eq other (log.file + 1)) [
  | inl is ↦ subst (λ (k : ℕ). is_used left k ≡ is_used was k) (sym is) (used-false left (log.file + 1) (r.next (not-used was (log.file + 1) unused)) ∙ sym unused)
  | inr apart ↦
      let far : log.file + 2 ≤ other = omega (arith, gt, apart) in
      same_used left was other (r.others (body_of other) (inr (omega (arith, far)))) (r.others (ends_of other) (inr (omega (arith, far))))
]

pub roll-top : (log : Log) (B E : List ℕ) (was left : Files) → Rolls log B E was left → UnusedFrom (suc log.file) was → UnusedFrom (suc log.file) left
roll-top log B E was left r unused other gt low = elim (cases_eq other (log.file + 1)) [
  | inl is ↦
      let next : is_used was (log.file + 1) ≡ false = unused (log.file + 1) (omega arith) (omega (arith, low, is)) in
      roll-above log B E was left r other (omega (arith, gt)) next ∙ unused other gt low
  | inr apart ↦
      let far : log.file + 2 ≤ other = omega (arith, gt, apart) in
      same_used left was other (r.others (body_of other) (inr (omega (arith, far)))) (r.others (ends_of other) (inr (omega (arith, far)))) ∙ unused other gt low
]

pub roll-beside : (log : Log) (B E : List ℕ) (was left : Files) → log.file < last_file → Rolls log B E was left → UnusedFrom (suc log.file) was → Beside was left log.file
roll-beside log B E was left room r unused = record {
  lower = λ other lt. record { body = r.others (body_of other) (inl (omega (arith, lt))); ends = r.others (ends_of other) (inl (omega (arith, lt))) };
  upper = λ other gt. roll-above log B E was left r other gt (unused (log.file + 1) (omega arith) (omega (arith, room)));
}

-- ---- since a roll began

pub since-roll : (log : Log) (roots : Roots) (commit : ℕ) (files : Files) (t0 t1 : ℕ) (i0 i1 : ℕ → Files → Type 0) → IsAt log roots commit files (i0 t0) → ArePlaced log roots → IsSteady log files (i0 t0) → log.file < last_file
    → Passes t0 t1 i0 i1 (Rolls log (bytes_of files (body_file log)) (bytes_of files (ends_file log))) → Passes t0 t1 i0 i1 (Stores (Some (newest_stored log.file files roots commit)))
since-roll log roots commit files t0 t1 i0 i1 at placed steady room passes =
    let B = bytes_of files (body_file log) in
    let E = bytes_of files (ends_file log) in
    weakened t0 t1 i0 i1 (Rolls log B E) (Stores (Some (newest_stored log.file files roots commit))) passes
    (λ was left im r.
    let sound = steady.sound was im in
    seal-step log roots commit files (i0 t0) at was im sound placed left (roll-beside log B E was left room r sound.above)
    (λ other lt there. r.others (body_of other) (inl (omega (arith, lt))) ∙ sound.lower other lt there)
    r.pair)

-- ---- the block at the front of the next file

either-way : (b : Bool) (x y : Address) → b ≡ false → cond b x y ≡ y
either-way true x y is = absurd cc
either-way false x y is = refl

pub place-next : (log : Log) → is_due log ≡ true → log.file ≢ last_file → next_place_of log ≡ record { file = log.file + 1; at = 0 }
place-next log due apart =
    let place : Log → Address = λ l. record { file = l.file; at = l.end } in
    let here : receiving_log log ≡ rolled_log log = cond-true (is_due log) (rolled_log log) log due in
    either-way (is_last log) (place log) (place (receiving_log log)) (ne_eqb log.file last_file apart) ∙ ap place here

module _ (log : Log) (roots : Roots) (commit : ℕ) (files : Files) (images : Files → Type 0) (at : IsAt log roots commit files images) (due : is_due log ≡ true) (room : log.file < last_file)
    (block : List ℕ) (back : ℕ) (after : Files) (rolled : IsRolled log block files after) (others : (other : ℕ) → IsElsewhere log other → get after other ≡ get files other) where
  abbrev next : Log
  next = appended_log (rolled_log log) (length block) back

  abbrev last : ℕ
  last = log.file + 1

  abbrev bodies : Bodies
  bodies = lent_bodies (bodies_up_to log.file files)

  low-body : (file : ℕ) → file ≤ log.file → get after (body_of file) ≡ get files (body_of file)
  low-body file le = elim (cases_eq file log.file) [
    | inl is ↦ subst (λ (k : ℕ). get after (body_of k) ≡ get files (body_of k)) (sym is) rolled.body
    | inr apart ↦ others (body_of file) (inl (omega (arith, le, apart)))
  ]

  next-bytes : bytes_of after (body_of last) ≡ block
  next-bytes = (has_bytes after (body_of last) block rolled.next_body).1

  next-none : bodies last ≡ []
  next-none = ap (λ (c : Content). bytes_in c) (body-not log.file last files (omega arith))

  bodies-are : (other : ℕ) → lent_bodies (bodies_up_to last after) other ≡ cond (eqb other last) (bodies other ++ block) (bodies other)
  bodies-are other = elim (cases_order other last) [
    | inl same ↦
        ap (λ (c : Content). bytes_in c) (body-up-to last other after (omega (arith, same)))
        ∙ ap (λ (k : ℕ). bytes_of after (body_of k)) same
        ∙ next-bytes
        ∙ sym (ap (λ (l : List ℕ). l ++ block) next-none)
        ∙ ap (λ (k : ℕ). bodies k ++ block) (sym same)
        ∙ sym (cond-true (eqb other last) (bodies other ++ block) (bodies other) (eq-eqb other last same))
    | inr apart ↦ elim apart [
      | inl lt ↦
          let le : other ≤ log.file = omega (arith, lt) in
          ap (λ (c : Content). bytes_in c) (body-up-to last other after (omega (arith, lt)) ∙ low-body other le ∙ sym (body-up-to log.file other files le))
          ∙ sym (cond-false (eqb other last) (bodies other ++ block) (bodies other) (ne_eqb other last (λ e. omega (arith, e, lt))))
      | inr gt ↦
          ap (λ (c : Content). bytes_in c) (body-not last other after gt ∙ sym (body-not log.file other files (omega (arith, gt))))
          ∙ sym (cond-false (eqb other last) (bodies other ++ block) (bodies other) (ne_eqb other last (λ e. omega (arith, e, gt))))
    ]
  ]

  place-is : next_place_of log ≡ record { file = last; at = 0 }
  place-is = place-next log due (λ e. omega (arith, e, room))

  module _ (fits : length block < 2 ^ 64) where
    with-more : (n : ℕ) → OnlyMore (records_with log files block) (env_records last after) n
    with-more n =
        let none : length (bodies last) ≡ 0 = ap (λ (l : List ℕ). length l) next-none in
        let start : last * 2 ^ 64 + length (bodies last) ≡ number_of (next_place_of log) =
        ap (λ (k : ℕ). last * 2 ^ 64 + k) none ∙ sym (ap (λ (place : Address). number_of place) place-is) in
        block-more bodies (lent_bodies (bodies_up_to last after)) last (number_of (next_place_of log)) block start (omega (arith, fits, none)) bodies-are n

    module _ (new_roots : Roots) (new_commit : ℕ) (fine : IsNextBlock log files block back new_roots new_commit) where
      pub trees-rolled : env_trees last after new_roots ≡ trees_with log files block new_roots
      trees-rolled = fun_ext (λ tree. map-kept (records_with log files block) (env_records last after) (get new_roots tree) (λ place same. with-more (number_of place)) (fine.maps tree))

      maps-rolled : (tree : ℕ) → is_some (env_trees last after new_roots tree) ≡ true
      maps-rolled tree = ap (λ (t : Trees). is_some (t tree)) trees-rolled ∙ fine.maps tree

      more-than : 0 < length block
      more-than = omega (arith, fine.some, fine.within)

      pub at-rolled : back < 2 ^ 32 → (now_images : Files → Type 0) → Stands next after now_images → IsAt next new_roots new_commit after now_images
      at-rolled back_fits now_images stands =
          let some = more-than in
          let zero_plus : 0 + length block ≡ length block = omega arith in
          record {
            stands = stands;
            file_fits = omega (arith, room);
            end_fits = omega (arith, fits);
            back_fits = back_fits;
            newest = record {
              no_commit = λ none. absurd (omega (arith, none, some));
              no_roots = λ none. absurd (omega (arith, none, some));
              within = omega (arith, fine.within);
              fits = fine.fits;
              root = λ lt. ap (drop ((0 + length block) - back)) next-bytes ∙ ap (λ (n : ℕ). drop (n - back) block) zero_plus ∙ fine.root;
            };
            maps = maps-rolled;
            tables = ap (λ (t : Trees). is_some (rows_of t)) trees-rolled ∙ fine.tables;
            first_file = λ none. absurd (omega (arith, none, some));
            first_mark = λ none. absurd (omega (arith, none, some));
            first_seal = λ none. absurd (omega (arith, none, some));
            top = λ other gt low.
                let far : log.file + 2 ≤ other = omega (arith, gt) in
                same_used after files other (others (body_of other) (inr (omega (arith, far)))) (others (ends_of other) (inr (omega (arith, far)))) ∙ at.top other (omega (arith, gt)) low;
            reaches = omega arith;
          }

  -- ---- what a crash may leave

  -- The log was sealed, and the roll left it so on the files between; each image comes of one there, of which only the next
  -- body differs, and of one at the start.
  module _ (sealed : Log) (mid : Files) (mid_images now_images : Files → Type 0) (mid_at : IsAt sealed roots commit mid mid_images) (is_sealed : sealed.is_sealed ≡ true) (file_is : sealed.file ≡ log.file)
      (steady : IsSteady log files images)
      (each : (left : Files) → now_images left → (was : Files) × images was × Rolls log (bytes_of files (body_file log)) (bytes_of files (ends_file log)) was left)
      (over : (left : Files) → now_images left → (between : Files) × mid_images between × ((other : ℕ) → other ≢ body_of last → get left other ≡ get between other))
      (mid_body : get mid (body_file log) ≡ get files (body_file log)) (stands : Stands next after now_images)
      (beside : (file : ℕ) → file ≢ body_of last → file ≢ ends_of last → IsSettled file after now_images) where
    durable : IsDurablePair log.file mid mid_images
    durable = subst (λ (f : ℕ). IsDurablePair f mid mid_images) file_is (mid_at.stands.settled is_sealed)

    own-body : (left : Files) → now_images left → get left (body_file log) ≡ get mid (body_file log)
    own-body left i = let from = over left i in from.2 (body_file log) (λ e. omega (arith, e)) ∙ durable.body from.0 from.1

    own-ends : (left : Files) → now_images left → get left (ends_file log) ≡ get mid (ends_file log)
    own-ends left i = let from = over left i in from.2 (ends_file log) (λ e. omega (arith, e)) ∙ durable.ends from.0 from.1

    next-unused : (left : Files) → now_images left → is_used left last ≡ false
    next-unused left i =
        let stood = stands.each left i in
        let size = stood.at_rest.size in
        let none : open_count (bytes_of left (ends_of last)) ≡ 0 = count_is (bytes_of left (ends_of last)) 0 (λ mark lt. absurd (omega (arith, lt))) (omega (arith, size)) (inr (omega (arith, size))) in
        used_by_count left last (ap (λ (c : Content). is_some c) stood.has_body) (ap (λ (c : Content). is_some c) stood.has_ends) ∙ ap (ltb 0) none

    -- the mark of the file before fits
    own-fits : (left : Files) → now_images left → is_used left log.file ≡ true → last_end log.file left < 2 ^ 64
    own-fits left i used =
        let body : get left (body_file sealed) ≡ get mid (body_file sealed) = subst (λ (f : ℕ). get left (body_of f) ≡ get mid (body_of f)) (sym file_is) (own-body left i) in
        let ends : get left (ends_file sealed) ≡ get mid (ends_file sealed) = subst (λ (f : ℕ). get left (ends_of f) ≡ get mid (ends_of f)) (sym file_is) (own-ends left i) in
        let is_used_there : is_used left sealed.file ≡ true = subst (λ (f : ℕ). is_used left f ≡ true) (sym file_is) used in
        let some : 0 < sealed.marks = ltb-true 0 sealed.marks (sym (rest-used sealed roots commit mid mid_images mid_at is_sealed left ends body) ∙ is_used_there) in
        let count = rest-count sealed roots commit mid mid_images mid_at is_sealed left ends in
        let end = front_end sealed roots commit mid mid_images mid_at (bytes_of left (ends_file sealed)) (ap (λ (c : Content). take (13 * sealed.marks) (bytes_in c)) ends) count some in
        let fits = mid_at.end_fits in
        let reaches = mid_at.reaches in
        subst (λ (f : ℕ). last_end f left < 2 ^ 64) file_is (omega (arith, end, reaches, fits))

    own-used : (left : Files) → now_images left → 0 < log.file → is_used left log.file ≡ true
    own-used left i positive =
        let body : get left (body_file sealed) ≡ get mid (body_file sealed) = subst (λ (f : ℕ). get left (body_of f) ≡ get mid (body_of f)) (sym file_is) (own-body left i) in
        let ends : get left (ends_file sealed) ≡ get mid (ends_file sealed) = subst (λ (f : ℕ). get left (ends_of f) ≡ get mid (ends_of f)) (sym file_is) (own-ends left i) in
        let some : 0 < sealed.marks = elim (cases_lt 0 sealed.marks) [
          | inl lt ↦ lt
          | inr le ↦ absurd (omega (arith, (none-first sealed roots commit mid mid_images mid_at is_sealed (omega (arith, le))).1, file_is, positive))
        ] in
        subst (λ (f : ℕ). is_used left f ≡ true) file_is (rest-used sealed roots commit mid mid_images mid_at is_sealed left ends body ∙ lt-ltb 0 sealed.marks some)

    rolled-above : (left : Files) → now_images left → UnusedFrom (suc last) left
    rolled-above left i other gt low =
        let from = each left i in
        roll-top log (bytes_of files (body_file log)) (bytes_of files (ends_file log)) from.0 left from.2 (steady.sound from.0 from.1).above other (omega (arith, gt)) low

    rolled-fits : (left : Files) → now_images left → (other : ℕ) → greatest_used left ≡ Some other → last_end other left < 2 ^ 64
    rolled-fits left i other greatest =
        let there = greatest_used_is left other greatest in
        elim (cases_order other log.file) [
          | inl is ↦ subst (λ (f : ℕ). last_end f left < 2 ^ 64) (sym is) (own-fits left i (subst (λ (f : ℕ). is_used left f ≡ true) is there.0))
          | inr apart ↦ elim apart [
            | inl lt ↦ absurd (true≢false (sym (own-used left i (omega (arith, lt))) ∙ greatest-above left other greatest log.file (omega (arith, lt)) at.file_fits))
            | inr gt ↦ elim (cases_eq other last) [
              | inl is ↦ absurd (true≢false (sym there.0 ∙ subst (λ (f : ℕ). is_used left f ≡ false) (sym is) (next-unused left i)))
              | inr further ↦ absurd (true≢false (sym there.0 ∙ rolled-above left i other (omega (arith, gt, further)) there.1))
            ]
          ]
        ]

    rolled-lower : (left : Files) → now_images left → (other : ℕ) → other < last → IsSome (get after (body_of other)) → get left (body_of other) ≡ get after (body_of other)
    rolled-lower left i other lt there = elim (cases_eq other log.file) [
      | inl is ↦ subst (λ (f : ℕ). get left (body_of f) ≡ get after (body_of f)) (sym is) (own-body left i ∙ mid_body ∙ sym rolled.body)
      | inr apart ↦
          let from = each left i in
          let less : other < log.file = omega (arith, lt, apart) in
          let same = low-body other (omega (arith, less)) in
          from.2.others (body_of other) (inl (omega (arith, less))) ∙ (steady.sound from.0 from.1).lower other less (ap (λ (c : Content). is_some c) (sym same) ∙ there) ∙ sym same
    ]

    pub rolled-steady : IsSteady next after now_images
    rolled-steady = record {
      sound = λ left i. record {
        above = rolled-above left i;
        lower = rolled-lower left i;
        covers = (omega arith, refl);
        fits = λ none. rolled-fits left i;
      };
      beside = beside;
    }
