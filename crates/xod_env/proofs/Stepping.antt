-- What the calls of a log do to what an image stores.
use Rattle.std.proofs.Common.{◌≡◌, ◌<◌, ◌≤◌, ◌⊎◌, ℕ, pred, ◌+◌, ◌*◌, ◌^◌, true, false, eqb, ltb, List, length, take, Some, is_some, IsSome, sym, ◌∙◌, ap, subst, arith, inl, inr}
use mathlib.Core.Logic.{◌≢◌}
use Rattle.std.proofs.lemmas.Bool.{cases_eq, cases_lt, cases_order, cond-false, lt-ltb, ltb-true, ne_eqb, true≢false}
use Rattle.std.specs.FinMap.{get}
use Rattle.std.specs.Int.{w64, from_be_bytes}
use Rattle.xod_volume.specs.Files.{Files, Content, bytes_in, bytes_of}
use Rattle.xod_volume.specs.Crash.{OnFile, OnBytes, Torn}
use Rattle.xod_volume.proofs.CallerLemmas.{Torn-front}
use Rattle.xod_log.specs.declared.log.Log.{Log}
use Rattle.xod_log.specs.Ends.{gate_at, numbers_at, end_at, body_of, ends_of}
use Rattle.xod_log.specs.Standing.{LeftStanding, body_file, ends_file}
use Rattle.xod_log.specs.Calls.{IsClosed, IsMarked}
use Rattle.xod_log.proofs.CallerLemmas.{files_apart, same_bytes, same_gate, same_numbers, on_some, has_bytes}
use Rattle.xod_recover.specs.Opened.{greatest_used, is_used, open_count}
use Rattle.xod_recover.specs.Stores.{stored_in}
use Rattle.xod_recover.specs.Tails.{Covers}
use Rattle.xod_recover.proofs.CallerLemmas.{count_is, greatest-above, greatest_used_is, same_used, used_by_count}
use Rattle.xod_root.specs.Roots.{Roots}
use Rattle.xod_env.specs.Envs.{ArePlaced, IsAt, IsSound, last_end, newest_stored, sealed_end}
use Rattle.xod_env.proofs.Showing.{shows-stored}
use Rattle.xod_env.proofs.Storing.{KeepsFile, stored-same}

-- a log file has the same pair
pub record SamePair (was left : Files) (file : ℕ) : Type 0 where
  pub body : get left (body_of file) ≡ get was (body_of file)
  pub ends : get left (ends_of file) ≡ get was (ends_of file)

-- the last mark of a log file goes with its ends
pub last_end-over : (file : ℕ) (was left : Files) → get left (ends_of file) ≡ get was (ends_of file) → last_end file left ≡ last_end file was
last_end-over file was left ends = ap (λ (c : Content). end_at (bytes_in c) (pred (open_count (bytes_in c)))) ends

-- The log files below the current one have the same pairs, and those above are used where they were.
pub record Beside (was left : Files) (current : ℕ) : Type 0 where
  pub lower : (other : ℕ) → other < current → SamePair was left other
  pub upper : (other : ℕ) → current < other → is_used left other ≡ is_used was other

-- all others have the same pairs
pub others-beside : (was left : Files) (current : ℕ) → ((other : ℕ) → other ≢ current → SamePair was left other) → Beside was left current
others-beside was left current same = record {
  lower = λ other lt. same other (λ e. omega (arith, e, lt));
  upper = λ other gt. let s = same other (λ e. omega (arith, e, gt)) in same_used left was other s.body s.ends;
}

module _ (log : Log) (roots : Roots) (commit : ℕ) (files : Files) (images : Files → Type 0) (at : IsAt log roots commit files images) where
  abbrev m : ℕ
  m = log.marks

  abbrev B : List ℕ
  B = bytes_of files (body_file log)

  abbrev E : List ℕ
  E = bytes_of files (ends_file log)

  abbrev sealed : ℕ
  sealed = sealed_end log files

  -- ends with the log's open marks, and no more
  pub front_count : (ends : List ℕ) → take (13 * m) ends ≡ take (13 * m) E → 13 * (m + 1) ≤ length ends → (gate_at ends m ≡ 0) ⊎ (length ends < 13 * (m + 2)) → open_count ends ≡ m
  front_count ends front long closed = count_is ends m (λ mark lt zero_gate. at.stands.opened mark lt (sym (same_gate m mark ends E front lt) ∙ zero_gate)) long closed

  -- and with one more
  pub marked_count : (ends : List ℕ) → take (13 * m) ends ≡ take (13 * m) E → length ends ≡ 13 * (m + 2) → gate_at ends m ≢ 0 → gate_at ends (m + 1) ≡ 0 → open_count ends ≡ m + 1
  marked_count ends front long gate closed = count_is ends (m + 1)
      (λ mark lt zero_gate. elim (cases_lt mark m) [
        | inl below ↦ at.stands.opened mark below (sym (same_gate m mark ends E front below) ∙ zero_gate)
        | inr above ↦ let is : mark ≡ m = omega (arith, lt, above) in gate (subst (λ (k : ℕ). gate_at ends k ≡ 0) is zero_gate)
      ]) (omega (arith, long)) (inl closed)

  -- where the last of them says that the sealed bytes end
  pub sealed-is : 0 < m → sealed ≡ end_at E (pred m)
  sealed-is some = cond-false (eqb m 0) 0 (end_at E (pred m)) (ne_eqb m 0 (λ e. omega (arith, e, some)))

  pub front_end : (ends : List ℕ) → take (13 * m) ends ≡ take (13 * m) E → open_count ends ≡ m → 0 < m → end_at ends (pred (open_count ends)) ≡ sealed
  front_end ends front count some =
      ap (λ (n : ℕ). end_at ends (pred n)) count
      ∙ ap (λ (l : List ℕ). from_be_bytes w64 (take 8 l)) (same_numbers m (pred m) ends E front (omega (arith, some)))
      ∙ sym (sealed-is some)

  -- an image of a log without open marks does not use its file
  pub none_used : (left : Files) → images left → m ≡ 0 → is_used left log.file ≡ false
  none_used left i none =
      let stood = at.stands.each left i in
      used_by_count left log.file (ap (λ (c : Content). is_some c) stood.has_body) (ap (λ (c : Content). is_some c) stood.has_ends)
      ∙ ap (ltb 0) (front_count (bytes_of left (ends_file log)) stood.at_rest.front (omega (arith, stood.at_rest.size)) (inr (omega (arith, stood.at_rest.size))) ∙ none)

  module _ (was : Files) (im : images was) (sound : IsSound log files was) where
    abbrev was_ends : List ℕ
    was_ends = bytes_of was (ends_file log)

    abbrev was_body : List ℕ
    was_body = bytes_of was (body_file log)

    stood : LeftStanding log E was
    stood = at.stands.each was im

    pub was_count : open_count was_ends ≡ m
    was_count = front_count was_ends stood.at_rest.front (omega (arith, stood.at_rest.size)) (inr (omega (arith, stood.at_rest.size)))

    pub was_used : is_used was log.file ≡ ltb 0 m
    was_used = used_by_count was log.file (ap (λ (c : Content). is_some c) stood.has_body) (ap (λ (c : Content). is_some c) stood.has_ends) ∙ ap (ltb 0) was_count

    -- An image with the same open marks, and a body that has what is sealed, stores the same.
    module _ (left : Files) (beside : Beside was left log.file) (body : is_some (get left (body_file log)) ≡ true) (ends : is_some (get left (ends_file log)) ≡ true)
        (front : take (13 * m) (bytes_of left (ends_file log)) ≡ take (13 * m) E) (long : 13 * (m + 1) ≤ length (bytes_of left (ends_file log)))
        (closed : (gate_at (bytes_of left (ends_file log)) m ≡ 0) ⊎ (length (bytes_of left (ends_file log)) < 13 * (m + 2)))
        (own : (get left (body_file log) ≡ get was (body_file log)) ⊎ (Covers was_body (bytes_of left (body_file log)) sealed × (sealed ≤ length was_body))) where
      left_count : open_count (bytes_of left (ends_file log)) ≡ m
      left_count = front_count (bytes_of left (ends_file log)) front long closed

      own_used : is_used left log.file ≡ is_used was log.file
      own_used = used_by_count left log.file body ends ∙ ap (ltb 0) left_count ∙ sym was_used

      used : (other : ℕ) → is_used left other ≡ is_used was other
      used other = elim (cases_order other log.file) [
        | inl is ↦ subst (λ (k : ℕ). is_used left k ≡ is_used was k) (sym is) own_used
        | inr apart ↦ elim apart [
          | inl lt ↦ let s = beside.lower other lt in same_used left was other s.body s.ends
          | inr gt ↦ beside.upper other gt
        ]
      ]

      keeps-own : is_used was log.file ≡ true → KeepsFile left was log.file
      keeps-own is =
          let some : 0 < m = ltb-true 0 m (sym was_used ∙ is) in
          let end : last_end log.file was ≡ sealed = front_end was_ends stood.at_rest.front was_count some in
          let fits : last_end log.file was < 2 ^ 64 = omega (arith, end, at.reaches, at.end_fits) in
          record {
            count = left_count ∙ sym was_count;
            says = same_numbers m (pred (open_count was_ends)) (bytes_of left (ends_file log)) was_ends (front ∙ sym stood.at_rest.front) (omega (arith, was_count, some));
            fits = fits;
            there = body ∙ sym (ap (λ (c : Content). is_some c) stood.has_body);
            body = elim own [
              | inl same ↦ inl same
              | inr both ↦ inr (subst (λ (e : ℕ). Covers was_body (bytes_of left (body_file log)) e × (e ≤ length was_body)) (sym end) both)
            ];
            below = λ other lt. (beside.lower other lt).body;
          }

      keeps-lower : (other : ℕ) → other < log.file → greatest_used was ≡ Some other → KeepsFile left was other
      keeps-lower other lt greatest =
          let same = beside.lower other lt in
          let none : m ≡ 0 = elim (cases_lt 0 m) [
            | inl some ↦ absurd (true≢false (sym (was_used ∙ lt-ltb 0 m some) ∙ greatest-above was other greatest log.file (omega (arith, lt)) at.file_fits))
            | inr le ↦ omega (arith, le)
          ] in
          record {
            count = ap (λ (c : Content). open_count (bytes_in c)) same.ends;
            says = ap (λ (c : Content). numbers_at (bytes_in c) (pred (open_count (bytes_of was (ends_of other))))) same.ends;
            fits = sound.fits none other greatest;
            there = ap (λ (c : Content). is_some c) same.body;
            body = inl same.body;
            below = λ further further_lt. (beside.lower further (omega (arith, lt, further_lt))).body;
          }

      pub keep-step : stored_in left ≡ stored_in was
      keep-step = stored-same left was used (λ other greatest. elim (cases_order other log.file) [
        | inl is ↦ subst (KeepsFile left was) (sym is) (keeps-own (subst (λ (k : ℕ). is_used was k ≡ true) is (greatest_used_is was other greatest).0))
        | inr apart ↦ elim apart [
          | inl lt ↦ keeps-lower other lt greatest
          | inr gt ↦ let there = greatest_used_is was other greatest in absurd (true≢false (sym there.0 ∙ sound.above other gt there.1))
        ]
      ])

    -- as much of the body is there as is sealed
    sealed_within : sealed ≤ length B
    sealed_within = omega (arith, at.reaches, at.stands.size)

    -- ---- a block behind the body

    pub append-step : (count : ℕ) (left : Files) → OnFile (body_file log) (OnBytes (Torn log.end count)) was left → stored_in left ≡ stored_in was
    append-step count left on =
        let here = on_some (Torn log.end count) (get was (body_file log)) (get left (body_file log)) was_body stood.has_body on.here in
        let torn = here.2 in
        let body = has_bytes left (body_file log) here.0 here.1 in
        let ends : get left (ends_file log) ≡ get was (ends_file log) = on.others (ends_file log) (λ e. files_apart log.file (sym e)) in
        let bytes : bytes_of left (ends_file log) ≡ was_ends = same_bytes left was (ends_file log) ends in
        let covers = sound.covers in
        keep-step left
        (others-beside was left log.file (λ other apart. record { body = on.others (body_of other) (λ e. apart (omega (arith, e))); ends = on.others (ends_of other) (λ e. omega (arith, e)) }))
        (ap (λ (c : Content). is_some c) here.1) (ap (λ (c : Content). is_some c) (ends ∙ stood.has_ends))
        (ap (take (13 * m)) bytes ∙ stood.at_rest.front) (omega (arith, ap length bytes, stood.at_rest.size)) (inr (omega (arith, ap length bytes, stood.at_rest.size)))
        (inr (subst (λ (l : List ℕ). Covers was_body l sealed) (sym body.1) (omega (arith, covers.0, torn.no_shorter), Torn-front log.end count sealed was_body here.0 at.reaches torn), covers.0))

    -- ---- a seal

    pub closed-step : (left : Files) → Beside was left log.file → IsClosed log was left → stored_in left ≡ stored_in was
    closed-step left beside c = keep-step left beside
        (ap (λ (x : Content). is_some x) (c.body ∙ stood.has_body)) (ap (λ (x : Content). is_some x) c.has_ends)
        (c.front ∙ stood.at_rest.front) c.long (inl c.gate) (inl c.body)

    -- the gate is closed yet
    pub marked-step : (left : Files) → Beside was left log.file → IsMarked log B E left → gate_at (bytes_of left (ends_file log)) m ≡ 0 → stored_in left ≡ stored_in was
    marked-step left beside c gate =
        let body = has_bytes left (body_file log) B c.whole in
        let covers = sound.covers in
        keep-step left beside
        (ap (λ (x : Content). is_some x) c.whole) (ap (λ (x : Content). is_some x) c.has_ends)
        c.front (omega (arith, c.size)) (inl gate)
        (inr (subst (λ (l : List ℕ). Covers was_body l sealed) (sym body.1) (sealed_within, sym covers.1), covers.0))

    pub seal-step : ArePlaced log roots → (left : Files) → Beside was left log.file
        → ((other : ℕ) → other < log.file → IsSome (get files (body_of other)) → get left (body_of other) ≡ get files (body_of other))
        → IsClosed log was left ⊎ IsMarked log B E left
        → (stored_in left ≡ stored_in was) ⊎ (stored_in left ≡ Some (newest_stored log.file files roots commit))
    seal-step placed left beside lower (inl c) = inl (closed-step left beside c)
    seal-step placed left beside lower (inr c) = elim (cases_eq (gate_at (bytes_of left (ends_file log)) m) 0) [
      | inl gate ↦ inl (marked-step left beside c gate)
      | inr gate ↦
          let count : open_count (bytes_of left (ends_file log)) ≡ m + 1 = marked_count (bytes_of left (ends_file log)) c.front c.size gate c.next_gate in
          let some : 0 < log.end = elim (cases_lt 0 log.end) [
            | inl more ↦ more
            | inr none ↦ absurd (true≢false (sym (at.first_seal (omega (arith, none))) ∙ c.unsealed))
          ] in
          let last : pred (m + 1) ≡ m = omega arith in
          inr (shows-stored log roots commit files images at placed some left (m + 1) (record {
            above = λ other gt low. beside.upper other (omega (arith, gt)) ∙ sound.above other gt low;
            lower = lower;
            body = c.whole ∙ sym at.stands.has_body;
            has_ends = ap (λ (x : Content). is_some x) c.has_ends;
            some = omega arith;
            count = count;
            says = ap (numbers_at (bytes_of left (ends_file log))) last ∙ c.says;
          }))
    ]
