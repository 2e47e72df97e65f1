-- What stands behind the last open mark is cut off: what each image stores on the way.
use Rattle.std.proofs.Common.{◌≡◌, ◌<◌, ◌≤◌, ◌⊎◌, ℕ, suc, pred, ◌+◌, ◌*◌, ◌^◌, true, ltb, List, length, take, drop, Some, None, IsSome, is_some, refl, sym, ◌∙◌, ap, subst, arith, inl, inr, length-take}
use mathlib.Core.Logic.{◌≢◌}
use Rattle.std.proofs.lemmas.Bool.{cases_lt, cases_eq, lt-ltb, ltb-true}
use Rattle.std.proofs.lemmas.List.{take-take}
use Rattle.std.specs.FinMap.{get}
use Rattle.std.specs.Int.{w64, w32, from_be_bytes}
use Rattle.xod_volume.specs.Files.{Files, Content, bytes_in, bytes_of}
use Rattle.xod_volume.specs.Crash.{OnFile, OnBytes, Torn, Shortened, Passes, IsSame}
use Rattle.xod_volume.proofs.CallerLemmas.{same_files, Torn-front, Torn-within}
use Rattle.xod_log.specs.Ends.{gate_at, numbers_at, end_at, back_at, body_of, ends_of}
use Rattle.xod_log.specs.Runs.{Run}
use Rattle.xod_log.proofs.CallerLemmas.{same_gate, same_numbers, on_some, has_bytes, begun, goes, sure}
use Rattle.xod_recover.specs.Check.{Newest, check}
use Rattle.xod_recover.specs.Images.{UnusedFrom}
use Rattle.xod_recover.specs.Opened.{open_count, is_used}
use Rattle.xod_recover.specs.Stores.{stored_in}
use Rattle.xod_recover.specs.Tails.{Covers, IsFoundIn, IsNear, AllNear}
use Rattle.xod_recover.proofs.Alike.{Agree, Found, LastMark, SaysSame, all-agree, found-in}
use Rattle.xod_recover.proofs.KeptRoots.{last-kept}
use Rattle.xod_recover.proofs.Counts.{count_is, opens_below, cut_below, cut_above, opens_gate, is_long}
use Rattle.xod_recover.proofs.Greatest.{greatest_is, greatest_used_is, greatest-above, same_used, used_by_count, used_has}

some_with : (c : Content) → IsSome c → c ≡ Some (bytes_in c)
some_with None there = absurd cc
some_with (Some bytes) there = refl

-- a file that is there, with its bytes
pub there_with : (files : Files) (file : ℕ) → IsSome (get files file) → get files file ≡ Some (bytes_of files file)
there_with files file there = some_with (get files file) there

module _ (newest : Newest) (files : Files) (found : IsFoundIn newest files) where
  abbrev file : ℕ
  file = newest.file

  abbrev m : ℕ
  m = newest.marks

  abbrev end : ℕ
  end = newest.end

  abbrev B : List ℕ
  B = bytes_of files (body_of file)

  abbrev E : List ℕ
  E = bytes_of files (ends_of file)

  abbrev kept : ℕ
  kept = 13 * (m + 1)

  -- ---- what was found

  stands : Found newest files
  stands = found-in files newest found.some found.decided

  pub file_used : (is_used files file ≡ true) × (file ≤ 4294967295)
  file_used = greatest_used_is files file stands.greatest

  pub file_body : is_some (get files (body_of file)) ≡ true
  file_body = (used_has files file file_used.0).body

  pub file_ends : is_some (get files (ends_of file)) ≡ true
  file_ends = (used_has files file file_used.0).ends

  pub file_above : UnusedFrom (suc file) files
  file_above = greatest-above files file stands.greatest

  pub count : open_count E ≡ m
  count = omega (arith, ltb-true 0 (open_count E) (used_has files file file_used.0).some, stands.says.marks_are)

  pub file_long : end ≤ length B
  file_long = omega (arith, stands.says.long, stands.says.end_is)

  files_last : LastMark files file (pred m) end newest.back
  files_last = record {
    greatest = stands.greatest;
    count = ap pred count;
    end_is = sym (stands.says.end_is ∙ ap (λ (n : ℕ). end_at E (pred n)) count);
    back_is = sym (stands.says.back_is ∙ ap (λ (n : ℕ). back_at E (pred n)) count);
    has_body = file_body;
    long = file_long;
  }

  pub E_gates : (i : ℕ) → i < m → gate_at E i ≢ 0
  E_gates i lt = opens_gate E i (opens_below E i (omega (arith, lt, count)))

  pub kept_within : kept ≤ length E
  kept_within = omega (arith, is_long E (pred m) (opens_below E (pred m) (omega (arith, count, found.some))), found.some)

  module _ (fits : end < 2 ^ 64) where
    -- an image in which that mark is the last open one
    pub agrees : (left : Files) → IsSome (get left (body_of file)) → IsSome (get left (ends_of file)) → UnusedFrom (suc file) left
        → ((other : ℕ) → other < file → IsSome (get files (body_of other)) → get left (body_of other) ≡ get files (body_of other)) → Covers B (bytes_of left (body_of file)) end
        → open_count (bytes_of left (ends_of file)) ≡ m → numbers_at (bytes_of left (ends_of file)) (pred m) ≡ numbers_at E (pred m) → Agree left files (check left) (check files)
    agrees left body ends above lower covers left_count says =
        let used : is_used left file ≡ true = used_by_count left file body ends ∙ ap (ltb 0) left_count ∙ lt-ltb 0 m found.some in
        let last : LastMark left file (pred m) end newest.back = record {
          greatest = greatest_is left file used file_used.1 above;
          count = ap pred left_count;
          end_is = ap (λ (l : List ℕ). from_be_bytes w64 (take 8 l)) says ∙ files_last.end_is;
          back_is = ap (λ (l : List ℕ). from_be_bytes w32 (drop 8 l)) says ∙ files_last.back_is;
          has_body = body;
          long = covers.0;
        } in
        last-kept left files file (pred m) end newest.back newest last files_last found.decided covers.1 (λ other le apart. lower other (omega (arith, le, apart, fits)))

    pub near_agrees : (left : Files) → IsNear newest files left → open_count (bytes_of left (ends_of file)) ≡ m → Agree left files (check left) (check files)
    near_agrees left near left_count = agrees left near.has_body near.has_ends near.above near.lower near.covers left_count (near.says (omega (arith, left_count)))

    -- ---- the images, each beside the one that it comes of

    -- the ends are as they were, or cut
    pub cut_some : (was left : Files) → IsNear newest files was → OnFile (ends_of file) (OnBytes (Shortened kept)) was left
        → (get left (ends_of file) ≡ get was (ends_of file)) ⊎ (get left (ends_of file) ≡ Some (take kept (bytes_of was (ends_of file))))
    cut_some was left near on =
        let there = there_with was (ends_of file) near.has_ends in
        let here = on_some (Shortened kept) (get was (ends_of file)) (get left (ends_of file)) (bytes_of was (ends_of file)) there on.here in
        elim here.2 [
          | inl same ↦ inl (here.1 ∙ ap (λ (l : List ℕ). Some l) same ∙ sym there)
          | inr cut ↦ inr (here.1 ∙ ap (λ (l : List ℕ). Some l) cut)
        ]

    -- the same files
    cut_not : (was left : Files) → OnFile (ends_of file) (OnBytes (Shortened kept)) was left → get left (ends_of file) ≡ get was (ends_of file) → stored_in left ≡ stored_in was
    cut_not was left on same = ap stored_in (same_files left was (λ other. elim (cases_eq other (ends_of file)) [
      | inl is ↦ subst (λ (k : ℕ). get left k ≡ get was k) (sym is) same
      | inr apart ↦ on.others other apart
    ]))

    -- the ends were cut
    module _ (was left : Files) (near : IsNear newest files was) (others : (other : ℕ) → other ≢ ends_of file → get left other ≡ get was other)
        (cut : get left (ends_of file) ≡ Some (take kept (bytes_of was (ends_of file)))) where
      abbrev was_ends : List ℕ
      was_ends = bytes_of was (ends_of file)

      abbrev left_ends : List ℕ
      left_ends = bytes_of left (ends_of file)

      bytes : left_ends ≡ take kept was_ends
      bytes = (has_bytes left (ends_of file) (take kept was_ends) cut).1

      bodies : (other : ℕ) → get left (body_of other) ≡ get was (body_of other)
      bodies other = others (body_of other) (λ e. omega (arith, e))

      body_there : is_some (get left (body_of file)) ≡ true
      body_there = ap (λ (c : Content). is_some c) (bodies file) ∙ near.has_body

      ends_there : is_some (get left (ends_of file)) ≡ true
      ends_there = ap (λ (c : Content). is_some c) cut

      same_at : (i : ℕ) → i ≤ m → numbers_at left_ends i ≡ numbers_at was_ends i
      same_at i le = same_numbers (m + 1) i left_ends was_ends (ap (take kept) bytes ∙ take-take kept kept was_ends (omega arith)) (omega (arith, le))

      few_alike : open_count was_ends < m → stored_in left ≡ stored_in was
      few_alike few =
          let counts : open_count left_ends ≡ open_count was_ends = ap open_count bytes ∙ cut_below was_ends m few in
          let here : is_used left file ≡ is_used was file = used_by_count left file body_there ends_there ∙ ap (ltb 0) counts ∙ sym (used_by_count was file near.has_body near.has_ends) in
          let used : (other : ℕ) → is_used left other ≡ is_used was other = λ other. elim (cases_eq other file) [
            | inl is ↦ subst (λ (k : ℕ). is_used left k ≡ is_used was k) (sym is) here
            | inr apart ↦ same_used left was other (bodies other) (others (ends_of other) (λ e. apart (omega (arith, e))))
          ] in
          let own : SaysSame left was file = record { count = counts; numbers = same_at (pred (open_count was_ends)) (omega (arith, few)) } in
          (all-agree left was bodies used (λ other is. elim (cases_eq other file) [
            | inl same ↦ subst (SaysSame left was) (sym same) own
            | inr apart ↦
                let ends : get left (ends_of other) ≡ get was (ends_of other) = others (ends_of other) (λ e. apart (omega (arith, e))) in
                record {
                  count = ap (λ (c : Content). open_count (bytes_in c)) ends;
                  numbers = ap (λ (c : Content). numbers_at (bytes_in c) (pred (open_count (bytes_of was (ends_of other))))) ends;
                }
          ])).1

      pub more_agrees : m ≤ open_count was_ends → Agree left files (check left) (check files)
      more_agrees more = agrees left body_there ends_there
          (λ other gt low. same_used left was other (bodies other) (others (ends_of other) (λ e. omega (arith, e, gt))) ∙ near.above other gt low)
          (λ other lt there. bodies other ∙ near.lower other lt there)
          (subst (λ (c : Content). Covers B (bytes_in c) end) (sym (bodies file)) near.covers)
          (ap open_count bytes ∙ cut_above was_ends m more)
          (same_at (pred m) (omega arith) ∙ near.says more)

      pub cut_stored : (stored_in left ≡ stored_in was) ⊎ (stored_in left ≡ stored_in files)
      cut_stored = elim (cases_lt (open_count was_ends) m) [
        | inl few ↦ inl (few_alike few)
        | inr more ↦ inr (more_agrees more).1
      ]

    -- the ends are cut for good, but for what is to be a closed mark
    pub record Tail (left : Files) : Type 0 where
      pub has_body : IsSome (get left (body_of file))
      pub above : UnusedFrom (suc file) left
      pub lower : (other : ℕ) → other < file → IsSome (get files (body_of other)) → get left (body_of other) ≡ get files (body_of other)
      pub covers : Covers B (bytes_of left (body_of file)) end
      pub ends : List ℕ
      pub there : get left (ends_of file) ≡ Some ends
      pub size : length ends ≡ kept
      pub front : take (13 * m) ends ≡ take (13 * m) E

    pub cut_size : length (take kept E) ≡ kept
    cut_size = omega (arith, length-take kept E, kept_within)

    pub cut_front : take (13 * m) (take kept E) ≡ take (13 * m) E
    cut_front = take-take (13 * m) kept E (omega arith)

    tail_bytes : (left : Files) → Tail left → (length (bytes_of left (ends_of file)) ≡ kept) × (take (13 * m) (bytes_of left (ends_of file)) ≡ take (13 * m) E)
    tail_bytes left t =
        let bytes = (has_bytes left (ends_of file) t.ends t.there).1 in
        (ap length bytes ∙ t.size, ap (take (13 * m)) bytes ∙ t.front)

    pub tail_count : (left : Files) → Tail left → open_count (bytes_of left (ends_of file)) ≡ m
    tail_count left t =
        let is = tail_bytes left t in
        count_is (bytes_of left (ends_of file)) m
        (λ i lt zero_gate. E_gates i lt (sym (same_gate m i (bytes_of left (ends_of file)) E is.1 lt) ∙ zero_gate))
        (omega (arith, is.0)) (inr (omega (arith, is.0)))

    pub tail_agrees : (left : Files) → Tail left → Agree left files (check left) (check files)
    tail_agrees left t = agrees left t.has_body (ap (λ (c : Content). is_some c) t.there) t.above t.lower t.covers (tail_count left t)
        (same_numbers m (pred m) (bytes_of left (ends_of file)) E (tail_bytes left t).1 (omega (arith, found.some)))

    pub tail_stored : (left : Files) → Tail left → stored_in left ≡ stored_in files
    tail_stored left t = (tail_agrees left t).1

    pub tail_used : (left : Files) → Tail left → is_used left file ≡ true
    tail_used left t = used_by_count left file t.has_body (ap (λ (c : Content). is_some c) t.there) ∙ ap (ltb 0) (tail_count left t) ∙ lt-ltb 0 m found.some

    -- after the sync of the ends
    pub begins : (was left : Files) → IsNear newest files was → get left (ends_of file) ≡ Some (take kept E) → OnFile (ends_of file) (OnBytes (Shortened kept)) was left → Tail left
    begins was left near there on =
        let bodies : (other : ℕ) → get left (body_of other) ≡ get was (body_of other) = λ other. on.others (body_of other) (λ e. omega (arith, e)) in
        record {
          has_body = ap (λ (c : Content). is_some c) (bodies file) ∙ near.has_body;
          above = λ other gt low. same_used left was other (bodies other) (on.others (ends_of other) (λ e. omega (arith, e, gt))) ∙ near.above other gt low;
          lower = λ other lt there. bodies other ∙ near.lower other lt there;
          covers = subst (λ (c : Content). Covers B (bytes_in c) end) (sym (bodies file)) near.covers;
          ends = take kept E;
          there = there;
          size = cut_size;
          front = cut_front;
        }

    -- the body is cut
    covers_cut : (was is : List ℕ) → Covers B was end → Shortened end was is → Covers B is end
    covers_cut was is covers (inl same) = subst (λ (l : List ℕ). Covers B l end) (sym same) covers
    covers_cut was is covers (inr cut) = subst (λ (l : List ℕ). Covers B l end) (sym cut) (omega (arith, length-take end was, covers.0), take-take end end was (omega arith) ∙ covers.1)

    pub cuts_body : (mid left : Files) → Tail mid → OnFile (body_of file) (OnBytes (Shortened end)) mid left → Tail left
    cuts_body mid left t on =
        let here = on_some (Shortened end) (get mid (body_of file)) (get left (body_of file)) (bytes_of mid (body_of file)) (there_with mid (body_of file) t.has_body) on.here in
        record {
          has_body = ap (λ (c : Content). is_some c) here.1;
          above = λ other gt low. same_used left mid other (on.others (body_of other) (λ e. omega (arith, e, gt))) (on.others (ends_of other) (λ e. omega (arith, e))) ∙ t.above other gt low;
          lower = λ other lt there. on.others (body_of other) (λ e. omega (arith, e, lt)) ∙ t.lower other lt there;
          covers = subst (λ (l : List ℕ). Covers B l end) (sym (has_bytes left (body_of file) here.0 here.1).1) (covers_cut (bytes_of mid (body_of file)) here.0 t.covers here.2);
          ends = t.ends;
          there = on.others (ends_of file) (λ e. omega (arith, e)) ∙ t.there;
          size = t.size;
          front = t.front;
        }

    -- the closed mark is written
    pub closes : (mid left : Files) → Tail mid → OnFile (ends_of file) (OnBytes (Torn (13 * m) 13)) mid left → Tail left
    closes mid left t on =
        let torn = on_some (Torn (13 * m) 13) (get mid (ends_of file)) (get left (ends_of file)) t.ends t.there on.here in
        let bodies : (other : ℕ) → get left (body_of other) ≡ get mid (body_of other) = λ other. on.others (body_of other) (λ e. omega (arith, e)) in
        record {
          has_body = ap (λ (c : Content). is_some c) (bodies file) ∙ t.has_body;
          above = λ other gt low. same_used left mid other (bodies other) (on.others (ends_of other) (λ e. omega (arith, e, gt))) ∙ t.above other gt low;
          lower = λ other lt there. bodies other ∙ t.lower other lt there;
          covers = subst (λ (c : Content). Covers B (bytes_in c) end) (sym (bodies file)) t.covers;
          ends = torn.0;
          there = torn.1;
          size = Torn-within (13 * m) 13 t.ends torn.0 (omega (arith, t.size)) torn.2 ∙ t.size;
          front = Torn-front (13 * m) 13 (13 * m) t.ends torn.0 (omega arith) torn.2 ∙ t.front;
        }

    -- ---- the calls, one after another

    module _ (t0 : ℕ) (i0 : ℕ → Files → Type 0) (near : AllNear newest files (i0 t0)) where
      abbrev pub P : Files → Files → Type 0
      P was left = (stored_in left ≡ stored_in was) ⊎ (stored_in left ≡ stored_in files)

      abbrev pub Cut : Files → Files → Type 0
      Cut was left = OnFile (ends_of file) (OnBytes (Shortened kept)) was left

      -- and the files beside the pair are as they were
      abbrev pub On : Files → Files → Type 0
      On was left = Tail left × ((other : ℕ) → other ≢ body_of file → other ≢ ends_of file → get left other ≡ get was other)

      cut_fine : (was left : Files) → i0 t0 was → Cut was left → P was left
      cut_fine was left i on = elim (cut_some was left (near was i) on) [
        | inl same ↦ inl (cut_not was left on same)
        | inr cut ↦ cut_stored was left (near was i) on.others cut
      ]

      pub ends_cut : (t1 : ℕ) (i1 : ℕ → Files → Type 0) → Passes t0 t1 i0 i1 (OnFile (ends_of file) (OnBytes (Shortened kept))) → Run t0 t1 i0 i1 P Cut
      ends_cut t1 i1 passes =
          goes t0 i0 P t0 t1 i0 i1 IsSame Cut Cut
          (begun t0 i0 P IsSame (λ was i. refl) (λ was left i same. inl (ap stored_in same)))
          passes
          (λ was mid left i same on. subst (λ (c : Files). Cut c left) same on)
          cut_fine

      ends_synced : (t1 : ℕ) (i1 : ℕ → Files → Type 0) → ((left : Files) → i1 t1 left → get left (ends_of file) ≡ Some (take kept E)) → Run t0 t1 i0 i1 P Cut → Run t0 t1 i0 i1 P On
      ends_synced t1 i1 durable run = sure t0 i0 P t1 i1 Cut On run (λ was left i now on. (begins was left (near was i) (durable left now) on, λ other a b. on.others other b))

      body_cut : (t1 t2 : ℕ) (i1 i2 : ℕ → Files → Type 0) → Run t0 t1 i0 i1 P On → Passes t1 t2 i1 i2 (OnFile (body_of file) (OnBytes (Shortened end))) → Run t0 t2 i0 i2 P On
      body_cut t1 t2 i1 i2 run passes = goes t0 i0 P t1 t2 i1 i2 On On (OnFile (body_of file) (OnBytes (Shortened end))) run passes
          (λ was mid left i t on. (cuts_body mid left t.0 on, λ other a b. on.others other a ∙ t.1 other a b)) (λ was left i t. inr (tail_stored left t.0))

      mark_closed : (t1 t2 : ℕ) (i1 i2 : ℕ → Files → Type 0) → Run t0 t1 i0 i1 P On → Passes t1 t2 i1 i2 (OnFile (ends_of file) (OnBytes (Torn (13 * m) 13))) → Run t0 t2 i0 i2 P On
      mark_closed t1 t2 i1 i2 run passes = goes t0 i0 P t1 t2 i1 i2 On On (OnFile (ends_of file) (OnBytes (Torn (13 * m) 13))) run passes
          (λ was mid left i t on. (closes mid left t.0 on, λ other a b. on.others other b ∙ t.1 other a b)) (λ was left i t. inr (tail_stored left t.0))

      -- after the first call was done, and another was made; and after that one was done
      module _ (t1 : ℕ) (i1 : ℕ → Files → Type 0) (first : Passes t0 t1 i0 i1 (OnFile (ends_of file) (OnBytes (Shortened kept))))
          (durable : (left : Files) → i1 t1 left → get left (ends_of file) ≡ Some (take kept E)) (t2 : ℕ) (i2 : ℕ → Files → Type 0) (second : Passes t1 t2 i1 i2 (OnFile (body_of file) (OnBytes (Shortened end)))) where
        pub run_two : Run t0 t2 i0 i2 P On
        run_two = body_cut t1 t2 i1 i2 (ends_synced t1 i1 durable (ends_cut t1 i1 first)) second

        module _ (t3 : ℕ) (i3 : ℕ → Files → Type 0) (third : Passes t2 t3 i2 i3 (OnFile (ends_of file) (OnBytes (Torn (13 * m) 13)))) where
          pub run_three : Run t0 t3 i0 i3 P On
          run_three = mark_closed t2 t3 i2 i3 run_two third
