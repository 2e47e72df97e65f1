-- A pair is made: what reads give, and what a crash may leave.
use Rattle.std.proofs.Common.{◌≡◌, ◌==◌, ◌&&◌, ◌||◌, ◌<◌, ◌≤◌, ◌⊎◌, ℕ, Bool, List, [], ◌∷◌, length, Some, None, true, false, IsSome, is_some, refl, sym, ◌∙◌, ap, subst, inl, inr, arith}
use mathlib.Core.Logic.{◌≢◌}
use Rattle.std.proofs.lemmas.Bool.{true≢false}
use Rattle.std.specs.List.{list_any}
use Rattle.std.specs.Ordering.{nat_cmp, eq_by_cmp}
use Rattle.std.specs.Cmp.{nat_cmp_total, eq_by_cmp_equiv, unsigned_ties}
use Rattle.std.specs.FinMap.{get, keys, contains_key-keys, get-empty}
use Rattle.xod_volume.specs.Files.{Files, Content, no_files, bytes_in}
use Rattle.xod_volume.specs.Crash.{OnFile, OnBytes, Torn, Appears, Passes, Rests, IsSame}
use Rattle.xod_log.specs.Ends.{gate_at, IsUsed, body_of, ends_of}
use Rattle.xod_log.specs.Standing.{IsDurablePair, Stands, has_pair, empty_log, last_file}
use Rattle.xod_log.specs.Calls.{IsEmptyPair, IsSamePair, MakesPair, no_mark}
use Rattle.xod_log.specs.Runs.{Run}
use Rattle.xod_log.proofs.Runs.{goes, sure}
use Rattle.xod_log.proofs.Claims.{files_apart}
use Rattle.xod_log.proofs.Marking.{on_some, has_bytes}

-- ---- the numbers of the files

-- the list of their numbers says which files are there
listed_test : (file : ℕ) (numbers : List ℕ) → list_any (λ other. other == file) numbers ≡ list_any (eq_by_cmp nat_cmp file) numbers
listed_test file [] = refl
listed_test file (number ∷ numbers) =
    ap (λ (b : Bool). b || list_any (λ other. other == file) numbers) (unsigned_ties number file ∙ (eq_by_cmp_equiv nat_cmp_total).symm number file)
    ∙ ap (λ (b : Bool). eq_by_cmp nat_cmp file number || b) (listed_test file numbers)

pub listed : (before now : Files) (numbers items : List ℕ) (file : ℕ) (there : Bool) → there ≡ list_any (λ other. other == file) numbers → numbers ≡ items
    → items ≡ keys before → get now file ≡ get before file → there ≡ is_some (get now file)
listed before now numbers items file there test is all same =
    test
    ∙ ap (list_any (λ other. other == file)) (is ∙ all)
    ∙ listed_test file (keys before)
    ∙ sym (contains_key-keys before file)
    ∙ ap is_some (sym same)

-- where there is no file none is used
pub nothing_used : (files : Files) → files ≡ no_files → (file : ℕ) → file ≤ last_file → ¬ (IsUsed file files)
nothing_used files none file within used =
    let absent : get files (body_of file) ≡ None = ap (λ (f : Files). get f (body_of file)) none ∙ get-empty nat_cmp (body_of file) in
    let there : is_some {T = List ℕ} None ≡ true = subst (λ (c : Content). IsSome c) absent used.has_body in
    cc

-- ---- whether a log file is there

-- it goes with the two files
pub has_pair_over : (file : ℕ) (was now : Files) → get now (body_of file) ≡ get was (body_of file) → get now (ends_of file) ≡ get was (ends_of file)
    → has_pair now file ≡ has_pair was file
has_pair_over file was now body ends =
    ap (λ (c : Content). is_some c && is_some (get now (ends_of file))) body
    ∙ ap (λ (c : Content). is_some (get was (body_of file)) && is_some c) ends

pub has_both : (file : ℕ) (now : Files) (body ends : List ℕ) → get now (body_of file) ≡ Some body → get now (ends_of file) ≡ Some ends → true ≡ has_pair now file
has_both file now body ends has_body has_ends =
    sym (ap (λ (c : Content). is_some c && is_some (get now (ends_of file))) has_body ∙ ap (λ (c : Content). is_some c) has_ends)

appears_kept : (was left : Content) → Appears was left → is_some was ≡ true → is_some left ≡ true
appears_kept was left (inl same) there = ap (λ (c : Content). is_some c) same ∙ there
appears_kept was left (inr made) there = ap (λ (c : Content). is_some c) made

swapped : (a b : Bool) → (a && b) ≡ (b && a)
swapped true true = refl
swapped true false = refl
swapped false true = refl
swapped false false = refl

still_both : (was is other : Bool) → (was ≡ true → is ≡ true) → ((was && other) || (is && other)) ≡ (is && other)
still_both true true true kept = refl
still_both true true false kept = refl
still_both true false other kept = absurd (true≢false (sym (kept refl)))
still_both false is other kept = refl

-- it is known still where one of the two files came to be
known_part : (was is other flag found : Bool) → (was ≡ true → is ≡ true) → flag ≡ (was && other) → found ≡ (flag || (is && other)) → found ≡ (is && other)
known_part was is other flag found kept known same = same ∙ ap (λ (f : Bool). f || (is && other)) known ∙ still_both was is other kept

-- first the ends do
pub known_ends : (file : ℕ) (was now : Files) (flag here found : Bool) → OnFile (ends_of file) Appears was now → here ≡ is_some (get was (body_of file))
    → flag ≡ has_pair was file → found ≡ (flag || (is_some (get now (ends_of file)) && here)) → found ≡ has_pair now file
known_ends file was now flag here found on body known is =
    let b = is_some (get was (body_of file)) in
    let e = is_some (get now (ends_of file)) in
    known_part (is_some (get was (ends_of file))) e b flag found (appears_kept (get was (ends_of file)) (get now (ends_of file)) on.here)
    (known ∙ swapped b (is_some (get was (ends_of file)))) (is ∙ ap (λ (h : Bool). flag || (e && h)) body)
    ∙ swapped e b
    ∙ ap (λ (c : Content). is_some c && e) (sym (on.others (body_of file) (files_apart file)))

-- and then the body
pub known_body : (file : ℕ) (was now : Files) (flag found : Bool) → OnFile (body_of file) Appears was now → get was (ends_of file) ≡ Some []
    → flag ≡ has_pair was file → found ≡ (flag || (is_some (get now (body_of file)) && true)) → found ≡ has_pair now file
known_body file was now flag found on ends known is =
    let b = is_some (get now (body_of file)) in
    known_part (is_some (get was (body_of file))) b true flag found (appears_kept (get was (body_of file)) (get now (body_of file)) on.here)
    (known ∙ ap (λ (c : Content). is_some (get was (body_of file)) && is_some c) ends) is
    ∙ ap (λ (c : Content). b && is_some c) (sym (on.others (ends_of file) (λ e. files_apart file (sym e)) ∙ ends))

pub or_true : (flag : Bool) → (flag || true) ≡ true
or_true true = refl
or_true false = refl

-- a pair without blocks in each image is durable
pub empty_durable : (file : ℕ) (files : Files) (images : Files → Type 0) → IsEmptyPair file files → ((left : Files) → images left → IsEmptyPair file left) → IsDurablePair file files images
empty_durable file files images made each = record { body = λ left i. (each left i).body ∙ sym made.body; ends = λ left i. (each left i).ends ∙ sym made.ends }

-- a log without blocks stands on a pair without blocks
pub empty_stands : (file target : ℕ) (files : Files) (images : Files → Type 0) → IsEmptyPair file files → ((left : Files) → images left → IsEmptyPair file left)
    → Stands (empty_log file target) files images
empty_stands file target files images made each =
    let body = has_bytes files (body_of file) [] made.body in
    let ends = has_bytes files (ends_of file) no_mark made.ends in
    record {
      has_body = body.0;
      has_ends = ends.0;
      size = ap length body.1;
      opened = λ mark below. absurd (omega (arith, below));
      at_rest = record { size = ap length ends.1; front = refl; gate = ap (λ (l : List ℕ). gate_at l 0) ends.1 };
      each = λ left i.
          let here = each left i in
          let left_body = has_bytes left (body_of file) [] here.body in
          let left_ends = has_bytes left (ends_of file) no_mark here.ends in
          record {
            has_body = left_body.0;
            has_ends = left_ends.0;
            at_rest = record { size = ap length left_ends.1; front = refl; gate = ap (λ (l : List ℕ). gate_at l 0) left_ends.1 };
          };
      settled = λ _. empty_durable file files images made each;
      last = λ _. record { none = λ _. refl; some = λ mark next. absurd (omega (arith, next)) };
    }

-- ---- what a crash may leave

module _ (file : ℕ) where
  -- the ends are too short for an open mark
  pub record Short (most : ℕ) (was left : Files) : Type 0 where
    pub others : (other : ℕ) → other ≢ body_of file → other ≢ ends_of file → get left other ≡ get was other
    pub ends : List ℕ
    pub there : get left (ends_of file) ≡ Some ends
    pub short : length ends ≤ most

  -- no mark is open
  pub short_unused : (most : ℕ) (was left : Files) → most < 26 → Short most was left → ¬ (IsUsed file left)
  short_unused most was left lt s used =
      let bytes = has_bytes left (ends_of file) s.ends s.there in
      omega (arith, used.opened.followed, ap length bytes.1, s.short, lt)

  pub short_fine : (most : ℕ) (was left : Files) → most < 26 → Short most was left → MakesPair file was left
  short_fine most was left lt s = record { others = s.others; pair = inr (short_unused most was left lt s) }

  pub same_fine : (was : Files) → MakesPair file was was
  same_fine was = record { others = λ other a b. refl; pair = inl (record { body = refl; ends = refl }) }

  -- the ends are emptied
  emptied_pair : (was left : Files) → OnFile (ends_of file) Appears was left → IsSamePair file was left ⊎ (¬ (IsUsed file left))
  emptied_pair was left on = elim on.here [
    | inl same ↦ inl (record { body = on.others (body_of file) (files_apart file); ends = same })
    | inr made ↦ inr (λ used. omega (arith, used.opened.followed, ap (λ (o : Content). length (bytes_in o)) made))
  ]

  pub emptied_fine : (was left : Files) → OnFile (ends_of file) Appears was left → MakesPair file was left
  emptied_fine was left on = record { others = λ other a b. on.others other b; pair = emptied_pair was left on }

  pub emptied_short : (was left : Files) → get left (ends_of file) ≡ Some [] → OnFile (ends_of file) Appears was left → Short 0 was left
  emptied_short was left empty on = record { others = λ other a b. on.others other b; ends = []; there = empty; short = omega arith }

  -- the body is emptied
  pub short_body : (most : ℕ) (was mid left : Files) → Short most was mid → OnFile (body_of file) Appears mid left → Short most was left
  short_body most was mid left s on = record {
    others = λ other a b. on.others other a ∙ s.others other a b;
    ends = s.ends;
    there = on.others (ends_of file) (λ e. files_apart file (sym e)) ∙ s.there;
    short = s.short;
  }

  -- a closed mark is appended
  pub short_mark : (n size : ℕ) (was mid left : Files) → size ≡ 0 → Short 0 was mid → OnFile (ends_of file) (OnBytes (Torn size n)) mid left → Short n was left
  short_mark n size was mid left is s on =
      let here = on_some (Torn size n) (get mid (ends_of file)) (get left (ends_of file)) s.ends s.there on.here in
      record {
        others = λ other a b. on.others other b ∙ s.others other a b;
        ends = here.0;
        there = here.1;
        short = omega (arith, here.2.no_longer, s.short, is);
      }

  module _ (t0 : ℕ) (i0 : ℕ → Files → Type 0) where
    -- the files were listed
    pub run_listed : (t1 : ℕ) (i1 : ℕ → Files → Type 0) → Rests t0 t1 i0 i1 → Run t0 t1 i0 i1 (MakesPair file) IsSame
    run_listed t1 i1 rests =
        let none : t1 ≡ t0 = rests.still in
        let here : (left : Files) → i1 t1 left → (was : Files) × i0 t0 was × IsSame was left = λ left i. (left, subst (λ (k : ℕ). i0 k left) none (rests.same t1 left i), refl) in
        record {
          passes = record {
            later = omega (arith, none);
            same = λ m c le i. rests.same m c i;
            kept = λ m c le i. rests.kept m c i;
            each = λ m c ge le i.
                let is : m ≡ t0 = omega (arith, ge, le, none) in
                (c, subst (λ (k : ℕ). i0 k c) is (rests.same m c i), same_fine c);
          };
          present = here;
        }

    pub run_ends : (t1 t2 : ℕ) (i1 i2 : ℕ → Files → Type 0) → Run t0 t1 i0 i1 (MakesPair file) IsSame → Passes t1 t2 i1 i2 (OnFile (ends_of file) Appears)
        → Run t0 t2 i0 i2 (MakesPair file) (OnFile (ends_of file) Appears)
    run_ends t1 t2 i1 i2 run passes =
        goes t0 i0 (MakesPair file) t1 t2 i1 i2 IsSame (OnFile (ends_of file) Appears) (OnFile (ends_of file) Appears) run passes
        (λ was mid left i same on. subst (λ (c : Files). OnFile (ends_of file) Appears c left) same on)
        (λ was left i on. emptied_fine was left on)

    pub run_body : (t2 t3 : ℕ) (i2 i3 : ℕ → Files → Type 0) → Run t0 t2 i0 i2 (MakesPair file) (OnFile (ends_of file) Appears)
        → ((left : Files) → i2 t2 left → get left (ends_of file) ≡ Some []) → Passes t2 t3 i2 i3 (OnFile (body_of file) Appears)
        → Run t0 t3 i0 i3 (MakesPair file) (Short 0)
    run_body t2 t3 i2 i3 run durable passes =
        goes t0 i0 (MakesPair file) t2 t3 i2 i3 (Short 0) (Short 0) (OnFile (body_of file) Appears)
        (sure t0 i0 (MakesPair file) t2 i2 (OnFile (ends_of file) Appears) (Short 0) run (λ was left i0 i on. emptied_short was left (durable left i) on))
        passes
        (λ was mid left i s on. short_body 0 was mid left s on)
        (λ was left i s. short_fine 0 was left (omega arith) s)

    pub run_mark : (t3 t4 : ℕ) (i3 i4 : ℕ → Files → Type 0) (size : ℕ) → size ≡ 0 → Run t0 t3 i0 i3 (MakesPair file) (Short 0)
        → Passes t3 t4 i3 i4 (OnFile (ends_of file) (OnBytes (Torn size 13))) → Passes t0 t4 i0 i4 (MakesPair file)
    run_mark t3 t4 i3 i4 size is run passes =
        (goes t0 i0 (MakesPair file) t3 t4 i3 i4 (Short 0) (Short 13) (OnFile (ends_of file) (OnBytes (Torn size 13))) run passes
        (λ was mid left i s on. short_mark 13 size was mid left is s on)
        (λ was left i s. short_fine 13 was left (omega arith) s)).passes

-- each image has the pair, where the body was durable before the mark and the ends after it
pub pair_left : (file : ℕ) (t3 t4 : ℕ) (i3 i4 : ℕ → Files → Type 0) (size n : ℕ) (after : Files) → Passes t3 t4 i3 i4 (OnFile (ends_of file) (OnBytes (Torn size n)))
    → ((left : Files) → i3 t3 left → get left (body_of file) ≡ Some []) → ((left : Files) → i4 t4 left → get left (ends_of file) ≡ get after (ends_of file))
    → IsEmptyPair file after → (left : Files) → i4 t4 left → IsEmptyPair file left
pair_left file t3 t4 i3 i4 size n after passes body ends made left i =
    let before : t3 ≤ t4 = passes.later in
    let from = passes.each t4 left before (omega arith) i in
    record {
      body = from.2.others (body_of file) (files_apart file) ∙ body from.0 from.1;
      ends = ends left i ∙ made.ends;
    }
