-- A roll, call by call, and the block that comes behind it: what a crash may leave after each call, and which log stands.
use Rattle.std.proofs.Common.{◌≡◌, ◌<◌, ◌⊎◌, ℕ, ◌+◌, ◌*◌, List, [], ◌++◌, length, take, Some, IsSome, IsTrue, Bool, true, false, MatchBool, if◌then◌else◌, refl, sym, ◌∙◌, ap, subst, arith, inl, inr}
use mathlib.Core.Logic.{◌≢◌}
use Rattle.std.specs.FinMap.{get, insert}
use Rattle.xod_volume.specs.Files.{Files, Content, bytes_in, bytes_of}
use Rattle.xod_volume.specs.Crash.{OnFile, OnBytes, Torn, Passes}
use Rattle.xod_volume.proofs.CallerLemmas.{get_same, get_other}
use Rattle.xod_log.specs.declared.log.Log.{Log}
use Rattle.xod_log.specs.Ends.{gate_at, numbers_at, IsOpen, IsUsed, body_of, ends_of}
use Rattle.xod_log.specs.Standing.{AtRest, LeftStanding, IsDurablePair, LastSays, Stands, body_file, ends_file, sealed_log, rolled_log, appended_log, is_due, has_pair}
use Rattle.xod_log.specs.Calls.{IsElsewhere, IsEmptyPair, IsRolled, IsSamePair, MakesPair, IsClosed, IsMarked, Seals, Rolls, Appends, BodyFirst, KeepsClaims, Outlives}
use Rattle.xod_log.proofs.Runs.{weakened, joined}
use Rattle.xod_log.proofs.Claims.{same_bytes, pair_claims}
use Rattle.xod_log.proofs.Marking.{has_bytes}
use Rattle.xod_log.proofs.Pairs.{has_pair_over}
use Rattle.xod_log.proofs.SealRuns.{stood_mark}

-- ---- files of the pairs

-- a file elsewhere is none of the four
pub elsewhere : (log : Log) (other : ℕ) → IsElsewhere log other → (other ≢ body_file log) × (other ≢ ends_file log) × (other ≢ body_of (log.file + 1)) × (other ≢ ends_of (log.file + 1))
elsewhere log other (inl lt) = (λ e. omega (arith, lt, e), λ e. omega (arith, lt, e), λ e. omega (arith, lt, e), λ e. omega (arith, lt, e))
elsewhere log other (inr le) = (λ e. omega (arith, le, e), λ e. omega (arith, le, e), λ e. omega (arith, le, e), λ e. omega (arith, le, e))

-- the pair of the next file is another one
pub next_apart : (file : ℕ) → (body_of file ≢ body_of (file + 1)) × (body_of file ≢ ends_of (file + 1)) × (ends_of file ≢ body_of (file + 1)) × (ends_of file ≢ ends_of (file + 1))
next_apart file = (λ e. omega (arith, e), λ e. omega (arith, e), λ e. omega (arith, e), λ e. omega (arith, e))

pub used_over : (file : ℕ) (was left : Files) → get left (body_of file) ≡ get was (body_of file) → get left (ends_of file) ≡ get was (ends_of file) → IsUsed file left → IsUsed file was
used_over file was left body ends used = record {
  has_body = subst (λ (c : Content). IsSome c) body used.has_body;
  has_ends = subst (λ (c : Content). IsSome c) ends used.has_ends;
  opened = subst (λ (c : Content). IsOpen (bytes_in c) 0) ends used.opened;
}

-- ends with one mark have no open one
pub short_unused : (file : ℕ) (left : Files) → length (bytes_of left (ends_of file)) ≡ 13 → ¬ (IsUsed file left)
short_unused file left size used = omega (arith, size, used.opened.followed)

-- the calls on the next pair leave this one alone
pub making_apart : (log : Log) (mid left : Files) → MakesPair (log.file + 1) mid left → IsSamePair log.file mid left
making_apart log mid left made =
    let apart = next_apart log.file in
    record { body = made.others (body_file log) apart.0 apart.1; ends = made.others (ends_file log) apart.2 apart.3 }

pub block_apart : (log : Log) (step : Content → Content → Type 0) (mid left : Files) → OnFile (body_of (log.file + 1)) step mid left → IsSamePair log.file mid left
block_apart log step mid left on =
    let apart = next_apart log.file in
    record { body = on.others (body_file log) apart.0; ends = on.others (ends_file log) apart.2 }

-- a seal leaves the next log file there or not
pub sealing_has_next : (log : Log) (was now : Files) → ((other : ℕ) → other ≢ ends_file log → get now other ≡ get was other)
    → has_pair now (log.file + 1) ≡ has_pair was (log.file + 1)
sealing_has_next log was now others =
    has_pair_over (log.file + 1) was now (others (body_of (log.file + 1)) (λ e. omega (arith, e))) (others (ends_of (log.file + 1)) (λ e. omega (arith, e)))

pub rolled_empty : (log : Log) (before after : Files) → IsRolled log [] before after → IsEmptyPair (log.file + 1) after
rolled_empty log before after r = record { body = r.next_body; ends = r.next_ends }

-- ---- what a roll may leave

module _ (log : Log) (B E : List ℕ) where
  abbrev m : ℕ
  m = log.marks

  pub start_rolls : (was : Files) → LeftStanding log E was → Rolls log B E was was
  start_rolls was stood = record {
    others = λ other apart. refl;
    next = λ unused. unused;
    pair = inl (record {
      body = refl;
      has_ends = stood.has_ends;
      long = omega (arith, stood.at_rest.size);
      no_longer = omega (arith, stood.at_rest.size);
      front = refl;
      gate = stood.at_rest.gate;
    });
  }

  pub sealing_rolls : (was left : Files) → Seals log B E was left → Rolls log B E was left
  sealing_rolls was left s = record {
    others = λ other apart. s.others other (elsewhere log other apart).1;
    next = λ unused used. unused (used_over (log.file + 1) was left
        (s.others (body_of (log.file + 1)) (λ e. omega (arith, e)))
        (s.others (ends_of (log.file + 1)) (λ e. omega (arith, e))) used);
    pair = s.pair;
  }

  -- what is said of the current pair goes over to files that have the same pair
  closed_over : (was mid left : Files) → get left (body_file log) ≡ get mid (body_file log) → get left (ends_file log) ≡ get mid (ends_file log) → IsClosed log was mid → IsClosed log was left
  closed_over was mid left body ends c =
      let bytes : bytes_of left (ends_file log) ≡ bytes_of mid (ends_file log) = same_bytes left mid (ends_file log) ends in
      record {
        body = body ∙ c.body;
        has_ends = (has_bytes left (ends_file log) (bytes_of mid (ends_file log)) (ends ∙ c.has_ends)).0;
        long = omega (arith, ap length bytes, c.long);
        no_longer = omega (arith, ap length bytes, c.no_longer);
        front = ap (take (13 * m)) bytes ∙ c.front;
        gate = ap (λ (l : List ℕ). gate_at l m) bytes ∙ c.gate;
      }

  marked_over : (mid left : Files) → get left (body_file log) ≡ get mid (body_file log) → get left (ends_file log) ≡ get mid (ends_file log) → IsMarked log B E mid → IsMarked log B E left
  marked_over mid left body ends c =
      let bytes : bytes_of left (ends_file log) ≡ bytes_of mid (ends_file log) = same_bytes left mid (ends_file log) ends in
      record {
        unsealed = c.unsealed;
        whole = body ∙ c.whole;
        has_ends = (has_bytes left (ends_file log) (bytes_of mid (ends_file log)) (ends ∙ c.has_ends)).0;
        size = ap length bytes ∙ c.size;
        front = ap (take (13 * m)) bytes ∙ c.front;
        says = ap (λ (l : List ℕ). numbers_at l m) bytes ∙ c.says;
        next_gate = ap (λ (l : List ℕ). gate_at l (m + 1)) bytes ∙ c.next_gate;
      }

  pair_over : (was mid left : Files) → get left (body_file log) ≡ get mid (body_file log) → get left (ends_file log) ≡ get mid (ends_file log) → IsClosed log was mid ⊎ IsMarked log B E mid → IsClosed log was left ⊎ IsMarked log B E left
  pair_over was mid left body ends (inl c) = inl (closed_over was mid left body ends c)
  pair_over was mid left body ends (inr c) = inr (marked_over mid left body ends c)

  pub making_rolls : (was mid left : Files) → Rolls log B E was mid → MakesPair (log.file + 1) mid left → Rolls log B E was left
  making_rolls was mid left r made =
      let apart = next_apart log.file in
      record {
        others = λ other away. let four = elsewhere log other away in made.others other four.2 four.3 ∙ r.others other away;
        next = λ unused. elim made.pair [
          | inl same ↦ λ used. r.next unused (used_over (log.file + 1) mid left same.body same.ends used)
          | inr not_used ↦ not_used
        ];
        pair = pair_over was mid left (made.others (body_file log) apart.0 apart.1) (made.others (ends_file log) apart.2 apart.3) r.pair;
      }

  -- a block at the front of the next file
  pub block_rolls : (step : Content → Content → Type 0) (was mid left : Files) → Rolls log B E was mid → length (bytes_of mid (ends_of (log.file + 1))) ≡ 13
      → OnFile (body_of (log.file + 1)) step mid left → Rolls log B E was left
  block_rolls step was mid left r size on =
      let apart = next_apart log.file in
      let ends : get left (ends_of (log.file + 1)) ≡ get mid (ends_of (log.file + 1)) = on.others (ends_of (log.file + 1)) (λ e. omega (arith, e)) in
      record {
        others = λ other away. on.others other (elsewhere log other away).2 ∙ r.others other away;
        next = λ unused. short_unused (log.file + 1) left (ap length (same_bytes left mid (ends_of (log.file + 1)) ends) ∙ size);
        pair = pair_over was mid left (on.others (body_file log) apart.0) (on.others (ends_file log) apart.2) r.pair;
      }

  -- ---- by whether a roll is due

  pub due_appends : (count : ℕ) → is_due log ≡ true → (was left : Files) → Rolls log B E was left → Appends log count B E was left
  due_appends count due was left r = subst (λ (b : Bool). MatchBool b (Rolls log B E was left) (OnFile (body_file log) (OnBytes (Torn log.end count)) was left)) (sym due) r

  pub not_due_appends : (count : ℕ) → is_due log ≡ false → (was left : Files) → OnFile (body_file log) (OnBytes (Torn log.end count)) was left → Appends log count B E was left
  not_due_appends count due was left on = subst (λ (b : Bool). MatchBool b (Rolls log B E was left) (OnFile (body_file log) (OnBytes (Torn log.end count)) was left)) (sym due) on

  pub appends_due : (count : ℕ) → is_due log ≡ true → (was left : Files) → Appends log count B E was left → Rolls log B E was left
  appends_due count due was left a = subst (λ (b : Bool). MatchBool b (Rolls log B E was left) (OnFile (body_file log) (OnBytes (Torn log.end count)) was left)) due a

  pub appends_not_due : (count : ℕ) → is_due log ≡ false → (was left : Files) → Appends log count B E was left → OnFile (body_file log) (OnBytes (Torn log.end count)) was left
  appends_not_due count due was left a = subst (λ (b : Bool). MatchBool b (Rolls log B E was left) (OnFile (body_file log) (OnBytes (Torn log.end count)) was left)) due a

-- ---- the calls together

module _ (log : Log) (B E : List ℕ) (t0 t1 t2 : ℕ) (i0 i1 i2 : ℕ → Files → Type 0) where
  -- a seal alone
  pub seal_rolls : Passes t0 t1 i0 i1 (Seals log B E) → Passes t0 t1 i0 i1 (Rolls log B E)
  seal_rolls sealing = weakened t0 t1 i0 i1 (Seals log B E) (Rolls log B E) sealing (λ was left began. sealing_rolls log B E was left)

  -- a seal, and the next pair
  pub pair_rolls : Passes t0 t1 i0 i1 (Seals log B E) → Passes t1 t2 i1 i2 (MakesPair (log.file + 1)) → Passes t0 t2 i0 i2 (Rolls log B E)
  pair_rolls sealing making = joined t0 t1 t2 i0 i1 i2 (Rolls log B E) (MakesPair (log.file + 1)) (seal_rolls sealing) making
      (λ was mid left began at r made. making_rolls log B E was mid left r made)

  -- a roll, and a block
  pub block_rolled : (files : Files) (step : Content → Content → Type 0) → Stands (rolled_log log) files (i1 t1)
      → Passes t0 t1 i0 i1 (Rolls log B E) → Passes t1 t2 i1 i2 (OnFile (body_of (log.file + 1)) step) → Passes t0 t2 i0 i2 (Rolls log B E)
  block_rolled files step stands rolling appending = joined t0 t1 t2 i0 i1 i2 (Rolls log B E) (OnFile (body_of (log.file + 1)) step) rolling appending
      (λ was mid left began at r on. block_rolls log B E step was mid left r ((stands.each mid at).at_rest.size) on)

-- ---- what is claimed of the files that may be left

module _ (log : Log) (files : Files) (t0 t1 : ℕ) (i0 i1 : ℕ → Files → Type 0) (stands : Stands log files (i0 t0)) where
  abbrev B : List ℕ
  B = bytes_of files (body_file log)

  abbrev E : List ℕ
  E = bytes_of files (ends_file log)

  pub roll_claims : Passes t0 t1 i0 i1 (Rolls log B E) → BodyFirst log files (i1 t1) → KeepsClaims log files t0 t1 i0 i1
  roll_claims = pair_claims log files t0 t1 i0 i1 stands (Rolls log B E) (λ was left r. r.pair)

  pub seal_claims : Passes t0 t1 i0 i1 (Seals log B E) → BodyFirst log files (i1 t1) → KeepsClaims log files t0 t1 i0 i1
  seal_claims = pair_claims log files t0 t1 i0 i1 stands (Seals log B E) (λ was left s. s.pair)

-- where nothing was done
pub stood_first : (log : Log) (files : Files) (images : Files → Type 0) → Stands log files images → BodyFirst log files images
stood_first log files images stands = inl (λ left i. (stands.each left i).at_rest.gate)

-- a call that leaves the pair alone
pub first_after : (log : Log) (files : Files) (t1 t2 : ℕ) (i1 i2 : ℕ → Files → Type 0) (S : Files → Files → Type 0) → Passes t1 t2 i1 i2 S
    → ((mid left : Files) → S mid left → IsSamePair log.file mid left) → BodyFirst log files (i1 t1) → BodyFirst log files (i2 t2)
first_after log files t1 t2 i1 i2 S passes keeps first =
    let from : (left : Files) → i2 t2 left → (mid : Files) × i1 t1 mid × IsSamePair log.file mid left = λ left i.
    let came = passes.each t2 left passes.later (omega arith) i in
    (came.0, came.1, keeps came.0 left came.2)
    in
    elim first [
      | inl closed ↦ inl (λ left i. let mid = from left i in ap (λ (c : Content). gate_at (bytes_in c) log.marks) mid.2.ends ∙ closed mid.0 mid.1)
      | inr whole ↦ inr (λ left i. let mid = from left i in mid.2.body ∙ whole mid.0 mid.1)
    ]

-- ---- which log stands

-- what is done to other files than the pair leaves a log standing
pub stands_beside : (log : Log) (before after : Files) (past images : Files → Type 0)
    → get after (body_file log) ≡ get before (body_file log) → get after (ends_file log) ≡ get before (ends_file log)
    → ((left : Files) → images left → (was : Files) × past was × (get left (body_file log) ≡ get was (body_file log)) × (get left (ends_file log) ≡ get was (ends_file log)))
    → Stands log before past → Stands log after images
stands_beside log before after past images body ends from s =
    let body_bytes : bytes_of after (body_file log) ≡ bytes_of before (body_file log) = same_bytes after before (body_file log) body in
    let ends_bytes : bytes_of after (ends_file log) ≡ bytes_of before (ends_file log) = same_bytes after before (ends_file log) ends in
    record {
      has_body = (has_bytes after (body_file log) (bytes_of before (body_file log)) (body ∙ s.has_body)).0;
      has_ends = (has_bytes after (ends_file log) (bytes_of before (ends_file log)) (ends ∙ s.has_ends)).0;
      size = ap length body_bytes ∙ s.size;
      opened = subst (λ (l : List ℕ). (mark : ℕ) → mark < log.marks → gate_at l mark ≢ 0) (sym ends_bytes) s.opened;
      at_rest = subst (λ (l : List ℕ). AtRest log.marks l l) (sym ends_bytes) s.at_rest;
      each = λ left im.
          let was = from left im in
          let stood : LeftStanding log (bytes_of before (ends_file log)) was.0 = s.each was.0 was.1 in
          let left_bytes : bytes_of left (ends_file log) ≡ bytes_of was.0 (ends_file log) = same_bytes left was.0 (ends_file log) was.3 in
          record {
            has_body = (has_bytes left (body_file log) (bytes_of was.0 (body_file log)) (was.2 ∙ stood.has_body)).0;
            has_ends = (has_bytes left (ends_file log) (bytes_of was.0 (ends_file log)) (was.3 ∙ stood.has_ends)).0;
            at_rest = record {
              size = ap length left_bytes ∙ stood.at_rest.size;
              front = ap (take (13 * log.marks)) left_bytes ∙ stood.at_rest.front ∙ ap (take (13 * log.marks)) (sym ends_bytes);
              gate = ap (λ (l : List ℕ). gate_at l log.marks) left_bytes ∙ stood.at_rest.gate;
            };
          };
      settled = λ is_sealed.
          let pair = s.settled is_sealed in
          record {
            body = λ left im. let was = from left im in was.2 ∙ pair.body was.0 was.1 ∙ sym body;
            ends = λ left im. let was = from left im in was.3 ∙ pair.ends was.0 was.1 ∙ sym ends;
          };
      last = λ is_sealed. subst (λ (l : List ℕ). LastSays log.marks log.end log.back l) (sym ends_bytes) (s.last is_sealed);
    }

-- a call that leaves the pair leaves the log standing
pub stands_on : (log : Log) (t1 t2 : ℕ) (i1 i2 : ℕ → Files → Type 0) (before after : Files) (S : Files → Files → Type 0) → Passes t1 t2 i1 i2 S
    → get after (body_file log) ≡ get before (body_file log) → get after (ends_file log) ≡ get before (ends_file log)
    → ((mid left : Files) → S mid left → (get left (body_file log) ≡ get mid (body_file log)) × (get left (ends_file log) ≡ get mid (ends_file log)))
    → Stands log before (i1 t1) → Stands log after (i2 t2)
stands_on log t1 t2 i1 i2 before after S passes body ends keeps s = stands_beside log before after (i1 t1) (i2 t2) body ends (λ left im.
    let from = passes.each t2 left passes.later (omega arith) im in
    let same = keeps from.0 left from.2 in
    (from.0, from.1, same.0, same.1)) s

same_place : (b : Bool) (x y : Log) → y.file ≡ x.file → (if b then x else y).file ≡ x.file
same_place true x y is = refl
same_place false x y is = is

pub sealed_file : (log : Log) → (sealed_log log).file ≡ log.file
sealed_file log = same_place log.is_sealed log (record log { marks = log.marks + 1; is_sealed = true }) refl

-- an append leaves the log on its file, also where it was refused
pub appended_file : (log : Log) (b : Bool) (count back : ℕ) → (if b then (appended_log log count back) else log).file ≡ log.file
appended_file log true count back = refl
appended_file log false count back = refl

-- the sealed log stands beside the next pair while that is made, and while a block comes to it
module _ (log now : Log) (is : now ≡ sealed_log log) (t1 t2 : ℕ) (i1 i2 : ℕ → Files → Type 0) (before after : Files) where
  same_file : now.file ≡ log.file
  same_file = ap (λ (l : Log). l.file) is ∙ sealed_file log

  pub making_stands : ((other : ℕ) → other ≢ body_of (log.file + 1) → other ≢ ends_of (log.file + 1) → get after other ≡ get before other)
      → Passes t1 t2 i1 i2 (MakesPair (log.file + 1)) → Stands now before (i1 t1) → Stands now after (i2 t2)
  making_stands others passes =
      let file = same_file in
      stands_on now t1 t2 i1 i2 before after (MakesPair (log.file + 1)) passes
      (others (body_file now) (λ e. omega (arith, file, e)) (λ e. omega (arith, file, e)))
      (others (ends_file now) (λ e. omega (arith, file, e)) (λ e. omega (arith, file, e)))
      (λ mid left made. (
        made.others (body_file now) (λ e. omega (arith, file, e)) (λ e. omega (arith, file, e)),
        made.others (ends_file now) (λ e. omega (arith, file, e)) (λ e. omega (arith, file, e)),
      ))

  pub block_stands : (step : Content → Content → Type 0) → ((other : ℕ) → other ≢ body_of (log.file + 1) → get after other ≡ get before other)
      → Passes t1 t2 i1 i2 (OnFile (body_of (log.file + 1)) step) → Stands now before (i1 t1) → Stands now after (i2 t2)
  block_stands step others passes =
      let file = same_file in
      stands_on now t1 t2 i1 i2 before after (OnFile (body_of (log.file + 1)) step) passes
      (others (body_file now) (λ e. omega (arith, file, e)))
      (others (ends_file now) (λ e. omega (arith, file, e)))
      (λ mid left on. (on.others (body_file now) (λ e. omega (arith, file, e)), on.others (ends_file now) (λ e. omega (arith, file, e))))

-- ---- an append to a later file

-- it leaves the earlier ones alone, whether it rolls or not
appends_later : (next : Log) (count : ℕ) (body ends : List ℕ) (mid left : Files) (other : ℕ) → other < body_file next
    → (due : Bool) → MatchBool due (Rolls next body ends mid left) (OnFile (body_file next) (OnBytes (Torn next.end count)) mid left)
    → get left other ≡ get mid other
appends_later next count body ends mid left other lt true r = r.others other (inl lt)
appends_later next count body ends mid left other lt false on = on.others other (λ e. omega (arith, lt, e))

pub append_stands : (log next : Log) (count : ℕ) (body ends : List ℕ) (t1 t2 : ℕ) (i1 i2 : ℕ → Files → Type 0) (before after : Files) → log.file < next.file
    → ((other : ℕ) → IsElsewhere next other → get after other ≡ get before other)
    → Passes t1 t2 i1 i2 (Appends next count body ends) → Stands log before (i1 t1) → Stands log after (i2 t2)
append_stands log next count body ends t1 t2 i1 i2 before after lt others passes =
    let first : body_file log < body_file next = omega (arith, lt) in
    let second : ends_file log < body_file next = omega (arith, lt) in
    stands_on log t1 t2 i1 i2 before after (Appends next count body ends) passes (others (body_file log) (inl first)) (others (ends_file log) (inl second))
    (λ mid left step. (
      appends_later next count body ends mid left (body_file log) first (is_due next) step,
      appends_later next count body ends mid left (ends_file log) second (is_due next) step,
    ))

-- ---- a block behind a roll

pub rolled_behind : (log : Log) (block : List ℕ) (before mid after : Files) → IsRolled log [] before mid
    → after ≡ insert mid (body_of (log.file + 1)) (bytes_of mid (body_of (log.file + 1)) ++ block) → IsRolled log block before after
rolled_behind log block before mid after r is =
    let apart = next_apart log.file in
    let next : ℕ = body_of (log.file + 1) in
    let more : List ℕ = bytes_of mid next ++ block in
    let here : get after next ≡ Some more = ap (λ (F : Files). get F next) is ∙ get_same mid next (Some more) in
    let whole : more ≡ block = ap (λ (c : Content). bytes_in c ++ block) r.next_body in
    let other : (file : ℕ) → file ≢ next → get after file ≡ get mid file = λ file away. ap (λ (F : Files). get F file) is ∙ get_other mid next file (Some more) away in
    record {
      body = other (body_file log) apart.0 ∙ r.body;
      ends = other (ends_file log) apart.2 ∙ r.ends;
      next_body = here ∙ ap (λ (l : List ℕ). Some l) whole;
      next_ends = other (ends_of (log.file + 1)) (λ e. omega (arith, e)) ∙ r.next_ends;
    }

-- ---- a roll, and then an append to the next file, as two calls

module _ (log next : Log) (is : next ≡ rolled_log log) (due : is_due next ≡ false) (count : ℕ) (body ends : List ℕ) where
  at_next : (mid left : Files) → Appends next count body ends mid left → OnFile (body_of (log.file + 1)) (OnBytes (Torn 0 count)) mid left
  at_next mid left a = subst (λ (l : Log). OnFile (body_file l) (OnBytes (Torn l.end count)) mid left) is (appends_not_due next body ends count due mid left a)

  -- what reads give
  pub then_append_reads : (B E : List ℕ) (was mid left : Files) → IsEmptyPair (log.file + 1) mid → Rolls log B E was mid → Appends next count body ends mid left → Rolls log B E was left
  then_append_reads B E was mid left made r a =
      block_rolls log B E (OnBytes (Torn 0 count)) was mid left r (ap (λ (c : Content). length (bytes_in c)) made.ends) (at_next mid left a)

  module _ (t0 t1 t2 : ℕ) (i0 i1 i2 : ℕ → Files → Type 0) (mid : Files) (next_stands : Stands next mid (i1 t1)) (appending : Passes t1 t2 i1 i2 (Appends next count body ends)) where
    -- what a crash may leave
    pub then_append : (B E : List ℕ) → Passes t0 t1 i0 i1 (Rolls log B E) → Passes t0 t2 i0 i2 (Rolls log B E)
    then_append B E rolling =
        block_rolled log B E t0 t1 t2 i0 i1 i2 mid (OnBytes (Torn 0 count)) (subst (λ (l : Log). Stands l mid (i1 t1)) is next_stands) rolling
        (weakened t1 t2 i1 i2 (Appends next count body ends) (OnFile (body_of (log.file + 1)) (OnBytes (Torn 0 count))) appending (λ was left began. at_next was left))

    -- what open marks claim
    pub then_append_claims : (files : Files) → Stands log files (i0 t0) → Passes t0 t1 i0 i1 (Rolls log (bytes_of files (body_file log)) (bytes_of files (ends_file log)))
        → KeepsClaims log files t0 t1 i0 i1 → KeepsClaims log files t0 t2 i0 i2
    then_append_claims files stands rolling claims =
        roll_claims log files t0 t2 i0 i2 stands (then_append (bytes_of files (body_file log)) (bytes_of files (ends_file log)) rolling)
        (first_after log files t1 t2 i1 i2 (Appends next count body ends) appending (λ was left a. block_apart log (OnBytes (Torn 0 count)) was left (at_next was left a)) claims.body_first)

-- ---- what a seal left outlives a crash

always_sealed : (b : Bool) (x y : Log) → x.is_sealed ≡ b → IsTrue y.is_sealed → IsTrue (if b then x else y).is_sealed
always_sealed true x y is sealed = is
always_sealed false x y is sealed = sealed

pub sealed_outlives : (log now : Log) (files : Files) (images : Files → Type 0) → now ≡ sealed_log log → Stands now files images → Outlives log files images
sealed_outlives log now files images is stands =
    let on : Stands (sealed_log log) files images = subst (λ (l : Log). Stands l files images) is stands in
    let sealed = always_sealed log.is_sealed log (record log { marks = log.marks + 1; is_sealed = true }) refl refl in
    record {
      pair = subst (λ (file : ℕ). IsDurablePair file files images) (sealed_file log) (on.settled sealed);
      marked = λ left mark i next. stood_mark (sealed_log log) files images on sealed left mark i next;
    }

chosen : (b : Bool) (x y : Log) → b ≡ true → x ≡ (if b then x else y)
chosen true x y is = refl
chosen false x y is = cc

passed : (b : Bool) (x y : Log) → b ≡ false → y ≡ (if b then x else y)
passed true x y is = cc
passed false x y is = refl

-- where nothing was appended, and where something was
pub sealed_before : (log : Log) → log.is_sealed ≡ true → log ≡ sealed_log log
sealed_before log is = chosen log.is_sealed log (record log { marks = log.marks + 1; is_sealed = true }) is

pub sealed_now : (log : Log) → log.is_sealed ≡ false → record log { marks = log.marks + 1; is_sealed = true } ≡ sealed_log log
sealed_now log is = passed log.is_sealed log (record log { marks = log.marks + 1; is_sealed = true }) is
