-- What stands behind the last open mark is cut off: what reads give, and that what was settled is settled again.
use Rattle.std.proofs.Common.{◌≡◌, ◌<◌, ◌≤◌, ℕ, suc, pred, ◌+◌, ◌*◌, ◌^◌, List, ◌++◌, length, take, drop, Some, is_some, refl, sym, ◌∙◌, ap, subst, arith, inl, inr, length-take, length-drop, length-append, append_assoc, get_or}
use mathlib.Core.Logic.{◌≢◌}
use Rattle.std.proofs.lemmas.Bool.{cases_lt, cases_eq, true≢false}
use Rattle.std.proofs.lemmas.List.{take-take, take_at, drop_at, get_or-drop}
use Rattle.std.specs.FinMap.{get, insert}
use Rattle.xod_volume.specs.Files.{Files, Content, bytes_in, bytes_of, overwritten}
use Rattle.xod_volume.specs.Crash.{OnFile, OnBytes, Torn, Shortened, Passes, IsSame}
use Rattle.xod_volume.proofs.CallerLemmas.{overwritten_within, OnFile-same, OnBytes-same, Shortened-same, Torn-same}
use Rattle.xod_log.specs.Calls.{no_mark}
use Rattle.xod_log.specs.Ends.{gate_at, numbers_at, numbers, body_of, ends_of}
use Rattle.xod_log.specs.Standing.{AsOpened}
use Rattle.xod_log.proofs.CallerLemmas.{files_apart, same_gate, same_numbers, has_bytes, begun, goes, put_there, other_file}
use Rattle.xod_recover.specs.Check.{Newest, check}
use Rattle.xod_recover.specs.Images.{Settled}
use Rattle.xod_recover.specs.Tails.{IsFoundIn, AllNear}
use Rattle.xod_recover.proofs.CutImages.{Tail, there_with, file_body, file_ends, file_above, file_long, file_used, E_gates, cut_size, cut_front, tail_agrees, tail_stored, tail_used}
use Rattle.xod_recover.proofs.Greatest.{same_used}

-- a sync adds nothing to the call before it
pub then_synced : (t0 t1 t2 : ℕ) (i0 i1 i2 : ℕ → Files → Type 0) (S : Files → Files → Type 0) → ((c : Files) → S c c)
    → Passes t0 t1 i0 i1 S → Passes t1 t2 i1 i2 IsSame → Passes t0 t2 i0 i2 S
then_synced t0 t1 t2 i0 i1 i2 S still first sync =
    let one = goes t0 i0 S t0 t1 i0 i1 IsSame S S (begun t0 i0 S IsSame (λ was i. refl) (λ was left i same. subst (S was) (sym same) (still was))) first
    (λ was mid left i same s. subst (λ (c : Files). S c left) same s) (λ was left i s. s) in
    (goes t0 i0 S t1 t2 i1 i2 S S IsSame one sync (λ was mid left i s same. subst (S was) (sym same) s) (λ was left i s. s)).passes

pub cut_then_synced : (t0 t1 t2 : ℕ) (i0 i1 i2 : ℕ → Files → Type 0) (file n : ℕ)
    → Passes t0 t1 i0 i1 (OnFile file (OnBytes (Shortened n))) → Passes t1 t2 i1 i2 IsSame → Passes t0 t2 i0 i2 (OnFile file (OnBytes (Shortened n)))
cut_then_synced t0 t1 t2 i0 i1 i2 file n =
    then_synced t0 t1 t2 i0 i1 i2 (OnFile file (OnBytes (Shortened n))) (OnFile-same file (OnBytes (Shortened n)) (OnBytes-same (Shortened n) (Shortened-same n)))

pub torn_then_synced : (t0 t1 t2 : ℕ) (i0 i1 i2 : ℕ → Files → Type 0) (file at n : ℕ)
    → Passes t0 t1 i0 i1 (OnFile file (OnBytes (Torn at n))) → Passes t1 t2 i1 i2 IsSame → Passes t0 t2 i0 i2 (OnFile file (OnBytes (Torn at n)))
torn_then_synced t0 t1 t2 i0 i1 i2 file at n =
    then_synced t0 t1 t2 i0 i1 i2 (OnFile file (OnBytes (Torn at n))) (OnFile-same file (OnBytes (Torn at n)) (OnBytes-same (Torn at n) (Torn-same at n)))

module _ (newest : Newest) (files : Files) (found : IsFoundIn newest files) where
  abbrev file : ℕ
  file = newest.file

  abbrev m : ℕ
  m = newest.marks

  abbrev end : ℕ
  end = newest.end

  abbrev B : List ℕ
  B = bytes_of files (body_of file)

  abbrev E : List ℕ
  E = bytes_of files (ends_of file)

  abbrev kept : ℕ
  kept = 13 * (m + 1)

  abbrev closed_ends : List ℕ
  closed_ends = overwritten (take kept E) (13 * m) no_mark

  -- after the first call, and after the second
  pub after_ends : (F1 : Files) → F1 ≡ insert files (ends_of file) (take kept E) → (get F1 (ends_of file) ≡ Some (take kept E)) × (get F1 (body_of file) ≡ Some B)
  after_ends F1 is = (
    put_there files F1 (ends_of file) (take kept E) is,
    other_file files F1 (ends_of file) (body_of file) (take kept E) (files_apart file) is ∙ there_with files (body_of file) (file_body newest files found),
  )

  pub after_body : (F1 F2 : Files) → F1 ≡ insert files (ends_of file) (take kept E) → F2 ≡ insert F1 (body_of file) (take end (bytes_of F1 (body_of file))) → (get F2 (body_of file) ≡ Some (take end B)) × (get F2 (ends_of file) ≡ Some (take kept E))
  after_body F1 F2 first then =
      let before = after_ends F1 first in (
        put_there F1 F2 (body_of file) (take end (bytes_of F1 (body_of file))) then ∙ ap (λ (c : Content). Some (take end (bytes_in c))) before.1,
        other_file F1 F2 (body_of file) (ends_of file) (take end (bytes_of F1 (body_of file))) (λ e. files_apart file (sym e)) then ∙ before.0,
      )

  -- what reads give at the end
  pub record Reads (after : Files) : Type 0 where
    pub body : get after (body_of file) ≡ Some (take end B)
    pub ends : get after (ends_of file) ≡ Some closed_ends
    pub others : (other : ℕ) → other ≢ body_of file → other ≢ ends_of file → get after other ≡ get files other

  pub reads_are : (F1 F2 F3 : Files) → F1 ≡ insert files (ends_of file) (take kept E) → F2 ≡ insert F1 (body_of file) (take end (bytes_of F1 (body_of file)))
      → F3 ≡ insert F2 (ends_of file) (overwritten (bytes_of F2 (ends_of file)) (13 * m) no_mark) → Reads F3
  reads_are F1 F2 F3 first then last =
      let before = after_body F1 F2 first then in
      let written : List ℕ = overwritten (bytes_of F2 (ends_of file)) (13 * m) no_mark in
      record {
        body = other_file F2 F3 (ends_of file) (body_of file) written (files_apart file) last ∙ before.0;
        ends = put_there F2 F3 (ends_of file) written last ∙ ap (λ (c : Content). Some (overwritten (bytes_in c) (13 * m) no_mark)) before.1;
        others = λ other not_body not_ends.
            other_file F2 F3 (ends_of file) other written not_ends last
            ∙ other_file F1 F2 (body_of file) other (take end (bytes_of F1 (body_of file))) not_body then
            ∙ other_file files F1 (ends_of file) other (take kept E) not_ends first;
      }

  module _ (fits : end < 2 ^ 64) where
    abbrev long : ℕ → Type 0
    long n = length (take kept E) ≡ n

    long_kept : long kept
    long_kept = cut_size newest files found fits

    closed_is : closed_ends ≡ take (13 * m) (take kept E) ++ (no_mark ++ drop (13 * m + 13) (take kept E))
    closed_is = overwritten_within (take kept E) (13 * m) no_mark (omega (arith, long_kept)) ∙ append_assoc (take (13 * m) (take kept E)) no_mark (drop (13 * m + 13) (take kept E))

    front_size : length (take (13 * m) (take kept E)) ≡ 13 * m
    front_size = omega (arith, length-take (13 * m) (take kept E), long_kept)

    closed_size : length closed_ends ≡ kept
    closed_size =
        let front = take (13 * m) (take kept E) in
        let rest = drop (13 * m + 13) (take kept E) in
        ap length closed_is ∙ omega (arith, length-append front (no_mark ++ rest), length-append no_mark rest, front_size, length-drop (13 * m + 13) (take kept E), long_kept)

    closed_front : take (13 * m) closed_ends ≡ take (13 * m) E
    closed_front = ap (take (13 * m)) closed_is ∙ take_at (take (13 * m) (take kept E)) (no_mark ++ drop (13 * m + 13) (take kept E)) (13 * m) front_size ∙ cut_front newest files found fits

    closed_gate : gate_at closed_ends m ≡ 0
    closed_gate =
        let rest : List ℕ = drop (13 * m + 13) (take kept E) in
        let there : drop (13 * m) closed_ends ≡ no_mark ++ rest = ap (drop (13 * m)) closed_is ∙ drop_at (take (13 * m) (take kept E)) (no_mark ++ rest) (13 * m) front_size in
        sym (get_or-drop (13 * m) closed_ends 12 0) ∙ ap (λ (l : List ℕ). get_or l 12 0) there

    module _ (after : Files) (reads : Reads after) where
      body_bytes : bytes_of after (body_of file) ≡ take end B
      body_bytes = (has_bytes after (body_of file) (take end B) reads.body).1

      ends_bytes : bytes_of after (ends_of file) ≡ closed_ends
      ends_bytes = (has_bytes after (ends_of file) closed_ends reads.ends).1

      front_is : take (13 * m) (bytes_of after (ends_of file)) ≡ take (13 * m) E
      front_is = ap (take (13 * m)) ends_bytes ∙ closed_front

      body_long : length (take end B) ≡ end
      body_long = omega (arith, length-take end B, file_long newest files found)

      -- reads are at the end of the way that each image goes
      pub reads_tail : Tail newest files found fits after
      reads_tail = record {
        has_body = ap (λ (c : Content). is_some c) reads.body;
        above = λ other gt low. same_used after files other (reads.others (body_of other) (λ e. omega (arith, e, gt)) (λ e. omega (arith, e))) (reads.others (ends_of other) (λ e. omega (arith, e)) (λ e. omega (arith, e, gt))) ∙ file_above newest files found other gt low;
        lower = λ other lt there. reads.others (body_of other) (λ e. omega (arith, e, lt)) (λ e. omega (arith, e));
        covers = (omega (arith, ap length body_bytes, body_long), ap (take end) body_bytes ∙ take-take end end B (omega arith));
        ends = closed_ends;
        there = reads.ends;
        size = closed_size;
        front = closed_front;
      }

      pub decided : check after ≡ check files
      decided = (tail_agrees newest files found fits after reads_tail).0

      -- what was found is found still
      pub still_found : IsFoundIn newest after
      still_found = record {
        some = found.some;
        fits = found.fits;
        decided = decided ∙ found.decided;
        says = same_numbers m (pred m) (bytes_of after (ends_of file)) E front_is (omega (arith, found.some)) ∙ found.says;
      }

      pub opened_as : (images : Files → Type 0) → ((left : Files) → images left → get left (body_of file) ≡ get after (body_of file)) → ((left : Files) → images left → get left (ends_of file) ≡ get after (ends_of file))
          → AsOpened file end m newest.back after images
      opened_as images each_body each_ends = record {
        has_body = (has_bytes after (body_of file) (take end B) reads.body).0;
        has_ends = (has_bytes after (ends_of file) closed_ends reads.ends).0;
        body_size = ap length body_bytes ∙ body_long;
        ends_size = ap length ends_bytes ∙ closed_size;
        opened = λ i lt zero_gate. E_gates newest files found i lt (sym (same_gate m i (bytes_of after (ends_of file)) E front_is lt) ∙ zero_gate);
        closed = ap (λ (l : List ℕ). gate_at l m) ends_bytes ∙ closed_gate;
        last = record {
          none = λ none. absurd (omega (arith, none, found.some));
          some = λ k next.
              let is : pred m ≡ k = omega (arith, next) in
              subst (λ (j : ℕ). numbers_at (bytes_of after (ends_of file)) j ≡ numbers end newest.back) is
              (same_numbers m (pred m) (bytes_of after (ends_of file)) E front_is (omega (arith, found.some)) ∙ found.says);
        };
        durable = record { body = each_body; ends = each_ends };
      }

    -- a settled volume is near
    pub settled_near : (images : Files → Type 0) → Settled files images → AllNear newest files images
    settled_near images settled left i =
        let body = settled.each_file (body_of file) (file_body newest files found) left i in
        let ends = settled.each_file (ends_of file) (file_ends newest files found) left i in
        record {
          has_body = ap (λ (c : Content). is_some c) body ∙ file_body newest files found;
          has_ends = ap (λ (c : Content). is_some c) ends ∙ file_ends newest files found;
          above = settled.above left i (suc file) (omega arith) (file_above newest files found);
          lower = λ other lt there. settled.each_file (body_of other) there left i;
          covers = subst (λ (c : Content). (end ≤ length (bytes_in c)) × (take end (bytes_in c) ≡ take end B)) (sym body) (file_long newest files found, refl);
          says = λ more. ap (λ (c : Content). numbers_at (bytes_in c) (pred m)) ends;
        }

    -- and it is settled again
    pub settled_again : (before images : Files → Type 0) (after : Files) → Settled files before → (reads : Reads after) → ((left : Files) → images left → Tail newest files found fits left)
        → ((left : Files) → images left → (was : Files) × before was × ((other : ℕ) → other ≢ body_of file → other ≢ ends_of file → get left other ≡ get was other))
        → AsOpened file end m newest.back after images → Settled after images
    settled_again before images after settled reads tails from opened =
        let here = reads_tail after reads in
        record {
          each_file = λ other there left i. elim (cases_eq other (body_of file)) [
            | inl is ↦ subst (λ (k : ℕ). get left k ≡ get after k) (sym is) (opened.durable.body left i)
            | inr not_body ↦ elim (cases_eq other (ends_of file)) [
              | inl is ↦ subst (λ (k : ℕ). get left k ≡ get after k) (sym is) (opened.durable.ends left i)
              | inr not_ends ↦
                  let same = reads.others other not_body not_ends in
                  let was = from left i in
                  was.2 other not_body not_ends ∙ settled.each_file other (sym (ap (λ (c : Content). is_some c) same) ∙ there) was.0 was.1 ∙ sym same
            ]
          ];
          alike = λ left i. tail_stored newest files found fits left (tails left i) ∙ sym (tail_stored newest files found fits after here);
          above = λ left i other some unused more le low. elim (cases_lt file more) [
            | inl gt ↦ (tails left i).above more gt low
            | inr not ↦ absurd (true≢false (sym (tail_used newest files found fits after here) ∙ unused file (omega (arith, le, not)) (file_used newest files found).1))
          ];
        }

-- a file that was durable before a call on another is so after it
pub still_durable : (t2 t3 : ℕ) (i2 i3 : ℕ → Files → Type 0) (file other : ℕ) (step : Content → Content → Type 0) (content : Content) → other ≢ file → Passes t2 t3 i2 i3 (OnFile file step)
    → ((left : Files) → i2 t2 left → get left other ≡ content) → (left : Files) → i3 t3 left → get left other ≡ content
still_durable t2 t3 i2 i3 file other step content apart passes durable left i =
    let from = passes.each t3 left passes.later (omega arith) i in
    from.2.others other apart ∙ durable from.0 from.1
