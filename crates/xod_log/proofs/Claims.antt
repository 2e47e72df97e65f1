-- What is claimed of the pair in each image: which marks are open, and what is sealed.
use Rattle.std.proofs.Common.{◌≡◌, ◌<◌, ◌≤◌, ◌⊎◌, ℕ, ◌+◌, ◌*◌, ◌^◌, List, ◌++◌, length, take, drop, Some, None, refl, sym, ◌∙◌, ap, subst, arith, inl, inr, length-take}
use mathlib.Core.Logic.{◌≢◌}
use Rattle.std.proofs.lemmas.Bool.{cases_lt}
use Rattle.std.proofs.lemmas.List.{take-append-le}
use Rattle.std.proofs.lemmas.Nat.{from_be_bytes-to_be_bytes_8, from_be_bytes-to_be_bytes_4}
use Rattle.std.specs.Int.{w64, w32, from_be_bytes}
use Rattle.std.specs.FinMap.{get}
use Rattle.xod_volume.specs.Files.{Files, Content, bytes_in, bytes_of}
use Rattle.xod_volume.specs.Crash.{OnFile, OnBytes, Torn, Passes}
use Rattle.xod_volume.proofs.CallerLemmas.{Torn-front}
use Rattle.xod_log.specs.declared.log.Log.{Log}
use Rattle.xod_log.specs.Ends.{gate_at, numbers_at, numbers, end_at, back_at, IsOpen, HasSealed, body_of, ends_of}
use Rattle.xod_log.specs.Standing.{LeftStanding, Stands, body_file, ends_file}
use Rattle.xod_log.specs.Calls.{IsClosed, IsMarked, OpensOnly, BodyFirst, KeepsClaims}
use Rattle.xod_log.proofs.Bytes.{same_gate, same_numbers}

-- the volume files of a log file are two
pub files_apart : (file : ℕ) → body_of file ≢ ends_of file
files_apart file e = omega (arith, e)

-- what reads give of a file goes with its content
pub same_bytes : (files others : Files) (file : ℕ) → get files file ≡ get others file → bytes_of files file ≡ bytes_of others file
same_bytes files others file e = ap bytes_in e

-- a mark that is open lies before one that is closed
pub open_before : (ends : List ℕ) (closed mark : ℕ) → gate_at ends closed ≡ 0 → IsOpen ends mark → mark < closed
open_before ends closed mark gate is_open = elim (cases_lt mark closed) [
  | inl lt ↦ lt
  | inr le ↦ absurd (is_open.gates closed le gate)
]

-- ---- what is sealed, of a body as long as it was or longer

-- the claim about one mark, over plain bytes
abbrev pub Covers : List ℕ → List ℕ → ℕ → Type 0
Covers body there end = (end ≤ length there) × (take end there ≡ take end body)

pub covers_itself : (body : List ℕ) (end : ℕ) → end ≤ length body → Covers body body end
covers_itself body end le = (le, refl)

-- as much as is covered is there in the body
pub covered_within : (body there : List ℕ) (end : ℕ) → Covers body there end → end ≤ length body
covered_within body there end covers =
    let as_long : length (take end there) ≡ length (take end body) = ap length covers.1 in
    omega (arith, covers.0, as_long, length-take end there, length-take end body)

-- the end that is read of an end's bytes is not above it
abbrev pub read_end : ℕ → ℕ → ℕ
read_end end back = from_be_bytes w64 (take 8 (numbers end back))

pub read_end-most : (end back : ℕ) → read_end end back ≤ end
read_end-most end back = elim (cases_lt end (2 ^ 64)) [
  | inl fits ↦ let same = from_be_bytes-to_be_bytes_8 end fits in omega (arith, same)
  | inr large ↦ omega (arith, large)
]

module _ (log : Log) (B E : List ℕ) (was : Files) (stood : LeftStanding log E was) where
  abbrev m : ℕ
  m = log.marks

  abbrev was_ends : List ℕ
  was_ends = bytes_of was (ends_file log)

  -- a mark below the last gate that is open after a seal began was open before
  pub was_open : (ends : List ℕ) (mark : ℕ) → take (13 * m) ends ≡ take (13 * m) was_ends → mark < m → IsOpen ends mark → IsOpen was_ends mark
  was_open ends mark front lt is_open = record {
    gates = λ j le zero_gate. is_open.gates j le (same_gate m j ends was_ends front (omega (arith, le, lt)) ∙ zero_gate);
    followed = omega (arith, lt, stood.at_rest.size);
  }

  same_end : (ends : List ℕ) (mark : ℕ) → take (13 * m) ends ≡ take (13 * m) was_ends → mark < m → end_at ends mark ≡ end_at was_ends mark
  same_end ends mark front lt = ap (λ (l : List ℕ). from_be_bytes w64 (take 8 l)) (same_numbers m mark ends was_ends front lt)

  -- ---- the mark to come is closed yet

  pub closed_opens : (left : Files) → IsClosed log was left → OpensOnly log E left
  closed_opens left c mark is_open = inl (open_before _ m mark c.gate is_open, c.front ∙ stood.at_rest.front)

  pub closed_sealed : (left : Files) → HasSealed log.file B was → IsClosed log was left → HasSealed log.file B left
  closed_sealed left sealed c mark is_open =
      let ends = bytes_of left (ends_file log) in
      let lt = open_before ends m mark c.gate is_open in
      let before = sealed mark (was_open ends mark c.front lt is_open) in
      let body : bytes_of was (body_file log) ≡ bytes_of left (body_file log) = sym (same_bytes left was (body_file log) c.body) in
      let at_was : Covers B (bytes_of left (body_file log)) (end_at was_ends mark) = subst (λ (l : List ℕ). Covers B l (end_at was_ends mark)) body before in
      subst (λ (end : ℕ). Covers B (bytes_of left (body_file log)) end) (sym (same_end ends mark c.front lt)) at_was

  -- ---- the mark to come has the numbers of the last block

  marked_which : (left : Files) → IsMarked log B E left → (mark : ℕ) → IsOpen (bytes_of left (ends_file log)) mark → (mark < m) ⊎ (mark ≡ m)
  marked_which left c mark is_open =
      let below : mark < m + 1 = open_before _ (m + 1) mark c.next_gate is_open in
      elim (cases_lt mark m) [
        | inl lt ↦ inl lt
        | inr le ↦ inr (omega (arith, below, le))
      ]

  pub marked_opens : (left : Files) → IsMarked log B E left → OpensOnly log E left
  marked_opens left c mark is_open = elim (marked_which left c mark is_open) [
    | inl lt ↦ inl (lt, c.front)
    | inr is ↦ inr (c.unsealed, is, subst (λ (j : ℕ). numbers_at (bytes_of left (ends_file log)) j ≡ numbers log.end log.back) (sym is) c.says)
  ]

  pub marked_sealed : (left : Files) → length B ≡ log.end → HasSealed log.file B was → IsMarked log B E left → HasSealed log.file B left
  marked_sealed left size sealed c mark is_open =
      let ends = bytes_of left (ends_file log) in
      let whole : B ≡ bytes_of left (body_file log) = ap bytes_in (sym c.whole) in
      let within : end_at ends mark ≤ length B = elim (marked_which left c mark is_open) [
        | inl lt ↦
            let front = c.front ∙ sym stood.at_rest.front in
            let before = sealed mark (was_open ends mark front lt is_open) in
            let same = same_end ends mark front lt in
            let covered = covered_within B (bytes_of was (body_file log)) (end_at was_ends mark) before in
            omega (arith, covered, same)
        | inr is ↦
            let says : end_at ends m ≡ read_end log.end log.back = ap (λ (l : List ℕ). from_be_bytes w64 (take 8 l)) c.says in
            let at : end_at ends mark ≡ read_end log.end log.back = subst (λ (j : ℕ). end_at ends j ≡ read_end log.end log.back) (sym is) says in
            omega (arith, at, size, read_end-most log.end log.back)
      ] in
      subst (λ (l : List ℕ). Covers B l (end_at ends mark)) whole (covers_itself B (end_at ends mark) within)

  -- ---- a block behind the body

  torn_covers : (count end : ℕ) (old new : Content) → length B ≡ log.end → Covers B (bytes_in old) end → OnBytes (Torn log.end count) old new → Covers B (bytes_in new) end
  torn_covers count end None new size covers torn = subst (λ (c : Content). Covers B (bytes_in c) end) (sym torn) covers
  torn_covers count end (Some old) new size covers (is, there, torn) =
      let below : end ≤ log.end = omega (arith, covered_within B old end covers, size) in
      let grown : length old ≤ length is = torn.no_shorter in
      let at_is : Covers B is end = (omega (arith, covers.0, grown), Torn-front log.end count end old is below torn ∙ covers.1) in
      subst (λ (c : Content). Covers B (bytes_in c) end) (sym there) at_is

  pub appended_sealed : (count : ℕ) (left : Files) → length B ≡ log.end → HasSealed log.file B was → OnFile (body_file log) (OnBytes (Torn log.end count)) was left → HasSealed log.file B left
  appended_sealed count left size sealed on mark is_open =
      let ends : bytes_of left (ends_file log) ≡ was_ends = same_bytes left was (ends_file log) (on.others (ends_file log) (λ e. files_apart log.file (sym e))) in
      let before = sealed mark (subst (λ (l : List ℕ). IsOpen l mark) ends is_open) in
      let at_was = torn_covers count (end_at was_ends mark) (get was (body_file log)) (get left (body_file log)) size before on.here in
      subst (λ (l : List ℕ). Covers B (bytes_of left (body_file log)) (end_at l mark)) (sym ends) at_was

  pub appended_opens : (count : ℕ) (left : Files) → OnFile (body_file log) (OnBytes (Torn log.end count)) was left → OpensOnly log E left
  appended_opens count left on mark is_open =
      let ends : bytes_of left (ends_file log) ≡ was_ends = same_bytes left was (ends_file log) (on.others (ends_file log) (λ e. files_apart log.file (sym e))) in
      let before = subst (λ (l : List ℕ). IsOpen l mark) ends is_open in
      inl (open_before was_ends m mark stood.at_rest.gate before, ap (take (13 * m)) ends ∙ stood.at_rest.front)

  -- ---- either way

  pub pair_opens : (left : Files) → IsClosed log was left ⊎ IsMarked log B E left → OpensOnly log E left
  pair_opens left (inl closed) = closed_opens left closed
  pair_opens left (inr marked) = marked_opens left marked

  pub pair_sealed : (left : Files) → length B ≡ log.end → HasSealed log.file B was → IsClosed log was left ⊎ IsMarked log B E left → HasSealed log.file B left
  pair_sealed left size sealed (inl closed) = closed_sealed left sealed closed
  pair_sealed left size sealed (inr marked) = marked_sealed left size sealed marked

-- ---- since a call's start

module _ (log : Log) (files : Files) (t0 t1 : ℕ) (i0 i1 : ℕ → Files → Type 0) (stands : Stands log files (i0 t0)) where
  abbrev B : List ℕ
  B = bytes_of files (body_file log)

  abbrev E : List ℕ
  E = bytes_of files (ends_file log)

  -- a call that leaves the pair closed or marked
  pub pair_claims : (S : Files → Files → Type 0) → ((was left : Files) → S was left → IsClosed log was left ⊎ IsMarked log B E left)
      → Passes t0 t1 i0 i1 S → BodyFirst log files (i1 t1) → KeepsClaims log files t0 t1 i0 i1
  pair_claims S pair passes first = record {
    sealed = λ given left since.
        let from = passes.each since.0 left since.1 since.2 since.3 in
        pair_sealed log B E from.0 (stands.each from.0 from.1) left stands.size (given from.0 from.1) (pair from.0 left from.2);
    opens = λ left since.
        let from = passes.each since.0 left since.1 since.2 since.3 in
        pair_opens log B E from.0 (stands.each from.0 from.1) left (pair from.0 left from.2);
    body_first = first;
  }

  -- a block behind the body
  pub append_claims : (count : ℕ) → Passes t0 t1 i0 i1 (OnFile (body_file log) (OnBytes (Torn log.end count))) → KeepsClaims log files t0 t1 i0 i1
  append_claims count passes = record {
    sealed = λ given left since.
        let from = passes.each since.0 left since.1 since.2 since.3 in
        appended_sealed log B E from.0 (stands.each from.0 from.1) count left stands.size (given from.0 from.1) from.2;
    opens = λ left since.
        let from = passes.each since.0 left since.1 since.2 since.3 in
        appended_opens log B E from.0 (stands.each from.0 from.1) count left from.2;
    body_first = inl (λ left i.
        let from = passes.each t1 left passes.later (omega arith) i in
        let same = from.2.others (ends_file log) (λ e. files_apart log.file (sym e)) in
        ap (λ (c : Content). gate_at (bytes_in c) log.marks) same ∙ (stands.each from.0 from.1).at_rest.gate);
  }

-- ---- laws

pub sealed-longer : (file : ℕ) (body more : List ℕ) (left : Files) → HasSealed file body left → HasSealed file (body ++ more) left
sealed-longer file body more left sealed mark is_open =
    let end = end_at (bytes_of left (ends_of file)) mark in
    let there = bytes_of left (body_of file) in
    let covers : Covers body there end = sealed mark is_open in
    let within = covered_within body there end covers in
    (covers.0, covers.1 ∙ sym (take-append-le end body more within))

pub numbers-read : (ends : List ℕ) (mark end back : ℕ) → end < 2 ^ 64 → back < 2 ^ 32 → numbers_at ends mark ≡ numbers end back → (end_at ends mark ≡ end) × (back_at ends mark ≡ back)
numbers-read ends mark end back end_fits back_fits says = (
  ap (λ (l : List ℕ). from_be_bytes w64 (take 8 l)) says ∙ from_be_bytes-to_be_bytes_8 end end_fits,
  ap (λ (l : List ℕ). from_be_bytes w32 (drop 8 l)) says ∙ from_be_bytes-to_be_bytes_4 back back_fits,
)
