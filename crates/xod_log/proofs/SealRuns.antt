-- The calls of a seal, one after another.
use Rattle.std.proofs.Common.{◌≡◌, ℕ, ◌+◌, ◌*◌, List, Some, false, refl, sym, ◌∙◌, subst, arith, inl, inr}
use Rattle.std.specs.Prelude.{IsTrue}
use Rattle.std.specs.FinMap.{get}
use Rattle.xod_volume.specs.Files.{Files, bytes_of}
use Rattle.xod_volume.specs.Crash.{OnFile, OnBytes, Torn, Passes, IsSame}
use Rattle.xod_log.specs.declared.log.Log.{Log}
use Rattle.xod_log.specs.Ends.{gate_at}
use Rattle.xod_log.specs.Standing.{LeftStanding, Stands, body_file, ends_file}
use Rattle.xod_log.specs.Calls.{Seals, BodyFirst, HasMark}
use Rattle.xod_log.specs.Runs.{Run}
use Rattle.xod_log.proofs.Runs.{begun, goes, sure, rested}
use Rattle.xod_log.proofs.Bytes.{same_gate, same_numbers}
use Rattle.xod_log.proofs.Marking.{Closing, Exactly, Opening, followed_ends, settled, numbering, following, followed, opening, start_fine, closing_fine, opening_fine, closing_stands}

abbrev pub IsThat : Files → Files → Type 0
IsThat was left = left ≡ was

-- A run of the calls of a seal since this start.
abbrev pub SealRun : Log → Files → ℕ → ℕ → (ℕ → Files → Type 0) → (ℕ → Files → Type 0) → (Files → Files → Type 0) → Type 0
SealRun log files t0 t1 i0 i1 now = Run t0 t1 i0 i1 (Seals log (bytes_of files (body_file log)) (bytes_of files (ends_file log))) now

module _ (log : Log) (files : Files) (t0 : ℕ) (i0 : ℕ → Files → Type 0) (stands : Stands log files (i0 t0)) where
  abbrev m : ℕ
  m = log.marks

  abbrev B : List ℕ
  B = bytes_of files (body_file log)

  abbrev E : List ℕ
  E = bytes_of files (ends_file log)

  abbrev P : Files → Files → Type 0
  P = Seals log B E

  -- the body is whole and the mark to come is closed; a closed mark follows; the gate of the mark to come is any byte
  abbrev pub IsClosing : ℕ → Files → Files → Type 0
  IsClosing most = Closing log B E stands.at_rest most

  abbrev pub IsFollowed : Files → Files → Type 0
  IsFollowed = Exactly log B E stands.at_rest (followed_ends log B E stands.at_rest)

  abbrev pub IsOpening : Files → Files → Type 0
  IsOpening = Opening log B E stands.at_rest

  same_fine : (was left : Files) → i0 t0 was → IsThat was left → P was left
  same_fine was left i is = subst (λ (c : Files). P was c) (sym is) (start_fine log B E stands.at_rest was (stands.each was i))

  pub body_synced : (t1 : ℕ) (i1 : ℕ → Files → Type 0) → Passes t0 t1 i0 i1 IsSame → SealRun log files t0 t1 i0 i1 IsThat
  body_synced t1 i1 passes = goes t0 i0 P t0 t1 i0 i1 IsThat IsThat IsSame (begun t0 i0 P IsThat (λ was i. refl) same_fine) passes (λ was mid left i n s. s ∙ n) same_fine

  pub body_whole : (t1 : ℕ) (i1 : ℕ → Files → Type 0) → ((left : Files) → i1 t1 left → get left (body_file log) ≡ get files (body_file log)) → SealRun log files t0 t1 i0 i1 IsThat
      → SealRun log files t0 t1 i0 i1 (IsClosing (13 * (m + 1)))
  body_whole t1 i1 whole run = sure t0 i0 P t1 i1 IsThat (IsClosing (13 * (m + 1))) run
      (λ was left i now is. subst (λ (c : Files). IsClosing (13 * (m + 1)) was c) (sym is)
      (settled log B E stands.at_rest was (stands.each was i) (subst (λ (c : Files). get c (body_file log) ≡ Some B) is (whole left now ∙ stands.has_body))))

  pub numbers_written : (t1 t2 : ℕ) (i1 i2 : ℕ → Files → Type 0) → SealRun log files t0 t1 i0 i1 (IsClosing (13 * (m + 1))) → Passes t1 t2 i1 i2 (OnFile (ends_file log) (OnBytes (Torn (13 * m) 12)))
      → SealRun log files t0 t2 i0 i2 (IsClosing (13 * (m + 1)))
  numbers_written t1 t2 i1 i2 run passes = goes t0 i0 P t1 t2 i1 i2 (IsClosing (13 * (m + 1))) (IsClosing (13 * (m + 1))) (OnFile (ends_file log) (OnBytes (Torn (13 * m) 12))) run passes
      (λ was mid left i n s. numbering log B E stands.at_rest was mid left n s)
      (λ was left i n. closing_fine log B E stands.at_rest (13 * (m + 1)) (omega arith) was left (stands.each was i) n)

  pub mark_appended : (t1 t2 : ℕ) (i1 i2 : ℕ → Files → Type 0) (size : ℕ) → size ≡ 13 * (m + 1) → SealRun log files t0 t1 i0 i1 (IsClosing (13 * (m + 1)))
      → Passes t1 t2 i1 i2 (OnFile (ends_file log) (OnBytes (Torn size 13))) → SealRun log files t0 t2 i0 i2 (IsClosing (13 * (m + 2)))
  mark_appended t1 t2 i1 i2 size is run passes = goes t0 i0 P t1 t2 i1 i2 (IsClosing (13 * (m + 1))) (IsClosing (13 * (m + 2))) (OnFile (ends_file log) (OnBytes (Torn size 13))) run passes
      (λ was mid left i n s. following log B E stands.at_rest was mid left size is n s)
      (λ was left i n. closing_fine log B E stands.at_rest (13 * (m + 2)) (omega arith) was left (stands.each was i) n)

  pub gate_opened : (t1 t2 : ℕ) (i1 i2 : ℕ → Files → Type 0) → log.is_sealed ≡ false → ((left : Files) → i1 t1 left → get left (ends_file log) ≡ Some (followed_ends log B E stands.at_rest))
      → SealRun log files t0 t1 i0 i1 (IsClosing (13 * (m + 2))) → Passes t1 t2 i1 i2 (OnFile (ends_file log) (OnBytes (Torn (13 * m + 12) 1))) → SealRun log files t0 t2 i0 i2 IsOpening
  gate_opened t1 t2 i1 i2 unsealed there run passes = goes t0 i0 P t1 t2 i1 i2 IsFollowed IsOpening (OnFile (ends_file log) (OnBytes (Torn (13 * m + 12) 1)))
      (sure t0 i0 P t1 i1 (IsClosing (13 * (m + 2))) IsFollowed run (λ was left i now n. followed log B E stands.at_rest (13 * (m + 2)) was left (there left now) n))
      passes
      (λ was mid left i n s. opening log B E stands.at_rest was mid left n s)
      (λ was left i n. opening_fine log B E stands.at_rest unsealed was left n)

  -- ---- the log stands on what was left, and the body comes first

  -- before the sync of the body nothing has changed
  pub synced_first : (t1 : ℕ) (i1 : ℕ → Files → Type 0) → SealRun log files t0 t1 i0 i1 IsThat → BodyFirst log files (i1 t1)
  synced_first t1 i1 run = inl (λ left i.
      let from = run.present left i in
      subst (λ (c : Files). gate_at (bytes_of c (ends_file log)) m ≡ 0) (sym from.2) (stands.each from.0 from.1).at_rest.gate)

  pub closing_first : (most t1 : ℕ) (i1 : ℕ → Files → Type 0) → SealRun log files t0 t1 i0 i1 (IsClosing most) → BodyFirst log files (i1 t1)
  closing_first most t1 i1 run = inr (λ left i. let from = run.present left i in from.2.whole ∙ sym stands.has_body)

  pub opening_whole : (t1 : ℕ) (i1 : ℕ → Files → Type 0) → SealRun log files t0 t1 i0 i1 IsOpening → (left : Files) → i1 t1 left → get left (body_file log) ≡ get files (body_file log)
  opening_whole t1 i1 run left i = let from = run.present left i in from.2.whole ∙ sym stands.has_body

  -- after the numbers were written at most
  pub numbers_stand : (t1 : ℕ) (i1 : ℕ → Files → Type 0) → SealRun log files t0 t1 i0 i1 (IsClosing (13 * (m + 1))) → (left : Files) → i1 t1 left → LeftStanding log E left
  numbers_stand t1 i1 run left i = let from = run.present left i in closing_stands log B E stands.at_rest left from.0 from.2

-- ---- where nothing was done

pub nothing_sealed : (log : Log) (files : Files) (t0 : ℕ) (i0 : ℕ → Files → Type 0) → Stands log files (i0 t0)
    → Passes t0 t0 i0 i0 (Seals log (bytes_of files (body_file log)) (bytes_of files (ends_file log)))
nothing_sealed log files t0 i0 stands =
    let B = bytes_of files (body_file log) in
    let E = bytes_of files (ends_file log) in
    rested t0 i0 (Seals log B E) (λ was i. start_fine log B E stands.at_rest was (stands.each was i))

-- a log that is sealed has its last mark in each image
pub stood_mark : (log : Log) (F : Files) (images : Files → Type 0) → Stands log F images → IsTrue log.is_sealed → (left : Files) (mark : ℕ) → images left → log.marks ≡ mark + 1 → HasMark log mark left
stood_mark log F images s sealed left mark i is =
    let E = bytes_of F (ends_file log) in
    let at_rest = (s.each left i).at_rest in
    let ends = bytes_of left (ends_file log) in
    record {
      opened = record {
        gates = λ earlier le zero_gate. s.opened earlier (omega (arith, le, is)) (sym (same_gate log.marks earlier ends E at_rest.front (omega (arith, le, is))) ∙ zero_gate);
        followed = omega (arith, at_rest.size, is);
      };
      says = same_numbers log.marks mark ends E at_rest.front (omega (arith, is)) ∙ (s.last sealed).some mark is;
    }
