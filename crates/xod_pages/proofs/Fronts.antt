-- What a front of bytes shows of the record that they begin with.
use Rattle.std.proofs.Common.{◌≡◌, ◌⊎◌, ◌<◌, ◌≤◌, ℕ, List, ◌++◌, length, take, drop, Some, None, sym, ap, subst, ◌∙◌, arith, inl, inr}
use Rattle.std.proofs.lemmas.List.{length-take, take_all, take-append-drop}
use Rattle.xod_block.specs.Bytes.{IsBytes}
use Rattle.xod_block.specs.Records.{RecordValue, BeginsWith}
use Rattle.xod_block.specs.Reading.{record_at}
use Rattle.xod_block.proofs.CallerLemmas.{record_at-more, record_at-front}
use Rattle.xod_pages.specs.Shows.{ShowsRecord}

-- a front that has a record shows it
pub front-shows : (wanted : ℕ) (front : List ℕ) (value : RecordValue) (count : ℕ) → BeginsWith front value count → record_at front ≡ Some (value, count) → ShowsRecord wanted front count
front-shows wanted front value count begins is = record {
  value = value;
  begins = begins;
  stands = λ bytes same.
      ap record_at (sym (take-append-drop wanted bytes) ∙ ap (λ (l : List ℕ). l ++ drop wanted bytes) same)
      ∙ record_at-more (drop wanted bytes) front (value, count) is;
}

-- one that has none shows that there is none, where it is all bytes or as long as the longest record
pub front-shows_none : (wanted : ℕ) (front : List ℕ) → IsBytes front → None ≡ record_at front → (length front < wanted) ⊎ (134406 ≤ wanted) → (bytes : List ℕ) → take wanted bytes ≡ front → record_at bytes ≡ None
front-shows_none wanted front fits none why bytes same = elim why [
  | inl short ↦
      let all : length bytes ≤ wanted = omega (arith, ap length same, length-take wanted bytes) in
      ap record_at (sym (take_all wanted bytes all) ∙ same) ∙ sym none
  | inr long ↦ record_at-front wanted bytes long (subst IsBytes (sym same) fits) (ap record_at same ∙ sym none)
]
