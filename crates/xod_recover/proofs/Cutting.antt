-- The records of a body that is cut are those that end before the cut or there.
use Rattle.std.proofs.Common.{◌≡◌, ◌<◌, ℕ, ◌+◌, ◌-◌, ◌/◌, ◌%◌, ◌^◌, List, take, drop, length, Bool, true, false, cond, leb, eqb, Option, Some, None, refl, sym, ◌∙◌, ap, arith, inl, inr}
use Rattle.std.specs.Option.{option_map}
use Rattle.std.proofs.lemmas.Bool.{cases_lt, le-leb, lt-leb}
use Rattle.std.proofs.lemmas.List.{length-take, take-append-drop, drop-take, drop_all}
use Rattle.xod_block.specs.Bodies.{Bodies, records_of}
use Rattle.xod_block.specs.Records.{RecordValue, spelling}
use Rattle.xod_block.specs.Reading.{record_at, record_in}
use Rattle.xod_block.proofs.CallerLemmas.{record_at-more}
use Rattle.xod_recover.specs.Cuts.{fitting, ended_by}
use Rattle.xod_recover.proofs.Taking.{record_at-begins}

-- a front has no record that the whole has not
more-of : (n : ℕ) (bytes : List ℕ) (x : RecordValue × ℕ) → record_at (take n bytes) ≡ Some x → record_at bytes ≡ Some x
more-of n bytes x e = ap record_at (sym (take-append-drop n bytes)) ∙ record_at-more (drop n bytes) (take n bytes) x e

abbrev first : Option (RecordValue × ℕ) → Option RecordValue
first = option_map (λ found. found.0)

front-none : (n : ℕ) (bytes : List ℕ) (o : Option (RecordValue × ℕ)) → record_at (take n bytes) ≡ o → record_at bytes ≡ None → o ≡ None
front-none n bytes None is none = refl
front-none n bytes (Some x) is none = let there = more-of n bytes x is in absurd cc

front-long : (n : ℕ) (bytes : List ℕ) (x : RecordValue × ℕ) (o : Option (RecordValue × ℕ)) → record_at (take n bytes) ≡ o → record_at bytes ≡ Some x → n < x.1 → o ≡ None
front-long n bytes x None is whole lt = refl
front-long n bytes x (Some y) is whole lt =
    let there = more-of n bytes y is in
    let same : x ≡ y = cc in
    let begins = record_at-begins (take n bytes) y is in
    let within = begins.within in
    let count : x.1 ≡ y.1 = ap (λ (z : RecordValue × ℕ). z.1) same in
    absurd (omega (arith, within, count, lt, length-take n bytes))

fitting-some : (n : ℕ) (bytes : List ℕ) (o : Option (RecordValue × ℕ)) → record_at bytes ≡ o → first (record_at (take n bytes)) ≡ fitting n (first o)
fitting-some n bytes None is = ap first (front-none n bytes (record_at (take n bytes)) refl is)
fitting-some n bytes (Some x) is =
    let begins = record_at-begins bytes x is in
    let count_is = begins.count_is in
    let choose : Bool → Option RecordValue = λ (b : Bool). cond b (Some x.0) None in
    elim (cases_lt n x.1) [
      | inl lt ↦
          let over : leb (length (spelling x.0)) n ≡ false = lt-leb (length (spelling x.0)) n (omega (arith, lt, count_is)) in
          ap first (front-long n bytes x (record_at (take n bytes)) refl is lt) ∙ sym (ap choose over)
      | inr ge ↦
          let fits : leb (length (spelling x.0)) n ≡ true = le-leb (length (spelling x.0)) n (omega (arith, ge, count_is)) in
          ap first (begins.front n (omega (arith, ge))) ∙ sym (ap choose fits)
    ]

pub record_in-take : (n : ℕ) (bytes : List ℕ) → record_in (take n bytes) ≡ fitting n (record_in bytes)
record_in-take n bytes = fitting-some n bytes (record_at bytes) refl

drop-cut : (k end : ℕ) (bytes : List ℕ) → drop k (take end bytes) ≡ take (end - k) (drop k bytes)
drop-cut k end bytes = elim (cases_lt end k) [
  | inl lt ↦
      let none : end - k ≡ 0 = omega (arith, lt) in
      drop_all k (take end bytes) (omega (arith, lt, length-take end bytes)) ∙ sym (ap (λ (n : ℕ). take n (drop k bytes)) none)
  | inr ge ↦ let whole : end ≡ k + (end - k) = omega (arith, ge) in ap (λ (m : ℕ). drop k (take m bytes)) whole ∙ drop-take k (end - k) bytes
]

cut-choose : (own : Bool) (k end : ℕ) (bytes : List ℕ) → record_in (drop k (cond own (take end bytes) bytes)) ≡ cond own (fitting (end - k) (record_in (drop k bytes))) (record_in (drop k bytes))
cut-choose true k end bytes = ap record_in (drop-cut k end bytes) ∙ record_in-take (end - k) (drop k bytes)
cut-choose false k end bytes = refl

pub records_of-cut : (bodies : Bodies) (file end number : ℕ) → records_of (λ other. cond (eqb other file) (take end (bodies other)) (bodies other)) number ≡ ended_by (records_of bodies) file end number
records_of-cut bodies file end number = cut-choose (eqb (number / 2 ^ 64) file) (number % 2 ^ 64) end (bodies (number / 2 ^ 64))
