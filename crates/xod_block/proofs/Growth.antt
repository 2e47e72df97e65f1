-- What stays where bodies grow at their ends.
use Rattle.std.proofs.Common.{◌≡◌, ◌≤◌, ℕ, ◌+◌, ◌-◌, ◌*◌, ◌^◌, ◌/◌, ◌%◌, List, [], ◌++◌, drop, length, Bool, true, false, cond, eqb, eq-eqb, Option, Some, None, refl, sym, ◌∙◌, ap, arith, inl, inr}
use Rattle.std.specs.Option.{option_map}
use Rattle.std.proofs.lemmas.Bool.{cases_lt, le-ltb, lt-ltb}
use Rattle.std.proofs.lemmas.List.{drop-append-le, append-nil}
use Rattle.std.proofs.Math.Seq.{drop-append-add}
use Rattle.xod_block.specs.Bodies.{Bodies, records_of, appended, with_block, HasGrown, HaveGrown}
use Rattle.xod_block.specs.Maps.{OnlyMore}
use Rattle.xod_block.specs.Reading.{record_in}
use Rattle.xod_block.specs.Records.{RecordValue}
use Rattle.xod_block.proofs.BodyLemmas.{record_at-past, records_of-at}
use Rattle.xod_block.proofs.Longer.{record_in-more}

pub record_in-past : (at : ℕ) (body : List ℕ) → length body ≤ at → record_in (drop at body) ≡ None
record_in-past at body past = ap (option_map (λ found. found.0)) (record_at-past body at past)

grown-read : (at : ℕ) (old new : List ℕ) (item : RecordValue) → HasGrown old new → record_in (drop at old) ≡ Some item → record_in (drop at new) ≡ Some item
grown-read at old new item g e = elim (cases_lt at (length old)) [
  | inl lt ↦ ap record_in (ap (drop at) g.is ∙ drop-append-le at old g.more (omega (arith, lt))) ∙ record_in-more g.more (drop at old) item e
  | inr ge ↦ let none = record_in-past at old ge in absurd cc
]

pub growth-keeps : (old new : Bodies) (at : ℕ) → HaveGrown old new → OnlyMore (records_of old) (records_of new) at
growth-keeps old new at g below item le e = grown-read (below % 2 ^ 64) (old (below / 2 ^ 64)) (new (below / 2 ^ 64)) item (g (below / 2 ^ 64)) e

grown : (q : Bool) (bytes block : List ℕ) → HasGrown bytes (cond q (bytes ++ block) bytes)
grown true bytes block = record { more = block; is = refl }
grown false bytes block = record { more = []; is = sym (append-nil bytes) }

pub appended-grows : (bodies : Bodies) (file : ℕ) (block : List ℕ) → HaveGrown bodies (appended bodies file block)
appended-grows bodies file block other = grown (eqb other file) (bodies other) block

appended-own : (bodies : Bodies) (file : ℕ) (block : List ℕ) → appended bodies file block file ≡ bodies file ++ block
appended-own bodies file block = ap (λ (q : Bool). cond q (bodies file ++ block) (bodies file)) (eq-eqb file file refl)

in_block : (bodies : Bodies) (file : ℕ) (block : List ℕ) (below off : ℕ) (item : RecordValue) → length (bodies file) + length block ≤ 2 ^ 64 → below ≡ file * 2 ^ 64 + (length (bodies file) + off) → record_in (drop off block) ≡ Some item → records_of (appended bodies file block) below ≡ Some item
in_block bodies file block below off item fits is e = elim (cases_lt off (length block)) [
  | inl lt ↦
      ap (records_of (appended bodies file block)) is
      ∙ records_of-at (appended bodies file block) file (length (bodies file) + off) (omega (arith, lt, fits))
      ∙ ap (λ (l : List ℕ). record_in (drop (length (bodies file) + off) l)) (appended-own bodies file block)
      ∙ ap record_in (drop-append-add (bodies file) block off)
      ∙ e
  | inr ge ↦ let none = record_in-past off block ge in absurd cc
]

pub appended-keeps : (bodies : Bodies) (file : ℕ) (block : List ℕ) (at : ℕ) → length (bodies file) + length block ≤ 2 ^ 64 → OnlyMore (with_block (file * 2 ^ 64 + length (bodies file)) block (records_of bodies)) (records_of (appended bodies file block)) at
appended-keeps bodies file block at fits below item le e =
    let start = file * 2 ^ 64 + length (bodies file) in
    let choose : Bool → Option RecordValue = λ (q : Bool). cond q (records_of bodies below) (record_in (drop (below - start) block)) in
    elim (cases_lt below start) [
      | inl lt ↦ growth-keeps bodies (appended bodies file block) below (appended-grows bodies file block) below item (omega arith) (sym (ap choose (lt-ltb below start lt)) ∙ e)
      | inr ge ↦ in_block bodies file block below (below - start) item fits (omega (arith, ge)) (sym (ap choose (le-ltb below start ge)) ∙ e)
    ]
