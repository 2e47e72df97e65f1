-- Links come back from their bytes, and bytes from their links.
use Rattle.std.proofs.Common.{◌≡◌, ℕ, zero, suc, ◌+◌, ◌*◌, ◌/◌, ◌-◌, ◌<◌, ◌≤◌, Bool, true, false, ◌&&◌, ltb, List, [], ◌∷◌, ◌++◌, length, get_or, take, drop, Some, refl, sym, ap, ◌∙◌, arith}
use Rattle.std.specs.Int.{w32, w64, from_be_bytes, to_be_bytes}
use Rattle.std.specs.List.{AllByRecursion, slice_get}
use Rattle.std.proofs.Math.Seq.{take-add}
use Rattle.std.proofs.lemmas.Bool.{le-ltb}
use Rattle.std.proofs.lemmas.Bool.Decides.{nat_tests}
use Rattle.std.proofs.lemmas.List.{append-nil, take_all, drop-drop, length-take, length-drop}
use Rattle.xod_block.specs.Bytes.{IsBytes}
use Rattle.xod_block.specs.Records.{Link, rise, FitsLink, link_bytes, links_bytes}
use Rattle.xod_block.specs.Reading.{link_of, first_links, links_in}
use Rattle.xod_block.proofs.Numbers.{IsBytes-drop, IsBytes-take, IsBytes-rest, wide32, wide64}

-- ---- whether numbers rise, link by link

few_rise : (n : ℕ) (raw : List ℕ) → n < 2 → rise (first_links n raw) ≡ true
few_rise zero raw few = refl
few_rise (suc zero) raw few = refl
few_rise (suc (suc n)) raw few = absurd (omega arith)

-- fewer than two links rise
pub rise-short : (raw : List ℕ) → length raw < 26 → rise (links_in raw) ≡ true
rise-short raw short = few_rise (length raw / 13) raw (omega arith)

-- two links or more rise where the first two do, and all behind the first
pub rise-step : (raw others : List ℕ) → others ≡ drop 13 raw → 26 ≤ length raw → rise (links_in raw) ≡ (ltb (get_or raw 0 0) (get_or others 0 0) && rise (links_in others))
rise-step raw others is long =
    let n = length raw / 13 - 2 in
    let whole : length raw / 13 ≡ suc (suc n) = omega arith in
    let behind : length others / 13 ≡ suc n = omega (arith, ap length is, length-drop 13 raw) in
    ap (λ (k : ℕ). rise (first_links k raw)) whole
    ∙ ap (λ (l : List ℕ). ltb (get_or raw 0 0) (get_or l 0 0) && rise (first_links (suc n) l)) (sym is)
    ∙ ap (λ (k : ℕ). ltb (get_or raw 0 0) (get_or others 0 0) && rise (first_links k others)) (sym behind)

-- a step of the loop that looks at them
pub rise-goes_on : (raw others : List ℕ) (all : Bool) → others ≡ drop 13 raw → 26 ≤ length raw → get_or raw 0 0 < get_or others 0 0 → rise (links_in raw) ≡ all → rise (links_in others) ≡ all
rise-goes_on raw others all is long less so_far =
    let test : ltb (get_or raw 0 0) (get_or others 0 0) ≡ true = grind (arith, nat_tests) in
    sym (ap (λ (b : Bool). b && rise (links_in others)) test) ∙ sym (rise-step raw others is long) ∙ so_far

pub rise-stops : (raw others : List ℕ) (all : Bool) → others ≡ drop 13 raw → 26 ≤ length raw → get_or others 0 0 ≤ get_or raw 0 0 → rise (links_in raw) ≡ all → false ≡ all
rise-stops raw others all is long more so_far =
    sym (ap (λ (b : Bool). b && rise (links_in others)) (le-ltb (get_or raw 0 0) (get_or others 0 0) more)) ∙ sym (rise-step raw others is long) ∙ so_far

-- ---- from bytes

link_spelled : (raw : List ℕ) → 13 ≤ length raw → IsBytes raw → link_bytes (link_of raw) ≡ take 13 raw
link_spelled [] long fits = absurd (omega arith)
link_spelled (x ∷ raw) long fits =
    let raw_fits : IsBytes raw = IsBytes-rest x raw fits in
    let file : to_be_bytes w32 (from_be_bytes w32 (take 4 raw)) ≡ take 4 raw = wide32.back (take 4 raw) (omega (arith, length-take 4 raw)) (IsBytes-take 4 raw raw_fits) in
    let at : to_be_bytes w64 (from_be_bytes w64 (take 8 (drop 4 raw))) ≡ take 8 (drop 4 raw) = wide64.back (take 8 (drop 4 raw)) (omega (arith, length-take 8 (drop 4 raw), length-drop 4 raw)) (IsBytes-take 8 (drop 4 raw) (IsBytes-drop 4 raw raw_fits)) in
    ap (λ (l : List ℕ). x ∷ (l ++ to_be_bytes w64 (from_be_bytes w64 (take 8 (drop 4 raw))))) file
    ∙ ap (λ (l : List ℕ). x ∷ (take 4 raw ++ l)) at
    ∙ ap (λ (l : List ℕ). x ∷ l) (sym (take-add 4 8 raw))

-- so many links are spelled by that many times 13 bytes
pub links_bytes-first_links : (n : ℕ) (raw : List ℕ) → 13 * n ≤ length raw → IsBytes raw → links_bytes (first_links n raw) ≡ take (13 * n) raw
links_bytes-first_links zero raw long fits = refl
links_bytes-first_links (suc n) raw long fits =
    let later = links_bytes-first_links n (drop 13 raw) (omega (arith, length-drop 13 raw)) (IsBytes-drop 13 raw fits) in
    let all : 13 + 13 * n ≡ 13 * suc n = omega arith in
    ap (λ (l : List ℕ). l ++ links_bytes (first_links n (drop 13 raw))) (link_spelled raw (omega arith) fits)
    ∙ ap (λ (l : List ℕ). take 13 raw ++ l) later
    ∙ sym (take-add 13 (13 * n) raw)
    ∙ ap (λ (k : ℕ). take k raw) all

pub length-first_links : (n : ℕ) (raw : List ℕ) → length (first_links n raw) ≡ n
length-first_links zero raw = refl
length-first_links (suc n) raw = ap suc (length-first_links n (drop 13 raw))

pub first_links-fit : (n : ℕ) (raw : List ℕ) → IsBytes raw → AllByRecursion FitsLink (first_links n raw)
first_links-fit zero raw fits = tt
first_links-fit (suc n) raw fits = (
  record {
    number = fits 0;
    file = wide32.below (take 4 (drop 1 raw)) (IsBytes-take 4 (drop 1 raw) (IsBytes-drop 1 raw fits));
    at = wide64.below (take 8 (drop 4 (drop 1 raw))) (IsBytes-take 8 (drop 4 (drop 1 raw)) (IsBytes-drop 4 (drop 1 raw) (IsBytes-drop 1 raw fits)));
  },
  first_links-fit n (drop 13 raw) (IsBytes-drop 13 raw fits),
)

-- how many links there are in bytes that are nothing else
pub whole_links-count : (raw : List ℕ) (n : ℕ) → length raw ≡ 13 * n → length raw / 13 ≡ n
whole_links-count raw n whole = omega arith

pub links_bytes-links_in : (raw : List ℕ) (n : ℕ) → length raw ≡ 13 * n → IsBytes raw → links_bytes (links_in raw) ≡ raw
links_bytes-links_in raw n whole fits =
    ap (λ (k : ℕ). links_bytes (first_links k raw)) (whole_links-count raw n whole)
    ∙ links_bytes-first_links n raw (omega arith) fits
    ∙ take_all (13 * n) raw (omega arith)

-- ---- from links

link_again : (link : Link) (rest : List ℕ) → FitsLink link → link_of (link_bytes link ++ rest) ≡ link
link_again link rest fits =
    let make : ℕ → ℕ → Link = λ f a. (link.0, record { file = f; at = a }) in
    ap (λ (f : ℕ). make f (from_be_bytes w64 (to_be_bytes w64 link.1.at))) (wide32.again link.1.file fits.file)
    ∙ ap (make link.1.file) (wide64.again link.1.at fits.at)

pub first_links-again : (links : List Link) (rest : List ℕ) → AllByRecursion FitsLink links → first_links (length links) (links_bytes links ++ rest) ≡ links
first_links-again [] rest fits = refl
first_links-again (link ∷ links) rest fits =
    ap (λ (l : Link). l ∷ first_links (length links) (links_bytes links ++ rest)) (link_again link (links_bytes links ++ rest) fits.0)
    ∙ ap (λ (ls : List Link). link ∷ ls) (first_links-again links rest fits.1)

pub length-links_bytes : (links : List Link) → length (links_bytes links) ≡ 13 * length links
length-links_bytes [] = refl
length-links_bytes (link ∷ links) = omega (arith, length-links_bytes links)

pub links_in-links_bytes : (links : List Link) → AllByRecursion FitsLink links → links_in (links_bytes links) ≡ links
links_in-links_bytes links fits =
    ap (λ (k : ℕ). first_links k (links_bytes links)) (whole_links-count (links_bytes links) (length links) (length-links_bytes links))
    ∙ ap (first_links (length links)) (sym (append-nil (links_bytes links)))
    ∙ first_links-again links [] fits

-- ---- one link by its place

pub slice_get-first_links : (n i : ℕ) (raw : List ℕ) → i < n → slice_get (first_links n raw) i ≡ Some (link_of (drop (13 * i) raw))
slice_get-first_links zero i raw lt = absurd (omega arith)
slice_get-first_links (suc n) zero raw lt = refl
slice_get-first_links (suc n) (suc i) raw lt =
    let on : 13 + 13 * i ≡ 13 * suc i = omega arith in
    slice_get-first_links n i (drop 13 raw) (omega arith) ∙ ap (λ (l : List ℕ). Some (link_of l)) (drop-drop (13 * i) 13 raw ∙ ap (λ (k : ℕ). drop k raw) on)
