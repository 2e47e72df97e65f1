-- In a volume's list the ends of a log file stand right behind its body.
use Rattle.std.proofs.Common.{◌≡◌, ◌<◌, ◌≤◌, ℕ, suc, ◌+◌, true, List, [], ◌∷◌, Some, length, get_or, map, refl, sym, ◌∙◌, ap, subst, arith, inl, inr, Bool, false, ◌&&◌, ltb}
use Rattle.std.specs.Prelude.{◌==◌, T, IsSome}
use Rattle.std.specs.List.{list_any}
use Rattle.std.specs.Ordering.{nat_cmp, eq_by_cmp, is_lt}
use Rattle.std.specs.FinMap.{get, keys, entries, contains_key-keys, entries_sorted}
use Rattle.std.specs.FinMap.Entries.{is_sorted, below_all}
use Rattle.std.proofs.lemmas.Bool.{and_parts, or_cases, cases_lt, ltb-true, lt-ltb, true≢false}
use Rattle.std.proofs.lemmas.List.{length-map}
use Rattle.xod_volume.specs.Files.{Files}
use Rattle.xod_log.specs.Ends.{body_of, ends_of}
use Rattle.xod_log.specs.Standing.{last_file}
use Rattle.xod_recover.specs.Emptied.{AreEmptied, IsEmptied, IsPairAt}
use Rattle.xod_recover.proofs.Listing.{listed}
use Rattle.xod_recover.proofs.Greatest.{T-first, T-second, above-first, less, same-number}

abbrev listed_in : ℕ → List (ℕ × List ℕ) → Type 0
listed_in k es = list_any (eq_by_cmp nat_cmp k) (map (λ e. e.0) es) ≡ true

-- the least of those that are greater
head_is : (b : ℕ) (e : ℕ × List ℕ) (es : List (ℕ × List ℕ)) → T (is_sorted nat_cmp es) → T (below_all nat_cmp e.0 es) → b ≡ e.0 → listed_in (suc b) es → (0 < length es) × (get_or (map (λ e. e.0) es) 0 0 ≡ suc b)
head_is b e [] rise below is there = absurd cc
head_is b e (f ∷ fs) rise below is there =
    let lt : e.0 < f.0 = less (nat_cmp e.0 f.0) e.0 f.0 refl (T-first (is_lt (nat_cmp e.0 f.0)) (below_all nat_cmp e.0 fs) below) in
    elim (or_cases (eq_by_cmp nat_cmp (suc b) f.0) (list_any (eq_by_cmp nat_cmp (suc b)) (map (λ e. e.0) fs)) there) [
      | inl here ↦ (omega arith, sym (same-number (suc b) f.0 here))
      | inr later ↦
          let past : f.0 < suc b = above-first f.0 (suc b) fs (T-first (below_all nat_cmp f.0 fs) (is_sorted nat_cmp fs) rise) later in
          absurd (omega (arith, is, lt, past))
    ]

-- a place of a list, and what stands there and right behind it
pub record NextTo (numbers : List ℕ) (b : ℕ) : Type 0 where
  pub at : ℕ
  pub within : suc at < length numbers
  pub here : get_or numbers at 0 ≡ b
  pub next : get_or numbers (suc at) 0 ≡ suc b

neighbours : (b : ℕ) (es : List (ℕ × List ℕ)) → T (is_sorted nat_cmp es) → listed_in b es → listed_in (suc b) es → NextTo (map (λ e. e.0) es) b
neighbours b [] rise there next = absurd cc
neighbours b (e ∷ es) rise there next =
    let first = T-first (below_all nat_cmp e.0 es) (is_sorted nat_cmp es) rise in
    let rest = T-second (below_all nat_cmp e.0 es) (is_sorted nat_cmp es) rise in
    elim (or_cases (eq_by_cmp nat_cmp b e.0) (list_any (eq_by_cmp nat_cmp b) (map (λ e. e.0) es)) there) [
      | inl here ↦
          let is : b ≡ e.0 = same-number b e.0 here in
          elim (or_cases (eq_by_cmp nat_cmp (suc b) e.0) (list_any (eq_by_cmp nat_cmp (suc b)) (map (λ e. e.0) es)) next) [
            | inl again ↦ absurd (omega (arith, is, same-number (suc b) e.0 again))
            | inr later ↦
                let head = head_is b e es rest first is later in
                record { at = 0; within = omega (arith, head.0, length-map es (λ (e : ℕ × List ℕ). e.0)); here = sym is; next = head.1 }
          ]
      | inr later ↦
          let lt : e.0 < b = above-first e.0 b es first later in
          elim (or_cases (eq_by_cmp nat_cmp (suc b) e.0) (list_any (eq_by_cmp nat_cmp (suc b)) (map (λ e. e.0) es)) next) [
            | inl again ↦ absurd (omega (arith, lt, same-number (suc b) e.0 again))
            | inr further ↦
                let found = neighbours b es rest later further in
                record { at = suc found.at; within = omega (arith, found.within); here = found.here; next = found.next }
          ]
    ]

pub pair-listed : (files : Files) (file : ℕ) → IsSome (get files (body_of file)) → IsSome (get files (ends_of file)) → NextTo (keys files) (body_of file)
pair-listed files file body ends =
    let next : suc (body_of file) ≡ ends_of file = omega arith in
    neighbours (body_of file) (entries files) (entries_sorted files)
    (sym (contains_key-keys files (body_of file)) ∙ body)
    (ap (λ (k : ℕ). list_any (eq_by_cmp nat_cmp k) (keys files)) next ∙ sym (contains_key-keys files (ends_of file)) ∙ ends)

-- ---- emptied place by place

pub stays-emptied : (old new : Files) → ((file : ℕ) → get old file ≡ Some [] → get new file ≡ Some []) → (other : ℕ) → IsEmptied other old → IsEmptied other new
stays-emptied old new stay other is = record { body = stay (body_of other) is.body; ends = stay (ends_of other) is.ends }

-- one place more
pub emptied-now : (numbers : List ℕ) (found : ℕ) (old new : Files) → ((file : ℕ) → get old file ≡ Some [] → get new file ≡ Some []) → (here : ℕ)
    → ((index : ℕ) → index < here → (other : ℕ) → IsPairAt numbers index other → found < other → other ≤ last_file → IsEmptied other old)
    → ((other : ℕ) → IsPairAt numbers here other → found < other → other ≤ last_file → IsEmptied other new)
    → (index : ℕ) → index < suc here → (other : ℕ) → IsPairAt numbers index other → found < other → other ≤ last_file → IsEmptied other new
emptied-now numbers found old new stay here before now index lt other at gt low = elim (cases_lt index here) [
  | inl earlier ↦ stays-emptied old new stay other (before index earlier other at gt low)
  | inr not ↦
      let is : index ≡ here = omega (arith, lt, not) in
      now other (subst (λ (i : ℕ). IsPairAt numbers i other) is at) gt low
]

-- all places
pub emptied-all : (old new : Files) (numbers : List ℕ) → numbers ≡ keys old → (found : ℕ)
    → ((index : ℕ) → index < length numbers → (other : ℕ) → IsPairAt numbers index other → found < other → other ≤ last_file → IsEmptied other new) → AreEmptied found old new
emptied-all old new numbers are found each other gt low body ends =
    let at = pair-listed old other body ends in
    let next : at.at + 1 ≡ suc at.at = omega arith in
    let last : suc (body_of other) ≡ ends_of other = omega arith in
    let within : at.at + 1 < length numbers = omega (arith, at.within, ap length are) in
    each at.at (omega (arith, within)) other (record {
      within = within;
      body = ap (λ (l : List ℕ). get_or l at.at 0) are ∙ at.here;
      ends = ap (λ (l : List ℕ). get_or l (at.at + 1) 0) are ∙ ap (λ (i : ℕ). get_or (keys old) i 0) next ∙ at.next ∙ last;
    }) gt low

-- ---- one log file, by the list

pub next-listed : (files : Files) (numbers : List ℕ) (found next : ℕ) → numbers ≡ keys files
    → (ltb found next && (list_any (λ other. other == body_of next) numbers && list_any (λ other. other == ends_of next) numbers)) ≡ true → (found < next) × IsSome (get files (body_of next)) × IsSome (get files (ends_of next))
next-listed files numbers found next are e =
    let body = list_any (λ other. other == body_of next) numbers in
    let ends = list_any (λ other. other == ends_of next) numbers in
    let first = and_parts (ltb found next) (body && ends) e in
    let both = and_parts body ends first.1 in
    (ltb-true found next first.0, sym (listed files (body_of next) numbers are) ∙ both.0, sym (listed files (ends_of next) numbers are) ∙ both.1)

pub next-unlisted : (files : Files) (numbers : List ℕ) (found next : ℕ) → numbers ≡ keys files
    → (ltb found next && (list_any (λ other. other == body_of next) numbers && list_any (λ other. other == ends_of next) numbers)) ≡ false → found < next → IsSome (get files (body_of next)) → IsSome (get files (ends_of next)) → ⊥
next-unlisted files numbers found next are e lt body_there ends_there =
    let body = list_any (λ other. other == body_of next) numbers in
    let ends = list_any (λ other. other == ends_of next) numbers in
    let all : (ltb found next && (body && ends)) ≡ true = ap (λ (b : Bool). b && (body && ends)) (lt-ltb found next lt) ∙ ap (λ (b : Bool). b && ends) (listed files (body_of next) numbers are ∙ body_there) ∙ listed files (ends_of next) numbers are ∙ ends_there in
    true≢false (sym all ∙ e)
