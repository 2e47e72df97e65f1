-- The greatest log file that is used: it is used, and none above it is.
use Rattle.std.proofs.Common.{◌≡◌, ◌<◌, ◌≤◌, ◌⊎◌, ℕ, suc, ◌*◌, ◌/◌, ◌%◌, Bool, true, false, ◌&&◌, ◌||◌, cond, eqb, leb, ltb, List, [], ◌∷◌, map, Option, Some, None, is_some, refl, sym, ◌∙◌, ap, subst, arith, inl, inr}
use Rattle.std.specs.Prelude.{T}
use Rattle.std.specs.declared.cmp.Ordering.{Ordering}
use Rattle.std.specs.declared.cmp.Ordering.TheVariants.{Less, Equal, Greater}
use Rattle.std.specs.List.{list_any}
use Rattle.std.specs.Ordering.{nat_cmp, eq_by_cmp, is_lt}
use Rattle.std.specs.Cmp.{unsigned_ties}
use Rattle.std.specs.FinMap.{get, keys, entries, contains_key-keys, entries_sorted}
use Rattle.std.specs.FinMap.Entries.{is_sorted, below_all}
use Rattle.std.proofs.lemmas.Bool.{cases_Bool, cases_order, and_parts, or_cases, leb-true, le-leb, eq-eqb, eqb-true, cond-true, true≢false}
use Rattle.std.proofs.lemmas.Cmp.{ranked}
use Rattle.std.proofs.lemmas.Option.{cond_some}
use Rattle.xod_volume.specs.Files.{Files, Content, bytes_in, bytes_of}
use Rattle.xod_log.specs.Ends.{body_of, ends_of}
use Rattle.xod_log.specs.Standing.{last_file}
use Rattle.xod_recover.specs.Opened.{open_count, is_used, log_file_of, used_at, later_or, last_used, greatest_used}
use Rattle.xod_recover.specs.Images.{UnusedFrom}

-- ---- one file

-- with both files there it goes by the count of open marks
pub used_by_count : (files : Files) (file : ℕ) → is_some (get files (body_of file)) ≡ true → is_some (get files (ends_of file)) ≡ true → is_used files file ≡ ltb 0 (open_count (bytes_of files (ends_of file)))
unfolding is_used
used_by_count files file body ends =
    ap (λ (b : Bool). b && (is_some (get files (ends_of file)) && ltb 0 (open_count (bytes_of files (ends_of file))))) body
    ∙ ap (λ (b : Bool). b && ltb 0 (open_count (bytes_of files (ends_of file)))) ends

-- the same pair is used alike
pub same_used : (a b : Files) (file : ℕ) → get a (body_of file) ≡ get b (body_of file) → get a (ends_of file) ≡ get b (ends_of file) → is_used a file ≡ is_used b file
unfolding is_used
same_used a b file body ends =
    ap (λ (c : Content). is_some c && (is_some (get a (ends_of file)) && ltb 0 (open_count (bytes_of a (ends_of file))))) body
    ∙ ap (λ (c : Content). is_some (get b (body_of file)) && (is_some c && ltb 0 (open_count (bytes_in c)))) ends

-- how a file is used goes by whether its body is there, and by its ends
pub used_alike : (a b : Files) (file : ℕ) → is_some (get a (body_of file)) ≡ is_some (get b (body_of file)) → get a (ends_of file) ≡ get b (ends_of file) → is_used a file ≡ is_used b file
unfolding is_used
used_alike a b file body ends =
    ap (λ (t : Bool). t && (is_some (get a (ends_of file)) && ltb 0 (open_count (bytes_of a (ends_of file))))) body
    ∙ ap (λ (c : Content). is_some (get b (body_of file)) && (is_some c && ltb 0 (open_count (bytes_in c)))) ends

-- what a used file has
pub record HasPair (files : Files) (file : ℕ) : Type 0 where
  pub body : is_some (get files (body_of file)) ≡ true
  pub ends : is_some (get files (ends_of file)) ≡ true
  pub some : ltb 0 (open_count (bytes_of files (ends_of file))) ≡ true

pub used_has : (files : Files) (file : ℕ) → is_used files file ≡ true → HasPair files file
unfolding is_used
used_has files file used =
    let ends = is_some (get files (ends_of file)) in
    let some = ltb 0 (open_count (bytes_of files (ends_of file))) in
    let parts = and_parts (is_some (get files (body_of file))) (ends && some) used in
    let more = and_parts ends some parts.1 in
    record { body = parts.0; ends = more.0; some = more.1 }

-- ---- the list of volume files

used-some : (files : Files) (o : Option ℕ) (file : ℕ) → used_at files o ≡ Some file → (o ≡ Some file) × (is_used files file ≡ true)
used-some files None file e = absurd cc
used-some files (Some other) file e =
    let g = cond_some (is_used files other) other file e in
    (ap (λ (n : ℕ). Some n) g.1, subst (λ (n : ℕ). is_used files n ≡ true) g.1 g.0)

log_file-some : (number file : ℕ) → log_file_of number ≡ Some file → (body_of file ≡ number) × (file ≤ last_file)
log_file-some number file e =
    let g = cond_some (eqb (number % 2) 0 && leb (number / 2) last_file) (number / 2) file e in
    let p = and_parts (eqb (number % 2) 0) (leb (number / 2) last_file) g.0 in
    let even : number % 2 ≡ 0 = eqb-true (number % 2) 0 p.0 in
    let low : number / 2 ≤ last_file = leb-true (number / 2) last_file p.1 in
    (omega (arith, even, g.1), omega (arith, low, g.1))

-- what is found at one number
at-some : (files : Files) (number file : ℕ) → used_at files (log_file_of number) ≡ Some file → (is_used files file ≡ true) × (file ≤ last_file) × (body_of file ≡ number)
at-some files number file e =
    let u = used-some files (log_file_of number) file e in
    let l = log_file-some number file u.0 in
    (u.1, l.1, l.0)

at-used : (files : Files) (file : ℕ) → is_used files file ≡ true → file ≤ last_file → used_at files (log_file_of (body_of file)) ≡ Some file
at-used files file used low =
    let even : (2 * file) % 2 ≡ 0 = omega arith in
    let half : (2 * file) / 2 ≡ file = omega arith in
    ap (λ (b : Bool). used_at files (cond (b && leb (2 * file / 2) last_file) (Some (2 * file / 2)) None)) (eq-eqb ((2 * file) % 2) 0 even)
    ∙ ap (λ (n : ℕ). used_at files (cond (leb n last_file) (Some n) None)) half
    ∙ ap (λ (b : Bool). used_at files (cond b (Some file) None)) (le-leb file last_file low)
    ∙ cond-true (is_used files file) (Some file) None used

pub same-number : (a b : ℕ) → eq_by_cmp nat_cmp a b ≡ true → a ≡ b
same-number a b e = eqb-true a b (unsigned_ties a b ∙ e)

later-some : (later earlier : Option ℕ) (file : ℕ) → later_or later earlier ≡ Some file → (later ≡ Some file) ⊎ ((later ≡ None) × (earlier ≡ Some file))
later-some None earlier file e = inr (refl, e)
later-some (Some later) earlier file e = inl e

later-none : (later earlier : Option ℕ) → later_or later earlier ≡ None → (later ≡ None) × (earlier ≡ None)
later-none None earlier e = (refl, e)
later-none (Some later) earlier e = absurd cc

-- none found, none there
none-listed : (files : Files) (numbers : List ℕ) → last_used files numbers ≡ None → (file : ℕ) → is_used files file ≡ true → file ≤ last_file → list_any (eq_by_cmp nat_cmp (body_of file)) numbers ≡ true → ⊥
none-listed files [] none file used low there = absurd cc
none-listed files (number ∷ numbers) none file used low there =
    let parts = later-none (last_used files numbers) (used_at files (log_file_of number)) none in
    elim (or_cases (eq_by_cmp nat_cmp (body_of file) number) (list_any (eq_by_cmp nat_cmp (body_of file)) numbers) there) [
      | inl here ↦
          let is : body_of file ≡ number = same-number (body_of file) number here in
          let found : used_at files (log_file_of number) ≡ Some file = ap (λ (n : ℕ). used_at files (log_file_of n)) (sym is) ∙ at-used files file used low in
          let clash : None ≡ Some file = sym parts.1 ∙ found in
          absurd cc
      | inr later ↦ none-listed files numbers parts.0 file used low later
    ]

-- what is found is used, and its body is listed
found-listed : (files : Files) (numbers : List ℕ) (file : ℕ) → last_used files numbers ≡ Some file → (is_used files file ≡ true) × (file ≤ last_file) × (list_any (eq_by_cmp nat_cmp (body_of file)) numbers ≡ true)
found-listed files [] file found = absurd cc
found-listed files (number ∷ numbers) file found = elim (later-some (last_used files numbers) (used_at files (log_file_of number)) file found) [
  | inl later ↦
      let h = found-listed files numbers file later in
      let rest : (eq_by_cmp nat_cmp (body_of file) number || list_any (eq_by_cmp nat_cmp (body_of file)) numbers) ≡ true = elim (eq_by_cmp nat_cmp (body_of file) number) as (λ b. (b || list_any (eq_by_cmp nat_cmp (body_of file)) numbers) ≡ true) [ true ↦ refl | false ↦ h.2 ] in
      (h.0, h.1, rest)
  | inr here ↦
      let h = at-some files number file here.1 in
      let same : eq_by_cmp nat_cmp (body_of file) number ≡ true = sym (unsigned_ties (body_of file) number) ∙ eq-eqb (body_of file) number h.2 in
      (h.0, h.1, ap (λ (b : Bool). b || list_any (eq_by_cmp nat_cmp (body_of file)) numbers) same)
]

-- ---- the numbers rise

pub T-first : (a b : Bool) → T (a && b) → T a
T-first true b t = tt
T-first false b t = t

pub T-second : (a b : Bool) → T (a && b) → T b
T-second true b t = t
T-second false b t = absurd t

pub less : (o : Ordering) (a b : ℕ) → o ≡ nat_cmp a b → T (is_lt o) → a < b
less Less a b is t = ranked a b Less is
less Equal a b is t = absurd t
less Greater a b is t = absurd t

pub above-first : (number other : ℕ) (es : List (ℕ × List ℕ)) → T (below_all nat_cmp number es) → list_any (eq_by_cmp nat_cmp other) (map (λ e. e.0) es) ≡ true → number < other
above-first number other [] below there = absurd cc
above-first number other (e ∷ es) below there =
    elim (or_cases (eq_by_cmp nat_cmp other e.0) (list_any (eq_by_cmp nat_cmp other) (map (λ e. e.0) es)) there) [
      | inl here ↦
          let is : other ≡ e.0 = same-number other e.0 here in
          let lt : number < e.0 = less (nat_cmp number e.0) number e.0 refl (T-first (is_lt (nat_cmp number e.0)) (below_all nat_cmp number es) below) in
          omega (arith, is, lt)
      | inr later ↦ above-first number other es (T-second (is_lt (nat_cmp number e.0)) (below_all nat_cmp number es) below) later
    ]

-- what is found is the greatest
greatest-listed : (files : Files) (es : List (ℕ × List ℕ)) → T (is_sorted nat_cmp es) → (file other : ℕ) → last_used files (map (λ e. e.0) es) ≡ Some file
    → is_used files other ≡ true → other ≤ last_file → list_any (eq_by_cmp nat_cmp (body_of other)) (map (λ e. e.0) es) ≡ true → other ≤ file
greatest-listed files [] rise file other found used low there = absurd cc
greatest-listed files (e ∷ es) rise file other found used low there =
    let first = T-first (below_all nat_cmp e.0 es) (is_sorted nat_cmp es) rise in
    let rest = T-second (below_all nat_cmp e.0 es) (is_sorted nat_cmp es) rise in
    elim (later-some (last_used files (map (λ e. e.0) es)) (used_at files (log_file_of e.0)) file found) [
      | inl later ↦ elim (or_cases (eq_by_cmp nat_cmp (body_of other) e.0) (list_any (eq_by_cmp nat_cmp (body_of other)) (map (λ e. e.0) es)) there) [
        | inl here ↦
            let is : body_of other ≡ e.0 = same-number (body_of other) e.0 here in
            let lt : e.0 < body_of file = above-first e.0 (body_of file) es first (found-listed files (map (λ e. e.0) es) file later).2 in
            omega (arith, is, lt)
        | inr further ↦ greatest-listed files es rest file other later used low further
      ]
      | inr here ↦ elim (or_cases (eq_by_cmp nat_cmp (body_of other) e.0) (list_any (eq_by_cmp nat_cmp (body_of other)) (map (λ e. e.0) es)) there) [
        | inl same ↦
            let is : body_of other ≡ e.0 = same-number (body_of other) e.0 same in
            let at : body_of file ≡ e.0 = (at-some files e.0 file here.1).2 in
            omega (arith, is, at)
        | inr further ↦ absurd (none-listed files (map (λ e. e.0) es) here.0 other used low further)
      ]
    ]

-- ---- the greatest

listed-used : (files : Files) (file : ℕ) → is_used files file ≡ true → list_any (eq_by_cmp nat_cmp (body_of file)) (keys files) ≡ true
listed-used files file used = sym (contains_key-keys files (body_of file)) ∙ (used_has files file used).body

pub greatest_used_is : (files : Files) (file : ℕ) → greatest_used files ≡ Some file → (is_used files file ≡ true) × (file ≤ last_file)
unfolding greatest_used
greatest_used_is files file found = let h = found-listed files (keys files) file found in (h.0, h.1)

pub greatest-above : (files : Files) (file : ℕ) → greatest_used files ≡ Some file → UnusedFrom (suc file) files
unfolding greatest_used
greatest-above files file found other gt low = elim (cases_Bool (is_used files other)) [
  | inl used ↦ absurd (omega (arith, gt, greatest-listed files (entries files) (entries_sorted files) file other found used low (listed-used files other used)))
  | inr unused ↦ unused
]

pub greatest-none : (files : Files) → greatest_used files ≡ None → UnusedFrom 0 files
unfolding greatest_used
greatest-none files none other le low = elim (cases_Bool (is_used files other)) [
  | inl used ↦ absurd (none-listed files (keys files) none other used low (listed-used files other used))
  | inr unused ↦ unused
]

is-by : (files : Files) (o : Option ℕ) → greatest_used files ≡ o → (file : ℕ) → is_used files file ≡ true → file ≤ last_file → UnusedFrom (suc file) files → o ≡ Some file
is-by files None found file used low above = absurd (true≢false (sym used ∙ greatest-none files found file (omega arith) low))
is-by files (Some other) found file used low above =
    let there = greatest_used_is files other found in
    elim (cases_order other file) [
      | inl is ↦ ap (λ (n : ℕ). Some n) is
      | inr apart ↦ elim apart [
        | inl lt ↦ absurd (true≢false (sym used ∙ greatest-above files other found file (omega (arith, lt)) low))
        | inr gt ↦ absurd (true≢false (sym there.0 ∙ above other (omega (arith, gt)) there.1))
      ]
    ]

-- a used file above which none is used is the greatest
pub greatest_is : (files : Files) (file : ℕ) → is_used files file ≡ true → file ≤ last_file → UnusedFrom (suc file) files → greatest_used files ≡ Some file
greatest_is files file used low above = is-by files (greatest_used files) refl file used low above

none-by : (files : Files) (o : Option ℕ) → greatest_used files ≡ o → UnusedFrom 0 files → o ≡ None
none-by files None found unused = refl
none-by files (Some file) found unused =
    let there = greatest_used_is files file found in
    absurd (true≢false (sym there.0 ∙ unused file (omega arith) there.1))

alike-by : (a b : Files) → ((file : ℕ) → is_used a file ≡ is_used b file) → (o : Option ℕ) → greatest_used b ≡ o → greatest_used a ≡ o
alike-by a b alike None found = none-by a (greatest_used a) refl (λ other le low. alike other ∙ greatest-none b found other le low)
alike-by a b alike (Some file) found =
    let there = greatest_used_is b file found in
    greatest_is a file (alike file ∙ there.0) there.1 (λ other gt low. alike other ∙ greatest-above b file found other gt low)

-- files that use the same log files
pub greatest_alike : (a b : Files) → ((file : ℕ) → is_used a file ≡ is_used b file) → greatest_used a ≡ greatest_used b
greatest_alike a b alike = alike-by a b alike (greatest_used b) refl
