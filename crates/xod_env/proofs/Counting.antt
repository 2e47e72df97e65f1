-- A pass over the numbers of a volume's files counts its log files.
use Rattle.std.proofs.Common.{T, nat_le, ◌≡◌, ◌==◌, ◌<◌, ◌≤◌, ℕ, suc, ◌+◌, ◌&&◌, ◌||◌, Bool, true, false, cond, if◌then◌else◌, List, [], ◌∷◌, length, map, Option, Some, None, refl, sym, ◌∙◌, ap, arith}
use Rattle.std.specs.FinMap.{contains_key, contains_key-keys, entries, entries-from_sorted, entries_sorted, from_sorted, get-entries, get-from_sorted, get-retain_keys, is_sorted, keys, len, len-entries, nat_cmp-IsAntisymmetric}
use Rattle.std.specs.FinMap.Entries.{below_all, find-where_key, is_sorted-where_key, where_key}
use Rattle.std.specs.List.{list_any}
use Rattle.std.specs.Ordering.{eq_by_cmp, is_lt, nat_cmp}
use Rattle.std.proofs.lemmas.Bool.Decides.{nat_tests}
use Rattle.xod_log.specs.Standing.{last_file}
use Rattle.std.specs.declared.cmp.Ordering.TheVariants.{Equal}
use Rattle.xod_volume.proofs.CallerLemmas.{same_files}
use Rattle.xod_volume.specs.Files.{Files}
use Rattle.xod_env.specs.Bodies.{is_body_up_to}
use Rattle.xod_env.specs.Counts.{ends_behind, is_wanted, pairs_among, pairs_from}
use Rattle.xod_env.specs.Envs.{log_bodies, log_file_count}

abbrev Entries : Type 0
Entries = List (ℕ × List ℕ)

abbrev numbers_of : Entries → List ℕ
numbers_of es = map (λ e. e.0) es

-- whether an entry has this key
abbrev has : ℕ → Entries → Bool
has number es = list_any (eq_by_cmp nat_cmp number) (numbers_of es)

-- whether the first entry has it
abbrev begins : ℕ → Entries → Bool
begins number [] = false
begins number (e ∷ es) = e.0 == number

two : (a b : Bool) → (a && b) ≡ true → (a ≡ true) × (b ≡ true)
two true b is = (refl, is)
two false b is = absurd (grind arith)

both : (a b : Bool) → a ≡ true → b ≡ true → (a && b) ≡ true
both a b p q = grind (arith, p, q)

neither : (a b : Bool) → a ≡ false → b ≡ false → (a || b) ≡ false
neither a b p q = grind (arith, p, q)

lower : (x y z : ℕ) → x ≤ y → is_lt (nat_cmp y z) ≡ true → is_lt (nat_cmp x z) ≡ true
lower x y z le is = grind (arith, nat_tests)

lower_differs : (x y : ℕ) → is_lt (nat_cmp x y) ≡ true → eq_by_cmp nat_cmp x y ≡ false
lower_differs x y is = grind (arith, nat_tests)

lower_is : (x y : ℕ) → is_lt (nat_cmp x y) ≡ true → x < y
lower_is x y is = grind (arith, nat_tests)

or_false : (b : Bool) → (b || false) ≡ b
or_false true = refl
or_false false = refl

same_test : (x y : ℕ) → eq_by_cmp nat_cmp x y ≡ (y == x)
same_test x y = grind (arith, nat_tests)

below_lower : (x y : ℕ) (es : Entries) → x ≤ y → below_all nat_cmp y es ≡ true → below_all nat_cmp x es ≡ true
below_lower x y [] le is = refl
below_lower x y (e ∷ es) le is =
    let apart = two (is_lt (nat_cmp y e.0)) (below_all nat_cmp y es) is in
    let rest = below_lower x y es le apart.1 in
    both (is_lt (nat_cmp x e.0)) (below_all nat_cmp x es) (lower x y e.0 le apart.0) rest

-- no entry has a key at which the list has not yet come
none_below : (number : ℕ) (es : Entries) → below_all nat_cmp number es ≡ true → has number es ≡ false
none_below number [] is = refl
none_below number (e ∷ es) is =
    let apart = two (is_lt (nat_cmp number e.0)) (below_all nat_cmp number es) is in
    neither (eq_by_cmp nat_cmp number e.0) (has number es) (lower_differs number e.0 apart.0) (none_below number es apart.1)

-- of entries above a key, the next number is a key where the first entry has it
at_first : (number : ℕ) (es : Entries) → below_all nat_cmp number es ≡ true → (is_sorted nat_cmp es) ≡ true → has (number + 1) es ≡ begins (number + 1) es
at_first number [] below rises = refl
at_first number (e ∷ es) below rises =
    let apart = two (below_all nat_cmp e.0 es) (is_sorted nat_cmp es) rises in
    let above : number < e.0 = lower_is number e.0 (two (is_lt (nat_cmp number e.0)) (below_all nat_cmp number es) below).0 in
    let none : has (number + 1) es ≡ false = none_below (number + 1) es (below_lower (number + 1) e.0 es (omega (arith, above)) apart.0) in
    ap (λ (b : Bool). eq_by_cmp nat_cmp (number + 1) e.0 || b) none ∙ or_false (eq_by_cmp nat_cmp (number + 1) e.0) ∙ same_test (number + 1) e.0

-- it is looked for where the entry before it was a body
abbrev counted : (ℕ → Bool) → Entries → ℕ
counted passes es = length (where_key nat_cmp passes es)

zero_plus : (n : ℕ) → n ≡ 0 + n
zero_plus n = omega arith

one_plus : (n : ℕ) → suc n ≡ 1 + n
one_plus n = omega arith

one_or : (b : Bool) (e : ℕ × List ℕ) (es : Entries) → length (cond b (e ∷ es) es) ≡ (if b then 1 else 0) + length es
one_or true e es = one_plus (length es)
one_or false e es = zero_plus (length es)

-- what is looked for at the front of entries
abbrev found : Option ℕ → Entries → ℕ
found wanted [] = 0
found wanted (e ∷ es) = if is_wanted wanted e.0 then 1 else 0

split_found : (wanted : Option ℕ) (es : Entries) → pairs_from wanted (numbers_of es) ≡ found wanted es + pairs_from None (numbers_of es)
split_found wanted [] = refl
split_found wanted (e ∷ es) = ap (λ (n : ℕ). found wanted (e ∷ es) + n) (zero_plus (pairs_from (ends_behind e.0) (numbers_of es)))

found_behind : (number : ℕ) (es : Entries) → found (ends_behind number) es ≡ (if is_body_up_to last_file number && begins (number + 1) es then 1 else 0)
found_behind number [] = grind arith
found_behind number (e ∷ es) = elim (is_body_up_to last_file number) as (λ b. found (if b then Some (number + 1) else None) (e ∷ es) ≡ (if b && begins (number + 1) (e ∷ es) then 1 else 0)) [ true ↦ refl | false ↦ refl ]

-- the first entry has a number from here on
abbrev starts_from : ℕ → Entries → Bool
starts_from low [] = true
starts_from low (e ∷ es) = nat_le low e.0

next_le : (x y : ℕ) → x < y → nat_le (x + 1) y ≡ true
next_le x y lt = grind (arith, nat_tests)

le_is : (x y : ℕ) → nat_le x y ≡ true → x ≤ y
le_is x y is = grind (arith, nat_tests)

starts_behind : (number : ℕ) (es : Entries) → below_all nat_cmp number es ≡ true → starts_from (number + 1) es ≡ true
starts_behind number [] below = refl
starts_behind number (e ∷ es) below =
    next_le number e.0 (lower_is number e.0 (two (is_lt (nat_cmp number e.0)) (below_all nat_cmp number es) below).0)

differs : (x y : ℕ) → y < x → eq_by_cmp nat_cmp x y ≡ false
differs x y lt = grind (arith, nat_tests)

-- an entry has no other key than its own
not_first : (number : ℕ) (e : ℕ × List ℕ) (es : Entries) → e.0 < number → has number (e ∷ es) ≡ has number es
not_first number e es above = ap (λ (b : Bool). b || has number es) (differs number e.0 above)

T_is : (b : Bool) → T b → b ≡ true
T_is true t = refl
T_is false t = absurd t

entries_rise : (files : Files) → is_sorted nat_cmp (entries files) ≡ true
entries_rise files = T_is _ (entries_sorted files)

module _ (files : Files) where
  abbrev has_ends : ℕ → Bool
  has_ends number = is_body_up_to last_file number && contains_key files (number + 1)

  -- these entries are all that the files have from a number on
  abbrev AreAllFrom : ℕ → Entries → Type 0
  AreAllFrom low es = (number : ℕ) → low ≤ number → contains_key files number ≡ has number es

  counted_from : (low : ℕ) (es : Entries) → is_sorted nat_cmp es ≡ true → starts_from low es ≡ true → AreAllFrom low es → counted has_ends es ≡ pairs_from None (numbers_of es)
  counted_from low [] rises starts all = refl
  counted_from low (e ∷ es) rises starts all =
      let apart = two (below_all nat_cmp e.0 es) (is_sorted nat_cmp es) rises in
      let low_le : low ≤ e.0 = le_is low e.0 starts in
      let next : contains_key files (e.0 + 1) ≡ begins (e.0 + 1) es =
      all (e.0 + 1) (omega (arith, low_le)) ∙ not_first (e.0 + 1) e es (omega arith) ∙ at_first e.0 es apart.0 apart.1 in
      let others : AreAllFrom (e.0 + 1) es = λ number le. all number (omega (arith, low_le, le)) ∙ not_first number e es (omega (arith, le)) in
      let rest = counted_from (e.0 + 1) es apart.1 (starts_behind e.0 es apart.0) others in
      one_or (has_ends e.0) e (where_key nat_cmp has_ends es)
      ∙ ap (λ (b : Bool). (if is_body_up_to last_file e.0 && b then 1 else 0) + counted has_ends es) next
      ∙ ap (λ (n : ℕ). (if is_body_up_to last_file e.0 && begins (e.0 + 1) es then 1 else 0) + n) rest
      ∙ ap (λ (n : ℕ). n + pairs_from None (numbers_of es)) (sym (found_behind e.0 es))
      ∙ sym (split_found (ends_behind e.0) es)
      ∙ zero_plus (pairs_from (ends_behind e.0) (numbers_of es))

  starts_anywhere : (es : Entries) → starts_from 0 es ≡ true
  starts_anywhere [] = refl
  starts_anywhere (e ∷ es) = grind (arith, nat_tests)

  passing_rise : T (is_sorted nat_cmp (where_key nat_cmp has_ends (entries files)))
  passing_rise = is_sorted-where_key nat_cmp has_ends (entries files) (entries_sorted files)

  tied : (number x : ℕ) → nat_cmp number x ≡ Equal → has_ends x ≡ has_ends number
  tied number x e = ap has_ends (sym (nat_cmp-IsAntisymmetric number x e))

  -- the bodies of log files are the entries that pass
  retained : log_bodies files ≡ from_sorted (where_key nat_cmp has_ends (entries files))
  retained = same_files (log_bodies files) (from_sorted (where_key nat_cmp has_ends (entries files))) (λ number.
      get-retain_keys files has_ends number (tied number)
      ∙ ap (λ (o : Option (List ℕ)). cond (has_ends number) o None) (get-entries files number)
      ∙ sym (get-from_sorted nat_cmp (where_key nat_cmp has_ends (entries files)) number passing_rise ∙ find-where_key nat_cmp has_ends number (tied number) (entries files)))

  counted_bodies : log_file_count files ≡ counted has_ends (entries files)
  counted_bodies = ap (λ (bodies : Files). len bodies) retained
      ∙ len-entries (from_sorted (where_key nat_cmp has_ends (entries files)))
      ∙ ap length (entries-from_sorted nat_cmp (where_key nat_cmp has_ends (entries files)) passing_rise)

  pub pairs_counted : (numbers : List ℕ) → numbers ≡ keys files → pairs_among numbers ≡ log_file_count files
  pairs_counted numbers listed =
      ap pairs_among listed
      ∙ sym (counted_bodies ∙ counted_from 0 (entries files) (entries_rise files) (starts_anywhere (entries files)) (λ number le. contains_key-keys files number))
