-- There are no more log files than there are numbers for them.
use Rattle.std.proofs.Common.{◌≡◌, ◌≤◌, ℕ, zero, suc, ◌+◌, ◌&&◌, Bool, true, false, cond, if◌then◌else◌, List, Option, Some, None, is_some, refl, sym, ◌∙◌, ap, subst, inl, inr, arith}
use mathlib.Core.Logic.{◌≢◌}
use Rattle.std.specs.FinMap.{contains_key, get, get-empty, get-insert, get-retain_keys, insert, len, len-empty, len-insert, retain_keys, same_map, nat_cmp-IsAntisymmetric}
use Rattle.std.specs.Cmp.{nat_cmp_total}
use Rattle.std.specs.Ordering.{eq_by_cmp, nat_cmp}
use Rattle.std.proofs.lemmas.Bool.{cases_eq}
use Rattle.std.proofs.lemmas.Bool.Decides.{nat_tests}
use Rattle.xod_log.specs.Ends.{body_of, ends_of}
use Rattle.xod_log.specs.Standing.{last_file}
use Rattle.xod_volume.specs.Files.{Files, no_files}
use Rattle.xod_env.specs.Bodies.{is_body_up_to}
use Rattle.xod_env.specs.Envs.{log_file_count}

abbrev one_if : Bool → ℕ
one_if b = if b then 1 else 0

-- how many numbers up to one pass
unfoldable passed_up_to : ℕ → (ℕ → Bool) → ℕ
passed_up_to zero test = one_if (test 0)
passed_up_to (suc n) test = one_if (test (suc n)) + passed_up_to n test

abbrev is_there : Files → ℕ → Bool
is_there files file = is_some (get files (body_of file)) && is_some (get files (ends_of file))

-- ---- sums

plus_one : (n : ℕ) → n + 1 ≡ 1 + n
plus_one n = omega arith

zero_before : (n : ℕ) → n ≡ 0 + n
zero_before n = omega arith

zero_more : (n : ℕ) → n + 0 ≡ n
zero_more n = omega arith

at_most_one : (b : Bool) → one_if b ≤ 0 + 1
at_most_one true = omega arith
at_most_one false = omega arith

next_at_most : (b : Bool) (n top : ℕ) → n ≤ top + 1 → one_if b + n ≤ suc top + 1
next_at_most true n top le = omega (arith, le)
next_at_most false n top le = omega (arith, le)

-- ---- bodies

own_body : (file : ℕ) → is_body_up_to file (body_of file) ≡ true
own_body file = grind (arith, nat_tests)

not_first : (number : ℕ) → number ≢ 0 → is_body_up_to 0 number ≡ false
not_first number not = grind (arith, nat_tests)

not_yet : (file : ℕ) → is_body_up_to file (body_of (suc file)) ≡ false
not_yet file = grind (arith, nat_tests)

no_other : (file number : ℕ) → number ≢ body_of (suc file) → is_body_up_to (suc file) number ≡ is_body_up_to file number
no_other file number not = grind (arith, nat_tests)

turned : (b : Bool) (o : Option (List ℕ)) → is_some (cond (true && b) o None) ≡ (is_some o && b)
turned true None = refl
turned true (Some bytes) = refl
turned false None = refl
turned false (Some bytes) = refl

-- ---- a map with one key more

other_key : (number key : ℕ) → number ≢ key → eq_by_cmp nat_cmp number key ≡ false
other_key number key not = grind (arith, nat_tests)

own_key : (key : ℕ) → eq_by_cmp nat_cmp key key ≡ true
own_key key = grind (arith, nat_tests)

module _ (more fewer : Files) (key : ℕ) (absent : get fewer key ≡ None) (others : (number : ℕ) → number ≢ key → get more number ≡ get fewer number) where
  with_value : (value : Option (List ℕ)) → get more key ≡ value → len more ≡ one_if (is_some value) + len fewer
  with_value None is = ap (λ (files : Files). len files) (same_map nat_cmp_total nat_cmp-IsAntisymmetric more fewer (λ number. elim (cases_eq number key) [
    | inl same ↦ subst (λ (n : ℕ). get more n ≡ get fewer n) (sym same) (is ∙ sym absent)
    | inr not ↦ others number not
  ])) ∙ zero_before (len fewer)
  with_value (Some bytes) is =
      let same : more ≡ insert fewer key bytes = same_map nat_cmp_total nat_cmp-IsAntisymmetric more (insert fewer key bytes) (λ number. elim (cases_eq number key) [
        | inl own ↦ subst (λ (n : ℕ). get more n ≡ get (insert fewer key bytes) n) (sym own)
            (is ∙ sym (get-insert nat_cmp_total fewer key bytes key ∙ ap (λ (b : Bool). cond b (Some bytes) (get fewer key)) (own_key key)))
        | inr not ↦ others number not ∙ sym (get-insert nat_cmp_total fewer key bytes number ∙ ap (λ (b : Bool). cond b (Some bytes) (get fewer number)) (other_key number key not))
      ]) in
      ap (λ (files : Files). len files) same ∙ len-insert nat_cmp_total fewer key bytes
      ∙ ap (λ (o : Option (List ℕ)). cond (is_some o) (len fewer) (len fewer + 1)) absent ∙ plus_one (len fewer)

  len_with : len more ≡ one_if (is_some (get more key)) + len fewer
  len_with = with_value (get more key) refl

-- ---- one log file after the other

module _ (files : Files) where
  abbrev test : ℕ → ℕ → Bool
  test file number = is_body_up_to file number && contains_key files (number + 1)

  abbrev up_to : ℕ → Files
  up_to file = retain_keys files (test file)

  get_up_to : (file number : ℕ) → get (up_to file) number ≡ cond (test file number) (get files number) None
  get_up_to file number = get-retain_keys files (test file) number (λ x e. ap (test file) (sym (nat_cmp-IsAntisymmetric number x e)))

  there : (file : ℕ) → is_some (get (up_to file) (body_of file)) ≡ is_there files file
  there file = ap is_some (get_up_to file (body_of file))
      ∙ ap (λ (b : Bool). is_some (cond (b && is_some (get files (ends_of file))) (get files (body_of file)) None)) (own_body file)
      ∙ turned (is_some (get files (ends_of file))) (get files (body_of file))

  count_up_to : (file : ℕ) → len (up_to file) ≡ passed_up_to file (is_there files)
  unfolding passed_up_to
  count_up_to zero =
      len_with (up_to 0) no_files 0 (get-empty nat_cmp 0) (λ number not.
      get_up_to 0 number ∙ ap (λ (b : Bool). cond (b && contains_key files (number + 1)) (get files number) None) (not_first number not) ∙ sym (get-empty nat_cmp number))
      ∙ ap (λ (n : ℕ). one_if (is_some (get (up_to 0) 0)) + n) (len-empty nat_cmp (List ℕ))
      ∙ zero_more (one_if (is_some (get (up_to 0) 0)))
      ∙ ap one_if (there 0)
  count_up_to (suc file) =
      len_with (up_to (suc file)) (up_to file) (body_of (suc file))
      (get_up_to file (body_of (suc file)) ∙ ap (λ (b : Bool). cond (b && contains_key files (body_of (suc file) + 1)) (get files (body_of (suc file))) None) (not_yet file))
      (λ number not. get_up_to (suc file) number
      ∙ ap (λ (b : Bool). cond (b && contains_key files (number + 1)) (get files number) None) (no_other file number not)
      ∙ sym (get_up_to file number))
      ∙ ap (λ (n : ℕ). one_if (is_some (get (up_to (suc file)) (body_of (suc file)))) + n) (count_up_to file)
      ∙ ap (λ (b : Bool). one_if b + passed_up_to file (is_there files)) (there (suc file))

  count_is : log_file_count files ≡ passed_up_to last_file (is_there files)
  count_is = count_up_to last_file

-- ---- what follows

few : (top : ℕ) (test : ℕ → Bool) → passed_up_to top test ≤ top + 1
unfolding passed_up_to
few zero test = at_most_one (test 0)
few (suc top) test = next_at_most (test (suc top)) (passed_up_to top test) top (few top test)

-- there are no more than there are numbers
pub count_fits : (files : Files) → log_file_count files ≤ last_file + 1
count_fits files = subst (λ (n : ℕ). n ≤ last_file + 1) (sym (count_is files)) (few last_file (is_there files))
