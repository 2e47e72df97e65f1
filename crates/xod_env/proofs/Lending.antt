-- What is lent of a volume, where all its bodies up to one are.
use Rattle.std.proofs.Common.{◌≡◌, ◌==◌, ◌≤◌, ℕ, ◌*◌, ◌||◌, ◌&&◌, Bool, true, false, cond, List, [], ◌∷◌, Option, Some, None, refl, sym, ap, ◌∙◌, arith}
use Rattle.std.specs.Prelude.{IsSome, is_some}
use Rattle.std.specs.FinMap.{get, keys, contains_key-keys, get-retain_keys, nat_cmp-IsAntisymmetric}
use Rattle.std.specs.List.{All, filter, list_any}
use Rattle.std.specs.Cmp.{nat_cmp_total, eq_by_cmp_equiv}
use Rattle.std.specs.Ordering.{eq_by_cmp, nat_cmp}
use Rattle.std.proofs.lemmas.Bool.Decides.{nat_tests}
use Rattle.std.proofs.lemmas.Map.Views.{All-from_any, any-filter_same}
use Rattle.std.proofs.lemmas.List.Elements.{All-filter}
use Rattle.xod_pages.specs.Lent.{lent_bodies}
use Rattle.xod_volume.specs.Files.{Files, bytes_in}
use Rattle.xod_volume.specs.Leases.{lent_of, names}
use Rattle.xod_volume.proofs.CallerLemmas.{get_lent, same_files}
use Rattle.xod_env.specs.Bodies.{is_body_up_to}
use Rattle.xod_env.specs.Envs.{bodies_up_to}

same_test : (q y : ℕ) → (y == q) ≡ eq_by_cmp nat_cmp q y
same_test q y = grind (arith, nat_tests)

same_any : (p q : ℕ → Bool) → ((y : ℕ) → p y ≡ q y) → (ks : List ℕ) → list_any p ks ≡ list_any q ks
same_any p q same [] = refl
same_any p q same (y ∷ ks) = ap (λ (b : Bool). b || list_any p ks) (same y) ∙ ap (λ (b : Bool). q y || b) (same_any p q same ks)

-- a list of a volume's numbers has a number exactly where the volume has the file
pub listed_there : (files : Files) (number : ℕ) → list_any (λ other. other == number) (keys files) ≡ is_some (get files number)
listed_there files number = same_any (λ other. other == number) (eq_by_cmp nat_cmp number) (same_test number) (keys files) ∙ sym (contains_key-keys files number)

own_body : (current file number : ℕ) → file ≤ current → (number == 2 * file) ≡ true → is_body_up_to current number ≡ true
own_body current file number le is = grind (arith, nat_tests)

where_some : (o : Option (List ℕ)) → cond (is_some o) o None ≡ o
where_some None = refl
where_some (Some bytes) = refl

module _ (files : Files) (current file : ℕ) (within : file ≤ current) where
  -- a body is named exactly where the volume has it
  names-body : names (filter (is_body_up_to current) (keys files)) (2 * file) ≡ is_some (get files (2 * file))
  names-body = any-filter_same (λ other. other == 2 * file) (is_body_up_to current) true (λ number is. own_body current file number within is) (keys files)
      ∙ same_any (λ other. other == 2 * file) (eq_by_cmp nat_cmp (2 * file)) (same_test (2 * file)) (keys files)
      ∙ sym (contains_key-keys files (2 * file))

  pub lent_whole : lent_bodies (lent_of (filter (is_body_up_to current) (keys files)) files) file ≡ lent_bodies files file
  lent_whole = ap bytes_in (get_lent (filter (is_body_up_to current) (keys files)) files (2 * file)
      ∙ ap (λ (b : Bool). cond b (get files (2 * file)) None) names-body
      ∙ where_some (get files (2 * file)))

-- ---- all that is lent

same_number : (x y : ℕ) → (x == y) ≡ true → x ≡ y
same_number x y is = grind (arith, nat_tests)

both_there : (b : Bool) (o : Option (List ℕ)) → cond (b && is_some o) o None ≡ cond b o None
both_there true o = where_some o
both_there false o = refl

module _ (current : ℕ) (files : Files) where
  abbrev list : List ℕ
  list = filter (is_body_up_to current) (keys files)

  names-listed : (number : ℕ) → names list number ≡ (is_body_up_to current number && is_some (get files number))
  names-listed number = any-filter_same (λ other. other == number) (is_body_up_to current) (is_body_up_to current number) (λ other is. ap (is_body_up_to current) (same_number other number is)) (keys files)
      ∙ ap (λ (b : Bool). is_body_up_to current number && b) (same_any (λ other. other == number) (eq_by_cmp nat_cmp number) (same_test number) (keys files) ∙ sym (contains_key-keys files number))

  -- what is lent is what the volume has up to there
  pub lent_up_to : lent_of list files ≡ bodies_up_to current files
  lent_up_to = same_files _ _ (λ number.
      get_lent list files number
      ∙ ap (λ (b : Bool). cond b (get files number) None) (names-listed number)
      ∙ both_there (is_body_up_to current number) (get files number)
      ∙ sym (get-retain_keys files (is_body_up_to current) number (λ x e. ap (is_body_up_to current) (sym (nat_cmp-IsAntisymmetric number x e)))))

  -- each of the bodies is there
  pub bodies_there : All (λ file. IsSome (get files file)) list
  bodies_there = All-filter (is_body_up_to current) (λ file. IsSome (get files file)) (keys files)
      (All-from_any (eq_by_cmp_equiv nat_cmp_total) (λ file. IsSome (get files file)) (keys files) (λ number is. contains_key-keys files number ∙ is))
