-- A volume's files by the list of their numbers.
use Rattle.std.proofs.Common.{◌≡◌, ◌<◌, ℕ, Bool, ◌||◌, eq-eqb, List, [], ◌∷◌, length, get_or, refl, sym, ap, ◌∙◌}
use Rattle.std.specs.Prelude.{◌==◌, is_some, IsSome}
use Rattle.std.specs.List.{list_any}
use Rattle.std.specs.Ordering.{nat_cmp, eq_by_cmp}
use Rattle.std.specs.Cmp.{eq_by_cmp_equiv, nat_cmp_total, unsigned_ties}
use Rattle.std.specs.FinMap.{get, keys, contains_key-keys}
use Rattle.std.proofs.lemmas.List.Folds.{list_any_at}
use Rattle.xod_volume.specs.Files.{Files}

listed_test : (file : ℕ) (numbers : List ℕ) → list_any (λ other. other == file) numbers ≡ list_any (eq_by_cmp nat_cmp file) numbers
listed_test file [] = refl
listed_test file (number ∷ numbers) =
    ap (λ (b : Bool). b || list_any (λ other. other == file) numbers) (unsigned_ties number file ∙ (eq_by_cmp_equiv nat_cmp_total).symm number file)
    ∙ ap (λ (b : Bool). eq_by_cmp nat_cmp file number || b) (listed_test file numbers)

-- the list of their numbers says which files are there
pub listed : (files : Files) (file : ℕ) (numbers : List ℕ) → numbers ≡ keys files → list_any (λ other. other == file) numbers ≡ is_some (get files file)
listed files file numbers is = listed_test file numbers ∙ ap (list_any (eq_by_cmp nat_cmp file)) is ∙ sym (contains_key-keys files file)

-- each number of the list is that of a file
pub listed_at : (files : Files) (numbers : List ℕ) (index : ℕ) → numbers ≡ keys files → index < length numbers → IsSome (get files (get_or numbers index 0))
listed_at files numbers index is lt =
    sym (listed files (get_or numbers index 0) numbers is) ∙ list_any_at (λ other. other == get_or numbers index 0) numbers index 0 lt (eq-eqb (get_or numbers index 0) (get_or numbers index 0) refl)
