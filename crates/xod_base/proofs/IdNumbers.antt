-- Numbers and ids stand for each other.
use Rattle.std.proofs.Common.{◌≡◌, ℕ, List, [], ◌∷◌, map, refl}
use native.Mathlib.Omega.{arith}
use Rattle.xod_base.specs.Ids.{id_of_number, number_of_id}

pub number_back : (n : ℕ) → number_of_id (id_of_number n) ≡ n
number_back n = omega arith

pub numbers_back : (ns : List ℕ) → map number_of_id (map id_of_number ns) ≡ ns
numbers_back [] = refl
numbers_back (n ∷ ns) = λ i. number_back n i ∷ numbers_back ns i
