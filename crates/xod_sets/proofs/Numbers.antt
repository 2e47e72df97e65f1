-- The order of ids is the order of the numbers that stand for them.
use Rattle.std.proofs.Common.{◌≡◌, ℕ, ◌<◌, ◌/◌, ◌%◌, ◌^◌, refl, arith, nat_cmp, Ordering, Less, Equal, Greater}
use Rattle.std.specs.Ordering.{ordering_then}
use Rattle.std.specs.Cmp.{ranked, nat_cmp_is}
use Rattle.xod_base.specs.Ids.{id_of_number}
use Rattle.xod_base.specs.Rows.{id_cmp}

-- the high parts of two numbers decide, and where they are the same the low parts do
by_parts : (n m : ℕ) (high low : Ordering) → high ≡ nat_cmp (n / 2 ^ 32) (m / 2 ^ 32) → low ≡ nat_cmp (n % 2 ^ 32) (m % 2 ^ 32)
    → ordering_then high (ordering_then low Equal) ≡ nat_cmp n m
by_parts n m Less low e f = let lt : n / 2 ^ 32 < m / 2 ^ 32 = ranked _ _ Less e in nat_cmp_is n m Less (omega arith)
by_parts n m Greater low e f = let lt : m / 2 ^ 32 < n / 2 ^ 32 = ranked _ _ Greater e in nat_cmp_is n m Greater (omega arith)
by_parts n m Equal Less e f = let is : n / 2 ^ 32 ≡ m / 2 ^ 32 = ranked _ _ Equal e in let lt : n % 2 ^ 32 < m % 2 ^ 32 = ranked _ _ Less f in nat_cmp_is n m Less (omega arith)
by_parts n m Equal Equal e f = let is : n / 2 ^ 32 ≡ m / 2 ^ 32 = ranked _ _ Equal e in let same : n % 2 ^ 32 ≡ m % 2 ^ 32 = ranked _ _ Equal f in nat_cmp_is n m Equal (omega arith)
by_parts n m Equal Greater e f = let is : n / 2 ^ 32 ≡ m / 2 ^ 32 = ranked _ _ Equal e in let lt : m % 2 ^ 32 < n % 2 ^ 32 = ranked _ _ Greater f in nat_cmp_is n m Greater (omega arith)

pub cmp_of_numbers : (n m : ℕ) → id_cmp (id_of_number n) (id_of_number m) ≡ nat_cmp n m
cmp_of_numbers n m = by_parts n m _ _ refl refl
