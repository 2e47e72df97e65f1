-- A number only grows with the digits behind it.
use Rattle.std.proofs.Common.{ℕ, suc, ◌+◌, ◌-◌, ◌*◌, ◌<◌, ◌≤◌, List, [], ◌∷◌, length, get_or, drop, drop-cons, arith}
use Rattle.xod_words.specs.Numbers.{number_after}

number_grows : (digits : List ℕ) (n : ℕ) → n ≤ number_after n digits
number_grows [] n = omega arith
number_grows (digit ∷ digits) n = omega (arith, number_grows digits (10 * n + (digit - 48)))

-- the number with the digit at a place is no greater than the whole
pub number_past : (n i : ℕ) (digits : List ℕ) → i < length digits
    → 10 * n + (get_or digits i 0 - 48) ≤ number_after n (drop i digits)
number_past n i digits lt =
    rw (drop-cons digits i 0 lt) (number_grows (drop (suc i) digits) (10 * n + (get_or digits i 0 - 48)))
