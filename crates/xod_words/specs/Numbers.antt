-- Decimal numbers, integers and ids.
use Rattle.std.specs.Prelude.{ℕ, zero, suc, ◌+◌, ◌-◌, ◌*◌, ◌^◌, Bool, true, false, not, ◌&&◌, ℤ, pos, negsuc, List, [], ◌∷◌, take, drop, Option, Some, None, nat_lt, ◌==◌, if◌then◌else◌}
use Rattle.std.specs.List.{list_all, position_or_len}
use Rattle.xod_base.specs.declared.value.EntityId.{EntityId}
use Rattle.xod_base.specs.Names.{is_digit}
use Rattle.xod_words.specs.Words.{Word, ◌>>=◌}

-- the number whose decimal digits go on after n
abbrev pub number_after : ℕ → List ℕ → ℕ
number_after n [] = n
number_after n (digit ∷ digits) = number_after (10 * n + (digit - 48)) digits

-- one digit, or more of which the first is not 0
abbrev pub has_no_leading_zero : Word → Bool
has_no_leading_zero [] = false
has_no_leading_zero (digit ∷ []) = true
has_no_leading_zero (digit ∷ next ∷ digits) = not (digit == 48)

abbrev pub is_decimal : Word → Bool
is_decimal word = list_all is_digit word && has_no_leading_zero word

-- the number of decimal digits without leading zeros
unfoldable pub decimal_of : Word → Option ℕ
decimal_of word = if is_decimal word then Some (number_after 0 word) else None

abbrev pub when_counted : ℕ → Option ℕ
when_counted n = if nat_lt n (2 ^ 32) then Some n else None

-- A decimal number of 32 bits.
unfoldable pub count_of : Word → Option ℕ
count_of word = decimal_of word >>= when_counted

abbrev pub positive_of : ℕ → Option ℤ
positive_of n = if nat_lt n (2 ^ 63) then Some (pos n) else None

abbrev pub negative_of : ℕ → Option ℤ
negative_of zero = None
negative_of (suc n) = if nat_lt n (2 ^ 63) then Some (negsuc n) else None

-- the integer of digits alone, and of digits behind a `-`
unfoldable pub unsigned_of : Word → Option ℤ
unsigned_of digits = decimal_of digits >>= positive_of

unfoldable pub negated_of : Word → Option ℤ
negated_of digits = decimal_of digits >>= negative_of

-- An integer of 64 bits: an optional `-`, digits without leading zeros, and not `-0`.
unfoldable pub integer_of : Word → Option ℤ
integer_of [] = None
integer_of (byte ∷ bytes) = if byte == 45 then negated_of bytes else unsigned_of (byte ∷ bytes)

-- where the first `-` stands
abbrev pub dash_at : Word → ℕ
dash_at word = position_or_len (λ byte. byte == 45) word

-- a number, and what follows it from the `-` on
unfoldable pub id_from : Word → Word → Option EntityId
id_from kind [] = None
id_from kind (dash ∷ local) = do
  first ← count_of kind
  second ← count_of local
  Some (record { kind = first; local = second })

-- An id: two numbers with a `-` between them.
abbrev pub id_of : Word → Option EntityId
id_of word = id_from (take (dash_at word) word) (drop (dash_at word) word)
