-- The keys of values stand in the order of the values.
use Rattle.std.proofs.Common.{◌≡◌, ℕ, zero, suc, ◌^◌, ◌<◌, true, false, not, ℤ, pos, negsuc, IsTrue, List, [], ◌∷◌, refl, sym, ◌∙◌, true≢false, arith, nat_cmp, int_cmp}
use Rattle.std.specs.Cmp.{second_so, first_so}
use Rattle.std.specs.List.{list_all}
use Rattle.std.specs.Str.{is_utf8}
use Rattle.std.proofs.lemmas.Bool.Decides.{nat_tests}
use Rattle.xod_base.specs.declared.value.Value.TheVariants.{Flag, Int, Text}
use Rattle.xod_base.specs.Text.{is_control, is_text}
use Rattle.xod_base.specs.Values.{biased, folded, folded_byte, is_int}
use Rattle.xod_base.specs.Laws.{KeysRiseAsValues}
use Rattle.xod_base.proofs.ByteOrder.{NoZero, be_bytes_cmp, ended_cmp}

-- ---- texts

-- 0 is a control character, and folding makes none
folded_byte_pos : (byte : ℕ) → not (is_control byte) ≡ true → 0 < folded_byte byte
folded_byte_pos zero h = absurd (true≢false (sym h))
folded_byte_pos (suc n) h = grind (arith, nat_tests)

folded_no_zero : (bytes : List ℕ) → list_all (λ byte. not (is_control byte)) bytes ≡ true → NoZero (folded bytes)
folded_no_zero [] h = tt
folded_no_zero (x ∷ xs) h = (folded_byte_pos x (first_so _ _ h), folded_no_zero xs (second_so _ _ h))

pub text_no_zero : (bytes : List ℕ) → IsTrue (is_text bytes) → NoZero (folded bytes)
text_no_zero bytes h = folded_no_zero bytes (second_so (is_utf8 bytes) (list_all (λ byte. not (is_control byte)) bytes) h)

-- ---- integers

pub biased_lt : (number : ℤ) → IsTrue (is_int number) → biased number < 2 ^ 64
biased_lt (pos n) h = grind (arith, nat_tests)
biased_lt (negsuc n) h = grind (arith, nat_tests)

biased_cmp : (a b : ℤ) → IsTrue (is_int a) → IsTrue (is_int b) → nat_cmp (biased a) (biased b) ≡ int_cmp a b
biased_cmp (pos a) (pos b) p q = grind (arith, nat_tests)
biased_cmp (pos a) (negsuc b) p q = grind (arith, nat_tests)
biased_cmp (negsuc a) (pos b) p q = grind (arith, nat_tests)
biased_cmp (negsuc a) (negsuc b) p q = grind (arith, nat_tests)

-- ---- all values

pub keys_rise : KeysRiseAsValues
keys_rise (Flag false) (Flag false) p q = refl
keys_rise (Flag false) (Flag true) p q = refl
keys_rise (Flag true) (Flag false) p q = refl
keys_rise (Flag true) (Flag true) p q = refl
keys_rise (Flag a) (Int b) p q = refl
keys_rise (Flag a) (Text b) p q = refl
keys_rise (Int a) (Flag b) p q = refl
keys_rise (Int a) (Int b) p q = be_bytes_cmp (biased a) (biased b) (biased_lt a p) (biased_lt b q) ∙ biased_cmp a b p q
keys_rise (Int a) (Text b) p q = refl
keys_rise (Text a) (Flag b) p q = refl
keys_rise (Text a) (Int b) p q = refl
keys_rise (Text a) (Text b) p q = ended_cmp (folded a) (folded b) (text_no_zero a p) (text_no_zero b q)
