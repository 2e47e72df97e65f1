-- Folding keeps a text a text, and folding twice is folding once.
use Rattle.std.proofs.Common.{◌≡◌, ℕ, zero, suc, ◌<◌, ◌≤◌, true, not, IsTrue, List, [], ◌∷◌, ◌++◌, length, get_or, refl, sym, subst, append-nil, arith, inl, inr}
use Rattle.std.specs.Char.{IsScalar}
use Rattle.std.specs.Cmp.{second_so, first_so}
use Rattle.std.specs.List.{list_all}
use Rattle.std.specs.Str.{IsAscii, IsUtf8, is_utf8}
use Rattle.std.proofs.Math.Utf8.{encode, encodes, scalars}
use Rattle.std.proofs.lemmas.Bool.{cases_lt}
use Rattle.std.proofs.lemmas.Bool.Decides.{nat_tests}
use Rattle.std.proofs.lemmas.List.{map-append}
use Rattle.std.proofs.lemmas.Str.{encode_ascii, inside_one, IsUtf8-append, IsUtf8-encode, IsUtf8-from_ascii, IsUtf8-from_is_utf8, IsUtf8-nil, is_utf8-from_IsUtf8}
use Rattle.xod_base.specs.declared.value.Value.{Value}
use Rattle.xod_base.specs.declared.value.Value.TheVariants.{Flag, Int, Text}
use Rattle.xod_base.specs.KeyTexts.{folded_value}
use Rattle.xod_base.specs.Text.{is_control, is_text}
use Rattle.xod_base.specs.Values.{folded, folded_byte, is_value, key_of}

folded_byte_again : (byte : ℕ) → folded_byte (folded_byte byte) ≡ folded_byte byte
folded_byte_again byte = grind (arith, nat_tests)

pub folded_again : (bytes : List ℕ) → folded (folded bytes) ≡ folded bytes
folded_again [] = refl
folded_again (x ∷ xs) = λ i. folded_byte_again x i ∷ folded_again xs i

-- ---- texts

low_byte : (byte : ℕ) → byte < 128 → folded_byte byte < 128
low_byte byte h = grind (arith, nat_tests)

high_byte : (byte : ℕ) → 128 ≤ byte → folded_byte byte ≡ byte
high_byte byte h = grind (arith, nat_tests)

high_bytes : (bytes : List ℕ) → ((k : ℕ) → k < length bytes → 128 ≤ get_or bytes k 0) → folded bytes ≡ bytes
high_bytes [] h = refl
high_bytes (x ∷ xs) h = λ i. high_byte x (h 0 (omega arith)) i ∷ high_bytes xs (λ k lt. h (suc k) (omega arith)) i

one_ascii : (byte : ℕ) → byte < 128 → IsAscii (byte ∷ [])
one_ascii byte h zero = h
one_ascii byte h (suc k) = omega arith

high_each : (c k : ℕ) → 128 ≤ c → k < length (encode c) → 128 ≤ get_or (encode c) k 0
high_each c k le within = elim (cases_lt (get_or (encode c) k 0) 128) [
  | inl low ↦ let is : c ≡ get_or (encode c) k 0 = inside_one c [] (encode c) k (sym (append-nil (encode c))) within low in absurd (omega (arith, is))
  | inr high ↦ high
]

-- an ASCII character is one byte, and another one has no byte that folding changes
folded_char : (c : ℕ) → IsScalar c → IsUtf8 (folded (encode c))
folded_char c is = elim (cases_lt c 128) [
  | inl low ↦ rw (encode_ascii c low) (IsUtf8-from_ascii (folded_byte c ∷ []) (one_ascii (folded_byte c) (low_byte c low)))
  | inr high ↦ rw (high_bytes (encode c) (λ k within. high_each c k high within)) (IsUtf8-encode c is)
]

folded_chars : (cs : List ℕ) → scalars cs ≡ true → IsUtf8 (folded (encodes cs))
folded_chars [] h = IsUtf8-nil
folded_chars (c ∷ cs) h = rw (map-append folded_byte (encode c) (encodes cs))
    (IsUtf8-append (folded (encode c)) (folded (encodes cs)) (folded_char c (first_so _ _ h)) (folded_chars cs (second_so _ _ h)))

folded_utf8 : (bytes : List ℕ) → is_utf8 bytes ≡ true → is_utf8 (folded bytes) ≡ true
folded_utf8 bytes h =
    let is = IsUtf8-from_is_utf8 bytes h in
    is_utf8-from_IsUtf8 (folded bytes) (subst (λ (l : List ℕ). IsUtf8 (folded l)) is.1.1 (folded_chars is.0 is.1.0))

folded_byte_control : (byte : ℕ) → not (is_control byte) ≡ true → not (is_control (folded_byte byte)) ≡ true
folded_byte_control byte h = grind (arith, nat_tests)

folded_control : (bytes : List ℕ) → list_all (λ byte. not (is_control byte)) bytes ≡ true → list_all (λ byte. not (is_control byte)) (folded bytes) ≡ true
folded_control [] h = refl
folded_control (x ∷ xs) h = rw (folded_byte_control x (first_so _ _ h)) (folded_control xs (second_so _ _ h))

pub folded_text : (bytes : List ℕ) → IsTrue (is_text bytes) → IsTrue (is_text (folded bytes))
folded_text bytes h = rw (folded_utf8 bytes (first_so (is_utf8 bytes) (list_all (λ byte. not (is_control byte)) bytes) h))
    (folded_control bytes (second_so (is_utf8 bytes) (list_all (λ byte. not (is_control byte)) bytes) h))

-- ---- values

pub folded_valid : (value : Value) → IsTrue (is_value value) → IsTrue (is_value (folded_value value))
folded_valid (Flag flag) h = h
folded_valid (Int number) h = h
folded_valid (Text text) h = folded_text text h

pub folded_value_again : (value : Value) → folded_value (folded_value value) ≡ folded_value value
folded_value_again (Flag flag) = refl
folded_value_again (Int number) = refl
folded_value_again (Text text) = λ i. Text (folded_again text i)

pub key_of_folded : (value : Value) → key_of (folded_value value) ≡ key_of value
key_of_folded (Flag flag) = refl
key_of_folded (Int number) = refl
key_of_folded (Text text) = λ i. (3 ∷ folded_again text i) ++ 0 ∷ []
