-- What folding a text keeps, and that folding twice is folding once.
use Rattle.std.proofs.Common.{◌≡◌, ℕ, ◌+◌, ◌/◌, ◌%◌, ◌<◌, ◌≤◌, Bool, true, false, not, cond, ◌&&◌, List, [], ◌∷◌, ◌++◌, map, refl, sym, ap, ◌∙◌, subst, arith, ltb, IsTrue, inl, inr, true≢false}
use Rattle.std.specs.Cmp.{first_so, second_so}
use Rattle.std.specs.Cmp.Derive.{both_true}
use Rattle.std.specs.Char.{to_ascii_lowercase}
use Rattle.std.specs.List.{list_all}
use Rattle.std.specs.Str.{IsUtf8, is_utf8}
use Rattle.std.proofs.lemmas.Bool.{cases_lt}
use Rattle.std.proofs.lemmas.Bool.Decides.{nat_tests}
use Rattle.std.proofs.lemmas.List.{map-append}
use Rattle.std.proofs.lemmas.Str.{encode_ascii, IsUtf8-from_is_utf8, is_utf8-from_IsUtf8}
use lib.Utf8.{scalar, scalars, encode, encodes, next, low_scalar}
use Rattle.xod_base.specs.Text.{is_control, is_text}
use Rattle.xod_base.specs.Values.{folded, folded_byte}

folded_byte_twice : (byte : ℕ) → folded_byte (folded_byte byte) ≡ folded_byte byte
folded_byte_twice byte = grind (arith, nat_tests)

pub folded_twice : (text : List ℕ) → folded (folded text) ≡ folded text
folded_twice [] = refl
folded_twice (byte ∷ bytes) = λ i. folded_byte_twice byte i ∷ folded_twice bytes i

-- ---- a folded text is a text

low : (byte : ℕ) → byte < 128 → folded_byte byte < 128
low byte h = grind (arith, nat_tests)

high : (byte : ℕ) → 128 ≤ byte → folded_byte byte ≡ byte
high byte h = grind (arith, nat_tests)

later : (bits : ℕ) → folded_byte (next bits) ≡ next bits
later bits = high (next bits) (omega arith)

-- the bytes of a character above ASCII stay, however many they are
kept_bytes : (c : ℕ) → 128 ≤ c → (a b d : Bool) → (bytes : List ℕ)
    → bytes ≡ cond a (c ∷ []) (cond b ((192 + c / 64) ∷ next c ∷ []) (cond d ((224 + c / 4096) ∷ next (c / 64) ∷ next c ∷ []) ((240 + c / 262144) ∷ next (c / 4096) ∷ next (c / 64) ∷ next c ∷ [])))
    → map folded_byte bytes ≡ bytes
kept_bytes c le true b d bytes is = ap folded is ∙ (λ i. high c le i ∷ []) ∙ sym is
kept_bytes c le false true d bytes is = ap folded is ∙ (λ i. high (192 + c / 64) (omega arith) i ∷ later c i ∷ []) ∙ sym is
kept_bytes c le false false true bytes is = ap folded is ∙ (λ i. high (224 + c / 4096) (omega arith) i ∷ later (c / 64) i ∷ later c i ∷ []) ∙ sym is
kept_bytes c le false false false bytes is = ap folded is ∙ (λ i. high (240 + c / 262144) (omega arith) i ∷ later (c / 4096) i ∷ later (c / 64) i ∷ later c i ∷ []) ∙ sym is

encode_is : (c : ℕ) → encode c ≡ cond (ltb c 128) (c ∷ []) (cond (ltb c 2048) ((192 + c / 64) ∷ next c ∷ []) (cond (ltb c 65536) ((224 + c / 4096) ∷ next (c / 64) ∷ next c ∷ []) ((240 + c / 262144) ∷ next (c / 4096) ∷ next (c / 64) ∷ next c ∷ [])))
unfolding encode
encode_is c = refl

folded_char : (c : ℕ) → folded (encode c) ≡ encode (folded_byte c)
folded_char c = elim (cases_lt c 128) [
  | inl lt ↦ ap folded (encode_ascii c lt) ∙ sym (encode_ascii (folded_byte c) (low c lt))
  | inr le ↦ kept_bytes c le (ltb c 128) (ltb c 2048) (ltb c 65536) (encode c) (encode_is c) ∙ ap encode (sym (high c le))
]

folded_scalar : (c : ℕ) → IsTrue (scalar c) → IsTrue (scalar (folded_byte c))
folded_scalar c h = elim (cases_lt c 128) [
  | inl lt ↦ let small : folded_byte c < 128 = low c lt in low_scalar (folded_byte c) (omega arith)
  | inr le ↦ ap scalar (high c le) ∙ h
]

folded_chars : (cs : List ℕ) → IsTrue (scalars cs) → IsTrue (scalars (folded cs)) × (encodes (folded cs) ≡ folded (encodes cs))
folded_chars [] h = (refl, refl)
folded_chars (c ∷ cs) h =
    let more = folded_chars cs (second_so (scalar c) (scalars cs) h) in (
      both_true (folded_scalar c (first_so (scalar c) (scalars cs) h)) more.0,
      (λ i. sym (folded_char c) i ++ more.1 i) ∙ sym (map-append folded_byte (encode c) (encodes cs)),
    )

folded_utf8 : (text : List ℕ) → IsUtf8 text → IsUtf8 (folded text)
folded_utf8 text h = let chars = folded_chars h.0 h.1.0 in (folded h.0, (chars.0, chars.1 ∙ ap folded h.1.1))

abbrev plain : ℕ → Bool
plain byte = not (is_control byte)

folded_plain : (byte : ℕ) → IsTrue (plain byte) → IsTrue (plain (folded_byte byte))
folded_plain byte h = grind (arith, nat_tests)

all_plain : (text : List ℕ) → IsTrue (list_all plain text) → IsTrue (list_all plain (folded text))
all_plain [] h = refl
all_plain (byte ∷ bytes) h = both_true (folded_plain byte (first_so (plain byte) (list_all plain bytes) h))
    (all_plain bytes (second_so (plain byte) (list_all plain bytes) h))

pub folded_text : (text : List ℕ) → IsTrue (is_text text) → IsTrue (is_text (folded text))
folded_text text h = both_true
    (is_utf8-from_IsUtf8 (folded text) (folded_utf8 text (IsUtf8-from_is_utf8 text (first_so (is_utf8 text) (list_all plain text) h))))
    (all_plain text (second_so (is_utf8 text) (list_all plain text) h))

lower_is : (byte : ℕ) → to_ascii_lowercase byte ≡ folded_byte byte
lower_is byte = grind (arith, nat_tests)

-- so a text in small letters is never refused
pub lowered : (text now bytes other : List ℕ) → IsTrue (is_text text) → now ≡ text → bytes ≡ map to_ascii_lowercase now → other ≡ bytes → is_text other ≡ false → ⊥
lowered text now bytes other h is low same refused =
    let other_is : other ≡ folded text = same ∙ low ∙ (λ i. map (λ byte. lower_is byte i) (is i)) in
    true≢false (sym (ap is_text other_is ∙ folded_text text h) ∙ refused)
