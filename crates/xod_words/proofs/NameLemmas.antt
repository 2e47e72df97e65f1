-- The words that are names are texts.
use Rattle.std.proofs.Common.{◌≡◌, ℕ, ◌<◌, Bool, true, not, List, [], ◌∷◌, refl, arith}
use Rattle.std.specs.List.{list_all}
use Rattle.std.specs.Str.{IsAscii}
use Rattle.std.proofs.lemmas.Bool.{and_parts, and_from}
use Rattle.std.proofs.lemmas.Bool.Decides.{nat_tests}
use Rattle.std.proofs.lemmas.Str.{IsUtf8-from_ascii, is_utf8-from_IsUtf8}
use Rattle.std.proofs.lemmas.Str.Ascii.{IsAscii-nil, IsAscii-cons}
use Rattle.xod_base.specs.Names.{is_name_byte, is_name_word, is_session_byte, is_session_word}
use Rattle.xod_base.specs.Text.{is_control, is_text}

-- a byte below 128 that is no control character
abbrev IsPlain : ℕ → Type 0
IsPlain byte = (byte < 128) × (not (is_control byte) ≡ true)

plain_bytes : (test : ℕ → Bool) → ((byte : ℕ) → test byte ≡ true → IsPlain byte) → (xs : List ℕ) → list_all test xs ≡ true
    → IsAscii xs × (list_all (λ byte. not (is_control byte)) xs ≡ true)
plain_bytes test plain [] all = (IsAscii-nil, refl)
plain_bytes test plain (x ∷ xs) all =
    let parts = and_parts (test x) (list_all test xs) all in
    let first = plain x parts.0 in
    let more = plain_bytes test plain xs parts.1 in
    (IsAscii-cons x xs first.0 more.0, and_from _ _ first.1 more.1)

-- bytes that are all plain are a text
plain_text : (test : ℕ → Bool) → ((byte : ℕ) → test byte ≡ true → IsPlain byte) → (xs : List ℕ) → list_all test xs ≡ true → is_text xs ≡ true
plain_text test plain xs all =
    let both = plain_bytes test plain xs all in
    and_from _ _ (is_utf8-from_IsUtf8 xs (IsUtf8-from_ascii xs both.0)) both.1

name_byte_plain : (byte : ℕ) → is_name_byte byte ≡ true → IsPlain byte
name_byte_plain byte test = grind (arith, nat_tests)

session_byte_plain : (byte : ℕ) → is_session_byte byte ≡ true → IsPlain byte
session_byte_plain byte test = grind (arith, nat_tests)

-- the names of types, properties and sessions are texts
pub is_text-name : (word : List ℕ) → is_name_word word ≡ true → is_text word ≡ true
unfolding is_name_word
is_text-name word test =
    let parts = and_parts _ _ test in
    plain_text is_name_byte name_byte_plain word ((and_parts _ _ parts.0).1)

pub is_text-session : (word : List ℕ) → is_session_word word ≡ true → is_text word ≡ true
unfolding is_session_word
is_text-session word test =
    let parts = and_parts _ _ test in
    plain_text is_session_byte session_byte_plain word ((and_parts _ _ parts.0).0)
