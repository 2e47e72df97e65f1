-- Which words name a type, a property or a link, and which a session or a variable.
use Rattle.std.specs.Prelude.{ℕ, Bool, false, ◌&&◌, ◌||◌, List, [], ◌∷◌, length, nat_lt, nat_le, ◌==◌}
use Rattle.std.specs.List.{list_all}
use Rattle.xod_base.specs.declared.limits.TheConstants.{LONGEST_NAME, LONGEST_SESSION_NAME}

abbrev pub is_between : ℕ → ℕ → ℕ → Bool
is_between low high byte = nat_le low byte && nat_le byte high

abbrev pub is_digit : ℕ → Bool
is_digit byte = is_between 48 57 byte

abbrev pub is_lower : ℕ → Bool
is_lower byte = is_between 97 122 byte

-- an ASCII letter or `_`
abbrev pub is_name_start : ℕ → Bool
is_name_start byte = is_between 65 90 byte || is_lower byte || (byte == 95)

-- an ASCII letter, a digit or `_`
abbrev pub is_name_byte : ℕ → Bool
is_name_byte byte = is_name_start byte || is_digit byte

abbrev pub starts_name : List ℕ → Bool
starts_name [] = false
starts_name (byte ∷ bytes) = is_name_start byte

-- The name of a type, of a property or of a link: a letter or `_`, then letters, digits and `_`, at most 255 bytes.
unfoldable pub is_name_word : List ℕ → Bool
is_name_word word = starts_name word && list_all is_name_byte word && nat_le (length word) LONGEST_NAME

-- a small letter, a digit or `_`
abbrev pub is_session_byte : ℕ → Bool
is_session_byte byte = is_lower byte || is_digit byte || (byte == 95)

-- The name of a session: 1 to 32 small letters, digits and `_`. A variable is written as `$` and such a word.
unfoldable pub is_session_word : List ℕ → Bool
is_session_word word = list_all is_session_byte word && nat_lt 0 (length word) && nat_le (length word) LONGEST_SESSION_NAME
