-- Which words name a type, a property or a link, a session, and a variable.
use Rattle.std.specs.Prelude.{ℕ, List, [], ◌∷◌, Option, Some, None, ◌==◌, if◌then◌else◌}
use Rattle.xod_base.specs.Names.{is_name_word, is_session_word}
use Rattle.xod_words.specs.Words.{Word}

-- the name of a type, of a property or of a link
abbrev pub name_of : Word → Option (List ℕ)
name_of word = if is_name_word word then Some word else None

abbrev pub session_name_of : Word → Option (List ℕ)
session_name_of word = if is_session_word word then Some word else None

-- The name of a variable, which is written as `$` and the form of a session's name.
unfoldable pub variable_of : Word → Option (List ℕ)
variable_of [] = None
variable_of (byte ∷ bytes) = if byte == 36 then session_name_of bytes else None
