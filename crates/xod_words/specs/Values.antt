-- Texts, values, and how a statement names an entity.
use Rattle.std.specs.Prelude.{ℕ, Bool, true, false, ◌||◌, List, [], ◌∷◌, ◌++◌, Option, Some, None, ◌==◌, if◌then◌else◌, codes}
use Rattle.xod_base.specs.Text.{is_text}
use Rattle.xod_base.specs.declared.value.Value.{Value}
use Rattle.xod_base.specs.declared.value.Value.TheVariants.{Flag, Int, Text}
use Rattle.xod_words.specs.Words.{Word, ◌>>=◌, is_word, begins_with}
use Rattle.xod_words.specs.Names.{variable_of}
use Rattle.xod_words.specs.Numbers.{id_of, integer_of}
use Rattle.xod_words.specs.declared.draft.Ent.{Ent}
use Rattle.xod_words.specs.declared.draft.Ent.TheVariants.{Id, Var}

-- bytes before those of a text
abbrev pub ahead : List ℕ → Option (List ℕ) → Option (List ℕ)
ahead front more = more >>= λ bytes. Some (front ++ bytes)

-- a quote or a `\`, which stand in a text behind a `\` alone
abbrev pub is_special : ℕ → Bool
is_special byte = (byte == 34) || (byte == 92)

-- nothing more
abbrev pub closed : List ℕ → Option (List ℕ)
closed [] = Some []
closed (byte ∷ bytes) = None

-- The bytes of a text, from those behind its opening quote to its closing quote, which is the last; a first one may
-- stand behind a `\`.
unfoldable pub unescaped : Bool → List ℕ → Option (List ℕ)
unescaped escaped [] = None
unescaped true (byte ∷ bytes) = if is_special byte then ahead (byte ∷ []) (unescaped false bytes) else None
unescaped false (byte ∷ bytes) =
    if byte == 34 then closed bytes
    else if byte == 92 then unescaped true bytes
    else ahead (byte ∷ []) (unescaped false bytes)

abbrev pub when_text : List ℕ → Option (List ℕ)
when_text bytes = if is_text bytes then Some bytes else None

-- A text: a quote, characters, and a quote.
unfoldable pub text_of : Word → Option (List ℕ)
text_of [] = None
text_of (byte ∷ bytes) = if byte == 34 then (unescaped false bytes >>= when_text) else None

-- A value: `true`, `false`, a text or an integer.
unfoldable pub value_of : Word → Option Value
value_of word =
    if is_word word (codes "true") then Some (Flag true)
    else if is_word word (codes "false") then Some (Flag false)
    else if begins_with 34 word then (text_of word >>= λ text. Some (Text text))
    else (integer_of word >>= λ number. Some (Int number))

-- An entity: a variable or an id.
unfoldable pub ent_of : Word → Option Ent
ent_of word =
    if begins_with 36 word then (variable_of word >>= λ var. Some (Var var))
    else (id_of word >>= λ id. Some (Id id))
