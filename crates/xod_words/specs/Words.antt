-- Where the words of a line stand.
use Rattle.std.specs.Prelude.{ℕ, Bool, false, not, ◌&&◌, ◌||◌, List, [], ◌∷◌, ◌++◌, Option, Some, None, option_and_then, ◌==◌, if◌then◌else◌}
use Rattle.xod_base.specs.Values.{same_bytes}

infixl 10 ◌>>=◌
abbrev pub ◌>>=◌ : {A B : Type 0} → Option A → (A → Option B) → Option B
o >>= f = option_and_then f o

-- the bytes of a word
abbrev pub Word : Type 0
Word = List ℕ

-- a space or a tab
abbrev pub is_blank : ℕ → Bool
is_blank byte = (byte == 32) || (byte == 9)

unfoldable mutual
  -- The words of a line: they stand between blanks, and one that begins with a quote holds the blanks before its closing
  -- quote.
  pub words_of : List ℕ → List Word
  words_of [] = []
  words_of (byte ∷ bytes) =
      if is_blank byte then words_of bytes
      else if byte == 34 then text_on false (byte ∷ []) bytes
      else word_on (byte ∷ []) bytes

  -- the words of bytes that go on after the front of a word
  pub word_on : Word → List ℕ → List Word
  word_on front [] = front ∷ []
  word_on front (byte ∷ bytes) = if is_blank byte then front ∷ words_of bytes else word_on (front ++ byte ∷ []) bytes

  -- the same between the quotes of a text, where the byte before may be a `\` that has its meaning
  pub text_on : Bool → Word → List ℕ → List Word
  text_on escaped front [] = front ∷ []
  text_on escaped front (byte ∷ bytes) =
      if not escaped && (byte == 34) then word_on (front ++ byte ∷ []) bytes
      else text_on (not escaped && (byte == 92)) (front ++ byte ∷ []) bytes

abbrev pub is_word : Word → Word → Bool
is_word word keyword = same_bytes word keyword

abbrev pub begins_with : ℕ → Word → Bool
begins_with mark [] = false
begins_with mark (byte ∷ bytes) = byte == mark

-- ---- so many words and no more

unfoldable pub no_word : List Word → Option (Unit {0})
no_word [] = Some tt
no_word (first ∷ more) = None

unfoldable pub one_word : List Word → Option Word
one_word [] = None
one_word (first ∷ more) = no_word more >>= λ none. Some first

unfoldable pub two_words : List Word → Option (Word × Word)
two_words [] = None
two_words (first ∷ more) = one_word more >>= λ second. Some (first, second)

unfoldable pub three_words : List Word → Option (Word × Word × Word)
three_words [] = None
three_words (first ∷ more) = two_words more >>= λ others. Some (first, others.0, others.1)

-- ---- the first word, and the words behind it

-- what the first of the words gives, and the words behind it
abbrev pub first_of : {A : Type 0} → (Word → Option A) → List Word → Option (A × List Word)
first_of given [] = None
first_of given (word ∷ words) = given word >>= λ value. Some (value, words)
