-- The words of a query's text, one after the other.
use Rattle.std.proofs.Common.{◌≡◌, ℕ, suc, ◌^◌, ◌<◌, ◌==◌, Bool, true, false, not, ◌&&◌, ◌||◌, cond, codes, ℤ, pos, negsuc, List, [], ◌∷◌, ◌++◌, length, Some, nat_lt, refl, ap, sym, ◌∙◌, arith, append_assoc}
use Rattle.std.specs.List.{list_all, flat_map}
use Rattle.std.specs.Fmt.{decimal, signed_decimal}
use Rattle.std.proofs.lemmas.Bool.{and_parts, and_from}
use Rattle.std.proofs.lemmas.Bool.Decides.{nat_tests}
use Rattle.std.proofs.lemmas.Fmt.{decimal_nonempty}
use Rattle.std.proofs.lemmas.List.{append-nil}
use Rattle.std.proofs.lemmas.List.Folds.{list_all-append}
use Rattle.xod_base.specs.declared.value.EntityId.{EntityId}
use Rattle.xod_base.specs.declared.value.Value.{Value}
use Rattle.xod_base.specs.declared.value.Value.TheVariants.{Flag, Int, Text}
use Rattle.xod_base.specs.declared.query.Direction.{Direction}
use Rattle.xod_base.specs.declared.query.Direction.TheVariants.{Up, Down}
use Rattle.xod_base.specs.Names.{is_digit, starts_name, is_name_byte, is_name_word}
use Rattle.xod_base.specs.Queries.{is_id}
use Rattle.xod_base.specs.QueryTexts.{id_text, escaped_byte, quoted, value_text, direction_text}
use Rattle.xod_base.specs.Text.{is_text}
use Rattle.xod_base.specs.Values.{is_int, is_value}
use Rattle.xod_words.specs.Words.{Word, ◌>>=◌, is_blank, words_of, word_on, text_on, is_word, begins_with}
use Rattle.xod_words.specs.Names.{name_of}
use Rattle.xod_words.specs.Values.{ahead, unescaped, when_text, text_of, value_of, ent_of}
use Rattle.xod_words.specs.Fronts.{direction_of}
use Rattle.xod_words.specs.declared.draft.Ent.TheVariants.{Id}
use Rattle.xod_words.proofs.NumbersBack.{decimal_digits, integer_back, id_back}

-- ---- bytes that are one word, whatever stands behind them

-- nothing, or a blank
abbrev pub ends_word : List ℕ → Bool
ends_word [] = true
ends_word (byte ∷ bytes) = is_blank byte

pub record OneWord (word : Word) : Type 0 where
  pub cut : (rest : List ℕ) → ends_word rest ≡ true → words_of (word ++ rest) ≡ word ∷ words_of rest

-- a word, a space and more
pub word_then : (word : Word) → OneWord word → (more : List ℕ) → words_of (word ++ 32 ∷ more) ≡ word ∷ words_of more
unfolding words_of
word_then word one more = one.cut (32 ∷ more) refl

pub blank_first : (more : List ℕ) → words_of (32 ∷ more) ≡ words_of more
unfolding words_of
blank_first more = refl

word_on-ends : (front : Word) (rest : List ℕ) → ends_word rest ≡ true → word_on front rest ≡ front ∷ words_of rest
unfolding words_of
word_on-ends front [] ends = refl
word_on-ends front (byte ∷ rest) ends = rw ends refl

-- no blank and no quote
abbrev is_plain : ℕ → Bool
is_plain byte = not (is_blank byte) && not (byte == 34)

not_is : {b : Bool} → not b ≡ true → b ≡ false
not_is {b = true} e = absurd (cc)
not_is {b = false} e = refl

word_on-plain : (word front : Word) (rest : List ℕ) → list_all is_plain word ≡ true → ends_word rest ≡ true
    → word_on front (word ++ rest) ≡ (front ++ word) ∷ words_of rest
unfolding words_of
word_on-plain [] front rest all ends = word_on-ends front rest ends ∙ ap (λ word. word ∷ words_of rest) (sym (append-nil front))
word_on-plain (byte ∷ word) front rest all ends =
    let parts = and_parts _ _ all in
    let here = and_parts (not (is_blank byte)) _ parts.0 in
    rw (not_is here.0) (word_on-plain word (front ++ byte ∷ []) rest parts.1 ends ∙ ap (λ word. word ∷ words_of rest) (append_assoc front (byte ∷ []) word))

pub plain_word : (word : Word) → 0 < length word → list_all is_plain word ≡ true → OneWord word
unfolding words_of
plain_word [] some all = absurd (omega (arith, some))
plain_word (byte ∷ word) some all =
    let parts = and_parts _ _ all in
    let here = and_parts (not (is_blank byte)) _ parts.0 in
    record { cut = λ rest ends. rw (not_is here.0, not_is here.1) (word_on-plain word (byte ∷ []) rest parts.1 ends) }

or_parts : (a b : Bool) → (a || b) ≡ false → (a ≡ false) × (b ≡ false)
or_parts true b e = absurd (cc)
or_parts false b e = (refl, e)

all_plain : (test : ℕ → Bool) → ((byte : ℕ) → test byte ≡ true → is_plain byte ≡ true) → (word : Word) → list_all test word ≡ true → list_all is_plain word ≡ true
all_plain test plain [] all = refl
all_plain test plain (byte ∷ word) all = let parts = and_parts (test byte) _ all in and_from _ _ (plain byte parts.0) (all_plain test plain word parts.1)

-- ---- names, numbers and ids

name_byte_plain : (byte : ℕ) → is_name_byte byte ≡ true → is_plain byte ≡ true
name_byte_plain byte test = grind (arith, nat_tests)

digit_plain : (byte : ℕ) → is_digit byte ≡ true → is_plain byte ≡ true
digit_plain byte test = grind (arith, nat_tests)

some_bytes : (word : Word) → starts_name word ≡ true → 0 < length word
some_bytes [] h = absurd (cc)
some_bytes (byte ∷ bytes) h = omega arith

pub name_word : (name : List ℕ) → is_name_word name ≡ true → OneWord name
unfolding is_name_word
name_word name h =
    let parts = and_parts (starts_name name && list_all is_name_byte name) _ h in
    let first = and_parts (starts_name name) _ parts.0 in
    plain_word name (some_bytes name first.0) (all_plain is_name_byte name_byte_plain name first.1)

pub name_back : (name : List ℕ) → is_name_word name ≡ true → name_of name ≡ Some name
name_back name h = rw h refl

decimal_plain : (n : ℕ) → n < 2 ^ 64 → list_all is_plain (decimal n) ≡ true
decimal_plain n h = all_plain is_digit digit_plain (decimal n) (decimal_digits n h)

pub count_word : (n : ℕ) → nat_lt n (2 ^ 32) ≡ true → OneWord (decimal n)
count_word n h =
    let small : n < 2 ^ 64 = grind (arith, nat_tests, h) in
    plain_word (decimal n) (decimal_nonempty n small) (decimal_plain n small)

longer : (xs ys : List ℕ) → 0 < length xs → 0 < length (xs ++ ys)
longer [] ys some = absurd (omega (arith, some))
longer (x ∷ xs) ys some = omega arith

pub id_word : (id : EntityId) → is_id id ≡ true → OneWord (id_text id)
id_word id h =
    let parts = and_parts (nat_lt id.kind (2 ^ 32)) _ h in
    let kind : id.kind < 2 ^ 64 = grind (arith, nat_tests, parts.0) in
    let local : id.local < 2 ^ 64 = grind (arith, nat_tests, parts.1) in
    plain_word (id_text id) (longer (decimal id.kind) (45 ∷ decimal id.local) (decimal_nonempty id.kind kind))
    (list_all-append is_plain (decimal id.kind) (45 ∷ decimal id.local) ∙ and_from _ _ (decimal_plain id.kind kind) (decimal_plain id.local local))

id_first : (kind local : List ℕ) → list_all is_digit kind ≡ true → begins_with 36 (kind ++ 45 ∷ local) ≡ false
id_first [] local all = refl
id_first (d ∷ kind) local all = let digit = (and_parts (is_digit d) _ all).0 in grind (arith, nat_tests, digit)

pub ent_back : (id : EntityId) → is_id id ≡ true → ent_of (id_text id) ≡ Some (Id id)
unfolding ent_of
ent_back id h =
    let parts = and_parts (nat_lt id.kind (2 ^ 32)) _ h in
    let kind : id.kind < 2 ^ 64 = grind (arith, nat_tests, parts.0) in
    rw (id_first (decimal id.kind) (decimal id.local) (decimal_digits id.kind kind), id_back id h) refl

-- ---- texts

-- a byte of a text, behind a `\` where it has to be
text_on-byte : (byte : ℕ) (front : Word) (more : List ℕ) → text_on false front (escaped_byte byte ++ more) ≡ text_on false (front ++ escaped_byte byte) more
unfolding words_of
text_on-byte byte front more =
    (elim ((byte == 34) || (byte == 92)) as (λ b. ((byte == 34) || (byte == 92)) ≡ b
    → text_on false front (cond b (92 ∷ byte ∷ []) (byte ∷ []) ++ more) ≡ text_on false (front ++ cond b (92 ∷ byte ∷ []) (byte ∷ [])) more) [
      | true ↦ λ special. ap (λ word. text_on false word more) (append_assoc front (92 ∷ []) (byte ∷ []))
      | false ↦ λ special.
          let other = or_parts (byte == 34) (byte == 92) special in
          rw (other.0, other.1) refl
    ]) refl

text_on-bytes : (text : List ℕ) (front : Word) (more : List ℕ)
    → text_on false front (flat_map escaped_byte text ++ more) ≡ text_on false (front ++ flat_map escaped_byte text) more
text_on-bytes [] front more = ap (λ word. text_on false word more) (sym (append-nil front))
text_on-bytes (byte ∷ text) front more =
    ap (text_on false front) (append_assoc (escaped_byte byte) (flat_map escaped_byte text) more)
    ∙ text_on-byte byte front (flat_map escaped_byte text ++ more)
    ∙ text_on-bytes text (front ++ escaped_byte byte) more
    ∙ ap (λ word. text_on false word more) (append_assoc front (escaped_byte byte) (flat_map escaped_byte text))

pub quoted_word : (text : List ℕ) → OneWord (quoted text)
unfolding words_of
quoted_word text = record {
  cut = λ rest ends.
      ap (text_on false (34 ∷ [])) (append_assoc (flat_map escaped_byte text) (34 ∷ []) rest)
      ∙ text_on-bytes text (34 ∷ []) (34 ∷ rest)
      ∙ word_on-ends (34 ∷ (flat_map escaped_byte text ++ 34 ∷ [])) rest ends;
}

unescaped-byte : (byte : ℕ) (more : List ℕ) → unescaped false (escaped_byte byte ++ more) ≡ ahead (byte ∷ []) (unescaped false more)
unfolding unescaped
unescaped-byte byte more =
    (elim ((byte == 34) || (byte == 92)) as (λ b. ((byte == 34) || (byte == 92)) ≡ b
    → unescaped false (cond b (92 ∷ byte ∷ []) (byte ∷ []) ++ more) ≡ ahead (byte ∷ []) (unescaped false more)) [
      | true ↦ λ special. rw special refl
      | false ↦ λ special.
          let other = or_parts (byte == 34) (byte == 92) special in
          rw (other.0, other.1) refl
    ]) refl

unescaped-bytes : (text : List ℕ) → unescaped false (flat_map escaped_byte text ++ 34 ∷ []) ≡ Some text
unfolding unescaped
unescaped-bytes [] = refl
unescaped-bytes (byte ∷ text) =
    ap (unescaped false) (append_assoc (escaped_byte byte) (flat_map escaped_byte text) (34 ∷ []))
    ∙ unescaped-byte byte (flat_map escaped_byte text ++ 34 ∷ [])
    ∙ ap (ahead (byte ∷ [])) (unescaped-bytes text)

pub text_back : (text : List ℕ) → is_text text ≡ true → text_of (quoted text) ≡ Some text
unfolding text_of
text_back text h = ap (λ o. o >>= when_text) (unescaped-bytes text) ∙ rw h refl

-- ---- values and directions

digits_first : (ds : List ℕ) → list_all is_digit ds ≡ true → 0 < length ds
    → (is_word ds (codes "true") ≡ false) × (is_word ds (codes "false") ≡ false) × (begins_with 34 ds ≡ false)
digits_first [] all some = absurd (omega (arith, some))
digits_first (d ∷ ds) all some =
    let digit = (and_parts (is_digit d) _ all).0 in
    let t : (d == 116) ≡ false = grind (arith, nat_tests, digit) in
    let f : (d == 102) ≡ false = grind (arith, nat_tests, digit) in
    let q : (d == 34) ≡ false = grind (arith, nat_tests, digit) in
    (rw t refl, rw f refl, q)

signed_first : (number : ℤ) → is_int number ≡ true
    → (is_word (signed_decimal number) (codes "true") ≡ false) × (is_word (signed_decimal number) (codes "false") ≡ false) × (begins_with 34 (signed_decimal number) ≡ false)
signed_first (pos n) h =
    let small : n < 2 ^ 64 = grind (arith, nat_tests, h) in
    digits_first (decimal n) (decimal_digits n small) (decimal_nonempty n small)
signed_first (negsuc n) h = (refl, refl, refl)

pub value_back : (value : Value) → is_value value ≡ true → value_of (value_text value) ≡ Some value
unfolding value_of
value_back (Flag true) h = refl
value_back (Flag false) h = refl
value_back (Int number) h =
    let first = signed_first number h in
    rw (first.0, first.1, first.2, integer_back number h) refl
value_back (Text text) h = rw (text_back text h) refl

pub value_word : (value : Value) → is_value value ≡ true → OneWord (value_text value)
value_word (Flag true) h = plain_word (codes "true") (omega arith) refl
value_word (Flag false) h = plain_word (codes "false") (omega arith) refl
value_word (Int (pos n)) h =
    let small : n < 2 ^ 64 = grind (arith, nat_tests, h) in
    plain_word (decimal n) (decimal_nonempty n small) (decimal_plain n small)
value_word (Int (negsuc n)) h =
    let small : suc n < 2 ^ 64 = grind (arith, nat_tests, h) in
    plain_word (45 ∷ decimal (suc n)) (omega arith) (decimal_plain (suc n) small)
value_word (Text text) h = quoted_word text

pub direction_back : (direction : Direction) → direction_of (direction_text direction) ≡ Some direction
unfolding direction_of
direction_back Up = refl
direction_back Down = refl

pub direction_word : (direction : Direction) → OneWord (direction_text direction)
direction_word Up = plain_word (codes "up") (omega arith) refl
direction_word Down = plain_word (codes "down") (omega arith) refl
