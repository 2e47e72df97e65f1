-- What holds of each name, number, text, value and entity that is read.
use Rattle.std.proofs.Common.{◌≡◌, ℕ, zero, suc, ◌^◌, ◌==◌, true, false, codes, ℤ, pos, negsuc, List, [], ◌∷◌, None, refl, nat_lt}
use Rattle.std.proofs.lemmas.Bool.{and_from}
use Rattle.xod_base.specs.declared.value.EntityId.{EntityId}
use Rattle.xod_base.specs.declared.value.Value.{Value}
use Rattle.xod_base.specs.declared.value.Value.TheVariants.{Flag, Int, Text}
use Rattle.xod_base.specs.Names.{is_name_word, is_session_word}
use Rattle.xod_base.specs.Queries.{is_id}
use Rattle.xod_base.specs.Text.{is_text}
use Rattle.xod_base.specs.Values.{is_int, is_value}
use Rattle.xod_words.specs.Words.{Word, is_word, begins_with}
use Rattle.xod_words.specs.Names.{name_of, session_name_of, variable_of}
use Rattle.xod_words.specs.Numbers.{count_of, decimal_of, id_from, id_of, integer_of, negated_of, negative_of, positive_of, unsigned_of, when_counted}
use Rattle.xod_words.specs.Values.{ent_of, text_of, unescaped, value_of, when_text}
use Rattle.xod_words.specs.Fronts.{placed}
use Rattle.xod_words.specs.Drafts.{is_ent}
use Rattle.xod_words.specs.declared.draft.Ent.{Ent}
use Rattle.xod_words.specs.declared.draft.Ent.TheVariants.{Id, Var}
use Rattle.xod_words.proofs.Gives.{Gives, none_gives, some_gives, choice_gives, when_gives, then_gives, after}

abbrev pub Named : List ℕ → Type 0
Named name = is_name_word name ≡ true

pub name_gives : (word : Word) → Gives Named (name_of word)
name_gives word = when_gives Named (is_name_word word) word (λ h. h)

abbrev pub SessionNamed : List ℕ → Type 0
SessionNamed name = is_session_word name ≡ true

pub session_name_gives : (word : Word) → Gives SessionNamed (session_name_of word)
session_name_gives word = when_gives SessionNamed (is_session_word word) word (λ h. h)

pub variable_gives : (word : Word) → Gives SessionNamed (variable_of word)
unfolding variable_of
variable_gives [] = none_gives SessionNamed
variable_gives (byte ∷ bytes) = choice_gives SessionNamed (byte == 36) _ None (session_name_gives bytes) (none_gives SessionNamed)

abbrev pub Counted : ℕ → Type 0
Counted n = nat_lt n (2 ^ 32) ≡ true

pub count_gives : (word : Word) → Gives Counted (count_of word)
unfolding count_of
count_gives word = after Counted (decimal_of word) when_counted (λ n. when_gives Counted (nat_lt n (2 ^ 32)) n (λ h. h))

abbrev IsInt : ℤ → Type 0
IsInt number = is_int number ≡ true

positive_gives : (n : ℕ) → Gives IsInt (positive_of n)
positive_gives n = when_gives IsInt (nat_lt n (2 ^ 63)) (pos n) (λ h. h)

negative_gives : (n : ℕ) → Gives IsInt (negative_of n)
negative_gives zero = none_gives IsInt
negative_gives (suc n) = when_gives IsInt (nat_lt n (2 ^ 63)) (negsuc n) (λ h. h)

integer_gives : (word : Word) → Gives IsInt (integer_of word)
unfolding integer_of negated_of unsigned_of
integer_gives [] = none_gives IsInt
integer_gives (byte ∷ bytes) =
    choice_gives IsInt (byte == 45) _ _ (after IsInt (decimal_of bytes) negative_of negative_gives) (after IsInt (decimal_of (byte ∷ bytes)) positive_of positive_gives)

abbrev pub IsText : List ℕ → Type 0
IsText text = is_text text ≡ true

pub text_gives : (word : Word) → Gives IsText (text_of word)
unfolding text_of
text_gives [] = none_gives IsText
text_gives (byte ∷ bytes) =
    choice_gives IsText (byte == 34) _ None (after IsText (unescaped false bytes) when_text (λ text. when_gives IsText (is_text text) text (λ h. h))) (none_gives IsText)

abbrev pub Valued : Value → Type 0
Valued value = is_value value ≡ true

pub value_gives : (word : Word) → Gives Valued (value_of word)
unfolding value_of
value_gives word =
    choice_gives Valued (is_word word (codes "true")) _ _ (some_gives Valued (Flag true) refl)
    (choice_gives Valued (is_word word (codes "false")) _ _ (some_gives Valued (Flag false) refl)
    (choice_gives Valued (begins_with 34 word) _ _
    (then_gives IsText Valued (text_of word) _ (text_gives word) (λ text h. some_gives Valued (Text text) h))
    (then_gives IsInt Valued (integer_of word) _ (integer_gives word) (λ number h. some_gives Valued (Int number) h))))

abbrev IsId : EntityId → Type 0
IsId id = is_id id ≡ true

id_from_gives : (kind rest : Word) → Gives IsId (id_from kind rest)
unfolding id_from
id_from_gives kind [] = none_gives IsId
id_from_gives kind (dash ∷ local) =
    then_gives Counted IsId (count_of kind) _ (count_gives kind) (λ first f.
    then_gives Counted IsId (count_of local) _ (count_gives local) (λ second s.
    some_gives IsId _ (and_from _ _ f s)))

-- an entity, and the id that stands in its place
pub record IsEnt (ent : Ent) : Type 0 where
  pub is : is_ent ent ≡ true
  pub place : is_id (placed ent) ≡ true

pub ent_gives : (word : Word) → Gives IsEnt (ent_of word)
unfolding ent_of
ent_gives word =
    choice_gives IsEnt (begins_with 36 word) _ _
    (then_gives SessionNamed IsEnt (variable_of word) _ (variable_gives word) (λ var h. some_gives IsEnt (Var var) (record { is = h; place = refl })))
    (then_gives IsId IsEnt (id_of word) _ (id_from_gives _ _) (λ id h. some_gives IsEnt (Id id) (record { is = h; place = h })))
