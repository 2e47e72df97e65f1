-- What holds of the value of an option, where it has one.
use Rattle.std.proofs.Common.{◌≡◌, Bool, true, false, cond, List, [], ◌∷◌, Option, Some, None, refl}
use Rattle.std.specs.Option.{MatchOption, option_and_then}
use Rattle.xod_words.specs.Words.{Word, first_of}

pub record Gives {A : Type 0} (P : A → Type 0) (o : Option A) : Type 0 where
  pub holds : MatchOption o (Unit {0}) P

pub none_gives : {A : Type 0} (P : A → Type 0) → Gives P None
none_gives P = record { holds = tt }

pub some_gives : {A : Type 0} (P : A → Type 0) (a : A) → P a → Gives P (Some a)
some_gives P a h = record { holds = h }

pub choice_gives : {A : Type 0} (P : A → Type 0) (b : Bool) (o p : Option A) → Gives P o → Gives P p → Gives P (cond b o p)
choice_gives P true o p g h = g
choice_gives P false o p g h = h

-- a value that is given where a test passes
pub when_gives : {A : Type 0} (P : A → Type 0) (b : Bool) (a : A) → (b ≡ true → P a) → Gives P (cond b (Some a) None)
when_gives P true a h = some_gives P a (h refl)
when_gives P false a h = none_gives P

pub then_gives : {A B : Type 0} (Q : A → Type 0) (P : B → Type 0) (o : Option A) (f : A → Option B)
    → Gives Q o → ((a : A) → Q a → Gives P (f a)) → Gives P (option_and_then f o)
then_gives Q P None f g h = none_gives P
then_gives Q P (Some a) f g h = h a g.holds

-- the same of any value
pub after : {A B : Type 0} (P : B → Type 0) (o : Option A) (f : A → Option B) → ((a : A) → Gives P (f a)) → Gives P (option_and_then f o)
after P None f h = none_gives P
after P (Some a) f h = h a

-- the same of the first of some words
pub first_gives : {A : Type 0} (Q : A → Type 0) (given : Word → Option A) → ((word : Word) → Gives Q (given word)) → (words : List Word)
    → Gives (λ (found : A × List Word). Q found.0) (first_of given words)
first_gives Q given h [] = none_gives _
first_gives Q given h (word ∷ words) = then_gives Q _ (given word) _ (h word) (λ a q. some_gives _ (a, words) q)

pub weaker : {A : Type 0} (Q P : A → Type 0) (o : Option A) → ((a : A) → Q a → P a) → Gives Q o → Gives P o
weaker Q P None h g = none_gives P
weaker Q P (Some a) h g = some_gives P a (h a g.holds)
