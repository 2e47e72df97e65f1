-- What holds of each item of a list, and lists one behind the other.
use Rattle.std.proofs.Common.{◌≡◌, ℕ, suc, ◌+◌, List, [], ◌∷◌, ◌++◌, length, Option, Some, None, refl, ap, ◌∙◌, arith}
use Rattle.std.specs.List.{AllByRecursion}
use Rattle.xod_carry.specs.Carry.{with_pair, carried, numbered}

pub each : {A : Type 0} {P : A → Type 0} → ((x : A) → P x) → (xs : List A) → AllByRecursion P xs
each all [] = tt
each all (x ∷ xs) = (all x, each all xs)

pub each_too : {A : Type 0} {P Q : A → Type 0} → ((x : A) → P x → Q x) → (xs : List A) → AllByRecursion P xs → AllByRecursion Q xs
each_too more [] h = tt
each_too more (x ∷ xs) h = (more x h.0, each_too more xs h.1)

pub each_both : {A : Type 0} {P Q W : A → Type 0} → ((x : A) → P x → Q x → W x) → (xs : List A) → AllByRecursion P xs → AllByRecursion Q xs → AllByRecursion W xs
each_both more [] g h = tt
each_both more (x ∷ xs) g h = (more x g.0 h.0, each_both more xs g.1 h.1)

pub each_append : {A : Type 0} (P : A → Type 0) → (xs ys : List A) → AllByRecursion P xs → AllByRecursion P ys → AllByRecursion P (xs ++ ys)
each_append P [] ys g h = h
each_append P (x ∷ xs) ys g h = (g.0, each_append P xs ys g.1 h)

with_pair-append : {L Y : Type 0} (key : Option L) (value : Y) (xs ys : List (L × Y)) → with_pair key value (xs ++ ys) ≡ with_pair key value xs ++ ys
with_pair-append None value xs ys = refl
with_pair-append (Some key) value xs ys = refl

pub carried-append : {K X L Y : Type 0} (f : K → Option L) (g : X → Y) (xs ys : List (K × X)) → carried f g (xs ++ ys) ≡ carried f g xs ++ carried f g ys
carried-append f g [] ys = refl
carried-append f g (x ∷ xs) ys = ap (with_pair (f x.0) (g x.1)) (carried-append f g xs ys) ∙ with_pair-append (f x.0) (g x.1) _ _

pub numbered-append : {X : Type 0} (i : ℕ) (xs : List X) (x : X) → numbered i (xs ++ x ∷ []) ≡ numbered i xs ++ (i + length xs, x) ∷ []
numbered-append i [] x = let is : i ≡ i + 0 = omega arith in λ j. (is j, x) ∷ []
numbered-append i (y ∷ xs) x = let is : suc i + length xs ≡ i + suc (length xs) = omega arith in
    ap (λ es. (i, y) ∷ es) (numbered-append (suc i) xs x) ∙ (λ j. (i, y) ∷ (numbered (suc i) xs ++ (is j, x) ∷ []))
