-- Names at their numbers, and lists of parts that have numbers.
use Rattle.std.proofs.Common.{◌≡◌, ℕ, zero, suc, ◌<◌, Bool, true, false, cond, List, [], ◌∷◌, map, length, Some, None, refl, sym, ap, ◌∙◌, eqb-true, eq-eqb, arith}
use Rattle.std.specs.Prelude.{◌&&◌, ◌==◌, unwrap_or}
use Rattle.std.specs.Cmp.{first_so, second_so}
use Rattle.std.specs.List.{filter, slice_get}
use Rattle.xod_base.specs.declared.value.EntityId.{EntityId}
use Rattle.xod_base.specs.Rows.{number_of, same_id}
use Rattle.xod_journal.specs.Changes.{kind_number}
use Rattle.xod_journal.specs.Shows.{name_at}
use Rattle.xod_tables.proofs.CallerLemmas.{name_of_number, not_none, same_some}
use Rattle.xod_readings.proofs.LinksListed.{IsNumbered}

-- a name stands at its number
pub name_at_place : (names : List (List ℕ)) (number : ℕ) (name : List ℕ) → slice_get names number ≡ Some name → name_at names number ≡ name
name_at_place [] number name is = absurd (not_none name (sym is))
name_at_place (x ∷ xs) zero name is = same_some x name is
name_at_place (x ∷ xs) (suc number) name is = name_at_place xs number name is

-- each number below their count has a name
pub none_outside : (names : List (List ℕ)) (number : ℕ) → number < length names → slice_get names number ≡ None → ⊥
none_outside [] number lt is = absurd (omega (arith, lt))
none_outside (x ∷ xs) zero lt is = not_none x is
none_outside (x ∷ xs) (suc number) lt is = none_outside xs number (omega (arith, lt)) is

module _ (names : List (List ℕ)) (number : ℕ) (name : List ℕ) (h : IsNumbered names number name) where
  pub name_there : name_at names number ≡ name
  name_there = name_at_place names number name h.at

  pub number_within : number < length names
  number_within = (name_of_number names name number h.is).1

  -- the number that the rows give the name
  pub number_back : kind_number names (name_at names number) ≡ number
  number_back = ap (λ o. unwrap_or o (length names)) (ap (number_of names) name_there ∙ h.is)

-- a name has one number
pub same_number : (names : List (List ℕ)) (i j : ℕ) (a b : List ℕ) → IsNumbered names i a → IsNumbered names j b → name_at names i ≡ name_at names j → i ≡ j
same_number names i j a b g h e =
    let named : a ≡ b = sym (name_there names i a g) ∙ e ∙ name_there names j b h in
    same_some i j (sym g.is ∙ ap (number_of names) named ∙ h.is)

-- ---- ids
pub id_is : (a b : EntityId) → same_id a b ≡ true → a ≡ b
id_is a b h =
    let kind = eqb-true a.kind b.kind (first_so (a.kind == b.kind) (a.local == b.local) h) in
    let local = eqb-true a.local b.local (second_so (a.kind == b.kind) (a.local == b.local) h) in
    λ i. record { kind = kind i; local = local i }

pub is_id : (a : EntityId) → same_id a a ≡ true
is_id a = λ i. eq-eqb a.kind a.kind refl i && eq-eqb a.local a.local refl i

-- ---- lists
pub map_map : {A B C : Type 0} (f : B → C) (g : A → B) (xs : List A) → map f (map g xs) ≡ map (λ x. f (g x)) xs
map_map f g [] = refl
map_map f g (x ∷ xs) = ap (λ l. f (g x) ∷ l) (map_map f g xs)

pub filter_map : {A B : Type 0} (p : B → Bool) (f : A → B) (xs : List A) → filter p (map f xs) ≡ map f (filter (λ x. p (f x)) xs)
filter_map p f [] = refl
filter_map p f (x ∷ xs) = ap (λ l. cond (p (f x)) (f x ∷ l) l) (filter_map p f xs) ∙ pushed (p (f x)) (filter (λ y. p (f y)) xs)
  where
    pushed : (b : Bool) (ys : List _) → cond b (f x ∷ map f ys) (map f ys) ≡ map f (cond b (x ∷ ys) ys)
    pushed true ys = refl
    pushed false ys = refl
