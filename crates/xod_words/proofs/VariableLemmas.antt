-- The variables among entity words, one word after the other.
use Rattle.std.proofs.Common.{◌≡◌, ℕ, ◌+◌, List, [], ◌∷◌, ◌++◌, length, ap, sym, ◌∙◌, arith}
use Rattle.xod_words.specs.Queries.{vars_from}
use Rattle.xod_words.specs.declared.draft.Ent.{Ent}
use Rattle.xod_words.specs.declared.draft.Ent.TheVariants.{Id, Var}
use Rattle.xod_words.specs.declared.draft.VarUse.{VarUse}

at_place : (ent : Ent) (p q : ℕ) → p ≡ q → vars_from p (ent ∷ []) ≡ vars_from q (ent ∷ [])
at_place ent p q e = ap (λ n. vars_from n (ent ∷ [])) e

vars_from-push : (ents : List Ent) (ent : Ent) (place : ℕ) → vars_from place (ents ++ ent ∷ []) ≡ vars_from place ents ++ vars_from (place + length ents) (ent ∷ [])
vars_from-push [] ent place = at_place ent place (place + 0) (omega arith)
vars_from-push (Id id ∷ ents) ent place =
    vars_from-push ents ent (place + 1) ∙ ap (λ more. vars_from (place + 1) ents ++ more) (at_place ent (place + 1 + length ents) _ (omega arith))
vars_from-push (Var name ∷ ents) ent place =
    ap (λ more. record { place = place; var = name } ∷ more)
    (vars_from-push ents ent (place + 1) ∙ ap (λ more. vars_from (place + 1) ents ++ more) (at_place ent (place + 1 + length ents) _ (omega arith)))

-- one word more at the end of those with their numbers
pub vars_from-grow : (vars now : List VarUse) (ents : List Ent) (ent : Ent) (place : ℕ) → vars ≡ vars_from 0 ents → place ≡ length ents
    → now ≡ vars ++ vars_from place (ent ∷ []) → now ≡ vars_from 0 (ents ++ ent ∷ [])
vars_from-grow vars now ents ent place is at pushed =
    pushed ∙ (λ i. is i ++ at_place ent place (0 + length ents) (omega (arith, at)) i) ∙ sym (vars_from-push ents ent 0)
