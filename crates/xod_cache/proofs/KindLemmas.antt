-- The names of types after changes that fit are those of the rows.
use Rattle.std.proofs.Common.{◌≡◌, ◌<◌, ◌≤◌, ℕ, suc, Bool, true, false, cond, List, [], ◌∷◌, ◌++◌, length, Option, Some, None, refl, sym, ap, ◌∙◌, arith, nat_eq, eqb-true, eq-eqb}
use Rattle.std.specs.Prelude.{is_some, ◌==◌, ◌&&◌, nat_lt, unwrap_or}
use Rattle.std.specs.Cmp.Lexicographic.{pointwise}
use Rattle.std.proofs.lemmas.Bool.{false≢true}
use Rattle.xod_base.specs.declared.limits.TheConstants.{MOST_LOCALS}
use Rattle.xod_base.specs.Rows.{RowsValue, has_name_length, next_of, number_of, one_further}
use Rattle.xod_journal.specs.declared.change.RowChange.{RowChange}
use Rattle.xod_journal.specs.declared.change.RowChange.TheVariants.{AddEntity, RemoveEntity, Prop, LinkAdd, LinkDel}
use Rattle.xod_journal.specs.Changes.{all_applied, all_fit, applied, fits, has_room, kind_number, with_name}
use Rattle.xod_cache.specs.Kinds.{kind_after, kinds_after}

left : (b c : Bool) → (b && c) ≡ true → b ≡ true
left true c is = refl
left false c is = is

right : (b c : Bool) → (b && c) ≡ true → c ≡ true
right true c is = is
right false c is = absurd (false≢true is)

-- a name that is listed has a number below the length
abbrev Below : ℕ → Option ℕ → Type 0
Below n None = Unit {0}
Below n (Some place) = place < n

below-step : (n : ℕ) (same : Bool) (o : Option ℕ) → Below n o → Below (suc n) (cond same (Some 0) (one_further o))
below-step n true o below = omega arith
below-step n false None below = tt
below-step n false (Some place) below = omega arith

number-below : (names : List (List ℕ)) (name : List ℕ) → Below (length names) (number_of names name)
number-below [] name = tt
number-below (first ∷ more) name = below-step (length more) (pointwise nat_eq first name) (number_of more name) (number-below more name)

-- the name comes to the end exactly where it is not listed
module _ (names : List (List ℕ)) (name : List ℕ) where
  at_end : (o : Option ℕ) → Below (length names) o → (unwrap_or o (length names) == length names) ≡ true → is_some o ≡ false
  at_end None below is = refl
  at_end (Some place) below is = let same = eqb-true place (length names) is in absurd (omega arith)

  not_at_end : (o : Option ℕ) → (unwrap_or o (length names) == length names) ≡ false → is_some o ≡ true
  not_at_end None is = absurd (false≢true (sym is ∙ eq-eqb (length names) (length names) refl))
  not_at_end (Some place) is = refl

  name-follows : (kind : ℕ) → kind ≡ kind_number names name → cond (kind == length names) (names ++ name ∷ []) names ≡ with_name names name
  name-follows kind is =
      elim (kind == length names) as (λ b. (kind == length names) ≡ b → cond b (names ++ name ∷ []) names ≡ with_name names name) [
        | true ↦ λ here. let new = at_end (number_of names name) (number-below names name) (ap (λ k. k == length names) (sym is) ∙ here) in ap (λ b. cond b names (names ++ name ∷ [])) (sym new)
        | false ↦ λ here. let old = not_at_end (number_of names name) (ap (λ k. k == length names) (sym is) ∙ here) in ap (λ b. cond b names (names ++ name ∷ [])) (sym old)
      ] refl

-- one change
kind-follows : (rows : RowsValue) (change : RowChange) → fits rows change ≡ true → kind_after rows.types change ≡ (applied rows change).types
kind-follows rows (AddEntity id kind) fit =
    let named = has_name_length kind && has_room rows.types kind in
    let numbered = id.kind == kind_number rows.types kind in
    let drawn = id.local == next_of rows.nexts id.kind in
    name-follows rows.types kind id.kind (eqb-true id.kind (kind_number rows.types kind) (right named numbered (left (named && numbered) drawn (left (named && numbered && drawn) (nat_lt id.local MOST_LOCALS) fit))))
kind-follows rows (RemoveEntity id) fit = refl
kind-follows rows (Prop id name old new) fit = refl
kind-follows rows (LinkAdd source link target) fit = refl
kind-follows rows (LinkDel source link target) fit = refl

pub kinds-follow : (rows : RowsValue) (changes : List RowChange) → all_fit rows changes ≡ true → kinds_after rows.types changes ≡ (all_applied rows changes).types
kinds-follow rows [] fit = refl
kinds-follow rows (change ∷ more) fit =
    ap (λ names. kinds_after names more) (kind-follows rows change (left (fits rows change) (all_fit (applied rows change) more) fit)) ∙ kinds-follow (applied rows change) more (right (fits rows change) (all_fit (applied rows change) more) fit)
