-- Ids that are made rising are the rising list that has the same ones.
use Rattle.std.proofs.Common.{◌≡◌, inl, inr, ⊎_elim, Bool, true, false, ◌&&◌, ◌||◌, List, [], ◌∷◌, refl, sym, ap, ◌∙◌, true≢false, Less}
use Rattle.std.specs.List.{AllByRecursion}
use Rattle.std.specs.Ordering.{is_lt}
use Rattle.xod_base.specs.declared.value.EntityId.{EntityId}
use Rattle.xod_base.specs.Evaluation.{has_id, rising}
use Rattle.xod_base.specs.Rows.{id_cmp, same_id}
use Rattle.xod_sets.specs.Rising.{is_before, rises}
use Rattle.xod_sets.proofs.CallerLemmas.{has_rising, rises_rising, same_rising}
use Rattle.xod_readings.proofs.Links.{id_is, is_id}
use Rattle.xod_readings.proofs.Ranging.{In, Rises}

before : (id : EntityId) (ids : List EntityId) → AllByRecursion (λ x. id_cmp id x ≡ Less) ids → is_before id ids ≡ true
before id [] h = refl
before id (x ∷ xs) h = λ i. is_lt (h.0 i) && before id xs h.1 i

does_rise : (ids : List EntityId) → Rises id_cmp ids → rises ids ≡ true
does_rise [] h = refl
does_rise (x ∷ xs) h = λ i. before x xs h.0 i && does_rise xs h.1 i

has_in : (ids : List EntityId) (id : EntityId) → has_id ids id ≡ true → In id ids
has_in [] id h = absurd (true≢false (sym h))
has_in (x ∷ xs) id h = elim (same_id id x) as (λ b. same_id id x ≡ b → (b || has_id xs id) ≡ true → In id (x ∷ xs)) [
  | true ↦ λ e has. inl (sym (id_is id x e))
  | false ↦ λ e has. inr (has_in xs id has)
] refl h

or_true : (b : Bool) → (b || true) ≡ true
or_true true = refl
or_true false = refl

in_has : (ids : List EntityId) (id : EntityId) → In id ids → has_id ids id ≡ true
in_has [] id i = absurd i
in_has (x ∷ xs) id i = ⊎_elim
    (λ (e : x ≡ id). ap (λ (y : EntityId). same_id id y || has_id xs id) e ∙ ap (λ (b : Bool). b || has_id xs id) (is_id id))
    (λ j. ap (λ (b : Bool). same_id id x || b) (in_has xs id j) ∙ or_true (same_id id x)) i

same_test : (a b : Bool) → (a ≡ true → b ≡ true) → (b ≡ true → a ≡ true) → a ≡ b
same_test true b f g = sym (f refl)
same_test false true f g = g refl
same_test false false f g = refl

pub rising_is : (ids list : List EntityId) → Rises id_cmp list → ((id : EntityId) → In id ids → In id list)
    → ((id : EntityId) → In id list → In id ids) → rising ids ≡ list
rising_is ids list h into from = same_rising (rising ids) list (rises_rising ids) (does_rise list h)
    (λ id. has_rising ids id
    ∙ same_test (has_id ids id) (has_id list id) (λ t. in_has list id (into id (has_in ids id t))) (λ t. in_has ids id (from id (has_in list id t))))
