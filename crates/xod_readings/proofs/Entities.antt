-- Entities and next numbers are read as the rows have them.
use Rattle.std.proofs.Common.{◌≡◌, ℕ, zero, suc, ◌<◌, ◌≤◌, ◌^◌, Bool, true, false, cond, List, [], ◌∷◌, map, Option, Some, None, refl, sym, ap, ◌∙◌, arith, leb-true, eqb-true, eq-eqb}
use Rattle.std.specs.Prelude.{is_some, nat_le, ◌==◌}
use Rattle.std.specs.Option.{option_map}
use Rattle.std.specs.List.{AllByRecursion, filter, slice_get}
use Rattle.std.specs.Ordering.{is_gt, nat_cmp}
use Rattle.std.specs.Cmp.{both_ways}
use Rattle.std.specs.FinMap.{entries, get}
use Rattle.xod_base.specs.declared.limits.TheConstants.{MOST_LOCALS}
use Rattle.xod_base.specs.declared.value.EntityId.{EntityId}
use Rattle.xod_base.specs.Evaluation.{ids_with_number}
use Rattle.xod_base.specs.Rows.{RowsValue, id_cmp, next_of}
use Rattle.xod_base.specs.Values.{bytes_cmp, is_within}
use Rattle.xod_carry.proofs.CallerLemmas.{numbers_total, numbers_same, each_too}
use Rattle.xod_keys.specs.Pieces.{id_read}
use Rattle.xod_keys.specs.Readings.{LAST, all_read, ids_at, next_at}
use Rattle.xod_tables.specs.Keys.{IsShort, u64, next_key, entity_key}
use Rattle.xod_tables.specs.LookUps.{TreesAnswer}
use Rattle.xod_tables.specs.Tables.{next_tree, entities_tree}
use Rattle.xod_tables.proofs.CallerLemmas.{Facts, facts, ids_short, id_alone, id_at-bytes, u64_back, sound_answer}
use Rattle.xod_readings.specs.Laws.{EntitiesAreRead, EntitiesOfRowsAreRead}
use Rattle.xod_readings.proofs.Ranging.{same_some, not_none, each_filter, filter_image, all_read_carried, within_sides, sides_within, first_not_above, then_not_above, nat_not_above, pinned}

pub some_map : {A B : Type 0} (f : A → B) (o : Option A) → is_some (option_map f o) ≡ is_some o
some_map f None = refl
some_map f (Some x) = refl

-- ---- next numbers
next_small : (nexts : List ℕ) (kind next : ℕ) → AllByRecursion (λ n. nat_le n MOST_LOCALS ≡ true) nexts
    → slice_get nexts kind ≡ Some next → next < 2 ^ 64
next_small [] kind next h is = absurd (not_none next (sym is))
next_small (first ∷ more) zero next h is =
    let le : first ≤ MOST_LOCALS = leb-true first MOST_LOCALS h.0 in
    let same : first ≡ next = same_some first next is in
    omega (arith, le, same)
next_small (first ∷ more) (suc kind) next h is = next_small more kind next h.1 is

next_is : (nexts : List ℕ) (kind next : ℕ) → slice_get nexts kind ≡ Some next → next_of nexts kind ≡ next
next_is [] kind next is = absurd (not_none next (sym is))
next_is (first ∷ more) zero next is = same_some first next is
next_is (first ∷ more) (suc kind) next is = next_is more kind next is

no_next : (nexts : List ℕ) (kind : ℕ) → slice_get nexts kind ≡ None → next_of nexts kind ≡ 0
no_next [] kind is = refl
no_next (first ∷ more) zero is = absurd (not_none first is)
no_next (first ∷ more) (suc kind) is = no_next more kind is

next_found : (rows : RowsValue) → Facts rows → (kind : ℕ)
    → get (next_tree rows) (next_key kind) ≡ option_map u64 (slice_get rows.nexts kind) → next_at kind (next_tree rows) ≡ Some (next_of rows.nexts kind)
next_found rows f kind there = at (slice_get rows.nexts kind) refl
  where
    at : (o : Option ℕ) → slice_get rows.nexts kind ≡ o → next_at kind (next_tree rows) ≡ Some (next_of rows.nexts kind)
    at None is = rw (there ∙ ap (option_map u64) is) (ap Some (sym (no_next rows.nexts kind is)))
    at (Some next) is =
        rw (there ∙ ap (option_map u64) is)
        (ap Some (u64_back next (next_small rows.nexts kind next f.nexts is) ∙ sym (next_is rows.nexts kind next is)))

-- ---- entities of a type
module _ (kind : ℕ) (small : kind < 2 ^ 32) (id : EntityId) (s : IsShort id) where
  abbrev low : EntityId
  low = record { kind = kind; local = 0 }

  abbrev high : EntityId
  high = record { kind = kind; local = LAST }

  low_cmp : bytes_cmp (entity_key low) (entity_key id) ≡ id_cmp low id
  low_cmp = id_alone low id (record { kind = small; local = omega arith }) s

  high_cmp : bytes_cmp (entity_key id) (entity_key high) ≡ id_cmp id high
  high_cmp = id_alone id high s (record { kind = small; local = omega arith })

  kind_pinned : is_within (entity_key low) (entity_key high) (entity_key id) ≡ true → id.kind ≡ kind
  kind_pinned h =
      let sides = within_sides (entity_key low) (entity_key high) (entity_key id) h in
      pinned numbers_total numbers_same kind id.kind
      (first_not_above (nat_cmp kind id.kind) _ (sym (ap is_gt low_cmp) ∙ sides.0))
      (first_not_above (nat_cmp id.kind kind) _ (sym (ap is_gt high_cmp) ∙ sides.1))

  kind_within : id.kind ≡ kind → is_within (entity_key low) (entity_key high) (entity_key id) ≡ true
  kind_within e =
      let bound = s.local in
      sides_within (entity_key low) (entity_key high) (entity_key id)
      (ap is_gt low_cmp ∙ then_not_above (nat_cmp kind id.kind) _ (nat_not_above kind id.kind (omega (arith, e)))
      (then_not_above (nat_cmp 0 id.local) _ (nat_not_above 0 id.local (omega arith)) refl))
      (ap is_gt high_cmp ∙ then_not_above (nat_cmp id.kind kind) _ (nat_not_above id.kind kind (omega (arith, e)))
      (then_not_above (nat_cmp id.local LAST) _ (nat_not_above id.local LAST (omega (arith, bound))) refl))

  -- an entity's key lies in the range of a type where the entity is of it
  of_kind : is_within (entity_key low) (entity_key high) (entity_key id) ≡ (id.kind == kind)
  of_kind = both_ways _ (id.kind == kind) (λ h. eq-eqb id.kind kind (kind_pinned h)) (λ h. kind_within (eqb-true id.kind kind h))

keys_filter : {K X : Type 0} (p : K → Bool) (es : List (K × X)) → map (λ e. e.0) (filter (λ e. p e.0) es) ≡ filter p (map (λ e. e.0) es)
keys_filter p [] = refl
keys_filter {K} {X} p (e ∷ es) = pushed (p e.0) (filter (λ x. p x.0) es) ∙ ap (λ l. cond (p e.0) (e.0 ∷ l) l) (keys_filter p es)
  where
    pushed : (b : Bool) (xs : List (K × X)) → map (λ x. x.0) (cond b (e ∷ xs) xs) ≡ cond b (e.0 ∷ map (λ x. x.0) xs) (map (λ x. x.0) xs)
    pushed true xs = refl
    pushed false xs = refl

ids_found : (rows : RowsValue) → Facts rows → TreesAnswer rows → (kind : ℕ) → kind < 2 ^ 32
    → ids_at kind (entities_tree rows) ≡ Some (ids_with_number rows (Some kind))
ids_found rows f answers kind small =
    let range = is_within (entity_key (record { kind = kind; local = 0 })) (entity_key (record { kind = kind; local = LAST })) in
    let all = ids_short rows f in
    ap (λ es. all_read (λ e. id_read e.0) (filter (λ e. range e.0) es)) answers.rising
    ∙ ap (all_read (λ e. id_read e.0)) (filter_image entity_key (λ _. []) range of_it (entries rows.ids) (each_too (λ e s. of_kind kind small e.0 s) (entries rows.ids) all))
    ∙ all_read_carried (λ e. id_read e.0) entity_key (λ _. []) (λ e. e.0) own
    (each_too (λ e h. ap Some (id_at-bytes e.0 [] h.0)) own (each_filter (λ e. IsShort e.0) (λ e. of_it e.0) (entries rows.ids) all))
    ∙ ap Some (keys_filter of_it (entries rows.ids))
  where
    of_it : EntityId → Bool
    of_it id = id.kind == kind

    own : List (EntityId × Unit {0})
    own = filter (λ e. of_it e.0) (entries rows.ids)

entities : (rows : RowsValue) → Facts rows → TreesAnswer rows → EntitiesAreRead rows
entities rows f answers = record {
  has = λ id s. ap is_some (answers.entities id s) ∙ some_map (λ _. []) (get rows.ids id);
  next = λ kind small. next_found rows f kind (answers.nexts kind small);
  all = ids_found rows f answers;
}

pub entities_read : EntitiesOfRowsAreRead
entities_read rows h = entities rows (facts rows h) (sound_answer rows h)
