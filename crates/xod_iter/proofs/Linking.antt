-- Entities that have links by a name, and their targets.
use Rattle.std.proofs.Common.{◌≡◌, ℕ, Bool, List, [], ◌∷◌, ◌++◌, cond, true, false, map, Option, Some, None, IsTrue, refl, sym, ap, ◌∙◌}
use Rattle.std.specs.Prelude.{is_some, slice_get, ◌||◌}
use Rattle.std.specs.List.{filter, flat_map, list_any}
use Rattle.std.specs.FinMap.{keys}
use Rattle.xod_base.specs.declared.value.EntityId.{EntityId}
use Rattle.xod_base.specs.Evaluation.{has_link, ids_of, is_link_of, rising, targets_of}
use Rattle.xod_base.specs.Rows.{RowsValue, is_sound, number_of}
use Rattle.xod_base.specs.Views.{Entry}
use Rattle.xod_keys.specs.Readings.{all_read, read_behind}
use Rattle.xod_tables.proofs.CallerLemmas.{same_some, not_none}
use Rattle.xod_reader.proofs.CallerLemmas.{none_kept, no_targets}

-- a list that was read has an item where its entries have one
read_none : {A : Type 0} (o : Option A) (others : Option (List A)) → Some [] ≡ read_behind o others → ⊥
read_none None others e = not_none [] e
read_none (Some item) None e = not_none [] e
read_none (Some item) (Some list) e = let is = same_some [] (item ∷ list) e in cc is

pub read_any : {A : Type 0} (read : Entry → Option A) (es : List Entry) (xs : List A) → all_read read es ≡ Some xs → is_some (slice_get es 0) ≡ is_some (slice_get xs 0)
read_any read [] [] h = refl
read_any read [] (x ∷ xs) h = let is = same_some [] (x ∷ xs) h in absurd (cc is)
read_any read (e ∷ es) [] h = absurd (read_none (read e) (all_read read es) (sym h))
read_any read (e ∷ es) (x ∷ xs) h = refl

-- so has a list of those that pass a test, where one passes
pub any_kept : {A B : Type 0} (p : A → Bool) (f : A → B) (xs : List A) → is_some (slice_get (map f (filter p xs)) 0) ≡ list_any p xs
any_kept p f [] = refl
any_kept p f (x ∷ xs) = elim (p x) as (λ b. is_some (slice_get (map f (cond b (x ∷ filter p xs) (filter p xs))) 0) ≡ (b || list_any p xs)) [
  | true ↦ refl
  | false ↦ any_kept p f xs
]

-- ---- a name that is not listed
module _ (rows : RowsValue) (sound : IsTrue (is_sound rows)) (name : List ℕ) (none : number_of rows.links name ≡ None) where
  pub none_with_link : (kind : List ℕ) → filter (has_link rows name) (ids_of rows kind) ≡ []
  none_with_link kind = none_kept (has_link rows name) (λ id.
      sym (any_kept (is_link_of id name) (λ link. link.1.1) (keys rows.joined)) ∙ ap (λ (l : List EntityId). is_some (slice_get l 0)) (no_targets rows sound name none id)) (ids_of rows kind)

  no_targets_each : (ids : List EntityId) → flat_map (targets_of rows name) ids ≡ []
  no_targets_each [] = refl
  no_targets_each (id ∷ ids) = λ i. no_targets rows sound name none id i ++ no_targets_each ids i

  pub no_targets_all : (ids : List EntityId) → rising (flat_map (targets_of rows name) ids) ≡ []
  no_targets_all ids = ap rising (no_targets_each ids)
