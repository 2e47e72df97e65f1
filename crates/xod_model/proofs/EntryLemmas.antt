-- A list whose items rise, and the map that its entries are.
use Rattle.std.proofs.Common.{◌≡◌, ◌∙◌, Bool, true, false, cond, List, [], ◌∷◌, map, Option, Some, None, Bor, refl, sym, ap}
use Rattle.std.specs.Prelude.{not, ◌&&◌, is_some, option_map, option_copied}
use Rattle.std.specs.List.{filter, find as first_that}
use Rattle.std.specs.declared.cmp.Ordering.{Ordering}
use Rattle.std.specs.declared.cmp.Ordering.TheVariants.{Less, Equal, Greater}
use Rattle.std.specs.Ordering.{is_eq, is_lt, eq_by_cmp}
use Rattle.std.specs.Cmp.{IsTotalOrder, alike_right, eq_by_cmp_equiv}
use Rattle.std.specs.FinMap.{IsAntisymmetric, from_entries, from_sorted, entries, get, get-from_entries, get-from_sorted, get-insert, get-remove, entries-from_sorted, same_map}
use Rattle.std.specs.FinMap as maps
use Rattle.std.specs.FinMap.Entries.{by_order, put, find, find-put, find-where_key, below_all, is_sorted}
use Rattle.xod_base.specs.Rows.{LinkKey, link_cmp}
use Rattle.xod_model.specs.Rising.{is_at, put_item, without, rises}
use Rattle.xod_model.proofs.RisingLemmas.{map-filter}
use Rattle.xod_model.proofs.TestLemmas.{holds}

turned : {X : Type 0} (b : Bool) (x y : X) → cond (not b) x y ≡ cond b y x
turned true x y = refl
turned false x y = refl

pub some_mapped : {X Y : Type 0} (f : X → Y) (o : Option X) → is_some (option_map f o) ≡ is_some o
some_mapped f None = refl
some_mapped f (Some x) = refl

-- R is the order of the map's keys, each of which is like a link's, and e is the entry that an item stands for
module _ {A K X : Type 0} {R : K → K → Ordering} (o : IsTotalOrder R) (same : IsAntisymmetric R) (like : K → LinkKey) (alike : (a b : K) → R a b ≡ link_cmp (like a) (like b)) (e : A → K × X) where
  abbrev key : A → LinkKey
  key item = like (e item).0

  entries-put : (item : A) (items : List A) → map e (put_item key item items) ≡ put R (e item).0 (e item).1 (map e items)
  entries-put item [] = refl
  entries-put item (first ∷ more) =
      elim (link_cmp (key item) (key first)) as (λ r. R (e item).0 (e first).0 ≡ r → map e (by_order r (item ∷ first ∷ more) (item ∷ more) (first ∷ put_item key item more)) ≡ put R (e item).0 (e item).1 (e first ∷ map e more)) [
        | Less ↦ λ is. sym (placed is)
        | Equal ↦ λ is. (λ i. (same (e item).0 (e first).0 is i, (e item).1) ∷ map e more) ∙ sym (placed is)
        | Greater ↦ λ is. ap (λ es. e first ∷ es) (entries-put item more) ∙ sym (placed is)
      ] (alike (e item).0 (e first).0)
    where
      placed : {r : Ordering} → R (e item).0 (e first).0 ≡ r → put R (e item).0 (e item).1 (e first ∷ map e more) ≡ by_order r (e item ∷ e first ∷ map e more) (((e first).0, (e item).1) ∷ map e more) (e first ∷ put R (e item).0 (e item).1 (map e more))
      placed is = ap (λ r. by_order r (e item ∷ e first ∷ map e more) (((e first).0, (e item).1) ∷ map e more) (e first ∷ put R (e item).0 (e item).1 (map e more))) is

  -- the map after an item was put in its place
  pub from_entries-put : (item : A) (items new : List A) → new ≡ put_item key item items → from_entries {R = R} (map e new) ≡ maps.insert (from_entries (map e items)) (e item).0 (e item).1
  from_entries-put item items new is = ap (λ xs. from_entries (map e xs)) is ∙ same_map o same _ _ (λ q.
      get-from_entries o (map e (put_item key item items)) q
      ∙ ap (find R q) (entries-put item items)
      ∙ find-put R o q (e item).0 (e item).1 (map e items)
      ∙ sym (get-insert o (from_entries (map e items)) (e item).0 (e item).1 q ∙ ap (cond (eq_by_cmp R q (e item).0) (Some (e item).1)) (get-from_entries o (map e items) q)))

  -- the map after an item was taken out
  pub from_entries-without : (k : K) (j : LinkKey) (items new : List A) → j ≡ like k → new ≡ without key j items → from_entries {R = R} (map e new) ≡ maps.remove (from_entries (map e items)) k
  from_entries-without k j items new at is = ap (λ xs. from_entries (map e xs)) (is ∙ ap (λ i. without key i items) at) ∙ same_map o same _ _ (λ q.
      get-from_entries o (map e (without key (like k) items)) q
      ∙ ap (find R q) ((λ i. map e (filter (λ x. not (is_eq (sym (alike k (e x).0) i))) items)) ∙ map-filter e (λ entry. not (eq_by_cmp R k entry.0)) items)
      ∙ find-where_key R (λ x. not (eq_by_cmp R k x)) q (λ x t. ap (λ r. not (is_eq r)) (sym (alike_right o q x k t))) (map e items)
      ∙ turned (eq_by_cmp R k q) (find R q (map e items)) None
      ∙ ap (λ b. cond b None (find R q (map e items))) ((eq_by_cmp_equiv o).symm k q)
      ∙ sym (get-remove o (from_entries (map e items)) k q ∙ ap (cond (eq_by_cmp R q k) None) (get-from_entries o (map e items) q)))

  get-found : (q : K) (items : List A) → get (from_entries {R = R} (map e items)) q ≡ option_map (λ item. (e item).1) (first_that (is_at key (like q)) items)
  get-found q items = get-from_entries o (map e items) q ∙ found items
    where
      found : (xs : List A) → find R q (map e xs) ≡ option_map (λ item. (e item).1) (first_that (is_at key (like q)) xs)
      found [] = refl
      found (x ∷ xs) = elim (link_cmp (like q) (key x)) as (λ r. R q (e x).0 ≡ r → find R q (e x ∷ map e xs) ≡ option_map (λ item. (e item).1) (cond (is_eq r) (Some x) (first_that (is_at key (like q)) xs))) [
        | Less ↦ λ is. ap (λ r. cond (is_eq r) (Some (e x).1) (find R q (map e xs))) is ∙ found xs
        | Equal ↦ λ is. ap (λ r. cond (is_eq r) (Some (e x).1) (find R q (map e xs))) is
        | Greater ↦ λ is. ap (λ r. cond (is_eq r) (Some (e x).1) (find R q (map e xs))) is ∙ found xs
      ] (alike q (e x).0)

  -- what a search answered is what the map has
  pub read-found : (q : K) (items : List A) (k : LinkKey) (o : Option (Bor A)) → k ≡ like q → option_copied o ≡ first_that (is_at key k) items → option_map (λ item. (e item.now).1) o ≡ get (from_entries {R = R} (map e items)) q
  read-found q items k o is found =
      read o ∙ ap (option_map (λ item. (e item).1)) (found ∙ ap (λ j. first_that (is_at key j) items) is) ∙ sym (get-found q items)
    where
      read : (r : Option (Bor A)) → option_map (λ item. (e item.now).1) r ≡ option_map (λ item. (e item).1) (option_copied r)
      read None = refl
      read (Some item) = refl

  below : (k : K) (items : List A) → below_all R k (map e items) ≡ below_all link_cmp (like k) (map (λ item. (key item, item)) items)
  below k [] = refl
  below k (item ∷ more) = λ i. is_lt (alike k (e item).0 i) && below k more i

  sorted : (items : List A) → is_sorted R (map e items) ≡ rises key items
  sorted [] = refl
  sorted (item ∷ more) = λ i. below (e item).0 more i && sorted more i

  pub entries-rising : (items : List A) → rises key items ≡ true → entries (from_entries {R = R} (map e items)) ≡ map e items
  entries-rising items h =
      let rise = holds _ (sorted items ∙ h) in
      ap entries (same_map o same (from_entries (map e items)) (from_sorted (map e items)) (λ q. get-from_entries o (map e items) q ∙ sym (get-from_sorted R (map e items) q rise)))
      ∙ entries-from_sorted R (map e items) rise

pub map-map : {A B C : Type 0} (f : A → B) (g : B → C) (xs : List A) → map g (map f xs) ≡ map (λ x. g (f x)) xs
map-map f g [] = refl
map-map f g (x ∷ xs) = λ i. g (f x) ∷ map-map f g xs i

pub map-map_same : {A B : Type 0} (f : A → B) (g : B → A) → ((x : A) → g (f x) ≡ x) → (xs : List A) → map g (map f xs) ≡ xs
map-map_same f g back [] = refl
map-map_same f g back (x ∷ xs) = λ i. back x i ∷ map-map_same f g back xs i
