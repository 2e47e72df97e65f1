-- What a new, a changed and a removed entry make of an index; and what a removed one makes of a carried map.
use Rattle.std.proofs.Common.{◌≡◌, ◌≢◌, Bool, true, false, cond, List, [], ◌∷◌, ◌++◌, Option, Some, None, refl, sym, ap, ◌∙◌, true≢false}
use Rattle.std.specs.Prelude.{is_some}
use Rattle.std.specs.Option.{option_or}
use Rattle.std.specs.List.{AllByRecursion, flat_map}
use Rattle.std.specs.declared.cmp.Ordering.{Ordering}
use Rattle.std.specs.declared.cmp.Ordering.TheVariants.{Less, Equal, Greater}
use Rattle.std.specs.Ordering.{eq_by_cmp}
use Rattle.std.specs.Cmp.{IsTotalOrder}
use Rattle.std.specs.FinMap.{FinMap, IsAntisymmetric, insert, remove, from_entries, entries, get, find, put, get-insert, get-remove, get-from_entries, entries-insert, same_map}
use Rattle.std.specs.FinMap.Entries.{by_order}
use Rattle.xod_carry.specs.Carry.{with_pair, taken, carried, carry}
use Rattle.xod_carry.specs.Index.{index, all_put, all_taken}
use Rattle.xod_carry.specs.Laws.{IsOwn, Gives, IsAlone}
use Rattle.xod_carry.proofs.Lists.{each_both, each_too}
use Rattle.xod_carry.proofs.Each.{each-remove}
use Rattle.xod_carry.proofs.Carrying.{tied_is}
use Rattle.xod_carry.proofs.Lookups.{insert-remove, insert_same, get_removed, absent_keys}

-- nothing where a key was taken, and else what was there
abbrev unless : {Y : Type 0} → Option Y → Option Y → Option Y
unless None there = there
unless (Some taken) there = None

or_assoc : {Y : Type 0} (b : Bool) (v : Y) (x y : Option Y) → cond b (Some v) (option_or x y) ≡ option_or (cond b (Some v) x) y
or_assoc true v x y = refl
or_assoc false v x y = refl

or_turned : {Y : Type 0} (x y z : Option Y) → (is_some x ≡ true → is_some y ≡ true → ⊥) → option_or x (option_or y z) ≡ option_or y (option_or x z)
or_turned None y z apart = refl
or_turned (Some x) None z apart = refl
or_turned (Some x) (Some y) z apart = absurd (apart refl refl)

taken_again : {Y : Type 0} (x y : Option Y) → (is_some x ≡ true → y ≡ None) → unless x (option_or x y) ≡ y
taken_again None y h = refl
taken_again (Some x) y h = sym (h refl)

unless_step : {Y : Type 0} (b : Bool) (v : Y) (x y : Option Y) → cond b None (unless x y) ≡ unless (cond b (Some v) x) y
unless_step true v x y = refl
unless_step false v x y = refl

find_nothing : {Y : Type 0} (x y : Option Y) → (is_some x ≡ true → ⊥) → y ≡ None → option_or x y ≡ None
find_nothing None y h e = e
find_nothing (Some x) y h e = absurd (h refl)

module _ {L Y : Type 0} {S : L → L → Ordering} (oS : IsTotalOrder S) (sameS : IsAntisymmetric S) where
  pub find-append : (q : L) (xs ys : List (L × Y)) → find S q (xs ++ ys) ≡ option_or (find S q xs) (find S q ys)
  find-append q [] ys = refl
  find-append q (x ∷ xs) ys = ap (cond (eq_by_cmp S q x.0) (Some x.1)) (find-append q xs ys) ∙ or_assoc (eq_by_cmp S q x.0) x.1 (find S q xs) (find S q ys)

  from-append : (xs ys : List (L × Y)) → from_entries {R = S} (xs ++ ys) ≡ all_put xs (from_entries ys)
  from-append [] ys = refl
  from-append (x ∷ xs) ys = ap (λ m. insert m x.0 x.1) (from-append xs ys)

  get-all_put : (xs : List (L × Y)) (m : FinMap S Y) (q : L) → get (all_put xs m) q ≡ option_or (find S q xs) (get m q)
  get-all_put [] m q = refl
  get-all_put (x ∷ xs) m q = get-insert oS (all_put xs m) x.0 x.1 q ∙ ap (cond (eq_by_cmp S q x.0) (Some x.1)) (get-all_put xs m q) ∙ or_assoc (eq_by_cmp S q x.0) x.1 (find S q xs) (get m q)

  get-all_taken : (xs : List (L × Y)) (m : FinMap S Y) (q : L) → get (all_taken xs m) q ≡ unless (find S q xs) (get m q)
  get-all_taken [] m q = refl
  get-all_taken (x ∷ xs) m q = get-remove oS (all_taken xs m) x.0 q ∙ ap (cond (eq_by_cmp S q x.0) None) (get-all_taken xs m q) ∙ unless_step (eq_by_cmp S q x.0) x.1 (find S q xs) (get m q)

  -- entries that are put and taken out again, none of whose keys were there
  taken_back : (xs : List (L × Y)) (m : FinMap S Y) → ((q : L) → is_some (find S q xs) ≡ true → get m q ≡ None) → all_taken xs (all_put xs m) ≡ m
  taken_back xs m free = same_map oS sameS _ _ (λ q. get-all_taken xs (all_put xs m) q ∙ ap (unless (find S q xs)) (get-all_put xs m q) ∙ taken_again (find S q xs) (get m q) (free q))

module _ {K X L Y : Type 0} {R : K → K → Ordering} {S : L → L → Ordering} (oR : IsTotalOrder R) (sameR : IsAntisymmetric R) (oS : IsTotalOrder S) (sameS : IsAntisymmetric S) (gives : K × X → List (L × Y)) where
  find-indexed-put : (k : K) (v : X) (q : L) (es : List (K × X)) → AllByRecursion (λ e. e.0 ≢ k) es → IsAlone gives S (k, v) es → find S q (flat_map gives (put R k v es)) ≡ option_or (find S q (gives (k, v))) (find S q (flat_map gives es))
  find-indexed-put k v q [] new alone = find-append oS sameS q (gives (k, v)) []
  find-indexed-put k v q (e ∷ es) new alone =
      elim (R k e.0) as (λ r. R k e.0 ≡ r → find S q (flat_map gives (by_order r ((k, v) ∷ e ∷ es) ((e.0, v) ∷ es) (e ∷ put R k v es))) ≡ option_or (find S q (gives (k, v))) (find S q (gives e ++ flat_map gives es))) [
        | Less ↦ λ p. find-append oS sameS q (gives (k, v)) (gives e ++ flat_map gives es)
        | Equal ↦ λ p. absurd (new.0 (sym (sameR k e.0 p)))
        | Greater ↦ λ p. find-append oS sameS q (gives e) (flat_map gives (put R k v es))
            ∙ ap (option_or (find S q (gives e))) (find-indexed-put k v q es new.1 alone.1)
            ∙ or_turned (find S q (gives e)) (find S q (gives (k, v))) (find S q (flat_map gives es)) (λ a b. new.0 (alone.0 q a b))
            ∙ ap (option_or (find S q (gives (k, v)))) (sym (find-append oS sameS q (gives e) (flat_map gives es)))
      ] refl

  -- a new entry
  pub index-new : (m : FinMap R X) (k : K) (v : X) → get m k ≡ None → IsAlone gives S (k, v) (entries m) → index gives S (insert m k v) ≡ all_put (gives (k, v)) (index gives S m)
  index-new m k v none alone = same_map oS sameS _ _ (λ q. get-from_entries oS (flat_map gives (entries (insert m k v))) q
      ∙ ap (λ es. find S q (flat_map gives es)) (entries-insert oR m k v)
      ∙ find-indexed-put k v q (entries m) (absent_keys oR sameR m k none) alone
      ∙ sym (get-all_put oS sameS (gives (k, v)) (index gives S m) q ∙ ap (option_or (find S q (gives (k, v)))) (get-from_entries oS (flat_map gives (entries m)) q)))

  pub not_found : (l : L) (es : List (K × X)) → AllByRecursion (λ e. Gives gives S e l → ⊥) es → find S l (flat_map gives es) ≡ None
  not_found l [] h = refl
  not_found l (e ∷ es) h = find-append oS sameS l (gives e) (flat_map gives es) ∙ find_nothing (find S l (gives e)) (find S l (flat_map gives es)) h.0 (not_found l es h.1)

  -- an entry that goes
  pub index-remove : (m : FinMap R X) (k : K) (w : X) → get m k ≡ Some w → IsAlone gives S (k, w) (entries (remove m k)) → index gives S (remove m k) ≡ all_taken (gives (k, w)) (index gives S m)
  index-remove m k w is alone =
      let gone = get_removed oR sameR m k in
      let back : insert (remove m k) k w ≡ m = insert-remove oR sameR m k w ∙ insert_same oR sameR m k w is in
      let whole : index gives S m ≡ all_put (gives (k, w)) (index gives S (remove m k)) = ap (index gives S) (sym back) ∙ index-new (remove m k) k w gone alone in
      sym (taken_back oS sameS (gives (k, w)) (index gives S (remove m k)) (λ q found. get-from_entries oS (flat_map gives (entries (remove m k))) q
      ∙ not_found q (entries (remove m k)) (each_both (λ x differs own given. differs (own q given found)) (entries (remove m k)) (absent_keys oR sameR (remove m k) k gone) alone)))
      ∙ ap (all_taken (gives (k, w))) (sym whole)

  -- an entry whose value changes
  pub index-change : (m : FinMap R X) (k : K) (w v : X) → get m k ≡ Some w → IsAlone gives S (k, w) (entries (remove m k)) → IsAlone gives S (k, v) (entries (remove m k))
      → index gives S (insert m k v) ≡ all_put (gives (k, v)) (all_taken (gives (k, w)) (index gives S m))
  index-change m k w v is old new = ap (index gives S) (sym (insert-remove oR sameR m k v))
      ∙ index-new (remove m k) k v (get_removed oR sameR m k) new
      ∙ ap (all_put (gives (k, v))) (index-remove m k w is old)

-- ---- a carried map is an index by the keys alone
module _ {K X L Y : Type 0} {R : K → K → Ordering} {S : L → L → Ordering} (oR : IsTotalOrder R) (sameR : IsAntisymmetric R) (oS : IsTotalOrder S) (sameS : IsAntisymmetric S) (f : K → Option L) (g : X → Y) where
  abbrev image_of : K × X → List (L × Y)
  image_of e = with_pair (f e.0) (g e.1) []

  carried-indexed : (es : List (K × X)) → carried f g es ≡ flat_map image_of es
  carried-indexed [] = refl
  carried-indexed (e ∷ es) = head (f e.0) (g e.1) (carried f g es) ∙ ap (λ l. image_of e ++ l) (carried-indexed es)
    where
      head : (a : Option L) (y : Y) (c : List (L × Y)) → with_pair a y c ≡ with_pair a y [] ++ c
      head None y c = refl
      head (Some l) y c = refl

  given_is : (a : Option L) (y : Y) (l : L) → is_some (find S l (with_pair a y [])) ≡ true → a ≡ Some l
  given_is None y l h = absurd (true≢false (sym h))
  given_is (Some m) y l h = ap Some (sym (tied_is sameS l m (found (eq_by_cmp S l m) h)))
    where
      found : (b : Bool) → is_some (cond b (Some y) None) ≡ true → b ≡ true
      found true e = refl
      found false e = absurd (true≢false (sym e))

  taken-one : (a : Option L) (y : Y) (m : FinMap S Y) → all_taken (with_pair a y []) m ≡ taken a m
  taken-one None y m = refl
  taken-one (Some l) y m = refl

  -- an entry that goes takes its image with it
  pub carry-remove : (m : FinMap R X) (k : K) (w : X) → get m k ≡ Some w → IsOwn f k (entries m) → carry f g S (remove m k) ≡ taken (f k) (carry f g S m)
  carry-remove m k w is own = ap from_entries (carried-indexed (entries (remove m k)))
      ∙ index-remove oR sameR oS sameS image_of m k w is
      (each_too (λ e h l p q. h l (given_is (f e.0) (g e.1) l p) (given_is (f k) (g w) l q)) (entries (remove m k)) (each-remove oR sameR (λ e. (l : L) → f e.0 ≡ Some l → f k ≡ Some l → e.0 ≡ k) m k own))
      ∙ ap (λ es. all_taken (image_of (k, w)) (from_entries es)) (sym (carried-indexed (entries m)))
      ∙ taken-one (f k) (g w) (carry f g S m)
