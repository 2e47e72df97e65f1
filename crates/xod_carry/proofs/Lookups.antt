-- What a map has at a key: a carried map, and maps whose look-ups are known.
use Rattle.std.proofs.Common.{◌≡◌, ◌≢◌, ◌-◌, Bool, true, false, cond, List, [], ◌∷◌, length, Option, Some, None, refl, sym, ap, ◌∙◌, true≢false, arith}
use Rattle.std.specs.Prelude.{is_some}
use Rattle.std.specs.Option.{option_map}
use Rattle.std.specs.List.{AllByRecursion}
use Rattle.std.specs.declared.cmp.Ordering.{Ordering}
use Rattle.std.specs.Ordering.{eq_by_cmp, is_eq}
use Rattle.std.specs.Cmp.{IsTotalOrder, tied_itself}
use Rattle.std.specs.FinMap.{FinMap, IsAntisymmetric, insert, remove, from_entries, entries, get, find, len, get-insert, get-remove, get-entries, get-from_entries, same_map, len-remove, empty_of_len}
use Rattle.xod_carry.specs.Carry.{with_pair, carried, carry}
use Rattle.xod_carry.specs.Laws.{IsOwn, AreApart}
use Rattle.xod_carry.proofs.Carrying.{tied_is}
use Rattle.xod_carry.proofs.Lists.{each_both}

cond_same : {A : Type 0} (b : Bool) (x y z : A) → cond b x (cond b y z) ≡ cond b x z
cond_same true x y z = refl
cond_same false x y z = refl

cond_kept : {A : Type 0} (b : Bool) (x z : A) → (b ≡ true → z ≡ x) → cond b x z ≡ z
cond_kept true x z e = sym (e refl)
cond_kept false x z e = refl

module _ {K X : Type 0} {R : K → K → Ordering} (o : IsTotalOrder R) (same : IsAntisymmetric R) where
  -- an entry that is taken out and put back
  pub insert-remove : (m : FinMap R X) (k : K) (v : X) → insert (remove m k) k v ≡ insert m k v
  insert-remove m k v = same_map o same _ _ (λ q. get-insert o (remove m k) k v q ∙ ap (cond (eq_by_cmp R q k) (Some v)) (get-remove o m k q)
      ∙ cond_same (eq_by_cmp R q k) (Some v) None (get m q) ∙ sym (get-insert o m k v q))

  -- a put of what is there
  pub insert_same : (m : FinMap R X) (k : K) (v : X) → get m k ≡ Some v → insert m k v ≡ m
  insert_same m k v is = same_map o same _ _ (λ q. get-insert o m k v q ∙ cond_kept (eq_by_cmp R q k) (Some v) (get m q) (λ h. ap (get m) (tied_is same q k h) ∙ is))

  -- a new entry that is taken out again
  pub remove-insert : (m : FinMap R X) (k : K) (v : X) → get m k ≡ None → remove (insert m k v) k ≡ m
  remove-insert m k v is = same_map o same _ _ (λ q. get-remove o (insert m k v) k q ∙ ap (cond (eq_by_cmp R q k) None) (get-insert o m k v q)
      ∙ cond_same (eq_by_cmp R q k) None (Some v) (get m q) ∙ cond_kept (eq_by_cmp R q k) None (get m q) (λ h. ap (get m) (tied_is same q k h) ∙ is))

  -- a removal of what is not there
  pub remove_absent : (m : FinMap R X) (k : K) → get m k ≡ None → remove m k ≡ m
  remove_absent m k is = same_map o same _ _ (λ q. get-remove o m k q ∙ cond_kept (eq_by_cmp R q k) None (get m q) (λ h. ap (get m) (tied_is same q k h) ∙ is))

  pub get_removed : (m : FinMap R X) (k : K) → get (remove m k) k ≡ None
  get_removed m k = get-remove o m k k ∙ ap (λ r. cond (is_eq r) None (get m k)) (tied_itself o k)

  absent_each : (k : K) (es : List (K × X)) → find R k es ≡ None → AllByRecursion (λ e. e.0 ≢ k) es
  absent_each k [] h = tt
  absent_each k (e ∷ es) h =
      elim (eq_by_cmp R k e.0) as (λ b. eq_by_cmp R k e.0 ≡ b → cond b (Some e.1) (find R k es) ≡ None → AllByRecursion (λ e. e.0 ≢ k) (e ∷ es)) [
        | true ↦ λ t is. absurd (true≢false (ap is_some is))
        | false ↦ λ t is. (λ at. true≢false (sym (ap is_eq (ap (R k) at ∙ tied_itself o k)) ∙ t), absent_each k es is)
      ] refl h

  -- a key that is not there is none of the keys that are
  pub absent_keys : (m : FinMap R X) (k : K) → get m k ≡ None → AllByRecursion (λ e. e.0 ≢ k) (entries m)
  absent_keys m k h = absent_each k (entries m) (sym (get-entries m k) ∙ h)

  -- a map that has each entry of a list whose keys are apart, and as many, is the map of the list
  pub same_by_lookups : (es : List (K × X)) (m : FinMap R X) → AreApart es → AllByRecursion (λ e. get m e.0 ≡ Some e.1) es → len m ≡ length es → m ≡ from_entries es
  same_by_lookups [] m apart all long = empty_of_len m long
  same_by_lookups (e ∷ es) m apart all long =
      let there : is_some (get m e.0) ≡ true = ap is_some all.0 in
      let shorter : len (remove m e.0) ≡ length es = len-remove o m e.0 ∙ ap (λ b. cond b (len m - 1) (len m)) there ∙ omega (arith, long) in
      let rest = same_by_lookups es (remove m e.0) apart.1
      (each_both (λ x differs is. get-remove o m e.0 x.0 ∙ cond_kept (eq_by_cmp R x.0 e.0) None (get m x.0) (λ h. absurd (differs (tied_is same x.0 e.0 h))) ∙ is) es apart.0 all.1) shorter in
      sym (insert_same m e.0 e.1 all.0) ∙ sym (insert-remove m e.0 e.1) ∙ ap (λ t. insert t e.0 e.1) rest

module _ {K X L Y : Type 0} {R : K → K → Ordering} {S : L → L → Ordering} (oR : IsTotalOrder R) (sameR : IsAntisymmetric R) (oS : IsTotalOrder S) (sameS : IsAntisymmetric S) (f : K → Option L) (g : X → Y) where
  -- an entry at the head: its image is at l exactly where its key is k
  at_head : (a : Option L) (w : X) (j k : K) (l : L) (c : List (L × Y)) (o : Option X) → f k ≡ Some l → a ≡ f j → ((m : L) → a ≡ Some m → f k ≡ Some m → j ≡ k) → find S l c ≡ option_map g o
      → find S l (with_pair a (g w) c) ≡ option_map g (cond (eq_by_cmp R k j) (Some w) o)
  at_head a w j k l c o is same own rest =
      elim (eq_by_cmp R k j) as (λ b. eq_by_cmp R k j ≡ b → find S l (with_pair a (g w) c) ≡ option_map g (cond b (Some w) o)) [
        | true ↦ λ t. let e : k ≡ j = tied_is sameR k j t in
            ap (λ x. find S l (with_pair x (g w) c)) (same ∙ ap f (sym e) ∙ is) ∙ ap (λ r. cond (is_eq r) (Some (g w)) (find S l c)) (tied_itself oS l)
        | false ↦ λ t. other a own t
      ] refl
    where
      other : (b : Option L) → ((m : L) → b ≡ Some m → f k ≡ Some m → j ≡ k) → eq_by_cmp R k j ≡ false → find S l (with_pair b (g w) c) ≡ option_map g o
      other None own t = rest
      other (Some m) own t =
          elim (eq_by_cmp S l m) as (λ b. eq_by_cmp S l m ≡ b → cond b (Some (g w)) (find S l c) ≡ option_map g o) [
            | true ↦ λ h. let e : l ≡ m = tied_is sameS l m h in absurd (true≢false (sym (ap is_eq (ap (R k) (own m refl (is ∙ ap Some e)) ∙ tied_itself oR k)) ∙ t))
            | false ↦ λ h. rest
          ] refl

  find-carried : (k : K) (l : L) (es : List (K × X)) → f k ≡ Some l → IsOwn f k es → find S l (carried f g es) ≡ option_map g (find R k es)
  find-carried k l [] is own = refl
  find-carried k l (e ∷ es) is own = at_head (f e.0) e.1 e.0 k l (carried f g es) (find R k es) is refl own.0 (find-carried k l es is own.1)

  -- a carried map has at a key's image the image of what the map has at the key
  pub get-carry : (m : FinMap R X) (k : K) (l : L) → f k ≡ Some l → IsOwn f k (entries m) → get (carry f g S m) l ≡ option_map g (get m k)
  get-carry m k l is own = get-from_entries oS (carried f g (entries m)) l ∙ find-carried k l (entries m) is own ∙ ap (option_map g) (sym (get-entries m k))
