-- What holds of each entry of a map holds of each that is found, and the other way round.
use Rattle.std.proofs.Common.{◌≡◌, Bool, true, false, cond, T, ◌&&◌, List, [], ◌∷◌, Some, None, refl, sym, ap, subst, ◌∙◌, true≢false}
use Rattle.std.specs.Prelude.{is_some}
use Rattle.std.specs.List.{AllByRecursion}
use Rattle.std.specs.declared.cmp.Ordering.{Ordering}
use Rattle.std.specs.Ordering.{eq_by_cmp, is_eq, is_lt}
use Rattle.std.specs.Cmp.{IsTotalOrder, tied_itself}
use Rattle.std.specs.FinMap.{FinMap, IsAntisymmetric, insert, remove, entries, entries_sorted, get, find, is_sorted, get-insert, get-remove, get-entries}
use Rattle.std.specs.FinMap.Entries.{below_all}
use Rattle.xod_carry.proofs.Carrying.{tied_is}

parts : (a b : Bool) → T (a && b) → T a × T b
parts true b h = (tt, h)
parts false b h = absurd h

same_some : {A : Type 0} (x y : A) → Some x ≡ Some y → x ≡ y
same_some x y e = cc e

module _ {K X : Type 0} {R : K → K → Ordering} (o : IsTotalOrder R) (same : IsAntisymmetric R) where
  -- a key that is found behind a lower one is another
  below_found : (j k : K) (v : X) (es : List (K × X)) → T (below_all R j es) → find R k es ≡ Some v → eq_by_cmp R k j ≡ false
  below_found j k v [] h is = absurd (true≢false (sym (ap is_some is)))
  below_found j k v (e ∷ es) h is =
      let both = parts (is_lt (R j e.0)) (below_all R j es) h in
      elim (eq_by_cmp R k e.0) as (λ b. eq_by_cmp R k e.0 ≡ b → cond b (Some e.1) (find R k es) ≡ Some v → eq_by_cmp R k j ≡ false) [
        | true ↦ λ t is. apart (eq_by_cmp R k j) refl (subst (λ x. T (is_lt (R j x))) (sym (tied_is same k e.0 t)) both.0)
        | false ↦ λ t is. below_found j k v es both.1 is
      ] refl is
    where
      apart : (b : Bool) → eq_by_cmp R k j ≡ b → T (is_lt (R j k)) → b ≡ false
      apart true t less = absurd (subst (λ r. T (is_lt r)) (ap (R j) (tied_is same k j t) ∙ tied_itself o j) less)
      apart false t less = refl

  each_found : (P : K × X → Type 0) (es : List (K × X)) → T (is_sorted R es) → ((k : K) (v : X) → find R k es ≡ Some v → P (k, v)) → AllByRecursion P es
  each_found P [] h all = tt
  each_found P (e ∷ es) h all =
      let both = parts (below_all R e.0 es) (is_sorted R es) h in (
        all e.0 e.1 (ap (λ r. cond (is_eq r) (Some e.1) (find R e.0 es)) (tied_itself o e.0)),
        each_found P es both.1 (λ k v is. all k v (ap (λ b. cond b (Some e.1) (find R k es)) (below_found e.0 k v es both.0 is) ∙ is)),
      )

  -- from what is found to each entry
  pub each_by_get : (P : K × X → Type 0) (m : FinMap R X) → ((k : K) (v : X) → get m k ≡ Some v → P (k, v)) → AllByRecursion P (entries m)
  each_by_get P m all = each_found P (entries m) (entries_sorted m) (λ k v is. all k v (get-entries m k ∙ is))

  each_find : (P : K × X → Type 0) (k : K) (v : X) (es : List (K × X)) → AllByRecursion P es → find R k es ≡ Some v → P (k, v)
  each_find P k v [] h is = absurd (true≢false (sym (ap is_some is)))
  each_find P k v (e ∷ es) h is =
      elim (eq_by_cmp R k e.0) as (λ b. eq_by_cmp R k e.0 ≡ b → cond b (Some e.1) (find R k es) ≡ Some v → P (k, v)) [
        | true ↦ λ t is. let keys = sym (tied_is same k e.0 t) in subst P (λ i. (keys i, same_some e.1 v is i)) h.0
        | false ↦ λ t is. each_find P k v es h.1 is
      ] refl is

  -- from each entry to one that is found
  pub each_get : (P : K × X → Type 0) (m : FinMap R X) (k : K) (v : X) → AllByRecursion P (entries m) → get m k ≡ Some v → P (k, v)
  each_get P m k v h is = each_find P k v (entries m) h (sym (get-entries m k) ∙ is)

  -- after a put
  pub each-insert : (P : K × X → Type 0) (m : FinMap R X) (k : K) (v : X) → P (k, v) → AllByRecursion P (entries m) → AllByRecursion P (entries (insert m k v))
  each-insert P m k v new all = each_by_get P (insert m k v) (λ q w is. either q w (eq_by_cmp R q k) refl (sym (get-insert o m k v q) ∙ is))
    where
      either : (q : K) (w : X) (b : Bool) → eq_by_cmp R q k ≡ b → cond b (Some v) (get m q) ≡ Some w → P (q, w)
      either q w true t is = let keys = sym (tied_is same q k t) in subst P (λ i. (keys i, same_some v w is i)) new
      either q w false t is = each_get P m q w all is

  -- after a removal
  pub each-remove : (P : K × X → Type 0) (m : FinMap R X) (k : K) → AllByRecursion P (entries m) → AllByRecursion P (entries (remove m k))
  each-remove P m k all = each_by_get P (remove m k) (λ q w is. either q w (eq_by_cmp R q k) (sym (get-remove o m k q) ∙ is))
    where
      either : (q : K) (w : X) (b : Bool) → cond b None (get m q) ≡ Some w → P (q, w)
      either q w true is = absurd (true≢false (sym (ap is_some is)))
      either q w false is = each_get P m q w all is
