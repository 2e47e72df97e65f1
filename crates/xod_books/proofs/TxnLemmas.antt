-- The entries of an ordered map of std, as a finite map.
use Rattle.std.proofs.Common.{◌≡◌, ◌∙◌, ℕ, Bool, true, cond, T, List, [], ◌∷◌, Option, Some, None, refl, sym, ap, subst}
use Rattle.std.specs.Prelude.{◌&&◌}
use Rattle.std.specs.List.{AllByRecursion}
use Rattle.std.specs.List.Sorted.{IsStrictlySortedBy}
use Rattle.std.specs.Map.{keys_of, lookup}
use Rattle.std.specs.BTreeMap.{is_at}
use Rattle.std.specs.Ordering.{eq_by_cmp, is_lt, nat_cmp}
use Rattle.std.specs.declared.cmp.Ordering.TheVariants.{Less}
use Rattle.std.specs.Cmp.{eq_by_cmp_equiv}
use Rattle.std.proofs.lemmas.Cmp.{nat_cmp_total}
use Rattle.std.specs.FinMap.{empty, entries, find, get-empty, from_sorted, get, insert, remove, get-from_sorted, get-insert, get-remove, entries-from_sorted, nat_cmp-IsAntisymmetric, same_map}
use Rattle.std.specs.FinMap.Entries.{below_all, is_sorted}
use Rattle.std.proofs.lemmas.Map.Keys.{sorted_head, sorted_tail}

holds : (b : Bool) → b ≡ true → T b
holds b is = subst T (sym is) tt

module _ {X : Type 0} where
  above_first : (x : ℕ) (es : List (ℕ × X)) → AllByRecursion (λ y. nat_cmp x y ≡ Less) (keys_of es) → below_all nat_cmp x es ≡ true
  above_first x [] all = refl
  above_first x (e ∷ es) all = λ i. is_lt (all.0 i) && above_first x es all.1 i

  pub is_sorted-rising : (es : List (ℕ × X)) → IsStrictlySortedBy nat_cmp (keys_of es) → is_sorted nat_cmp es ≡ true
  is_sorted-rising [] rising = refl
  is_sorted-rising (e ∷ es) rising =
      λ i. above_first e.0 es (sorted_head nat_cmp e.0 (keys_of es) rising) i && is_sorted-rising es (sorted_tail nat_cmp e.0 (keys_of es) rising) i

  lookup-find : (q : ℕ) (es : List (ℕ × X)) → lookup (is_at (nat_cmp q)) es ≡ find nat_cmp q es
  lookup-find q [] = refl
  lookup-find q (e ∷ es) = ap (cond (eq_by_cmp nat_cmp q e.0) (Some e.1)) (lookup-find q es)

  pub entries-sorted : (es : List (ℕ × X)) → is_sorted nat_cmp es ≡ true → entries (from_sorted {R = nat_cmp} es) ≡ es
  entries-sorted es is = entries-from_sorted nat_cmp es (holds _ is)

  pub get-sorted : (es : List (ℕ × X)) (q : ℕ) → is_sorted nat_cmp es ≡ true → get (from_sorted {R = nat_cmp} es) q ≡ lookup (is_at (nat_cmp q)) es
  get-sorted es q is = get-from_sorted nat_cmp es q (holds _ is) ∙ sym (lookup-find q es)

  pub from_sorted-none : from_sorted {X = X} {R = nat_cmp} [] ≡ empty
  from_sorted-none = same_map nat_cmp_total nat_cmp-IsAntisymmetric _ _ (λ q. get-from_sorted nat_cmp [] q tt ∙ sym (get-empty nat_cmp q))

  -- the map has one value more at a key, or one less, and all others as before
  module _ (old new : List (ℕ × X)) (k : ℕ) (was : is_sorted nat_cmp old ≡ true) (rising : IsStrictlySortedBy nat_cmp (keys_of new)) where
    updated : (v : Option X) → ((q : ℕ) → lookup (is_at (nat_cmp q)) new ≡ cond (is_at (nat_cmp k) q) v (lookup (is_at (nat_cmp q)) old))
        → (q : ℕ) → get (from_sorted {R = nat_cmp} new) q ≡ cond (eq_by_cmp nat_cmp q k) v (get (from_sorted {R = nat_cmp} old) q)
    updated v is q =
        get-sorted new q (is_sorted-rising new rising) ∙ is q
        ∙ (λ i. cond ((eq_by_cmp_equiv nat_cmp_total).symm k q i) v (sym (get-sorted old q was) i))

    pub from_sorted-inserted : (v : X) → ((q : ℕ) → lookup (is_at (nat_cmp q)) new ≡ cond (is_at (nat_cmp k) q) (Some v) (lookup (is_at (nat_cmp q)) old))
        → from_sorted {R = nat_cmp} new ≡ insert (from_sorted old) k v
    from_sorted-inserted v is = same_map nat_cmp_total nat_cmp-IsAntisymmetric _ _ (λ q. updated (Some v) is q ∙ sym (get-insert nat_cmp_total (from_sorted old) k v q))

    pub from_sorted-removed : ((q : ℕ) → lookup (is_at (nat_cmp q)) new ≡ cond (is_at (nat_cmp k) q) None (lookup (is_at (nat_cmp q)) old))
        → from_sorted {R = nat_cmp} new ≡ remove (from_sorted old) k
    from_sorted-removed is = same_map nat_cmp_total nat_cmp-IsAntisymmetric _ _ (λ q. updated None is q ∙ sym (get-remove nat_cmp_total (from_sorted old) k q))
