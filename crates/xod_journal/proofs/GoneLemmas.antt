-- Maps from which a list of entries is taken, one after the other.
use Rattle.std.proofs.Common.{◌≡◌, Bool, true, false, cond, List, [], ◌∷◌, map, Option, Some, None, refl, sym, ap, subst, ◌∙◌}
use Rattle.std.specs.Prelude.{◌&&◌, ◌||◌, is_some}
use Rattle.std.specs.List.{filter, list_any}
use Rattle.std.specs.declared.cmp.Ordering.{Ordering}
use Rattle.std.specs.declared.cmp.Ordering.TheVariants.{Less, Equal, Greater}
use Rattle.std.proofs.lemmas.Bool.{false≢true}
use Rattle.std.specs.Ordering.{eq_by_cmp, is_eq, is_lt}
use Rattle.std.specs.Cmp.{IsTotalOrder, tied_itself, eq_by_cmp_equiv}
use Rattle.std.specs.FinMap.{FinMap, IsAntisymmetric, entries, find, get, keys, remove, is_sorted, entries_sorted, get-entries, get-remove, contains_key-keys}
use Rattle.std.specs.FinMap.Entries.{below_all}
use Rattle.xod_journal.proofs.ListLemmas.{two}
use Rattle.xod_journal.proofs.MapLemmas.{is_true}

-- an ordering that is equal, and one that is less
pub equal_of : (r : Ordering) → is_eq r ≡ true → r ≡ Equal
equal_of Less h = absurd (false≢true h)
equal_of Equal h = refl
equal_of Greater h = absurd (false≢true h)

less_of : (r : Ordering) → is_lt r ≡ true → r ≡ Less
less_of Less h = refl
less_of Equal h = absurd (false≢true h)
less_of Greater h = absurd (false≢true h)

-- the map without the entries of a list
abbrev pub gone : {K X : Type 0} {R : K → K → Ordering} → FinMap R X → List (K × X) → FinMap R X
gone m [] = m
gone m (e ∷ es) = gone (remove m e.0) es

-- each entry of a list is one of a map
abbrev pub Held : {K X : Type 0} {R : K → K → Ordering} → FinMap R X → List (K × X) → Type 0
Held m [] = Unit {0}
Held m (e ∷ es) = (get m e.0 ≡ Some e.1) × Held m es

-- each entry of a list is found in another
abbrev Found : {K X : Type 0} → (K → K → Ordering) → List (K × X) → List (K × X) → Type 0
Found R all [] = Unit {0}
Found R all (e ∷ es) = (find R e.0 all ≡ Some e.1) × Found R all es

-- a key that another one is below does not tie with it
apart : {K : Type 0} {R : K → K → Ordering} → IsTotalOrder R → (k x : K) → is_lt (R k x) ≡ true → eq_by_cmp R x k ≡ false
apart {R = R} o k x h = (eq_by_cmp_equiv o).symm x k ∙ ap is_eq (less_of (R k x) h)

never : {A : Type 0} (b : Bool) → ◌≡◌ {A = Option A} (cond b None None) None
never true = refl
never false = refl

module _ {K X : Type 0} {R : K → K → Ordering} (o : IsTotalOrder R) where
  found_behind : (e : K × X) (all es : List (K × X)) → below_all R e.0 es ≡ true → Found R all es → Found R (e ∷ all) es
  found_behind e all [] below f = tt
  found_behind e all (x ∷ es) below f =
      let t = two (is_lt (R e.0 x.0)) (below_all R e.0 es) below in
      (ap (λ b. cond b (Some e.1) (find R x.0 all)) (apart o e.0 x.0 t.0) ∙ f.0, found_behind e all es t.1 f.1)

  found_all : (es : List (K × X)) → is_sorted R es ≡ true → Found R es es
  found_all [] h = tt
  found_all (e ∷ es) h =
      let t = two (below_all R e.0 es) (is_sorted R es) h in
      (ap (λ r. cond (is_eq r) (Some e.1) (find R e.0 es)) (tied_itself o e.0), found_behind e es es t.0 (found_all es t.1))

  held_of : (m : FinMap R X) (es : List (K × X)) → Found R (entries m) es → Held m es
  held_of m [] f = tt
  held_of m (e ∷ es) f = (get-entries m e.0 ∙ f.0, held_of m es f.1)

  -- each entry of a map is one of it
  pub held_all : (m : FinMap R X) → Held m (entries m)
  held_all m = held_of m (entries m) (found_all (entries m) (is_true _ (entries_sorted m)))

  pub held_some : (m : FinMap R X) (p : K × X → Bool) (es : List (K × X)) → Held m es → Held m (filter p es)
  held_some m p [] h = tt
  held_some m p (e ∷ es) h = elim (p e) as (λ b. Held m (cond b (e ∷ filter p es) (filter p es))) [ true ↦ (h.0, held_some m p es h.1) | false ↦ held_some m p es h.1 ]

  below_some : (k : K) (p : K × X → Bool) (es : List (K × X)) → below_all R k es ≡ true → below_all R k (filter p es) ≡ true
  below_some k p [] h = refl
  below_some k p (e ∷ es) h =
      let t = two (is_lt (R k e.0)) (below_all R k es) h in
      elim (p e) as (λ b. below_all R k (cond b (e ∷ filter p es) (filter p es)) ≡ true) [
        | true ↦ λ i. t.0 i && below_some k p es t.1 i
        | false ↦ below_some k p es t.1
      ]

  pub sorted_some : (p : K × X → Bool) (es : List (K × X)) → is_sorted R es ≡ true → is_sorted R (filter p es) ≡ true
  sorted_some p [] h = refl
  sorted_some p (e ∷ es) h =
      let t = two (below_all R e.0 es) (is_sorted R es) h in
      elim (p e) as (λ b. is_sorted R (cond b (e ∷ filter p es) (filter p es)) ≡ true) [
        | true ↦ λ i. below_some e.0 p es t.0 i && sorted_some p es t.1 i
        | false ↦ sorted_some p es t.1
      ]

  pub sorted_all : (m : FinMap R X) → is_sorted R (entries m) ≡ true
  sorted_all m = is_true _ (entries_sorted m)

  -- what is above a key stays where that key is taken out
  pub held_after : (m : FinMap R X) (k : K) (es : List (K × X)) → below_all R k es ≡ true → Held m es → Held (remove m k) es
  held_after m k [] below h = tt
  held_after m k (e ∷ es) below h =
      let t = two (is_lt (R k e.0)) (below_all R k es) below in
      (get-remove o m k e.0 ∙ ap (λ b. cond b None (get m e.0)) (apart o k e.0 t.0) ∙ h.0, held_after m k es t.1 h.1)

  -- what is taken out stays out
  pub gone_none : (m : FinMap R X) (es : List (K × X)) (q : K) → get m q ≡ None → get (gone m es) q ≡ None
  gone_none m [] q h = h
  gone_none m (e ∷ es) q h = gone_none (remove m e.0) es q (get-remove o m e.0 q ∙ ap (cond (eq_by_cmp R q e.0) None) h ∙ never (eq_by_cmp R q e.0))

  -- what is in no entry of the list stays
  pub gone_others : (m : FinMap R X) (es : List (K × X)) (q : K) → list_any (eq_by_cmp R q) (map (λ e. e.0) es) ≡ false → get (gone m es) q ≡ get m q
  gone_others m [] q h = refl
  gone_others m (e ∷ es) q h =
      let t = neither (eq_by_cmp R q e.0) (list_any (eq_by_cmp R q) (map (λ x. x.0) es)) h in
      gone_others (remove m e.0) es q t.1 ∙ get-remove o m e.0 q ∙ ap (λ b. cond b None (get m q)) t.0
    where
      neither : (b c : Bool) → (b || c) ≡ false → (b ≡ false) × (c ≡ false)
      neither true c h = absurd (false≢true (sym h))
      neither false c h = (refl, h)

  -- what is in the list is gone
  gone_now : (m : FinMap R X) (es : List (K × X)) (q : K) → list_any (eq_by_cmp R q) (map (λ e. e.0) es) ≡ true → get (gone m es) q ≡ None
  gone_now m [] q h = absurd (false≢true h)
  gone_now m (e ∷ es) q h =
      elim (eq_by_cmp R q e.0) as (λ b. eq_by_cmp R q e.0 ≡ b → (b || list_any (eq_by_cmp R q) (map (λ x. x.0) es)) ≡ true → get (gone (remove m e.0) es) q ≡ None) [
        | true ↦ λ is _. gone_none (remove m e.0) es q (get-remove o m e.0 q ∙ ap (λ b. cond b None (get m q)) is)
        | false ↦ λ _ rest. gone_now (remove m e.0) es q rest
      ] refl h

  module _ (same : IsAntisymmetric R) (p : K → Bool) where
    any_some : (q : K) → p q ≡ true → (es : List (K × X)) → list_any (eq_by_cmp R q) (map (λ e. e.0) (filter (λ e. p e.0) es)) ≡ list_any (eq_by_cmp R q) (map (λ e. e.0) es)
    any_some q h [] = refl
    any_some q h (e ∷ es) =
        elim (eq_by_cmp R q e.0) as (λ b. eq_by_cmp R q e.0 ≡ b → list_any (eq_by_cmp R q) (map (λ x. x.0) (cond (p e.0) (e ∷ filter (λ x. p x.0) es) (filter (λ x. p x.0) es))) ≡ (b || list_any (eq_by_cmp R q) (map (λ x. x.0) es))) [
          | true ↦ λ is.
              let passes : p e.0 ≡ true = subst (λ k. p k ≡ true) (same q e.0 (equal_of (R q e.0) is)) h in
              ap (λ b. list_any (eq_by_cmp R q) (map (λ x. x.0) (cond b (e ∷ filter (λ x. p x.0) es) (filter (λ x. p x.0) es)))) passes
              ∙ ap (λ b. b || list_any (eq_by_cmp R q) (map (λ x. x.0) (filter (λ x. p x.0) es))) is
          | false ↦ λ is.
              elim (p e.0) as (λ b. list_any (eq_by_cmp R q) (map (λ x. x.0) (cond b (e ∷ filter (λ x. p x.0) es) (filter (λ x. p x.0) es))) ≡ list_any (eq_by_cmp R q) (map (λ x. x.0) es)) [
                | true ↦ ap (λ b. b || list_any (eq_by_cmp R q) (map (λ x. x.0) (filter (λ x. p x.0) es))) is ∙ any_some q h es
                | false ↦ any_some q h es
              ]
        ] refl

    -- no key that passes a test is left where the entries that pass it were taken, also from a map with fewer
    pub gone_test : (m less : FinMap R X) → ((q : K) → get m q ≡ None → get less q ≡ None) → (q : K) → p q ≡ true → get (gone less (filter (λ e. p e.0) (entries m))) q ≡ None
    gone_test m less fewer q h =
        elim (list_any (eq_by_cmp R q) (keys m)) as (λ b. list_any (eq_by_cmp R q) (keys m) ≡ b → get (gone less (filter (λ e. p e.0) (entries m))) q ≡ None) [
          | true ↦ λ is. gone_now less (filter (λ e. p e.0) (entries m)) q (any_some q h (entries m) ∙ is)
          | false ↦ λ is. gone_none less (filter (λ e. p e.0) (entries m)) q (fewer q (none_of (get m q) (contains_key-keys m q ∙ is)))
        ] refl
      where
        none_of : (x : Option X) → is_some x ≡ false → x ≡ None
        none_of None e = refl
        none_of (Some v) e = absurd (false≢true (sym e))

  -- no entry passes a test that no key in the map passes
  none_found : (p : K → Bool) (es : List (K × X)) → ((q : K) → p q ≡ true → find R q es ≡ None) → list_any p (map (λ e. e.0) es) ≡ false
  none_found p [] h = refl
  none_found p (e ∷ es) h =
      elim (p e.0) as (λ b. p e.0 ≡ b → (b || list_any p (map (λ x. x.0) es)) ≡ false) [
        | true ↦ λ is. absurd (false≢true (sym (ap is_some (sym (ap (λ r. cond (is_eq r) (Some e.1) (find R e.0 es)) (tied_itself o e.0)) ∙ h e.0 is))))
        | false ↦ λ _. none_found p es (λ q t. behind (eq_by_cmp R q e.0) (find R q es) (h q t))
      ] refl
    where
      behind : (b : Bool) (x : Option X) → cond b (Some e.1) x ≡ None → x ≡ None
      behind true x i = absurd (false≢true (sym (ap is_some i)))
      behind false x i = i

  pub none_left : (p : K → Bool) (m : FinMap R X) → ((q : K) → p q ≡ true → get m q ≡ None) → list_any p (keys m) ≡ false
  none_left p m h = none_found p (entries m) (λ q t. sym (get-entries m q) ∙ h q t)
