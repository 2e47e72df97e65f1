-- Lists that rise: one for each set of ids.
use Rattle.std.proofs.Common.{◌≡◌, ℕ, Bool, true, false, cond, ◌&&◌, ◌||◌, T, List, [], ◌∷◌, ◌++◌, map, Option, Some, None, is_some, refl, sym, ap, ◌∙◌, subst, arith, IsTrue, Ordering, Less, Equal, Greater}
use Rattle.std.specs.List.{filter}
use Rattle.std.specs.Ordering.{is_lt, eq_by_cmp}
use Rattle.std.specs.Cmp.{IsTotalOrder, Equal-is}
use Rattle.std.specs.Cmp.Lexicographic.{on_texts}
use Rattle.std.specs.FinMap.{IsAntisymmetric, nat_cmp-IsAntisymmetric, slice_cmp-IsAntisymmetric, find, put, is_sorted}
use Rattle.std.specs.FinMap.Entries.{by_order, below_all, where_key, is_sorted-put, is_sorted-where_key, find-put, same_entries}
use Rattle.std.proofs.lemmas.Bool.Decides.{nat_tests}
use Rattle.std.proofs.lemmas.List.Folds.{list_any-append}
use Rattle.xod_base.specs.declared.value.EntityId.{EntityId}
use Rattle.xod_base.specs.Rows.{id_cmp, same_id, numbers_of_id}
use Rattle.xod_base.specs.Evaluation.{has_id, put_by, put_id, rising}
use Rattle.xod_sets.specs.Rising.{is_before, rises}

-- ---- the order of ids

id_back : List ℕ → EntityId
id_back [] = record { kind = 0; local = 0 }
id_back (a ∷ []) = record { kind = a; local = 0 }
id_back (a ∷ b ∷ more) = record { kind = a; local = b }

pub id_total : IsTotalOrder id_cmp
id_total = on_texts numbers_of_id

pub id_same : IsAntisymmetric id_cmp
unfolding id_back
id_same a b e = ap id_back (slice_cmp-IsAntisymmetric nat_cmp-IsAntisymmetric (numbers_of_id a) (numbers_of_id b) e)

-- the test of two ids is that of their order
pub same_cmp : (a b : EntityId) → same_id a b ≡ eq_by_cmp id_cmp a b
same_cmp a b = grind (arith, nat_tests)

-- ---- tests

pub both_true : (a b : Bool) → IsTrue a → IsTrue b → IsTrue (a && b)
both_true true b p q = q
both_true false b p q = cc

pub first_true : (a b : Bool) → IsTrue (a && b) → IsTrue a
first_true true b p = refl
first_true false b p = cc

pub second_true : (a b : Bool) → IsTrue (a && b) → IsTrue b
second_true true b p = p
second_true false b p = cc

pub and_false : (b : Bool) → (b && false) ≡ false
and_false true = refl
and_false false = refl

holds : (b : Bool) → IsTrue b → T b
holds b h = subst T (sym h) tt

is_true : (b : Bool) → T b → IsTrue b
is_true true h = refl
is_true false h = absurd h

pub less : (o : Ordering) → IsTrue (is_lt o) → o ≡ Less
less Less h = refl
less Equal h = cc
less Greater h = cc

-- ---- ids as the keys of a map

abbrev entry : EntityId → EntityId × Unit {0}
entry id = (id, tt)

before_is : (id : EntityId) (ids : List EntityId) → is_before id ids ≡ below_all id_cmp id (map entry ids)
before_is id [] = refl
before_is id (x ∷ xs) = ap (λ b. is_lt (id_cmp id x) && b) (before_is id xs)

rises_is : (ids : List EntityId) → rises ids ≡ is_sorted id_cmp (map entry ids)
rises_is [] = refl
rises_is (x ∷ xs) = λ i. before_is x xs i && rises_is xs i

either_found : (b : Bool) (o : Option (Unit {0})) → (b || is_some o) ≡ is_some (cond b (Some tt) o)
either_found true o = refl
either_found false o = refl

has_is : (ids : List EntityId) (q : EntityId) → has_id ids q ≡ is_some (find id_cmp q (map entry ids))
has_is [] q = refl
has_is (x ∷ xs) q = (λ i. same_cmp q x i || has_is xs q i) ∙ either_found (eq_by_cmp id_cmp q x) (find id_cmp q (map entry xs))

put_is : (id : EntityId) (ids : List EntityId) → map entry (put_id id ids) ≡ put id_cmp id tt (map entry ids)
put_is id [] = refl
put_is id (x ∷ xs) = elim (id_cmp id x) as (λ o. map entry (put_by o id x xs (put_id id xs)) ≡ by_order o ((id, tt) ∷ (x, tt) ∷ map entry xs) ((x, tt) ∷ map entry xs) ((x, tt) ∷ put id_cmp id tt (map entry xs))) [
  | Less ↦ refl
  | Equal ↦ refl
  | Greater ↦ ap (λ es. (x, tt) ∷ es) (put_is id xs)
]

keys_back : (ids : List EntityId) → map (λ e. e.0) (map entry ids) ≡ ids
keys_back [] = refl
keys_back (x ∷ xs) = ap (λ l. x ∷ l) (keys_back xs)

one_unit : (o p : Option (Unit {0})) → is_some o ≡ is_some p → o ≡ p
one_unit None None e = refl
one_unit None (Some y) e = absurd (subst T (sym e) tt)
one_unit (Some x) None e = absurd (subst T e tt)
one_unit (Some x) (Some y) e = refl

-- ---- what rises

pub rises_put : (id : EntityId) (ids : List EntityId) → IsTrue (rises ids) → IsTrue (rises (put_id id ids))
rises_put id ids h = rises_is (put_id id ids) ∙ ap (is_sorted id_cmp) (put_is id ids)
    ∙ is_true _ (is_sorted-put id_cmp id_total id tt (map entry ids) (holds _ (sym (rises_is ids) ∙ h)))

pub rises_rising : (ids : List EntityId) → IsTrue (rises (rising ids))
rises_rising [] = refl
rises_rising (x ∷ xs) = rises_put x (rising xs) (rises_rising xs)

pub rises_of : (ids whole : List EntityId) → ids ≡ rising whole → IsTrue (rises ids)
rises_of ids whole is = subst (λ (l : List EntityId). IsTrue (rises l)) (sym is) (rises_rising whole)

has_put : (id : EntityId) (ids : List EntityId) (q : EntityId) → has_id (put_id id ids) q ≡ (same_id q id || has_id ids q)
has_put id ids q = has_is (put_id id ids) q ∙ ap (λ es. is_some (find id_cmp q es)) (put_is id ids)
    ∙ ap is_some (find-put id_cmp id_total q id tt (map entry ids))
    ∙ sym (either_found (eq_by_cmp id_cmp q id) (find id_cmp q (map entry ids)))
    ∙ (λ i. sym (same_cmp q id) i || sym (has_is ids q) i)

-- making a list rise keeps its ids
pub has_rising : (ids : List EntityId) (q : EntityId) → has_id (rising ids) q ≡ has_id ids q
has_rising [] q = refl
has_rising (x ∷ xs) q = has_put x (rising xs) q ∙ ap (λ b. same_id q x || b) (has_rising xs q)

-- the same ids in both
abbrev pub Alike : List EntityId → List EntityId → Type 0
Alike xs ys = (q : EntityId) → has_id xs q ≡ has_id ys q

pub same_rising : (xs ys : List EntityId) → IsTrue (rises xs) → IsTrue (rises ys) → Alike xs ys → xs ≡ ys
same_rising xs ys p q h =
    let same = same_entries id_cmp id_total id_same (map entry xs) (map entry ys) (holds _ (sym (rises_is xs) ∙ p)) (holds _ (sym (rises_is ys) ∙ q))
    (λ k. one_unit _ _ (sym (has_is xs k) ∙ h k ∙ has_is ys k)) in
    sym (keys_back xs) ∙ ap (map (λ e. e.0)) same ∙ keys_back ys

-- lists with the same ids are made into the same list
pub rising_alike : (xs ys : List EntityId) → Alike xs ys → rising xs ≡ rising ys
rising_alike xs ys h = same_rising (rising xs) (rising ys) (rises_rising xs) (rises_rising ys) (λ q. has_rising xs q ∙ h q ∙ sym (has_rising ys q))

pub rising_alone : (ids : List EntityId) → IsTrue (rises ids) → rising ids ≡ ids
rising_alone ids h = same_rising (rising ids) ids (rises_rising ids) h (has_rising ids)

-- ---- what a filter keeps

same_is : (a b : EntityId) → same_id a b ≡ true → a ≡ b
same_is a b e = id_same a b ((Equal-is (id_cmp a b)).0 (sym (same_cmp a b) ∙ e))

pub has_filter : (test : EntityId → Bool) (ids : List EntityId) (q : EntityId) → has_id (filter test ids) q ≡ (has_id ids q && test q)
has_filter test [] q = refl
has_filter test (x ∷ xs) q = elim (same_id q x) as (λ b. same_id q x ≡ b → has_id (cond (test x) (x ∷ filter test xs) (filter test xs)) q ≡ ((b || has_id xs q) && test q)) [
  | true ↦ λ e. let is : q ≡ x = same_is q x e in
      elim (test x) as (λ t. test x ≡ t → has_id (cond t (x ∷ filter test xs) (filter test xs)) q ≡ test q) [
        | true ↦ λ f. ap (λ b. b || has_id (filter test xs) q) e ∙ sym (ap test is ∙ f)
        | false ↦ λ f. has_filter test xs q ∙ ap (λ t. has_id xs q && t) (ap test is ∙ f) ∙ and_false (has_id xs q) ∙ sym (ap test is ∙ f)
      ] refl
  | false ↦ λ e. elim (test x) as (λ t. has_id (cond t (x ∷ filter test xs) (filter test xs)) q ≡ (has_id xs q && test q)) [
    | true ↦ ap (λ b. b || has_id (filter test xs) q) e ∙ has_filter test xs q
    | false ↦ has_filter test xs q
  ]
] refl

filter_is : (test : EntityId → Bool) (ids : List EntityId) → map entry (filter test ids) ≡ where_key id_cmp test (map entry ids)
filter_is test [] = refl
filter_is test (x ∷ xs) = elim (test x) as (λ t. map entry (cond t (x ∷ filter test xs) (filter test xs)) ≡ cond t ((x, tt) ∷ where_key id_cmp test (map entry xs)) (where_key id_cmp test (map entry xs))) [
  | true ↦ ap (λ es. (x, tt) ∷ es) (filter_is test xs)
  | false ↦ filter_is test xs
]

pub rises_filter : (test : EntityId → Bool) (ids : List EntityId) → IsTrue (rises ids) → IsTrue (rises (filter test ids))
rises_filter test ids h = rises_is (filter test ids) ∙ ap (is_sorted id_cmp) (filter_is test ids)
    ∙ is_true _ (is_sorted-where_key id_cmp test (map entry ids) (holds _ (sym (rises_is ids) ∙ h)))

pub has_append : (xs ys : List EntityId) (q : EntityId) → has_id (xs ++ ys) q ≡ (has_id xs q || has_id ys q)
has_append xs ys q = list_any-append (same_id q) xs ys
