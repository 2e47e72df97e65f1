-- What one step of a pass over two lists that rise leaves to come.
use Rattle.std.proofs.Common.{◌≡◌, Bool, true, false, not, cond, ◌&&◌, ◌||◌, List, [], ◌∷◌, ◌++◌, refl, sym, ap, ◌∙◌, subst, IsTrue, Less, Equal, Greater}
use Rattle.std.specs.List.{filter}
use Rattle.std.specs.Ordering.{is_lt, is_eq, ordering_reverse}
use Rattle.std.specs.Cmp.{tied_itself}
use Rattle.std.proofs.lemmas.List.Folds.{list_all-append}
use Rattle.xod_base.specs.declared.value.EntityId.{EntityId}
use Rattle.xod_base.specs.Rows.{id_cmp, same_id}
use Rattle.xod_base.specs.Evaluation.{has_id, put_by, put_id, rising}
use Rattle.xod_sets.specs.Rising.{is_before, rises}
use Rattle.xod_sets.proofs.Rising.{id_total, same_cmp, both_true, first_true, second_true, less, rising_alike, and_false, has_append}

-- ---- ids before others

before_next : (x y : EntityId) (ys : List EntityId) → id_cmp x y ≡ Less → IsTrue (is_before x ys) → IsTrue (is_before x (y ∷ ys))
before_next x y ys lt h = both_true (is_lt (id_cmp x y)) (is_before x ys) (ap is_lt lt) h

before_later : (x y : EntityId) (ys : List EntityId) → id_cmp x y ≡ Less → IsTrue (is_before y ys) → IsTrue (is_before x ys)
before_later x y [] lt h = refl
before_later x y (z ∷ zs) lt h = before_next x z zs (id_total.trans x y z lt (less (id_cmp y z) (first_true (is_lt (id_cmp y z)) (is_before y zs) h)))
    (before_later x y zs lt (second_true (is_lt (id_cmp y z)) (is_before y zs) h))

before_all : (x y : EntityId) (ys : List EntityId) → id_cmp x y ≡ Less → IsTrue (rises (y ∷ ys)) → IsTrue (is_before x (y ∷ ys))
before_all x y ys lt h = before_next x y ys lt (before_later x y ys lt (first_true (is_before y ys) (rises ys) h))

before_put : (x y : EntityId) (ys : List EntityId) → id_cmp x y ≡ Less → IsTrue (is_before x ys) → IsTrue (is_before x (put_id y ys))
before_put x y [] lt h = before_next x y [] lt h
before_put x y (z ∷ zs) lt h = elim (id_cmp y z) as (λ o. IsTrue (is_before x (put_by o y z zs (put_id y zs)))) [
  | Less ↦ before_next x y (z ∷ zs) lt h
  | Equal ↦ h
  | Greater ↦ both_true (is_lt (id_cmp x z)) (is_before x (put_id y zs)) (first_true (is_lt (id_cmp x z)) (is_before x zs) h)
      (before_put x y zs lt (second_true (is_lt (id_cmp x z)) (is_before x zs) h))
]

before_rising : (x : EntityId) (ys : List EntityId) → IsTrue (is_before x ys) → IsTrue (is_before x (rising ys))
before_rising x [] h = refl
before_rising x (y ∷ ys) h = before_put x y (rising ys) (less (id_cmp x y) (first_true (is_lt (id_cmp x y)) (is_before x ys) h))
    (before_rising x ys (second_true (is_lt (id_cmp x y)) (is_before x ys) h))

put_before : (x : EntityId) (ys : List EntityId) → IsTrue (is_before x ys) → put_id x ys ≡ x ∷ ys
put_before x [] h = refl
put_before x (y ∷ ys) h = ap (λ o. put_by o x y ys (put_id x ys)) (less (id_cmp x y) (first_true (is_lt (id_cmp x y)) (is_before x ys) h))

-- an id before all others is the first of the list that is made
rising_first : (x : EntityId) (ys : List EntityId) → IsTrue (is_before x ys) → rising (x ∷ ys) ≡ x ∷ rising ys
rising_first x ys h = put_before x (rising ys) (before_rising x ys h)

-- ---- the ids in either

before_both : (x : EntityId) (xs ys : List EntityId) → IsTrue (is_before x xs) → IsTrue (is_before x ys) → IsTrue (is_before x (xs ++ ys))
before_both x xs ys h k = list_all-append (λ y. is_lt (id_cmp x y)) xs ys ∙ both_true (is_before x xs) (is_before x ys) h k

or_swap : (a b c : Bool) → (a || (b || c)) ≡ (b || (a || c))
or_swap true true c = refl
or_swap true false c = refl
or_swap false b c = refl

pub or_twice : (a b : Bool) → (a || (a || b)) ≡ (a || b)
or_twice true b = refl
or_twice false b = refl

-- the first of the second list, put in front
has_middle : (xs : List EntityId) (y : EntityId) (ys : List EntityId) (q : EntityId) → has_id (xs ++ y ∷ ys) q ≡ has_id (y ∷ (xs ++ ys)) q
has_middle xs y ys q = has_append xs (y ∷ ys) q ∙ or_swap (has_id xs q) (same_id q y) (has_id ys q) ∙ ap (λ b. same_id q y || b) (sym (has_append xs ys q))

pub either_less : (x y : EntityId) (xs ys : List EntityId) → id_cmp x y ≡ Less → IsTrue (rises (x ∷ xs)) → IsTrue (rises (y ∷ ys))
    → rising ((x ∷ xs) ++ y ∷ ys) ≡ x ∷ rising (xs ++ y ∷ ys)
either_less x y xs ys lt h k = rising_first x (xs ++ y ∷ ys) (before_both x xs (y ∷ ys) (first_true (is_before x xs) (rises xs) h) (before_all x y ys lt k))

pub either_same : (x y : EntityId) (xs ys : List EntityId) → x ≡ y → IsTrue (rises (x ∷ xs)) → IsTrue (rises (y ∷ ys))
    → rising ((x ∷ xs) ++ y ∷ ys) ≡ x ∷ rising (xs ++ ys)
either_same x y xs ys is h k =
    ap (λ z. rising ((x ∷ xs) ++ z ∷ ys)) (sym is)
    ∙ rising_alike ((x ∷ xs) ++ x ∷ ys) (x ∷ (xs ++ ys)) (λ q. ap (λ b. same_id q x || b) (has_middle xs x ys q) ∙ or_twice (same_id q x) (has_id (xs ++ ys) q))
    ∙ rising_first x (xs ++ ys) (before_both x xs ys (first_true (is_before x xs) (rises xs) h)
    (subst (λ (z : EntityId). IsTrue (is_before z ys)) (sym is) (first_true (is_before y ys) (rises ys) k)))

pub either_greater : (x y : EntityId) (xs ys : List EntityId) → id_cmp y x ≡ Less → IsTrue (rises (x ∷ xs)) → IsTrue (rises (y ∷ ys))
    → rising ((x ∷ xs) ++ y ∷ ys) ≡ y ∷ rising ((x ∷ xs) ++ ys)
either_greater x y xs ys lt h k =
    rising_alike ((x ∷ xs) ++ y ∷ ys) (y ∷ ((x ∷ xs) ++ ys)) (has_middle (x ∷ xs) y ys)
    ∙ rising_first y ((x ∷ xs) ++ ys) (before_both y (x ∷ xs) ys (before_all y x xs lt h) (first_true (is_before y ys) (rises ys) k))

-- ---- the ids that are kept for what the second list has

-- `keep` says whether an id stays that the second list has, and whether one stays that it has not
abbrev pub kept : (Bool → Bool) → List EntityId → List EntityId → List EntityId
kept keep ys xs = filter (λ id. keep (has_id ys id)) xs

not_same : (x y : EntityId) → id_cmp x y ≡ Less → same_id x y ≡ false
not_same x y lt = same_cmp x y ∙ ap is_eq lt

not_has : (x : EntityId) (ys : List EntityId) → IsTrue (is_before x ys) → has_id ys x ≡ false
not_has x [] h = refl
not_has x (y ∷ ys) h = ap (λ b. b || has_id ys x) (not_same x y (less (id_cmp x y) (first_true (is_lt (id_cmp x y)) (is_before x ys) h)))
    ∙ not_has x ys (second_true (is_lt (id_cmp x y)) (is_before x ys) h)

not_same_back : (x y : EntityId) → id_cmp y x ≡ Less → same_id x y ≡ false
not_same_back x y lt = same_cmp x y ∙ ap is_eq (id_total.antisymm x y ∙ ap ordering_reverse lt)

-- an id before all of a list is no matter
kept_past : (keep : Bool → Bool) (y : EntityId) (ys xs : List EntityId) → IsTrue (is_before y xs) → kept keep (y ∷ ys) xs ≡ kept keep ys xs
kept_past keep y ys [] h = refl
kept_past keep y ys (x ∷ xs) h =
    let lt : id_cmp y x ≡ Less = less (id_cmp y x) (first_true (is_lt (id_cmp y x)) (is_before y xs) h) in
    λ i. cond (keep (not_same_back x y lt i || has_id ys x)) (x ∷ kept_past keep y ys xs (second_true (is_lt (id_cmp y x)) (is_before y xs) h) i)
    (kept_past keep y ys xs (second_true (is_lt (id_cmp y x)) (is_before y xs) h) i)

pub kept_less : (keep : Bool → Bool) (x y : EntityId) (xs ys : List EntityId) → id_cmp x y ≡ Less → IsTrue (rises (y ∷ ys))
    → kept keep (y ∷ ys) (x ∷ xs) ≡ cond (keep false) (x ∷ kept keep (y ∷ ys) xs) (kept keep (y ∷ ys) xs)
kept_less keep x y xs ys lt k = ap (λ b. cond (keep b) (x ∷ kept keep (y ∷ ys) xs) (kept keep (y ∷ ys) xs)) (not_has x (y ∷ ys) (before_all x y ys lt k))

has_first : (x : EntityId) (xs : List EntityId) → has_id (x ∷ xs) x ≡ true
has_first x xs = ap (λ b. b || has_id xs x) (same_cmp x x ∙ ap is_eq (tied_itself id_total x))

pub kept_same : (keep : Bool → Bool) (x y : EntityId) (xs ys : List EntityId) → x ≡ y → IsTrue (rises (x ∷ xs))
    → kept keep (y ∷ ys) (x ∷ xs) ≡ cond (keep true) (x ∷ kept keep ys xs) (kept keep ys xs)
kept_same keep x y xs ys is h = ap (λ z. kept keep (z ∷ ys) (x ∷ xs)) (sym is)
    ∙ (λ i. cond (keep (has_first x ys i)) (x ∷ kept_past keep x ys xs (first_true (is_before x xs) (rises xs) h) i) (kept_past keep x ys xs (first_true (is_before x xs) (rises xs) h) i))

pub kept_greater : (keep : Bool → Bool) (x y : EntityId) (xs ys : List EntityId) → id_cmp y x ≡ Less → IsTrue (rises (x ∷ xs))
    → kept keep (y ∷ ys) (x ∷ xs) ≡ kept keep ys (x ∷ xs)
kept_greater keep x y xs ys lt h = kept_past keep y ys (x ∷ xs) (before_all y x xs lt h)

pub kept_none : (xs : List EntityId) → kept (λ b. b) [] xs ≡ []
kept_none [] = refl
kept_none (x ∷ xs) = kept_none xs

pub kept_all : (xs : List EntityId) → kept not [] xs ≡ xs
kept_all [] = refl
kept_all (x ∷ xs) = ap (λ l. x ∷ l) (kept_all xs)

-- ---- the test

pub rises_next : (x y : EntityId) (ys : List EntityId) → id_cmp x y ≡ Less → rises (x ∷ y ∷ ys) ≡ rises (y ∷ ys)
rises_next x y ys lt = elim (rises (y ∷ ys)) as (λ b. rises (y ∷ ys) ≡ b → (is_before x (y ∷ ys) && b) ≡ b) [
  | true ↦ λ e. ap (λ b. b && true) (before_all x y ys lt e)
  | false ↦ λ e. and_false (is_before x (y ∷ ys))
] refl

-- ---- a pass

-- An answer over two lists that rise is found step by step: what it has of the two first ids, and what is to come. Each
-- of the three tests says whether the id that is left behind is put out.
pub record IsStepwise (answer : List EntityId → List EntityId → List EntityId) (puts_less puts_same puts_greater : Bool) : Type 0 where
  pub less : (x y : EntityId) (xs ys : List EntityId) → id_cmp x y ≡ Less → IsTrue (rises (x ∷ xs)) → IsTrue (rises (y ∷ ys))
      → answer (x ∷ xs) (y ∷ ys) ≡ cond puts_less (x ∷ answer xs (y ∷ ys)) (answer xs (y ∷ ys))
  pub same : (x y : EntityId) (xs ys : List EntityId) → x ≡ y → IsTrue (rises (x ∷ xs)) → IsTrue (rises (y ∷ ys))
      → answer (x ∷ xs) (y ∷ ys) ≡ cond puts_same (x ∷ answer xs ys) (answer xs ys)
  pub greater : (x y : EntityId) (xs ys : List EntityId) → id_cmp y x ≡ Less → IsTrue (rises (x ∷ xs)) → IsTrue (rises (y ∷ ys))
      → answer (x ∷ xs) (y ∷ ys) ≡ cond puts_greater (y ∷ answer (x ∷ xs) ys) (answer (x ∷ xs) ys)

abbrev pub either : List EntityId → List EntityId → List EntityId
either left right = rising (left ++ right)

abbrev pub both : List EntityId → List EntityId → List EntityId
both left right = kept (λ has. has) right left

abbrev pub first_alone : List EntityId → List EntityId → List EntityId
first_alone left right = kept not right left

pub stepwise_either : IsStepwise either true true true
stepwise_either = record { less = either_less; same = either_same; greater = either_greater }

pub stepwise_both : IsStepwise both false true false
stepwise_both = record {
  less = λ x y xs ys lt h k. kept_less (λ has. has) x y xs ys lt k;
  same = λ x y xs ys is h k. kept_same (λ has. has) x y xs ys is h;
  greater = λ x y xs ys lt h k. kept_greater (λ has. has) x y xs ys lt h;
}

pub stepwise_first : IsStepwise first_alone true false false
stepwise_first = record {
  less = λ x y xs ys lt h k. kept_less not x y xs ys lt k;
  same = λ x y xs ys is h k. kept_same not x y xs ys is h;
  greater = λ x y xs ys lt h k. kept_greater not x y xs ys lt h;
}
