-- Names in a list, and the next numbers.
use Rattle.std.proofs.Common.{◌≤◌, set, ltb-true, lt-ltb, le-leb, le-ltb, ltb-false, length-set, ◌≡◌, ◌≢◌, ℕ, zero, suc, ◌<◌, Bool, true, false, cond, List, [], ◌∷◌, ◌++◌, length, Option, Some, None, refl, sym, ap, ◌∙◌, arith, nat_eq}
use Rattle.std.specs.Cmp.Lexicographic.{pointwise, bytes_decides}
use Rattle.std.proofs.lemmas.Bool.{false≢true}
use Rattle.std.specs.Prelude.{not, is_some, unwrap_or, ◌&&◌, ◌||◌, nat_lt, nat_le, slice_set}
use Rattle.std.specs.List.{list_all}
use Rattle.xod_base.specs.Rows.{number_of, one_further, next_of, is_listed, are_distinct, are_names, is_name}
use Rattle.xod_base.specs.declared.limits.TheConstants.{MOST_NAMES}
use Rattle.xod_journal.specs.Changes.{has_room, with_name, with_next, kind_number}
use Rattle.xod_journal.proofs.ListLemmas.{both, two, all_pushed}

unlike : (b : Bool) → (b ≢ true) → b ≡ false
unlike true h = absurd (h refl)
unlike false h = refl

pub same_name : (a b : List ℕ) → a ≡ b → pointwise nat_eq a b ≡ true
same_name a b e = (bytes_decides a b).1 e

pub other_name : (a b : List ℕ) → (a ≢ b) → pointwise nat_eq a b ≡ false
other_name a b apart = unlike (pointwise nat_eq a b) (λ e. apart ((bytes_decides a b).0 e))

-- ---- a list with a name more
some_further : (o : Option ℕ) → is_some (one_further o) ≡ is_some o
some_further None = refl
some_further (Some n) = refl

-- the test of a list by its first name
listed_step : (b : Bool) (o : Option ℕ) → is_some (cond b (Some 0) (one_further o)) ≡ (b || is_some o)
listed_step true o = refl
listed_step false o = some_further o

pub listed-cons : (first : List ℕ) (more : List (List ℕ)) (name : List ℕ) → is_listed (first ∷ more) name ≡ (pointwise nat_eq first name || is_listed more name)
listed-cons first more name = listed_step (pointwise nat_eq first name) (number_of more name)

right_or : (b c : Bool) → c ≡ true → (b || c) ≡ true
right_or true c h = refl
right_or false c h = h

neither : (b c : Bool) → (b || c) ≡ false → (b ≡ false) × (c ≡ false)
neither true c h = absurd (false≢true (sym h))
neither false c h = (refl, h)

none : (b c : Bool) → b ≡ false → c ≡ false → (b || c) ≡ false
none b c p q = λ i. p i || q i

-- a name is listed in a list with another at its end where it is one or the other
pub listed-push : (names : List (List ℕ)) (new name : List ℕ) → is_listed (names ++ new ∷ []) name ≡ (is_listed names name || pointwise nat_eq new name)
listed-push [] new name = listed-cons new [] name ∙ no_right (pointwise nat_eq new name)
  where
    no_right : (b : Bool) → (b || false) ≡ b
    no_right true = refl
    no_right false = refl
listed-push (first ∷ more) new name = listed-cons first (more ++ new ∷ []) name
    ∙ ap (λ b. pointwise nat_eq first name || b) (listed-push more new name)
    ∙ regroup (pointwise nat_eq first name) (is_listed more name) (pointwise nat_eq new name)
    ∙ ap (λ b. b || pointwise nat_eq new name) (sym (listed-cons first more name))
  where
    regroup : (a b c : Bool) → (a || (b || c)) ≡ ((a || b) || c)
    regroup true b c = refl
    regroup false b c = refl

turned_name : (a b : List ℕ) → pointwise nat_eq a b ≡ false → pointwise nat_eq b a ≡ false
turned_name a b e = other_name b a (λ is. false≢true (sym e ∙ same_name a b (sym is)))

distinct_push : (names : List (List ℕ)) (new : List ℕ) → are_distinct names ≡ true → is_listed names new ≡ false → are_distinct (names ++ new ∷ []) ≡ true
distinct_push [] new d e = refl
distinct_push (first ∷ more) new d e =
    let t = two (not (is_listed more first)) (are_distinct more) d in
    let n = neither (pointwise nat_eq first new) (is_listed more new) (sym (listed-cons first more new) ∙ e) in
    both _ _
    (ap not (listed-push more new first ∙ none (is_listed more first) (pointwise nat_eq new first) (untrue (is_listed more first) t.0) (turned_name first new n.0)))
    (distinct_push more new t.1 n.1)
  where
    untrue : (b : Bool) → not b ≡ true → b ≡ false
    untrue true h = absurd (false≢true h)
    untrue false h = refl

length_push : {A : Type 0} (xs : List A) (x : A) → length (xs ++ x ∷ []) ≡ suc (length xs)
length_push [] x = refl
length_push (y ∷ xs) x = ap suc (length_push xs x)

three : (a b c : Bool) → (a && b && c) ≡ true → (a ≡ true) × (b ≡ true) × (c ≡ true)
three true true c h = (refl, refl, h)
three true false c h = absurd (false≢true h)
three false b c h = absurd (false≢true h)

-- a list with room for a name is a list of names with it
pub are_names-with : (names : List (List ℕ)) (name : List ℕ) → are_names names ≡ true → has_room names name ≡ true → is_name name ≡ true → are_names (with_name names name) ≡ true
are_names-with names name h room is =
    let t = three (nat_le (length names) MOST_NAMES) (are_distinct names) (list_all is_name names) h in
    elim (is_listed names name) as (λ b. is_listed names name ≡ b → (b || nat_lt (length names) MOST_NAMES) ≡ true → are_names (cond b names (names ++ name ∷ [])) ≡ true) [
      | true ↦ λ e r. h
      | false ↦ λ e r.
          let few : length names < MOST_NAMES = ltb-true (length names) MOST_NAMES r in
          let long = length_push names name in
          let short : length (names ++ name ∷ []) ≤ MOST_NAMES = omega (arith, few, long) in
          λ i. le-leb (length (names ++ name ∷ [])) MOST_NAMES short i && distinct_push names name t.1 e i && all_pushed is_name names name t.2 is i
    ] refl room

pub listed_kept : (names : List (List ℕ)) (new name : List ℕ) → is_listed names name ≡ true → is_listed (with_name names new) name ≡ true
listed_kept names new name h =
    elim (is_listed names new) as (λ b. is_listed (cond b names (names ++ new ∷ [])) name ≡ true) [
      | true ↦ h
      | false ↦ listed-push names new name ∙ ap (λ b. b || pointwise nat_eq new name) h
    ]

pub listed_now : (names : List (List ℕ)) (new : List ℕ) → is_listed (with_name names new) new ≡ true
listed_now names new =
    elim (is_listed names new) as (λ b. is_listed names new ≡ b → is_listed (cond b names (names ++ new ∷ [])) new ≡ true) [
      | true ↦ λ e. e
      | false ↦ λ e. listed-push names new new ∙ right_or (is_listed names new) (pointwise nat_eq new new) (same_name new new refl)
    ] refl

-- a listed name passes a test that all names pass
pub listed_is : (p : List ℕ → Bool) (names : List (List ℕ)) (name : List ℕ) → is_listed names name ≡ true → list_all p names ≡ true → p name ≡ true
listed_is p [] name h all = absurd (false≢true h)
listed_is p (first ∷ more) name h all =
    let t = two (p first) (list_all p more) all in
    elim (pointwise nat_eq first name) as (λ b. pointwise nat_eq first name ≡ b → (b || is_listed more name) ≡ true → p name ≡ true) [
      | true ↦ λ is _. ap p (sym ((bytes_decides first name).0 is)) ∙ t.0
      | false ↦ λ _ later. listed_is p more name later t.1
    ] refl (sym (listed-cons first more name) ∙ h)

-- ---- a type's number, and its next one
number_within : (names : List (List ℕ)) (name : List ℕ) (n : ℕ) → number_of names name ≡ Some n → n < length names
number_within [] name n e = absurd (false≢true (ap is_some e))
number_within (first ∷ more) name n e = step (pointwise nat_eq first name) (number_of more name) (λ m is. number_within more name m is) e
  where
    step : (b : Bool) (o : Option ℕ) → ((m : ℕ) → o ≡ Some m → m < length more) → cond b (Some 0) (one_further o) ≡ Some n → n < suc (length more)
    step true o rec is = let zero_is : 0 ≡ n = ap (λ x. unwrap_or x n) is in omega arith
    step false None rec is = absurd (false≢true (ap is_some is))
    step false (Some m) rec is = let next : suc m ≡ n = ap (λ x. unwrap_or x n) is in let lt : m < length more = rec m refl in omega arith

-- the number of a type is a place in the list, or the end of it
pub kind_number-le : (types : List (List ℕ)) (kind : List ℕ) → kind_number types kind ≤ length types
kind_number-le types kind =
    elim (number_of types kind) as (λ o. number_of types kind ≡ o → unwrap_or o (length types) ≤ length types) [
      | None ↦ λ e. omega arith
      | Some n ↦ λ e. let lt : n < length types = number_within types kind n e in omega arith
    ] refl

pub length-with_next : (types : List (List ℕ)) (kind : List ℕ) (nexts : List ℕ) (next : ℕ) → length nexts ≡ length types → length (with_next nexts (kind_number types kind) next) ≡ length (with_name types kind)
length-with_next types kind nexts next many =
    elim (number_of types kind) as (λ o. number_of types kind ≡ o → length (cond (nat_lt (unwrap_or o (length types)) (length nexts)) (slice_set nexts (unwrap_or o (length types)) next) (nexts ++ next ∷ [])) ≡ length (cond (is_some o) types (types ++ kind ∷ []))) [
      | None ↦ λ e. ap (λ b. length (cond b (slice_set nexts (length types) next) (nexts ++ next ∷ []))) (le-ltb (length types) (length nexts) (omega (arith, many))) ∙ length_push nexts next ∙ ap suc many ∙ sym (length_push types kind)
      | Some n ↦ λ e.
          let lt : n < length types = number_within types kind n e in
          ap (λ b. length (cond b (slice_set nexts n next) (nexts ++ next ∷ []))) (lt-ltb n (length nexts) (omega (arith, many))) ∙ length-set nexts n next ∙ many
    ] refl

next_of-set : (nexts : List ℕ) (kind next other : ℕ) → next_of nexts kind ≤ next → next_of nexts other ≤ next_of (set nexts kind next) other
next_of-set [] kind next other h = omega arith
next_of-set (first ∷ more) zero next zero h = h
next_of-set (first ∷ more) zero next (suc other) h = omega arith
next_of-set (first ∷ more) (suc kind) next zero h = omega arith
next_of-set (first ∷ more) (suc kind) next (suc other) h = next_of-set more kind next other h

next_of-push : (nexts : List ℕ) (next other : ℕ) → next_of nexts other ≤ next_of (nexts ++ next ∷ []) other
next_of-push [] next other = omega arith
next_of-push (first ∷ more) next zero = omega arith
next_of-push (first ∷ more) next (suc other) = next_of-push more next other

-- no next number falls where one is raised
pub next_of-with_next : (nexts : List ℕ) (kind next other : ℕ) → next_of nexts kind ≤ next → next_of nexts other ≤ next_of (with_next nexts kind next) other
next_of-with_next nexts kind next other h =
    elim (nat_lt kind (length nexts)) as (λ b. next_of nexts other ≤ next_of (cond b (slice_set nexts kind next) (nexts ++ next ∷ [])) other) [
      | true ↦ next_of-set nexts kind next other h
      | false ↦ next_of-push nexts next other
    ]

set_next_of : (nexts : List ℕ) (kind next : ℕ) → kind < length nexts → next_of (set nexts kind next) kind ≡ next
set_next_of [] kind next h = absurd (omega arith)
set_next_of (first ∷ more) zero next h = refl
set_next_of (first ∷ more) (suc kind) next h = set_next_of more kind next (omega arith)

push_next_of : (nexts : List ℕ) (next : ℕ) → next_of (nexts ++ next ∷ []) (length nexts) ≡ next
push_next_of [] next = refl
push_next_of (first ∷ more) next = push_next_of more next

pub with_next-now : (nexts : List ℕ) (kind next : ℕ) → kind ≤ length nexts → next_of (with_next nexts kind next) kind ≡ next
with_next-now nexts kind next h =
    elim (nat_lt kind (length nexts)) as (λ b. nat_lt kind (length nexts) ≡ b → next_of (cond b (slice_set nexts kind next) (nexts ++ next ∷ [])) kind ≡ next) [
      | true ↦ λ e. set_next_of nexts kind next (ltb-true kind (length nexts) e)
      | false ↦ λ e. let end : kind ≡ length nexts = omega (arith, ltb-false kind (length nexts) e) in ap (next_of (nexts ++ next ∷ [])) end ∙ push_next_of nexts next
    ] refl
