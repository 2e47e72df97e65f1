-- Places in touches that stand by rising key: what is found there, and what a touch more makes of them.
use Rattle.std.proofs.Common.{◌≡◌, ℕ, zero, suc, ◌<◌, ◌≤◌, Bool, true, false, not, ◌&&◌, cond, List, [], ◌∷◌, length, get_or, set, drop, insert, Some, None, slice_get, is_some, refl, sym, ap, ◌∙◌, true≢false, arith}
use Rattle.std.specs.Prelude.{T}
use Rattle.std.specs.declared.cmp.Ordering.{Ordering}
use Rattle.std.specs.declared.cmp.Ordering.TheVariants.{Less, Equal, Greater}
use Rattle.std.specs.FinMap.{find, is_sorted, put}
use Rattle.std.specs.FinMap.Entries.{below_all, by_order}
use Rattle.std.specs.List.Sorted.{IsPartitionPoint, IsPartitionedBy}
use Rattle.std.specs.Ordering.{is_lt, is_le, is_eq}
use Rattle.xod_base.specs.Values.{bytes_cmp}
use Rattle.xod_base.specs.Views.{Test, not_below}
use Rattle.xod_overlay.specs.Marks.{Mark, Touch, above_any, first_touch}
use Rattle.xod_overlay.specs.Places.{passes, place, from, mark_at, stands}
use Rattle.xod_overlay.proofs.Marked.{order, same_keys}

-- ---- tests and orders

pub not_true : (b : Bool) → not b ≡ true → b ≡ false
not_true true e = absurd (true≢false (sym e))
not_true false e = refl

pub not_false : (b : Bool) → not b ≡ false → b ≡ true
not_false true e = refl
not_false false e = absurd (true≢false e)

pub lesser : (r : Ordering) → T (is_lt r) → r ≡ Less
lesser Less h = refl
lesser Equal h = absurd h
lesser Greater h = absurd h

pub is_less : (r : Ordering) → is_lt r ≡ true → r ≡ Less
is_less Less e = refl
is_less Equal e = absurd (true≢false (sym e))
is_less Greater e = absurd (true≢false (sym e))

equal : (r : Ordering) → is_eq r ≡ true → r ≡ Equal
equal Less e = absurd (true≢false (sym e))
equal Equal e = refl
equal Greater e = absurd (true≢false (sym e))

pub first : (a b : Bool) → T (a && b) → T a
first true b h = tt
first false b h = absurd h

pub second : (a b : Bool) → T (a && b) → T b
second true b h = h
second false b h = absurd h

pub both : (a b : Bool) → T a → T b → T (a && b)
both true b h k = k
both false b h k = h

-- a test that is passed by all keys above one that passes it
abbrev pub GoesUp : Test → Type 0
GoesUp test = (x y : List ℕ) → test x ≡ true → bytes_cmp x y ≡ Less → test y ≡ true

pub passes_up : (strict : Bool) (key : List ℕ) → GoesUp (passes strict key)
passes_up true key x y ok less = ap is_lt (order.trans key x y (is_less _ ok) less)
passes_up false key x y ok less = elim (bytes_cmp key x) as (λ r. bytes_cmp key x ≡ r → not_below key y ≡ true) [
  | Less ↦ λ is. ap is_le (order.trans key x y is less)
  | Equal ↦ λ is. ap is_le (order.congr key x y is ∙ less)
  | Greater ↦ λ is. absurd (true≢false (sym ok ∙ ap is_le is))
] refl

-- ---- places

below_at : (x : List ℕ) (es : List Touch) → T (below_all bytes_cmp x es) → (j : ℕ) (d : Touch) → j < length es → bytes_cmp x (get_or es j d).0 ≡ Less
below_at x [] h j d lt = absurd (omega arith)
below_at x (e ∷ es) h zero d lt = lesser _ (first _ _ h)
below_at x (e ∷ es) h (suc j) d lt = below_at x es (second _ _ h) j d (omega arith)

-- a test that fails at a key fails at each key before it
pub partitioned : (test : Test) → GoesUp test → (es : List Touch) → T (is_sorted bytes_cmp es) → IsPartitionedBy (λ e. not (test e.0)) es
partitioned test up [] h i j d le lt fails = absurd (omega arith)
partitioned test up (e ∷ es) h zero zero d le lt fails = fails
partitioned test up (e ∷ es) h zero (suc j) d le lt fails = elim (test e.0) as (λ b. test e.0 ≡ b → not b ≡ true) [
  | true ↦ λ is. absurd (true≢false (sym (up e.0 (get_or es j d).0 is (below_at e.0 es (first _ _ h) j d (omega arith))) ∙ not_true _ fails))
  | false ↦ λ is. refl
] refl
partitioned test up (e ∷ es) h (suc i) zero d le lt fails = absurd (omega arith)
partitioned test up (e ∷ es) h (suc i) (suc j) d le lt fails = partitioned test up es (second _ _ h) i j d (omega arith) (omega arith) fails

-- the place between those that fail and those that pass
pub place_is : (test : Test) (es : List Touch) (i : ℕ) → i ≤ length es → IsPartitionPoint (λ e. not (test e.0) ≡ true) (λ e. not (test e.0) ≡ false) es i → i ≡ place test es
place_is test [] i le h = omega arith
place_is test (e ∷ es) zero le h = sym (ap (λ (b : Bool). cond b 0 (suc (place test es))) (not_false _ (h.1 0 e (omega arith) (omega arith))))
place_is test (e ∷ es) (suc i) le h =
    ap suc (place_is test es i (omega arith) (λ k d low high. h.0 (suc k) d (omega arith) (omega arith), λ k d low high. h.1 (suc k) d (omega arith) (omega arith)))
    ∙ sym (ap (λ (b : Bool). cond b 0 (suc (place test es))) (not_true _ (h.0 0 e (omega arith) (omega arith))))

pub drop_place : (test : Test) (es : List Touch) → drop (place test es) es ≡ from test es
drop_place test [] = refl
drop_place test (e ∷ es) = elim (test e.0) as (λ b. drop (cond b 0 (suc (place test es))) (e ∷ es) ≡ cond b (e ∷ es) (from test es)) [
  | true ↦ refl
  | false ↦ drop_place test es
]

pub first_from : (test : Test) (es : List Touch) → slice_get (from test es) 0 ≡ first_touch test es
first_from test [] = refl
first_from test (e ∷ es) = elim (test e.0) as (λ b. slice_get (cond b (e ∷ es) (from test es)) 0 ≡ cond b (Some e) (first_touch test es)) [
  | true ↦ refl
  | false ↦ first_from test es
]

pub first_of_all : (es : List Touch) → slice_get es 0 ≡ first_touch (above_any None) es
first_of_all [] = refl
first_of_all (e ∷ es) = refl

-- ---- what stands at a key

-- a key below the first is not found
pub none_below : (key x : List ℕ) (es : List Touch) → bytes_cmp key x ≡ Less → T (below_all bytes_cmp x es) → find bytes_cmp key es ≡ None
none_below key x [] less h = refl
none_below key x (e ∷ es) less h =
    ap (λ (r : Ordering). cond (is_eq r) (Some e.1) (find bytes_cmp key es)) (order.trans key x e.0 less (lesser _ (first _ _ h)))
    ∙ none_below key x es less (second _ _ h)

pub found_at : (key : List ℕ) (es : List Touch) → T (is_sorted bytes_cmp es) → mark_at key (slice_get es (place (not_below key) es)) ≡ find bytes_cmp key es
found_at key [] h = refl
found_at key (e ∷ es) h = elim (bytes_cmp key e.0) as (λ r. bytes_cmp key e.0 ≡ r → mark_at key (slice_get (e ∷ es) (cond (is_le r) 0 (suc (place (not_below key) es)))) ≡ cond (is_eq r) (Some e.1) (find bytes_cmp key es)) [
  | Less ↦ λ is. ap (λ (r : Ordering). cond (is_eq r) (Some e.1) None) is ∙ sym (none_below key e.0 es is (first _ _ h))
  | Equal ↦ λ is. ap (λ (r : Ordering). cond (is_eq r) (Some e.1) None) is
  | Greater ↦ λ is. found_at key es (second _ _ h)
] refl

-- ---- one touch more

-- where it stands it takes the mark
set_is_put : (key : List ℕ) (mark : Mark) (es : List Touch) (d : Touch) → stands key es (place (not_below key) es) ≡ true
    → set es (place (not_below key) es) ((get_or es (place (not_below key) es) d).0, mark) ≡ put bytes_cmp key mark es
set_is_put key mark [] d there = absurd (true≢false (sym there))
set_is_put key mark (e ∷ es) d there =
    let later = place (not_below key) es in
    elim (bytes_cmp key e.0) as (λ r. bytes_cmp key e.0 ≡ r → stands key (e ∷ es) (cond (is_le r) 0 (suc later)) ≡ true
    → set (e ∷ es) (cond (is_le r) 0 (suc later)) ((get_or (e ∷ es) (cond (is_le r) 0 (suc later)) d).0, mark) ≡ by_order r ((key, mark) ∷ e ∷ es) ((e.0, mark) ∷ es) (e ∷ put bytes_cmp key mark es)) [
      | Less ↦ λ is there. absurd (true≢false (sym there ∙ ap (λ (r : Ordering). is_some (cond (is_eq r) (Some e.1) None)) is))
      | Equal ↦ λ is there. refl
      | Greater ↦ λ is there. ap (λ (l : List Touch). e ∷ l) (set_is_put key mark es d there)
    ] refl there

-- and else it goes there
insert_is_put : (key : List ℕ) (mark : Mark) (es : List Touch) → stands key es (place (not_below key) es) ≡ false
    → insert es (place (not_below key) es) (key, mark) ≡ put bytes_cmp key mark es
insert_is_put key mark [] absent = refl
insert_is_put key mark (e ∷ es) absent =
    let later = place (not_below key) es in
    elim (bytes_cmp key e.0) as (λ r. bytes_cmp key e.0 ≡ r → stands key (e ∷ es) (cond (is_le r) 0 (suc later)) ≡ false
    → insert (e ∷ es) (cond (is_le r) 0 (suc later)) (key, mark) ≡ by_order r ((key, mark) ∷ e ∷ es) ((e.0, mark) ∷ es) (e ∷ put bytes_cmp key mark es)) [
      | Less ↦ λ is absent. refl
      | Equal ↦ λ is absent. absurd (true≢false (sym (ap (λ (r : Ordering). is_some (cond (is_eq r) (Some e.1) None)) is) ∙ absent))
      | Greater ↦ λ is absent. ap (λ (l : List Touch). e ∷ l) (insert_is_put key mark es absent)
    ] refl absent

pub put_there : (key : List ℕ) (mark : Mark) (es : List Touch) (at : ℕ) (now : Touch) → at ≡ place (not_below key) es → stands key es at ≡ true → now ≡ get_or es at now
    → set es at (now.0, mark) ≡ put bytes_cmp key mark es
put_there key mark es at now at_is there now_is =
    ap (λ (t : Touch). set es at (t.0, mark)) now_is
    ∙ ap (λ (n : ℕ). set es n ((get_or es n now).0, mark)) at_is
    ∙ set_is_put key mark es now (ap (stands key es) (sym at_is) ∙ there)

pub put_new : (key : List ℕ) (mark : Mark) (es : List Touch) (at : ℕ) → at ≡ place (not_below key) es → stands key es at ≡ false
    → insert es at (key, mark) ≡ put bytes_cmp key mark es
put_new key mark es at at_is absent =
    ap (λ (n : ℕ). insert es n (key, mark)) at_is
    ∙ insert_is_put key mark es (ap (stands key es) (sym at_is) ∙ absent)

-- ---- the touches from a key on

pub sorted_from : (test : Test) (es : List Touch) → T (is_sorted bytes_cmp es) → T (is_sorted bytes_cmp (from test es))
sorted_from test [] h = tt
sorted_from test (e ∷ es) h = elim (test e.0) as (λ b. T (is_sorted bytes_cmp (cond b (e ∷ es) (from test es)))) [
  | true ↦ h
  | false ↦ sorted_from test es (second _ _ h)
]

-- the first of them passes
abbrev pub Starts : Test → List Touch → Type 0
Starts test [] = Unit {0}
Starts test (e ∷ es) = test e.0 ≡ true

pub starts_from : (test : Test) (es : List Touch) → Starts test (from test es)
starts_from test [] = tt
starts_from test (e ∷ es) = elim (test e.0) as (λ b. test e.0 ≡ b → Starts test (cond b (e ∷ es) (from test es))) [
  | true ↦ λ is. is
  | false ↦ λ is. starts_from test es
] refl

-- a key that passes is found among them as among all
pub find_from : (test : Test) (es : List Touch) (key : List ℕ) → test key ≡ true → find bytes_cmp key es ≡ find bytes_cmp key (from test es)
find_from test [] key ok = refl
find_from test (e ∷ es) key ok = elim (test e.0) as (λ b. test e.0 ≡ b → find bytes_cmp key (e ∷ es) ≡ find bytes_cmp key (cond b (e ∷ es) (from test es))) [
  | true ↦ λ is. refl
  | false ↦ λ fails. elim (is_eq (bytes_cmp key e.0)) as (λ b. is_eq (bytes_cmp key e.0) ≡ b → cond b (Some e.1) (find bytes_cmp key es) ≡ find bytes_cmp key (from test es)) [
    | true ↦ λ tied. absurd (true≢false (sym ok ∙ ap test (same_keys key e.0 (equal _ tied)) ∙ fails))
    | false ↦ λ apart. find_from test es key ok
  ] refl
] refl
