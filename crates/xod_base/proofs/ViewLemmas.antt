-- The first entry of a list whose key passes, and the least one of a tree.
use Rattle.std.proofs.Common.{◌≡◌, ℕ, Bool, true, false, ◌&&◌, cond, List, [], ◌∷◌, ◌++◌, map, Option, Some, None, refl, sym, ap, subst, ◌∙◌, true≢false, arith}
use Rattle.std.specs.Prelude.{T, IsSome, is_some}
use Rattle.std.specs.declared.cmp.Ordering.{Ordering}
use Rattle.std.specs.declared.cmp.Ordering.TheVariants.{Less, Equal, Greater}
use Rattle.std.specs.Cmp.{IsTotalOrder, tied_itself}
use Rattle.std.specs.Cmp.Lexicographic.{nat_list_cmp_total}
use Rattle.std.specs.FinMap.{entries, entries_sorted, get, get-entries, find, is_sorted, nat_cmp-IsAntisymmetric, slice_cmp-IsAntisymmetric}
use Rattle.std.specs.FinMap.Entries.{below_all}
use Rattle.std.specs.List.{filter}
use Rattle.std.specs.Ordering.{is_lt, is_le, is_eq, nat_cmp, ordering_then, ordering_reverse, eq_by_cmp}
use Rattle.std.proofs.lemmas.Bool.Decides.{nat_tests}
use Rattle.xod_base.specs.Values.{bytes_cmp}
use Rattle.xod_base.specs.Views.{Tree, Entry, Test, first_that, least, not_below, above, those_that, ahead, either, IsLeast}

pub same_keys : (x y : List ℕ) → bytes_cmp x y ≡ Equal → x ≡ y
same_keys = slice_cmp-IsAntisymmetric nat_cmp-IsAntisymmetric

order : IsTotalOrder bytes_cmp
order = nat_list_cmp_total

-- ---- lists, whatever their order

cond_either : (b : Bool) (e : Entry) (o others : Option Entry) → either (cond b (Some e) o) others ≡ cond b (Some e) (either o others)
cond_either true e o others = refl
cond_either false e o others = refl

-- of two lists one after the other
pub first_that-append : (p : Test) (es fs : List Entry) → first_that p (es ++ fs) ≡ either (first_that p es) (first_that p fs)
first_that-append p [] fs = refl
first_that-append p (e ∷ es) fs = ap (cond (p e.0) (Some e)) (first_that-append p es fs) ∙ sym (cond_either (p e.0) e (first_that p es) (first_that p fs))

cond_ahead : (front : List ℕ) (b : Bool) (e : Entry) (o : Option Entry) → ahead front (cond b (Some e) o) ≡ cond b (Some (front ++ e.0, e.1)) (ahead front o)
cond_ahead front true e o = refl
cond_ahead front false e o = refl

-- of keys with a front before each
pub first_that-front : (p : Test) (front : List ℕ) (es : List Entry) → first_that p (map (λ e. (front ++ e.0, e.1)) es) ≡ ahead front (first_that (λ k. p (front ++ k)) es)
first_that-front p front [] = refl
first_that-front p front (e ∷ es) = ap (cond (p (front ++ e.0)) (Some (front ++ e.0, e.1))) (first_that-front p front es) ∙ sym (cond_ahead front (p (front ++ e.0)) e (first_that (λ k. p (front ++ k)) es))

-- by two tests that answer alike
pub first_that-same : (p q : Test) → ((k : List ℕ) → p k ≡ q k) → (es : List Entry) → first_that p es ≡ first_that q es
first_that-same p q same [] = refl
first_that-same p q same (e ∷ es) = ap (λ (b : Bool). cond b (Some e) (first_that p es)) (same e.0) ∙ ap (cond (q e.0) (Some e)) (first_that-same p q same es)

-- by a test that no key passes
pub first_that-none : (p : Test) → ((k : List ℕ) → p k ≡ false) → (es : List Entry) → first_that p es ≡ None
first_that-none p fails [] = refl
first_that-none p fails (e ∷ es) = ap (λ (b : Bool). cond b (Some e) (first_that p es)) (fails e.0) ∙ first_that-none p fails es

-- ---- a front before both keys

same_byte : (b : ℕ) (o : Ordering) → ordering_then (nat_cmp b b) o ≡ o
same_byte b o = let same : nat_cmp b b ≡ Equal = grind (arith, nat_tests) in ap (λ (r : Ordering). ordering_then r o) same

pub bytes_cmp-front : (front x y : List ℕ) → bytes_cmp (front ++ x) (front ++ y) ≡ bytes_cmp x y
bytes_cmp-front [] x y = refl
bytes_cmp-front (b ∷ front) x y = same_byte b (bytes_cmp (front ++ x) (front ++ y)) ∙ bytes_cmp-front front x y

pub not_below-front : (front key other : List ℕ) → not_below (front ++ key) (front ++ other) ≡ not_below key other
not_below-front front key other = ap is_le (bytes_cmp-front front key other)

pub above-front : (front key other : List ℕ) → above (front ++ key) (front ++ other) ≡ above key other
above-front front key other = ap is_lt (bytes_cmp-front front key other)

-- ---- lists in order

equal : (r : Ordering) → is_eq r ≡ true → r ≡ Equal
equal Less e = absurd (true≢false (sym e))
equal Equal e = refl
equal Greater e = absurd (true≢false (sym e))

lesser : (r : Ordering) → T (is_lt r) → r ≡ Less
lesser Less h = refl
lesser Equal h = absurd h
lesser Greater h = absurd h

first : (a b : Bool) → T (a && b) → T a
first true b h = tt
first false b h = absurd h

second : (a b : Bool) → T (a && b) → T b
second true b h = h
second false b h = absurd h

-- a key that is found in a list of entries is the first one's, or is found in the others
pub record FoundLater (q : List ℕ) (e : Entry) (es : List Entry) : Type 0 where
  pub apart : eq_by_cmp bytes_cmp q e.0 ≡ false
  pub later : is_some (find bytes_cmp q es) ≡ true

split : (b : Bool) (v : List ℕ) (o : Option (List ℕ)) → is_some (cond b (Some v) o) ≡ true → b ≡ false → is_some o ≡ true
split true v o some e = absurd (true≢false e)
split false v o some e = some

-- each key of a list in order that comes later is above
above_first : (x q : List ℕ) (es : List Entry) → T (below_all bytes_cmp x es) → is_some (find bytes_cmp q es) ≡ true → bytes_cmp x q ≡ Less
above_first x q [] h some = absurd (true≢false (sym some))
above_first x q (e ∷ es) h some = elim (eq_by_cmp bytes_cmp q e.0) as (λ b. eq_by_cmp bytes_cmp q e.0 ≡ b → bytes_cmp x q ≡ Less) [
  | true ↦ λ is. ap (bytes_cmp x) (same_keys q e.0 (equal _ is)) ∙ lesser _ (first _ _ h)
  | false ↦ λ is. above_first x q es (second _ _ h) (split _ _ _ some is)
] refl

-- what makes an entry the first one that passes, of a list in order
pub record IsFirstEntry (p : Test) (es : List Entry) (e : Entry) : Type 0 where
  pub found : find bytes_cmp e.0 es ≡ Some e.1
  pub passes : p e.0 ≡ true
  pub lowest : (q : List ℕ) → is_some (find bytes_cmp q es) ≡ true → p q ≡ true → bytes_cmp q e.0 ≡ Less → ⊥

abbrev pub IsFirst : Test → List Entry → Option Entry → Type 0
IsFirst p es None = (q : List ℕ) → is_some (find bytes_cmp q es) ≡ true → p q ≡ false
IsFirst p es (Some e) = IsFirstEntry p es e

not_less : (x y : List ℕ) → bytes_cmp x y ≡ Less → bytes_cmp y x ≡ Less → ⊥
not_less x y e f = let turned : bytes_cmp x y ≡ ordering_reverse Less = order.antisymm x y ∙ ap ordering_reverse f in absurd (cc (e, turned))

not_tied : (r : Ordering) → r ≡ Less → is_eq r ≡ false
not_tied r e = ap is_eq e

not_tied_back : (x y : List ℕ) → bytes_cmp x y ≡ Less → eq_by_cmp bytes_cmp y x ≡ false
not_tied_back x y e = ap is_eq (order.antisymm y x ∙ ap ordering_reverse e)

later_found : (q v : List ℕ) (e : Entry) (es : List Entry) → eq_by_cmp bytes_cmp q e.0 ≡ false → find bytes_cmp q es ≡ Some v → find bytes_cmp q (e ∷ es) ≡ Some v
later_found q v e es apart found = ap (λ (b : Bool). cond b (Some e.1) (find bytes_cmp q es)) apart ∙ found

some_found : (o : Option (List ℕ)) (v : List ℕ) → o ≡ Some v → is_some o ≡ true
some_found o v e = ap is_some e

-- the first entry passes
first_here : (p : Test) (e : Entry) (es : List Entry) → T (below_all bytes_cmp e.0 es) → p e.0 ≡ true → IsFirstEntry p (e ∷ es) e
first_here p e es below passes = record {
  found = ap (λ (r : Ordering). cond (is_eq r) (Some e.1) (find bytes_cmp e.0 es)) (tied_itself order e.0);
  passes = passes;
  lowest = λ q some ok less. not_less q e.0 less (above_first e.0 q es below (split _ _ _ some (not_tied _ less)));
}

-- the first entry does not pass
first_later : (p : Test) (e : Entry) (es : List Entry) → T (below_all bytes_cmp e.0 es) → p e.0 ≡ false → (o : Option Entry) → IsFirst p es o → IsFirst p (e ∷ es) o
first_later p e es below fails o is = by o is
  where
    here : (q : List ℕ) → is_some (find bytes_cmp q (e ∷ es)) ≡ true → p q ≡ true → is_some (find bytes_cmp q es) ≡ true
    here q some ok = elim (eq_by_cmp bytes_cmp q e.0) as (λ b. eq_by_cmp bytes_cmp q e.0 ≡ b → is_some (find bytes_cmp q es) ≡ true) [
      | true ↦ λ tied. absurd (true≢false (sym ok ∙ ap p (same_keys q e.0 (equal _ tied)) ∙ fails))
      | false ↦ λ apart. split _ _ _ some apart
    ] refl

    fail : (q : List ℕ) (b : Bool) → p q ≡ b → ((some : is_some (find bytes_cmp q es) ≡ true) → p q ≡ false) → is_some (find bytes_cmp q (e ∷ es)) ≡ true → p q ≡ false
    fail q true ok none some = none (here q some ok)
    fail q false ok none some = ok

    by : (o : Option Entry) → IsFirst p es o → IsFirst p (e ∷ es) o
    by None none = λ q some. fail q (p q) refl (none q) some
    by (Some f) is =
        let after : bytes_cmp e.0 f.0 ≡ Less = above_first e.0 f.0 es below (some_found _ f.1 is.found) in
        record {
          found = later_found f.0 f.1 e es (not_tied_back e.0 f.0 after) is.found;
          passes = is.passes;
          lowest = λ q some ok less. is.lowest q (here q some ok) ok less;
        }

is_first : (p : Test) (es : List Entry) → T (is_sorted bytes_cmp es) → IsFirst p es (first_that p es)
is_first p [] h = λ q some. absurd (true≢false (sym some))
is_first p (e ∷ es) h = elim (p e.0) as (λ b. p e.0 ≡ b → IsFirst p (e ∷ es) (cond b (Some e) (first_that p es))) [
  | true ↦ λ passes. first_here p e es (first _ _ h) passes
  | false ↦ λ fails. first_later p e es (first _ _ h) fails (first_that p es) (is_first p es (second _ _ h))
] refl

same_values : (x y : List ℕ) → Some x ≡ Some y → x ≡ y
same_values x y e = cc e

-- only one is
only_first : (p : Test) (es : List Entry) (o n : Option Entry) → IsFirst p es o → IsFirst p es n → o ≡ n
only_first p es None None a b = refl
only_first p es None (Some f) a b = absurd (true≢false (sym b.passes ∙ a f.0 (some_found _ f.1 b.found)))
only_first p es (Some e) None a b = absurd (true≢false (sym a.passes ∙ b e.0 (some_found _ e.1 a.found)))
only_first p es (Some e) (Some f) a b = elim (bytes_cmp e.0 f.0) as (λ r. bytes_cmp e.0 f.0 ≡ r → Some e ≡ Some f) [
  | Less ↦ λ is. absurd (b.lowest e.0 (some_found _ e.1 a.found) a.passes is)
  | Equal ↦ λ is.
      let keys = same_keys e.0 f.0 is in
      let values = same_values e.1 f.1 (sym a.found ∙ ap (λ (k : List ℕ). find bytes_cmp k es) keys ∙ b.found) in
      λ i. Some (keys i, values i)
  | Greater ↦ λ is. absurd (a.lowest f.0 (some_found _ f.1 b.found) b.passes (order.antisymm f.0 e.0 ∙ ap ordering_reverse is))
] refl

-- ---- trees

key_found : (t : Tree) (q : List ℕ) → IsSome (get t q) → is_some (find bytes_cmp q (entries t)) ≡ true
key_found t q some = ap is_some (sym (get-entries t q)) ∙ some

pub least-IsLeast : (p : Test) (t : Tree) → IsLeast p t (least p t)
least-IsLeast p t = by (least p t) (is_first p (entries t) (entries_sorted t))
  where
    by : (o : Option Entry) → IsFirst p (entries t) o → IsLeast p t o
    by None none = λ q some. none q (key_found t q some)
    by (Some e) is = record { stands = get-entries t e.0 ∙ is.found; wanted = is.passes; lowest = λ q some ok less. is.lowest q (key_found t q some) ok less }

pub least-from_IsLeast : (p : Test) (t : Tree) (o : Option Entry) → IsLeast p t o → least p t ≡ o
least-from_IsLeast p t o is = only_first p (entries t) (least p t) o (is_first p (entries t) (entries_sorted t)) (by o is)
  where
    by : (o : Option Entry) → IsLeast p t o → IsFirst p (entries t) o
    by None none = λ q some. none q (ap is_some (get-entries t q) ∙ some)
    by (Some e) is = record { found = sym (get-entries t e.0) ∙ is.stands; passes = is.wanted; lowest = λ q some ok less. is.lowest q (ap is_some (get-entries t q) ∙ some) ok less }

-- ---- walks from key to key

-- a test that is passed by all keys above one that passes it
abbrev pub GoesUp : Test → Type 0
GoesUp p = (x y : List ℕ) → p x ≡ true → bytes_cmp x y ≡ Less → p y ≡ true

not_below-GoesUp : (key : List ℕ) → GoesUp (not_below key)
not_below-GoesUp key x y ok less = elim (bytes_cmp key x) as (λ r. bytes_cmp key x ≡ r → not_below key y ≡ true) [
  | Less ↦ λ is. ap is_le (order.trans key x y is less)
  | Equal ↦ λ is. ap is_le (order.congr key x y is ∙ less)
  | Greater ↦ λ is. absurd (true≢false (sym ok ∙ ap is_le is))
] refl

is_less : (r : Ordering) → is_lt r ≡ true → r ≡ Less
is_less Less e = refl
is_less Equal e = absurd (true≢false (sym e))
is_less Greater e = absurd (true≢false (sym e))

above-GoesUp : (key : List ℕ) → GoesUp (above key)
above-GoesUp key x y ok less = ap is_lt (order.trans key x y (is_less _ ok) less)

abbrev kept : Test → List Entry → List Entry
kept p es = filter (λ e. p e.0) es

none_kept : (p : Test) (es : List Entry) → first_that p es ≡ None → kept p es ≡ []
none_kept p [] e = refl
none_kept p (f ∷ es) e = elim (p f.0) as (λ b. cond b (Some f) (first_that p es) ≡ None → cond b (f ∷ kept p es) (kept p es) ≡ []) [
  | true ↦ λ is. absurd (true≢false (ap is_some is))
  | false ↦ λ is. none_kept p es is
] e

all_kept : (p : Test) (x : List ℕ) (es : List Entry) → T (below_all bytes_cmp x es) → ((y : List ℕ) → bytes_cmp x y ≡ Less → p y ≡ true) → kept p es ≡ es
all_kept p x [] h up = refl
all_kept p x (e ∷ es) h up = ap (λ (b : Bool). cond b (e ∷ kept p es) (kept p es)) (up e.0 (lesser _ (first _ _ h))) ∙ ap (λ (l : List Entry). e ∷ l) (all_kept p x es (second _ _ h) up)

same_entry : (e f : Entry) → Some e ≡ Some f → e ≡ f
same_entry e f is = cc is

-- the first that passes, and then all that come after it
one_kept : (p : Test) → GoesUp p → (es : List Entry) → T (is_sorted bytes_cmp es) → (e : Entry) → first_that p es ≡ Some e → kept p es ≡ e ∷ kept (above e.0) es
one_kept p up [] h e is = absurd (true≢false (sym (ap is_some is)))
one_kept p up (f ∷ es) h e is = elim (p f.0) as (λ b. p f.0 ≡ b → cond b (Some f) (first_that p es) ≡ Some e → cond b (f ∷ kept p es) (kept p es) ≡ e ∷ kept (above e.0) (f ∷ es)) [
  | true ↦ λ ok is.
      let here : f ≡ e = same_entry f e is in
      let below : T (below_all bytes_cmp f.0 es) = first _ _ h in
      ap (λ (l : List Entry). f ∷ l) (all_kept p f.0 es below (λ y less. up f.0 y ok less) ∙ sym (all_kept (above f.0) f.0 es below (λ y less. ap is_lt less)) ∙ sym (ap (λ (r : Ordering). cond (is_lt r) (f ∷ kept (above f.0) es) (kept (above f.0) es)) (tied_itself order f.0)))
      ∙ ap (λ (g : Entry). g ∷ kept (above g.0) (f ∷ es)) here
  | false ↦ λ no is.
      let found : find bytes_cmp e.0 es ≡ Some e.1 = (subst (IsFirst p es) is (is_first p es (second _ _ h))).found in
      let after : bytes_cmp f.0 e.0 ≡ Less = above_first f.0 e.0 es (first _ _ h) (some_found _ e.1 found) in
      one_kept p up es (second _ _ h) e is
      ∙ ap (λ (l : List Entry). e ∷ l) (sym (ap (λ (r : Ordering). cond (is_lt r) (f ∷ kept (above e.0) es) (kept (above e.0) es)) (order.antisymm e.0 f.0 ∙ ap ordering_reverse after)))
] refl is

-- where none is found no entry is left
pub those_that-none : (p : Test) (t : Tree) → least p t ≡ None → those_that p t ≡ []
those_that-none p t e = none_kept p (entries t) e

-- from a key on: the one that is found, and then those above it
pub those_that-not_below : (key : List ℕ) (t : Tree) (e : Entry) → least (not_below key) t ≡ Some e → those_that (not_below key) t ≡ e ∷ those_that (above e.0) t
those_that-not_below key t e is = one_kept (not_below key) (not_below-GoesUp key) (entries t) (entries_sorted t) e is

-- above a key likewise
pub those_that-above : (key : List ℕ) (t : Tree) (e : Entry) → least (above key) t ≡ Some e → those_that (above key) t ≡ e ∷ those_that (above e.0) t
those_that-above key t e is = one_kept (above key) (above-GoesUp key) (entries t) (entries_sorted t) e is
