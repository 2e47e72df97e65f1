-- Links by rising number: what stands before and behind a number, and the map with one link put in or taken out.
use Rattle.std.proofs.Common.{◌≡◌, ℕ, suc, ◌+◌, ◌<◌, ◌≤◌, Bool, true, false, not, ◌&&◌, cond, ltb, List, [], ◌∷◌, ◌++◌, take, drop, refl, sym, ap, subst, ◌∙◌, arith}
use Rattle.std.specs.Prelude.{T}
use Rattle.std.specs.Ordering.{nat_cmp, is_lt, is_eq, eq_by_cmp}
use Rattle.std.specs.declared.cmp.Ordering.{Ordering}
use Rattle.std.specs.declared.cmp.Ordering.TheVariants.{Less, Equal, Greater}
use Rattle.std.specs.FinMap.{is_sorted, put}
use Rattle.std.specs.FinMap.Entries.{below_all, by_order, where_key}
use Rattle.std.proofs.lemmas.Bool.{lt-ltb, le-ltb, ltb-true, and_parts}
use Rattle.std.specs.Cmp.{nat_cmp_is}
use Rattle.std.proofs.lemmas.Cmp.{ranked}
use Rattle.xod_block.specs.declared.address.Address.{Address}
use Rattle.xod_block.specs.Records.{Link, rise}
use Rattle.xod_root.specs.Places.{place_below}

-- ---- numbers in order

first : (a b : Bool) → T (a && b) → T a
first true b h = tt
first false b h = absurd h

second : (a b : Bool) → T (a && b) → T b
second true b h = h
second false b h = absurd h

both : (a b : Bool) → T a → T b → T (a && b)
both true b p q = q
both false b p q = p

lesser : (r : Ordering) → T (is_lt r) → r ≡ Less
lesser Less h = refl
lesser Equal h = absurd h
lesser Greater h = absurd h

below : (x y : ℕ) → x < y → nat_cmp x y ≡ Less
below x y lt = sym (nat_cmp_is x y Less lt)

is_below : (x y : ℕ) → T (is_lt (nat_cmp x y)) → x < y
is_below x y h = ranked x y Less (sym (lesser _ h))

below-is : (x y : ℕ) → x < y → T (is_lt (nat_cmp x y))
below-is x y lt = subst (λ r. T (is_lt r)) (sym (below x y lt)) tt

-- ---- links that rise

all-above : (x : ℕ) (link : Link) (links : List Link) → x < link.0 → rise (link ∷ links) ≡ true → T (below_all nat_cmp x (link ∷ links))
all-above x link [] lt rises = both _ _ (below-is x link.0 lt) tt
all-above x link (next ∷ links) lt rises =
    let p = and_parts (ltb link.0 next.0) (rise (next ∷ links)) rises in
    let less = ltb-true _ _ p.0 in
    both _ _ (below-is x link.0 lt) (all-above x next links (omega arith) p.1)

-- numbers that rise from one to the next rise throughout
pub rise-sorted : (links : List Link) → rise links ≡ true → T (is_sorted nat_cmp links)
rise-sorted [] rises = tt
rise-sorted (link ∷ []) rises = tt
rise-sorted (link ∷ next ∷ links) rises =
    let p = and_parts (ltb link.0 next.0) (rise (next ∷ links)) rises in
    both _ _ (all-above link.0 next links (ltb-true _ _ p.0) p.1) (rise-sorted (next ∷ links) p.1)

pub sorted-rise : (links : List Link) → T (is_sorted nat_cmp links) → rise links ≡ true
sorted-rise [] h = refl
sorted-rise (link ∷ []) h = refl
sorted-rise (link ∷ next ∷ links) h =
    let less = is_below link.0 next.0 (first _ _ (first _ _ h)) in
    ap (λ (b : Bool). b && rise (next ∷ links)) (lt-ltb _ _ less) ∙ sorted-rise (next ∷ links) (second _ _ h)

-- ---- places among them

-- nothing comes before a number that is not above the first
place-none : (number x : ℕ) (links : List Link) → number ≤ suc x → T (below_all nat_cmp x links) → place_below number links ≡ 0
place-none number x [] le h = refl
place-none number x (link ∷ links) le h =
    let less = is_below x link.0 (first _ _ h) in
    ap (λ (b : Bool). cond b (suc (place_below number links)) 0) (le-ltb link.0 number (omega arith))

-- ---- one link put in or taken out

-- the links with one of this number in its place
abbrev pub with : ℕ → Address → List Link → List Link
with number address links = take (place_below number links) links ++ (number, address) ∷ drop (place_below (number + 1) links) links

-- the links without that of this number
abbrev pub without : ℕ → List Link → List Link
without number links = take (place_below number links) links ++ drop (place_below (number + 1) links) links

pub with-put : (number : ℕ) (address : Address) (links : List Link) → T (is_sorted nat_cmp links) → put nat_cmp number address links ≡ with number address links
with-put number address [] h = refl
with-put number address (link ∷ links) h =
    let rest = place_below number links in
    let rest_behind = place_below (number + 1) links in
    elim (nat_cmp number link.0) as (λ r. nat_cmp number link.0 ≡ r → by_order r ((number, address) ∷ link ∷ links) ((link.0, address) ∷ links) (link ∷ put nat_cmp number address links) ≡ with number address (link ∷ links)) [
      | Less ↦ λ is.
          let less : number < link.0 = ranked number link.0 Less (sym is) in
          let a : ltb link.0 number ≡ false = le-ltb _ _ (omega arith) in
          let b : ltb link.0 (number + 1) ≡ false = le-ltb _ _ (omega arith) in
          sym (rw (a, b) refl)
      | Equal ↦ λ is.
          let same : number ≡ link.0 = ranked number link.0 Equal (sym is) in
          let a : ltb link.0 number ≡ false = le-ltb _ _ (omega arith) in
          let b : ltb link.0 (number + 1) ≡ true = lt-ltb _ _ (omega arith) in
          let none : rest_behind ≡ 0 = place-none (number + 1) link.0 links (omega arith) (first _ _ h) in
          sym (rw (a, b, none) (ap (λ (n : ℕ). (n, address) ∷ links) same))
      | Greater ↦ λ is.
          let more : link.0 < number = ranked number link.0 Greater (sym is) in
          let a : ltb link.0 number ≡ true = lt-ltb _ _ more in
          let b : ltb link.0 (number + 1) ≡ true = lt-ltb _ _ (omega arith) in
          ap (λ (l : List Link). link ∷ l) (with-put number address links (second _ _ h)) ∙ sym (rw (a, b) refl)
    ] refl

all-kept : (number x : ℕ) (links : List Link) → number ≤ x → T (below_all nat_cmp x links) → where_key nat_cmp (λ k. not (eq_by_cmp nat_cmp number k)) links ≡ links
all-kept number x [] le h = refl
all-kept number x (link ∷ links) le h =
    let less = is_below x link.0 (first _ _ h) in
    let is = below number link.0 (omega arith) in
    ap (λ r. cond (not (is_eq r)) (link ∷ where_key nat_cmp (λ k. not (eq_by_cmp nat_cmp number k)) links) (where_key nat_cmp (λ k. not (eq_by_cmp nat_cmp number k)) links)) is
    ∙ ap (λ (l : List Link). link ∷ l) (all-kept number x links le (second _ _ h))

pub without-where : (number : ℕ) (links : List Link) → T (is_sorted nat_cmp links) → where_key nat_cmp (λ k. not (eq_by_cmp nat_cmp number k)) links ≡ without number links
without-where number [] h = refl
without-where number (link ∷ links) h =
    let kept = where_key nat_cmp (λ k. not (eq_by_cmp nat_cmp number k)) links in
    elim (nat_cmp number link.0) as (λ r. nat_cmp number link.0 ≡ r → cond (not (is_eq r)) (link ∷ kept) kept ≡ without number (link ∷ links)) [
      | Less ↦ λ is.
          let less : number < link.0 = ranked number link.0 Less (sym is) in
          let a : ltb link.0 number ≡ false = le-ltb _ _ (omega arith) in
          let b : ltb link.0 (number + 1) ≡ false = le-ltb _ _ (omega arith) in
          ap (λ (l : List Link). link ∷ l) (all-kept number link.0 links (omega arith) (first _ _ h)) ∙ sym (rw (a, b) refl)
      | Equal ↦ λ is.
          let same : number ≡ link.0 = ranked number link.0 Equal (sym is) in
          let a : ltb link.0 number ≡ false = le-ltb _ _ (omega arith) in
          let b : ltb link.0 (number + 1) ≡ true = lt-ltb _ _ (omega arith) in
          let none : place_below (number + 1) links ≡ 0 = place-none (number + 1) link.0 links (omega arith) (first _ _ h) in
          all-kept number link.0 links (omega arith) (first _ _ h) ∙ sym (rw (a, b, none) refl)
      | Greater ↦ λ is.
          let more : link.0 < number = ranked number link.0 Greater (sym is) in
          let a : ltb link.0 number ≡ true = lt-ltb _ _ more in
          let b : ltb link.0 (number + 1) ≡ true = lt-ltb _ _ (omega arith) in
          ap (λ (l : List Link). link ∷ l) (without-where number links (second _ _ h)) ∙ sym (rw (a, b) refl)
    ] refl
