-- The keys of a map rise strictly, since the child bytes of each node do.
use Rattle.std.proofs.Common.{◌≡◌, ℕ, zero, suc, ◌<◌, ◌≤◌, Bool, true, false, ◌&&◌, cond, ltb, List, [], ◌∷◌, ◌++◌, Option, Some, None, refl, ap, ◌∙◌, arith}
use Rattle.std.specs.Prelude.{IfSome}
use Rattle.std.specs.declared.cmp.Ordering.{Ordering}
use Rattle.std.specs.declared.cmp.Ordering.TheVariants.{Less, Equal}
use Rattle.std.specs.Ordering.{nat_cmp, ordering_then, is_lt}
use Rattle.std.specs.Cmp.Lexicographic.{slice_cmp}
use Rattle.std.specs.FinMap.Entries.{below_all, is_sorted}
use Rattle.std.specs.Option.{option_map}
use Rattle.std.proofs.lemmas.Bool.{and_parts, and_from, ltb-true}
use Rattle.std.proofs.lemmas.Bool.Decides.{nat_tests}
use Rattle.xod_block.specs.Addresses.{number_of}
use Rattle.xod_block.specs.Records.{Link, RecordValue, Leaf, Node, Root, rise}
use Rattle.xod_block.specs.Maps.{RecordsAt, HasRisingChildren, RisesEverywhere, Pairs, under, own_pair, joined, pairs_of_children, pairs_of, map_within, map_at}

abbrev order : List ℕ → List ℕ → Ordering
order = slice_cmp nat_cmp

abbrev above : List ℕ → Pairs → Bool
above = below_all {X = List ℕ} order

abbrev pub rising_keys : Pairs → Bool
rising_keys = is_sorted {X = List ℕ} order

-- ---- a front before both keys

same_byte : (b : ℕ) (o : Ordering) → ordering_then (nat_cmp b b) o ≡ o
same_byte b o = let same : nat_cmp b b ≡ Equal = grind (arith, nat_tests) in ap (λ (r : Ordering). ordering_then r o) same

order-front : (front x y : List ℕ) → order (front ++ x) (front ++ y) ≡ order x y
order-front [] x y = refl
order-front (b ∷ front) x y = same_byte b (order (front ++ x) (front ++ y)) ∙ order-front front x y

above-under : (front x : List ℕ) (pairs : Pairs) → above (front ++ x) (under front pairs) ≡ above x pairs
above-under front x [] = refl
above-under front x (p ∷ pairs) =
    ap (λ (o : Ordering). is_lt o && above (front ++ x) (under front pairs)) (order-front front x p.0)
    ∙ ap (λ (b : Bool). is_lt (order x p.0) && b) (above-under front x pairs)

rising-under : (front : List ℕ) (pairs : Pairs) → rising_keys (under front pairs) ≡ rising_keys pairs
rising-under front [] = refl
rising-under front (p ∷ pairs) =
    ap (λ (b : Bool). b && rising_keys (under front pairs)) (above-under front p.0 pairs)
    ∙ ap (λ (b : Bool). above p.0 pairs && b) (rising-under front pairs)

-- ---- one list behind another

above-append : (x : List ℕ) (pairs others : Pairs) → above x pairs ≡ true → above x others ≡ true → above x (pairs ++ others) ≡ true
above-append x [] others first second = second
above-append x (p ∷ pairs) others first second =
    let parts = and_parts (is_lt (order x p.0)) (above x pairs) first in
    and_from (is_lt (order x p.0)) (above x (pairs ++ others)) parts.0 (above-append x pairs others parts.1 second)

-- a greater byte comes later, whatever follows
above-byte : (b c : ℕ) (x : List ℕ) (pairs : Pairs) → b < c → above (b ∷ x) (under (c ∷ []) pairs) ≡ true
above-byte b c x [] lt = refl
above-byte b c x (p ∷ pairs) lt =
    let less : nat_cmp b c ≡ Less = grind (arith, nat_tests) in
    and_from (is_lt (order (b ∷ x) (c ∷ p.0))) (above (b ∷ x) (under (c ∷ []) pairs)) (ap (λ (r : Ordering). is_lt (ordering_then r (order x p.0))) less) (above-byte b c x pairs lt)

-- the empty key comes before all that begin with a byte
above-nothing : (c : ℕ) (pairs : Pairs) → above [] (under (c ∷ []) pairs) ≡ true
above-nothing c [] = refl
above-nothing c (p ∷ pairs) = above-nothing c pairs

-- keys under one byte, and then keys that all come later
rising-append : (b : ℕ) (pairs others : Pairs) → rising_keys pairs ≡ true → rising_keys others ≡ true → ((x : List ℕ) → above (b ∷ x) others ≡ true) → rising_keys (under (b ∷ []) pairs ++ others) ≡ true
rising-append b [] others first second later = second
rising-append b (p ∷ pairs) others first second later =
    let parts = and_parts (above p.0 pairs) (rising_keys pairs) first in
    and_from (above (b ∷ p.0) (under (b ∷ []) pairs ++ others)) (rising_keys (under (b ∷ []) pairs ++ others))
    (above-append (b ∷ p.0) (under (b ∷ []) pairs) others (above-under (b ∷ []) p.0 pairs ∙ parts.0) (later p.0))
    (rising-append b pairs others parts.1 second later)

-- ---- the pairs of children

-- what a list of children comes from
pub record Joins (below : ℕ → Option Pairs) (at : ℕ) (child : Link) (children : List Link) (pairs : Pairs) : Type 0 where
  pub lower : number_of child.1 < at
  pub first : Pairs
  pub first_is : below (number_of child.1) ≡ Some first
  pub others : Pairs
  pub others_is : pairs_of_children below at children ≡ Some others
  pub whole : pairs ≡ under (child.0 ∷ []) first ++ others

both : (b : Bool) (front : List ℕ) (p q : Option Pairs) (pairs : Pairs) → cond b (joined (option_map (under front) p) q) None ≡ Some pairs → (b ≡ true) × (first : Pairs) × (p ≡ Some first) × (others : Pairs) × (q ≡ Some others) × (pairs ≡ under front first ++ others)
both true front (Some first) (Some others) pairs e = (refl, first, refl, others, refl, cc e)
both true front (Some first) None pairs e = absurd (cc e)
both true front None q pairs e = absurd (cc e)
both false front p q pairs e = absurd (cc e)

pub children-join : (below : ℕ → Option Pairs) (at : ℕ) (child : Link) (children : List Link) (pairs : Pairs) → pairs_of_children below at (child ∷ children) ≡ Some pairs → Joins below at child children pairs
children-join below at child children pairs e =
    let h = both (ltb (number_of child.1) at) (child.0 ∷ []) (below (number_of child.1)) (pairs_of_children below at children) pairs e in
    record { lower = ltb-true _ _ h.0; first = h.1; first_is = h.2; others = h.3; others_is = h.4; whole = h.5 }

no_pairs : (pairs : Pairs) → Some [] ≡ Some pairs → pairs ≡ []
no_pairs pairs e = cc e

-- no child's keys are empty
pub children-not_empty : (below : ℕ → Option Pairs) (at : ℕ) (children : List Link) (pairs : Pairs) → pairs_of_children below at children ≡ Some pairs → above [] pairs ≡ true
children-not_empty below at [] pairs e = ap (above []) (no_pairs pairs e)
children-not_empty below at (child ∷ children) pairs e =
    let j = children-join below at child children pairs e in
    ap (above []) j.whole ∙ above-append [] (under (child.0 ∷ []) j.first) j.others (above-nothing child.0 j.first) (children-not_empty below at children j.others j.others_is)

pub rise-parts : (a b : Link) (links : List Link) → rise (a ∷ b ∷ links) ≡ true → (a.0 < b.0) × (rise (b ∷ links) ≡ true)
rise-parts a b links e = let h = and_parts (ltb a.0 b.0) (rise (b ∷ links)) e in (ltb-true _ _ h.0, h.1)

-- children under greater bytes come later
children-later : (below : ℕ → Option Pairs) (at : ℕ) (before : Link) (children : List Link) (pairs : Pairs) (b : ℕ) (x : List ℕ) → b ≤ before.0 → rise (before ∷ children) ≡ true → pairs_of_children below at children ≡ Some pairs → above (b ∷ x) pairs ≡ true
children-later below at before [] pairs b x le up e = ap (above (b ∷ x)) (no_pairs pairs e)
children-later below at before (child ∷ children) pairs b x le up e =
    let h = rise-parts before child children up in
    let lt : b < child.0 = omega (arith, h.0, le) in
    let j = children-join below at child children pairs e in
    ap (above (b ∷ x)) j.whole ∙ above-append (b ∷ x) (under (child.0 ∷ []) j.first) j.others (above-byte b child.0 x j.first lt) (children-later below at child children j.others b x (omega (arith, lt)) h.1 j.others_is)

pub rise-rest : (a : Link) (links : List Link) → rise (a ∷ links) ≡ true → rise links ≡ true
rise-rest a [] e = refl
rise-rest a (b ∷ links) e = (rise-parts a b links e).1

children-rise : (below : ℕ → Option Pairs) (at : ℕ) → ((n : ℕ) (pairs : Pairs) → below n ≡ Some pairs → rising_keys pairs ≡ true) → (children : List Link) (pairs : Pairs) → rise children ≡ true → pairs_of_children below at children ≡ Some pairs → rising_keys pairs ≡ true
children-rise below at each [] pairs up e = ap rising_keys (no_pairs pairs e)
children-rise below at each (child ∷ children) pairs up e =
    let j = children-join below at child children pairs e in
    ap rising_keys j.whole
    ∙ rising-append child.0 j.first j.others (each (number_of child.1) j.first j.first_is) (children-rise below at each children j.others (rise-rest child children up) j.others_is)
    (λ x. children-later below at child children j.others child.0 x (omega arith) up j.others_is)

-- ---- records

own-rises : (value : Option (List ℕ)) (pairs : Pairs) → above [] pairs ≡ true → rising_keys pairs ≡ true → rising_keys (own_pair value ++ pairs) ≡ true
own-rises None pairs later up = up
own-rises (Some value) pairs later up = and_from (above [] pairs) (rising_keys pairs) later up

pub opened : (o : Option Pairs) (key : List ℕ) (value : Option (List ℕ)) (pairs : Pairs) → option_map (λ ps. under key (own_pair value ++ ps)) o ≡ Some pairs → (ps : Pairs) × (o ≡ Some ps) × (pairs ≡ under key (own_pair value ++ ps))
opened None key value pairs e = absurd (cc e)
opened (Some ps) key value pairs e = (ps, refl, cc e)

record-rises : (below : ℕ → Option Pairs) (at : ℕ) → ((n : ℕ) (pairs : Pairs) → below n ≡ Some pairs → rising_keys pairs ≡ true) → (o : Option RecordValue) (pairs : Pairs) → IfSome o HasRisingChildren → pairs_of below at o ≡ Some pairs → rising_keys pairs ≡ true
record-rises below at each None pairs fits e = absurd (cc e)
record-rises below at each (Some (Leaf key value)) pairs fits e = let is : pairs ≡ (key, value) ∷ [] = cc e in ap rising_keys is
record-rises below at each (Some (Node key value children)) pairs rises e =
    let h = opened (pairs_of_children below at children) key value pairs e in
    ap rising_keys h.2
    ∙ rising-under key (own_pair value ++ h.0)
    ∙ own-rises value h.0 (children-not_empty below at children h.0 h.1) (children-rise below at each children h.0 rises h.1)
record-rises below at each (Some (Root commit trees)) pairs fits e = absurd (cc e)

within-rises : (records : RecordsAt) → RisesEverywhere records → (depth at : ℕ) (pairs : Pairs) → map_within records depth at ≡ Some pairs → rising_keys pairs ≡ true
within-rises records fits zero at pairs e = absurd (cc e)
within-rises records fits (suc depth) at pairs e = record-rises (map_within records depth) at (within-rises records fits depth) (records at) pairs (fits at) e

pub map_at-rises : (records : RecordsAt) (at : ℕ) (pairs : Pairs) → RisesEverywhere records → map_at records at ≡ Some pairs → rising_keys pairs ≡ true
unfolding map_at
map_at-rises records at pairs fits e = within-rises records fits (suc at) at pairs e
