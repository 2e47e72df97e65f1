-- Which front of bytes decides what record they begin with: one that has a record, and one as long as the longest.
use Rattle.std.proofs.Common.{◌≡◌, ◌≤◌, ◌<◌, ℕ, suc, zero, ◌+◌, ◌-◌, ◌*◌, ◌^◌, List, [], ◌∷◌, ◌++◌, take, drop, length, Bool, true, false, ◌&&◌, cond, leb, ltb, eqb, Option, Some, None, refl, sym, ◌∙◌, ap, subst, arith}
use Rattle.std.specs.Option.{option_map}
use Rattle.std.specs.Int.{w16, w64, from_be_bytes}
use Rattle.std.proofs.lemmas.Bool.{and_parts, leb-true, ltb-false, le-ltb}
use Rattle.std.proofs.lemmas.List.{length-append, length-take, take-take, drop-take, drop-drop, get_or-drop}
use Rattle.std.proofs.lemmas.Option.{cond_some}
use Rattle.xod_block.specs.Bytes.{IsBytes}
use Rattle.xod_block.specs.Records.{RecordValue, Leaf, Node, Root, least_children, rise}
use Rattle.xod_block.specs.Reading.{◌>>=◌, byte_at, number_at, part_at, own_at, links_in, links_at, leaf_at, node_at, root_at, are_children, record_and_rest, record_at}
use Rattle.xod_block.proofs.Longer.{record-keeps}
use Rattle.xod_block.proofs.Numbers.{IsBytes-take, wide16, wide64}
use Rattle.xod_block.proofs.Parts.{bind_some, passes_not}

-- ---- more bytes behind

longer : (f : List ℕ → ℕ) (g : List ℕ → ℕ) (more : List ℕ) (o p : Option (RecordValue × List ℕ)) → ((y : RecordValue × List ℕ) → o ≡ Some y → p ≡ Some (y.0, y.1 ++ more)) → ((rest : List ℕ) → g (rest ++ more) ≡ f rest) → (x : RecordValue × ℕ) → option_map (λ (y : RecordValue × List ℕ). (y.0, f y.1)) o ≡ Some x → option_map (λ (y : RecordValue × List ℕ). (y.0, g y.1)) p ≡ Some x
longer f g more None p keeps same x e = absurd cc
longer f g more (Some y) p keeps same x e = ap (option_map (λ (z : RecordValue × List ℕ). (z.0, g z.1))) (keeps y refl) ∙ ap (λ (n : ℕ). Some (y.0, n)) (same y.1) ∙ e

-- a record that bytes begin with, and its length, stay where more come behind
pub record_at-more : (more bytes : List ℕ) (x : RecordValue × ℕ) → record_at bytes ≡ Some x → record_at (bytes ++ more) ≡ Some x
unfolding record_at
record_at-more more bytes x e = longer (λ rest. length bytes - length rest) (λ rest. length (bytes ++ more) - length rest) more (record_and_rest bytes) (record_and_rest (bytes ++ more)) (record-keeps more bytes) (λ rest. omega (arith, length-append bytes more, length-append rest more)) x e

-- ---- fronts

-- What a reader read of bytes: it took few of them, reads the same of a front, and the value passes.
record Read {A : Type 0} (passes : A → Type 0) (most : ℕ) (reader : List ℕ → Option (A × List ℕ)) (n : ℕ) (bytes : List ℕ) (y : A × List ℕ) : Type 0 where
  pub taken : ℕ
  pub few : taken ≤ most
  pub rest : y.1 ≡ drop taken bytes
  pub front : reader (take n bytes) ≡ Some (y.0, drop taken (take n bytes))
  pub passed : passes y.0

-- A reader takes so many bytes at most, and no more than those need to be there, where the front is bytes.
abbrev Reaches : {A : Type 0} → (A → Type 0) → ℕ → (List ℕ → Option (A × List ℕ)) → Type 0
Reaches {A} passes most reader = (n : ℕ) (bytes : List ℕ) (y : A × List ℕ) → most ≤ n → IsBytes (take n bytes) → reader bytes ≡ Some y → Read passes most reader n bytes y

abbrev Any : {A : Type 0} → A → Type 0
Any x = Unit {0}

reaches-further : {A : Type 0} (passes : A → Type 0) (a b : ℕ) (reader : List ℕ → Option (A × List ℕ)) → a ≤ b → Reaches passes a reader → Reaches passes b reader
reaches-further passes a b reader le reaches n bytes y long fits e =
    let h = reaches n bytes y (omega arith) fits e in
    let few = h.few in
    record { taken = h.taken; few = omega arith; rest = h.rest; front = h.front; passed = h.passed }

reaches-last : {A : Type 0} (x : A) (most : ℕ) → Reaches Any most (λ bytes. Some (x, bytes))
reaches-last x most n bytes y long fits e =
    let first : x ≡ y.0 = cc e in
    let rest : bytes ≡ y.1 = cc e in
    record { taken = 0; few = omega arith; rest = sym rest; front = ap (λ z. Some (z, take n bytes)) first; passed = tt }

reaches-none : {A : Type 0} (most : ℕ) → Reaches {A = A} Any most (λ bytes. None)
reaches-none most n bytes y long fits e = absurd cc

reaches-either : {A : Type 0} (q : Bool) (most : ℕ) (r s : List ℕ → Option (A × List ℕ)) → Reaches Any most r → Reaches Any most s → Reaches Any most (λ bytes. cond q (r bytes) (s bytes))
reaches-either true most r s a b = a
reaches-either false most r s a b = b

front-of_rest : (n k : ℕ) (bytes : List ℕ) → k ≤ n → take (n - k) (drop k bytes) ≡ drop k (take n bytes)
front-of_rest n k bytes le = let whole : k + (n - k) ≡ n = omega arith in sym (drop-take k (n - k) bytes) ∙ ap (λ (m : ℕ). drop k (take m bytes)) whole

reaches-then : {A B : Type 0} (passes : A → Type 0) (a b : ℕ) (r : List ℕ → Option (A × List ℕ)) (f : A × List ℕ → Option (B × List ℕ)) → Reaches passes a r → ((x : A) → passes x → Reaches Any b (λ bytes. f (x, bytes))) → Reaches Any (a + b) (λ bytes. r bytes >>= f)
reaches-then passes a b r f first later n bytes y long fits e =
    let s = bind_some (r bytes) f y e in
    let x = s.0 in
    let h = first n bytes x (omega arith) fits s.1 in
    let k = h.taken in
    let few : k ≤ a = h.few in
    let same = front-of_rest n k bytes (omega arith) in
    let more : f (x.0, drop k bytes) ≡ Some y = ap (λ (l : List ℕ). f (x.0, l)) (sym h.rest) ∙ s.2 in
    let front_fits : IsBytes (take (n - k) (drop k bytes)) = subst IsBytes (sym same) (λ i. rw (get_or-drop k (take n bytes) i 0) (fits (k + i))) in
    let t = later x.0 h.passed (n - k) (drop k bytes) y (omega arith) front_fits more in
    let t_few : t.taken ≤ b = t.few in
    record {
      taken = k + t.taken;
      few = omega arith;
      rest = t.rest ∙ drop-drop t.taken k bytes;
      front = ap (λ o. o >>= f) h.front
          ∙ ap (λ (l : List ℕ). f (x.0, l)) (sym same)
          ∙ t.front
          ∙ ap (λ (l : List ℕ). Some (y.0, drop t.taken l)) same
          ∙ ap (λ (l : List ℕ). Some (y.0, l)) (drop-drop t.taken k (take n bytes));
      passed = tt;
    }

-- so many bytes are taken off
reaches-cut : {A : Type 0} (passes : A → Type 0) (f : List ℕ → A) (k : ℕ) → ((l : List ℕ) → IsBytes l → passes (f l)) → Reaches passes k (λ bytes. cond (ltb (length bytes) k) None (Some (f (take k bytes), drop k bytes)))
reaches-cut {A} passes f k each n bytes y long fits e =
    let made : A × List ℕ = (f (take k bytes), drop k bytes) in
    let h = passes_not (ltb (length bytes) k) made y e in
    let enough : k ≤ length bytes = ltb-false _ _ h.0 in
    let there : ltb (length (take n bytes)) k ≡ false = le-ltb _ _ (omega (arith, length-take n bytes)) in
    let same : take k (take n bytes) ≡ take k bytes = take-take k n bytes long in
    let value : f (take k bytes) ≡ y.0 = ap (λ (z : A × List ℕ). z.0) h.1 in
    record {
      taken = k;
      few = omega arith;
      rest = sym (ap (λ (z : A × List ℕ). z.1) h.1);
      front = ap (λ (q : Bool). cond q None (Some (f (take k (take n bytes)), drop k (take n bytes)))) there
          ∙ ap (λ (l : List ℕ). Some (f l, drop k (take n bytes))) same
          ∙ ap (λ z. Some (z, drop k (take n bytes))) value;
      passed = subst passes value (subst (λ (l : List ℕ). passes (f l)) same (each _ (IsBytes-take k (take n bytes) fits)));
    }

-- ---- the parts

byte-reaches : Reaches (λ (b : ℕ). b < 256) 1 byte_at
byte-reaches n [] y long fits e = absurd cc
byte-reaches zero (b ∷ bytes) y long fits e = absurd (omega arith)
byte-reaches (suc n) (b ∷ bytes) y long fits e =
    let first : b ≡ y.0 = cc e in
    let rest : bytes ≡ y.1 = cc e in
    record { taken = 1; few = omega arith; rest = sym rest; front = ap (λ (z : ℕ). Some (z, take n bytes)) first; passed = subst (λ (z : ℕ). z < 256) first (fits 0) }

short-reaches : Reaches (λ (k : ℕ). k < 2 ^ 16) 2 (number_at w16)
short-reaches = reaches-cut (λ (k : ℕ). k < 2 ^ 16) (from_be_bytes w16) 2 wide16.below

long-reaches : Reaches (λ (k : ℕ). k < 2 ^ 64) 8 (number_at w64)
long-reaches = reaches-cut (λ (k : ℕ). k < 2 ^ 64) (from_be_bytes w64) 8 wide64.below

some-reaches : (k : ℕ) → k < 2 ^ 16 → Reaches Any 65535 (λ bytes. cond (ltb (length bytes) k) None (Some (take k bytes, drop k bytes)))
some-reaches k lt = reaches-further Any k 65535 _ (omega arith) (reaches-cut Any (λ (l : List ℕ). l) k (λ l fits. tt))

part-reaches : Reaches Any 65537 part_at
unfolding part_at
part-reaches = reaches-then (λ (k : ℕ). k < 2 ^ 16) 2 65535 (number_at w16) _ short-reaches some-reaches

own-reaches : Reaches Any 65538 own_at
unfolding own_at
own-reaches = reaches-then (λ (b : ℕ). b < 256) 1 65537 byte_at _ byte-reaches (λ flag lt. reaches-either (eqb flag 0) 65537 _ _ (reaches-last None 65537)
    (reaches-either (eqb flag 1) 65537 _ _ (reaches-then Any 65537 0 part_at _ part-reaches (λ value ok. reaches-last (Some value) 0)) (reaches-none 65537)))

links-reaches : (count most : ℕ) → 13 * count ≤ most → Reaches Any most (links_at count)
unfolding links_at
links-reaches count most le = reaches-further Any (13 * count) most _ le (reaches-cut Any links_in (13 * count) (λ l fits. tt))

-- ---- the records

leaf-reaches : Reaches Any 131074 leaf_at
unfolding leaf_at
leaf-reaches = reaches-then Any 65537 65537 part_at _ part-reaches (λ key ok. reaches-then Any 65537 0 part_at _ part-reaches (λ value ok. reaches-last (Leaf key value) 0))

-- a node has 256 children at most
children-reach : (key : List ℕ) (value : Option (List ℕ)) (count : ℕ) → Reaches Any 3328 (λ bytes. links_at count bytes >>= (λ children. cond (are_children value count children.0) (Some (Node key value children.0, children.1)) None))
children-reach key value count = elim (leb count 256) as (λ q. leb count 256 ≡ q → Reaches Any 3328 (λ bytes. links_at count bytes >>= (λ children. cond (are_children value count children.0) (Some (Node key value children.0, children.1)) None))) [
  | true ↦ λ is. reaches-then Any 3328 0 (links_at count) _ (links-reaches count 3328 (omega (arith, leb-true _ _ is))) (λ children ok. reaches-either _ 0 _ _ (reaches-last (Node key value children) 0) (reaches-none 0))
  | false ↦ λ is n bytes y long fits e.
      let s = bind_some (links_at count bytes) (λ children. cond (are_children value count children.0) (Some (Node key value children.0, children.1)) None) y e in
      let made : RecordValue × List ℕ = (Node key value s.0.0, s.0.1) in
      let g = cond_some (are_children value count s.0.0) made y s.2 in
      let p = and_parts (leb (least_children value) count && leb count 256) (rise s.0.0) g.0 in
      let q = and_parts (leb (least_children value) count) (leb count 256) p.0 in
      absurd (cc (is, q.1))
] refl

node-reaches : Reaches Any 134405 node_at
unfolding node_at
node-reaches = reaches-then Any 65537 68868 part_at _ part-reaches (λ key ok. reaches-then Any 65538 3330 own_at _ own-reaches (λ value ok. reaches-then (λ (k : ℕ). k < 2 ^ 16) 2 3328 (number_at w16) _ short-reaches (λ count lt. children-reach key value count)))

root-reaches : Reaches Any 3325 root_at
unfolding root_at
root-reaches = reaches-then (λ (b : ℕ). b < 256) 1 3324 byte_at _ byte-reaches (λ format lt. reaches-then (λ (k : ℕ). k < 2 ^ 64) 8 3316 (number_at w64) _ long-reaches (λ commit lt. reaches-then (λ (b : ℕ). b < 256) 1 3315 byte_at _ byte-reaches (λ count lt. reaches-then Any 3315 0 (links_at count) _ (links-reaches count 3315 (omega arith)) (λ trees ok. reaches-either _ 0 _ _ (reaches-last (Root commit trees) 0) (reaches-none 0)))))

record-reaches : Reaches Any 134406 record_and_rest
unfolding record_and_rest
record-reaches = reaches-then (λ (b : ℕ). b < 256) 1 134405 byte_at _ byte-reaches (λ kind lt. reaches-either (eqb kind 1) 134405 _ _ (reaches-further Any 131074 134405 leaf_at (omega arith) leaf-reaches)
    (reaches-either (eqb kind 2) 134405 _ _ node-reaches (reaches-either (eqb kind 3) 134405 _ _ (reaches-further Any 3325 134405 root_at (omega arith) root-reaches) (reaches-none 134405))))

-- ---- whether bytes begin with a record

none-of : {A B : Type 0} (f : A → B) (o : Option A) → option_map f o ≡ None → o ≡ None
none-of f None e = refl
none-of f (Some x) e = absurd cc

read-none : (n : ℕ) (bytes : List ℕ) (o : Option (RecordValue × List ℕ)) → 134406 ≤ n → IsBytes (take n bytes) → record_and_rest bytes ≡ o → record_and_rest (take n bytes) ≡ None → o ≡ None
read-none n bytes None long fits is none = refl
read-none n bytes (Some y) long fits is none = let h = record-reaches n bytes y long fits is in absurd (cc (h.front, none))

-- No record has more than 134,406 bytes: where a front with so many begins with none, all the bytes do.
pub record_at-front : (n : ℕ) (bytes : List ℕ) → 134406 ≤ n → IsBytes (take n bytes) → record_at (take n bytes) ≡ None → record_at bytes ≡ None
unfolding record_at
record_at-front n bytes long fits none =
    ap (option_map (λ found. (found.0, length bytes - length found.1))) (read-none n bytes (record_and_rest bytes) long fits refl (none-of (λ (found : RecordValue × List ℕ). (found.0, length (take n bytes) - length found.1)) (record_and_rest (take n bytes)) none))
