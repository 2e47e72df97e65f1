-- How many bytes a record takes, and that it is read alike from each front that has them.
use Rattle.std.proofs.Common.{◌≡◌, ◌≤◌, ℕ, suc, zero, ◌+◌, ◌-◌, ◌*◌, ◌/◌, List, [], ◌∷◌, take, drop, length, Bool, true, false, ◌&&◌, cond, leb, ltb, eqb, Option, Some, None, refl, sym, ◌∙◌, ap, subst, arith}
use Rattle.std.specs.Option.{option_map}
use Rattle.std.specs.Int.{w16, w64, Width, byte_len, from_be_bytes}
use Rattle.std.proofs.lemmas.Bool.{and_parts, leb-true, ltb-false, le-ltb}
use Rattle.std.proofs.lemmas.List.{length-append, length-take, length-drop, take-take, drop-take, drop-drop}
use Rattle.xod_block.specs.Records.{Link, RecordValue, Leaf, Node, Root, part_bytes, own_bytes, rise, spelling}
use Rattle.xod_block.specs.Reading.{◌>>=◌, byte_at, number_at, part_at, own_at, links_in, links_at, leaf_at, node_at, root_at, are_children, are_trees, record_and_rest, record_at}
use Rattle.xod_block.proofs.CallerLemmas.{length-links_bytes, length-first_links}

-- A reader took so many bytes: they are there, the rest is behind them, and it reads the same of a front that has them.
record Took {A : Type 0} (reader : List ℕ → Option (A × List ℕ)) (bytes : List ℕ) (y : A × List ℕ) (k : ℕ) : Type 0 where
  pub within : k ≤ length bytes
  pub rest : y.1 ≡ drop k bytes
  pub front : (n : ℕ) → k ≤ n → reader (take n bytes) ≡ Some (y.0, drop k (take n bytes))

-- whatever it reads, it took some bytes, and what it read tells how many
abbrev Takes : {A : Type 0} → (A → ℕ → Type 0) → (List ℕ → Option (A × List ℕ)) → Type 0
Takes {A} P reader = (bytes : List ℕ) (y : A × List ℕ) → reader bytes ≡ Some y → (k : ℕ) × Took reader bytes y k × P y.0 k

bind_some : {A B : Type 0} (r : Option A) (f : A → Option B) (y : B) → (r >>= f) ≡ Some y → (x : A) × (r ≡ Some x) × (f x ≡ Some y)
bind_some None f y e = absurd cc
bind_some (Some x) f y e = (x, refl, e)

takes-weaker : {A : Type 0} (P Q : A → ℕ → Type 0) (r : List ℕ → Option (A × List ℕ)) → ((z : A) (k : ℕ) → P z k → Q z k) → Takes P r → Takes Q r
takes-weaker P Q r weaker takes bytes y e = let h = takes bytes y e in (h.0, h.1, weaker y.0 h.0 h.2)

takes-last : {A : Type 0} (Q : A → ℕ → Type 0) (x : A) → Q x 0 → Takes Q (λ bytes. Some (x, bytes))
takes-last Q x q bytes y e =
    let first : x ≡ y.0 = cc e in
    let rest : bytes ≡ y.1 = cc e in
    (0, record { within = omega arith; rest = sym rest; front = λ n le. ap (λ z. Some (z, take n bytes)) first }, subst (λ z. Q z 0) first q)

takes-none : {A : Type 0} (Q : A → ℕ → Type 0) → Takes Q (λ bytes. None)
takes-none Q bytes y e = absurd cc

takes-either : {A : Type 0} (Q : A → ℕ → Type 0) (q : Bool) (r s : List ℕ → Option (A × List ℕ)) → Takes Q r → Takes Q s → Takes Q (λ bytes. cond q (r bytes) (s bytes))
takes-either Q true r s a b = a
takes-either Q false r s a b = b

-- nothing is read where a test fails
takes-when : {A : Type 0} (Q : A → ℕ → Type 0) (q : Bool) (r : List ℕ → Option (A × List ℕ)) → (q ≡ true → Takes Q r) → Takes Q (λ bytes. cond q (r bytes) None)
takes-when Q true r a = a refl
takes-when Q false r a = takes-none Q

front-of_rest : (n k : ℕ) (bytes : List ℕ) → k ≤ n → drop k (take n bytes) ≡ take (n - k) (drop k bytes)
front-of_rest n k bytes le = let whole : n ≡ k + (n - k) = omega arith in ap (λ (m : ℕ). drop k (take m bytes)) whole ∙ drop-take k (n - k) bytes

takes-then : {A B : Type 0} (P : A → ℕ → Type 0) (Q : B → ℕ → Type 0) (r : List ℕ → Option (A × List ℕ)) (f : A × List ℕ → Option (B × List ℕ)) → Takes P r → ((x : A) (j : ℕ) → P x j → Takes (λ z k. Q z (j + k)) (λ bytes. f (x, bytes))) → Takes Q (λ bytes. r bytes >>= f)
takes-then P Q r f first later bytes y e =
    let s = bind_some (r bytes) f y e in
    let x = s.0 in
    let h = first bytes x s.1 in
    let k = h.0 in
    let took = h.1 in
    let within : k ≤ length bytes = took.within in
    let more : f (x.0, drop k bytes) ≡ Some y = ap (λ (l : List ℕ). f (x.0, l)) (sym took.rest) ∙ s.2 in
    let t = later x.0 k h.2 (drop k bytes) y more in
    let j = t.0 in
    let next = t.1 in
    let inside : j ≤ length (drop k bytes) = next.within in (
      k + j,
      record {
        within = omega (arith, within, inside, length-drop k bytes);
        rest = next.rest ∙ drop-drop j k bytes;
        front = λ n le.
            let enough : k ≤ n = omega (arith, le) in
            let left : j ≤ n - k = omega (arith, le) in
            let same = front-of_rest n k bytes enough in
            ap (λ o. o >>= f) (took.front n enough)
            ∙ ap (λ (l : List ℕ). f (x.0, l)) same
            ∙ next.front (n - k) left
            ∙ ap (λ (l : List ℕ). Some (y.0, drop j l)) (sym same)
            ∙ ap (λ (l : List ℕ). Some (y.0, l)) (drop-drop j k (take n bytes));
      },
      t.2,
    )

cut_other : {A : Type 0} (q : Bool) (p y : A) → cond q None (Some p) ≡ Some y → (q ≡ false) × (p ≡ y)
cut_other true p y e = absurd cc
cut_other false p y e = (refl, cc e)

-- so many bytes are taken off
record Cut {A : Type 0} (f : List ℕ → A) (n : ℕ) (z : A) (k : ℕ) : Type 0 where
  pub all : k ≡ n
  pub bytes : List ℕ
  pub many : length bytes ≡ n
  pub value : z ≡ f bytes

takes-cut : {A : Type 0} (f : List ℕ → A) (k : ℕ) → Takes (Cut f k) (λ bytes. cond (ltb (length bytes) k) None (Some (f (take k bytes), drop k bytes)))
takes-cut {A} f k bytes y e =
    let made : A × List ℕ = (f (take k bytes), drop k bytes) in
    let h = cut_other (ltb (length bytes) k) made y e in
    let enough : k ≤ length bytes = ltb-false _ _ h.0 in
    let value : f (take k bytes) ≡ y.0 = ap (λ (z : A × List ℕ). z.0) h.1 in (
      k,
      record {
        within = enough;
        rest = sym (ap (λ (z : A × List ℕ). z.1) h.1);
        front = λ n le.
            let there : ltb (length (take n bytes)) k ≡ false = le-ltb _ _ (omega (arith, le, enough, length-take n bytes)) in
            ap (λ (q : Bool). cond q None (Some (f (take k (take n bytes)), drop k (take n bytes)))) there
            ∙ ap (λ (l : List ℕ). Some (f l, drop k (take n bytes))) (take-take k n bytes le)
            ∙ ap (λ z. Some (z, drop k (take n bytes))) value;
      },
      record { all = refl; bytes = take k bytes; many = omega (arith, length-take k bytes, enough); value = sym value },
    )

-- ---- the parts

abbrev One : ℕ → ℕ → Type 0
One z k = k ≡ 1

byte-takes : Takes One byte_at
byte-takes [] y e = absurd cc
byte-takes (b ∷ bytes) y e =
    let first : b ≡ y.0 = cc e in
    let rest : bytes ≡ y.1 = cc e in (
      1,
      record {
        within = omega arith;
        rest = sym rest;
        front = λ n le. after n le first;
      },
      refl,
    )
  where
    after : (n : ℕ) → 1 ≤ n → b ≡ y.0 → byte_at (take n (b ∷ bytes)) ≡ Some (y.0, drop 1 (take n (b ∷ bytes)))
    after zero le first = absurd (omega (arith, le))
    after (suc n) le first = ap (λ (z : ℕ). Some (z, take n bytes)) first

number-takes : (w : Width) → Takes (Cut (from_be_bytes w) (byte_len w)) (number_at w)
number-takes w = takes-cut (from_be_bytes w) (byte_len w)

abbrev Part : List ℕ → ℕ → Type 0
Part part k = k ≡ 2 + length part

part-takes : Takes Part part_at
unfolding part_at
part-takes = takes-then (Cut (from_be_bytes w16) 2) Part (number_at w16) _ (number-takes w16) (λ n j cut.
    takes-weaker (Cut (λ (l : List ℕ). l) n) (λ z k. Part z (j + k)) _ (λ z k own. omega (arith, cut.all, own.all, own.many, ap length own.value)) (takes-cut (λ (l : List ℕ). l) n))

abbrev Own : Option (List ℕ) → ℕ → Type 0
Own value k = k ≡ length (own_bytes value)

length-part_bytes : (part : List ℕ) → length (part_bytes part) ≡ 2 + length part
length-part_bytes part = omega arith

own-takes : Takes Own own_at
unfolding own_at
own-takes = takes-then One Own byte_at _ byte-takes (λ flag j one. takes-either (λ z k. Own z (j + k)) (eqb flag 0) _ _
    (takes-last (λ z k. Own z (j + k)) None (omega (arith, one)))
    (takes-either (λ z k. Own z (j + k)) (eqb flag 1) _ _
    (takes-then Part (λ z k. Own z (j + k)) part_at _ part-takes (λ value i part. takes-last (λ z k. Own z (j + (i + k))) (Some value) (omega (arith, one, part, length-part_bytes value))))
    (takes-none (λ z k. Own z (j + k)))))

-- ---- links and records

abbrev Links : ℕ → List Link → ℕ → Type 0
Links count links k = (k ≡ 13 * count) × (length links ≡ count)

links-takes : (count : ℕ) → Takes (Links count) (links_at count)
unfolding links_at
links-takes count = takes-weaker (Cut links_in (13 * count)) (Links count) _ (λ z k cut.
    (cut.all, ap length cut.value ∙ length-first_links (length cut.bytes / 13) cut.bytes ∙ omega (arith, cut.many))) (takes-cut links_in (13 * count))

-- a root lists 32 trees at most
abbrev pub FewTrees : RecordValue → Type 0
FewTrees (Leaf key value) = Unit {0}
FewTrees (Node key value children) = Unit {0}
FewTrees (Root commit trees) = length trees ≤ 32

-- what is read behind the first byte
abbrev Behind : RecordValue → ℕ → Type 0
Behind item k = (suc k ≡ length (spelling item)) × FewTrees item

leaf-takes : Takes Behind leaf_at
unfolding leaf_at
leaf-takes = takes-then Part Behind part_at _ part-takes (λ key i part. takes-then Part (λ z k. Behind z (i + k)) part_at _ part-takes (λ value j own.
    takes-last (λ z k. Behind z (i + (j + k))) (Leaf key value) (omega (arith, part, own, length-append (part_bytes key) (part_bytes value), length-part_bytes key, length-part_bytes value), tt)))

length-node : (key : List ℕ) (value : Option (List ℕ)) (children : List Link) → length (spelling (Node key value children)) ≡ 5 + length key + length (own_bytes value) + 13 * length children
length-node key value children = simp length-append (omega (arith, length-links_bytes children))

node-takes : Takes Behind node_at
unfolding node_at
node-takes = takes-then Part Behind part_at _ part-takes (λ key a part.
    takes-then Own (λ z k. Behind z (a + k)) own_at _ own-takes (λ value b own.
    takes-then (Cut (from_be_bytes w16) 2) (λ z k. Behind z (a + (b + k))) (number_at w16) _ (number-takes w16) (λ count c two.
    takes-then (Links count) (λ z k. Behind z (a + (b + (c + k)))) (links_at count) _ (links-takes count) (λ children d links.
    takes-either (λ z k. Behind z (a + (b + (c + (d + k))))) (are_children value count children) _ _
    (takes-last (λ z k. Behind z (a + (b + (c + (d + k))))) (Node key value children) (omega (arith, part, own, two.all, links.0, links.1, length-node key value children), tt))
    (takes-none (λ z k. Behind z (a + (b + (c + (d + k))))))))))

root-takes : Takes Behind root_at
unfolding root_at
root-takes = takes-then One Behind byte_at _ byte-takes (λ format a one.
    takes-then (Cut (from_be_bytes w64) 8) (λ z k. Behind z (a + k)) (number_at w64) _ (number-takes w64) (λ commit b eight.
    takes-then One (λ z k. Behind z (a + (b + k))) byte_at _ byte-takes (λ count c first.
    takes-then (Links count) (λ z k. Behind z (a + (b + (c + k)))) (links_at count) _ (links-takes count) (λ trees d links.
    takes-when (λ z k. Behind z (a + (b + (c + (d + k))))) (are_trees format count trees) _ (λ fine.
    let listed = and_parts (eqb format 1) (leb count 32) (and_parts (eqb format 1 && leb count 32) (rise trees) fine).0 in
    takes-last (λ z k. Behind z (a + (b + (c + (d + k))))) (Root commit trees) (omega (arith, one, eight.all, first, links.0, links.1, length-links_bytes trees), omega (arith, links.1, leb-true count 32 listed.1)))))))

abbrev Whole : RecordValue → ℕ → Type 0
Whole item k = (k ≡ length (spelling item)) × FewTrees item

record-takes : Takes Whole record_and_rest
unfolding record_and_rest
record-takes = takes-then One Whole byte_at _ byte-takes (λ kind j one.
    let weaker : (z : RecordValue) (k : ℕ) → Behind z k → Whole z (j + k) = λ z k behind. (omega (arith, one, behind.0), behind.1) in
    takes-either (λ z k. Whole z (j + k)) (eqb kind 1) _ _ (takes-weaker Behind (λ z k. Whole z (j + k)) leaf_at weaker leaf-takes)
    (takes-either (λ z k. Whole z (j + k)) (eqb kind 2) _ _ (takes-weaker Behind (λ z k. Whole z (j + k)) node_at weaker node-takes)
    (takes-either (λ z k. Whole z (j + k)) (eqb kind 3) _ _ (takes-weaker Behind (λ z k. Whole z (j + k)) root_at weaker root-takes)
    (takes-none (λ z k. Whole z (j + k))))))

-- ---- the record that bytes begin with

-- it takes as many bytes as its spelling has
pub record Begins (bytes : List ℕ) (item : RecordValue) (count : ℕ) : Type 0 where
  pub few : FewTrees item
  pub count_is : count ≡ length (spelling item)
  pub within : count ≤ length bytes
  pub front : (n : ℕ) → count ≤ n → record_at (take n bytes) ≡ Some (item, count)

read-begins : (bytes : List ℕ) (o : Option (RecordValue × List ℕ)) (x : RecordValue × ℕ) → record_and_rest bytes ≡ o → option_map (λ (found : RecordValue × List ℕ). (found.0, length bytes - length found.1)) o ≡ Some x → Begins bytes x.0 x.1
unfolding record_at
read-begins bytes None x is e = absurd cc
read-begins bytes (Some y) x is e =
    let t = record-takes bytes y is in
    let k = t.0 in
    let took = t.1 in
    let within : k ≤ length bytes = took.within in
    let made : RecordValue × ℕ = (y.0, length bytes - length y.1) in
    let same : made ≡ x = cc e in
    let item : y.0 ≡ x.0 = ap (λ (z : RecordValue × ℕ). z.0) same in
    let count : length bytes - length y.1 ≡ x.1 = ap (λ (z : RecordValue × ℕ). z.1) same in
    let count_is : k ≡ x.1 = omega (arith, within, count, ap length took.rest, length-drop k bytes) in
    record {
      few = subst FewTrees item t.2.1;
      count_is = sym count_is ∙ t.2.0 ∙ ap (λ (v : RecordValue). length (spelling v)) item;
      within = omega (arith, within, count_is);
      front = λ n le.
          let enough : k ≤ n = omega (arith, le, count_is) in
          let left : length (take n bytes) - length (drop k (take n bytes)) ≡ k = omega (arith, within, enough, length-drop k (take n bytes), length-take n bytes) in
          ap (option_map (λ (found : RecordValue × List ℕ). (found.0, length (take n bytes) - length found.1))) (took.front n enough)
          ∙ ap (λ (m : ℕ). Some (y.0, m)) (left ∙ count_is)
          ∙ ap (λ (v : RecordValue). Some (v, x.1)) item;
    }

pub record_at-begins : (bytes : List ℕ) (x : RecordValue × ℕ) → record_at bytes ≡ Some x → Begins bytes x.0 x.1
unfolding record_at
record_at-begins bytes x e = read-begins bytes (record_and_rest bytes) x refl e
