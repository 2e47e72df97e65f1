-- The child bytes of each node that is read rise, and it has a value and one child or two children, whatever the bytes are.
use Rattle.std.proofs.Common.{◌≡◌, ◌⊎◌, ℕ, zero, suc, ◌*◌, ◌%◌, ◌/◌, ◌^◌, ◌<◌, ◌≤◌, Bool, true, false, ◌&&◌, cond, leb, ltb, eqb, List, [], ◌∷◌, length, take, drop, Option, Some, None, refl, sym, ap, ◌∙◌, subst, inl, inr, arith}
use Rattle.std.specs.Prelude.{IfSome, IsSome, ◌-◌}
use Rattle.std.specs.Option.{option_map}
use Rattle.std.specs.Int.{w16, w64}
use Rattle.std.proofs.lemmas.Bool.{and_parts, leb-true, ltb-false}
use Rattle.std.proofs.lemmas.List.{length-take}
use Rattle.std.proofs.lemmas.Option.{cond_some}
use Rattle.xod_block.specs.Bodies.{Bodies, records_of}
use Rattle.xod_block.specs.Maps.{HasRisingChildren, RisesEverywhere, HasEnoughChildren, BranchesEverywhere}
use Rattle.xod_block.specs.Records.{Link, RecordValue, Leaf, Node, Root, rise, least_children}
use Rattle.xod_block.specs.Reading.{◌>>=◌, byte_at, number_at, part_at, own_at, first_links, links_in, links_at, leaf_at, node_at, root_at, are_children, are_trees, record_and_rest, record_at}

-- a step that gave something, and what the next one made of it
bind_some : {A B : Type 0} (r : Option A) (f : A → Option B) (y : B) → (r >>= f) ≡ Some y → (x : A) × (r ≡ Some x) × (f x ≡ Some y)
bind_some None f y e = absurd cc
bind_some (Some x) f y e = (x, refl, e)

-- which way a choice went
chosen : {A : Type 0} (b : Bool) (x y z : A) → cond b x y ≡ z → ((b ≡ true) × (x ≡ z)) ⊎ ((b ≡ false) × (y ≡ z))
chosen true x y z e = inl (refl, e)
chosen false x y z e = inr (refl, e)

abbrev given : {A : Type 0} → A → Option A
given x = Some x

some_is : {A : Type 0} (x y : A) → given x ≡ given y → x ≡ y
some_is x y e = cc

-- how many links are read is what stood before them
length-first_links : (n : ℕ) (raw : List ℕ) → length (first_links n raw) ≡ n
length-first_links zero raw = refl
length-first_links (suc n) raw = ap suc (length-first_links n (drop 13 raw))

not-short : (b : Bool) (x y : Option (List Link × List ℕ)) → cond b None x ≡ y → IsSome y → (b ≡ false) × (x ≡ y)
not-short true x y e some = absurd (cc (e, some))
not-short false x y e some = (refl, e)

links_at-count : (count : ℕ) (bytes : List ℕ) (x : List Link × List ℕ) → links_at count bytes ≡ Some x → length x.0 ≡ count
unfolding links_at
links_at-count count bytes x e =
    let g = not-short (ltb (length bytes) (13 * count)) (Some (links_in (take (13 * count) bytes), drop (13 * count) bytes)) (Some x) e refl in
    let long : 13 * count ≤ length bytes = ltb-false (length bytes) (13 * count) g.0 in
    let is : links_in (take (13 * count) bytes) ≡ x.0 = cc g.1 in
    ap length (sym is) ∙ length-first_links (length (take (13 * count) bytes) / 13) (take (13 * count) bytes) ∙ omega (arith, length-take (13 * count) bytes)

-- both of what is read of a node
abbrev Rises : RecordValue × List ℕ → Type 0
Rises x = HasRisingChildren x.0 × HasEnoughChildren x.0

leaf-rises : (bytes : List ℕ) (x : RecordValue × List ℕ) → leaf_at bytes ≡ Some x → Rises x
unfolding leaf_at
leaf-rises bytes x e =
    let a = bind_some (part_at bytes) (λ key. part_at key.1 >>= (λ value. Some (Leaf key.0 value.0, value.1))) x e in
    let b = bind_some (part_at a.0.1) (λ value. Some (Leaf a.0.0 value.0, value.1)) x a.2 in
    let made : RecordValue × List ℕ = (Leaf a.0.0 b.0.0, b.0.1) in
    subst Rises (some_is made x b.2) (tt, tt)

node-rises : (bytes : List ℕ) (x : RecordValue × List ℕ) → node_at bytes ≡ Some x → Rises x
unfolding node_at
node-rises bytes x e =
    let a = bind_some (part_at bytes) (λ key. own_at key.1 >>= (λ value. number_at w16 value.1 >>= (λ count. links_at count.0 count.1 >>= (λ children. cond (are_children value.0 count.0 children.0) (Some (Node key.0 value.0 children.0, children.1)) None)))) x e in
    let b = bind_some (own_at a.0.1) (λ value. number_at w16 value.1 >>= (λ count. links_at count.0 count.1 >>= (λ children. cond (are_children value.0 count.0 children.0) (Some (Node a.0.0 value.0 children.0, children.1)) None))) x a.2 in
    let c = bind_some (number_at w16 b.0.1) (λ count. links_at count.0 count.1 >>= (λ children. cond (are_children b.0.0 count.0 children.0) (Some (Node a.0.0 b.0.0 children.0, children.1)) None)) x b.2 in
    let d = bind_some (links_at c.0.0 c.0.1) (λ children. cond (are_children b.0.0 c.0.0 children.0) (Some (Node a.0.0 b.0.0 children.0, children.1)) None) x c.2 in
    let made : RecordValue × List ℕ = (Node a.0.0 b.0.0 d.0.0, d.0.1) in
    let g = cond_some (are_children b.0.0 c.0.0 d.0.0) made x d.2 in
    let p = and_parts (leb (least_children b.0.0) c.0.0 && leb c.0.0 256) (rise d.0.0) g.0 in
    let q = and_parts (leb (least_children b.0.0) c.0.0) (leb c.0.0 256) p.0 in
    let enough : least_children b.0.0 ≤ length d.0.0 = omega (arith, leb-true (least_children b.0.0) c.0.0 q.0, links_at-count c.0.0 c.0.1 d.0 d.1) in
    subst Rises g.1 (p.1, enough)

root-rises : (bytes : List ℕ) (x : RecordValue × List ℕ) → root_at bytes ≡ Some x → Rises x
unfolding root_at
root-rises bytes x e =
    let a = bind_some (byte_at bytes) (λ format. number_at w64 format.1 >>= (λ commit. byte_at commit.1 >>= (λ count. links_at count.0 count.1 >>= (λ trees. cond (are_trees format.0 count.0 trees.0) (Some (Root commit.0 trees.0, trees.1)) None)))) x e in
    let b = bind_some (number_at w64 a.0.1) (λ commit. byte_at commit.1 >>= (λ count. links_at count.0 count.1 >>= (λ trees. cond (are_trees a.0.0 count.0 trees.0) (Some (Root commit.0 trees.0, trees.1)) None))) x a.2 in
    let c = bind_some (byte_at b.0.1) (λ count. links_at count.0 count.1 >>= (λ trees. cond (are_trees a.0.0 count.0 trees.0) (Some (Root b.0.0 trees.0, trees.1)) None)) x b.2 in
    let d = bind_some (links_at c.0.0 c.0.1) (λ trees. cond (are_trees a.0.0 c.0.0 trees.0) (Some (Root b.0.0 trees.0, trees.1)) None) x c.2 in
    let made : RecordValue × List ℕ = (Root b.0.0 d.0.0, d.0.1) in
    let g = cond_some (are_trees a.0.0 c.0.0 d.0.0) made x d.2 in
    subst Rises g.1 (tt, tt)

kinds-rise : (kind : ℕ) (bytes : List ℕ) (x : RecordValue × List ℕ) → cond (eqb kind 1) (leaf_at bytes) (cond (eqb kind 2) (node_at bytes) (cond (eqb kind 3) (root_at bytes) None)) ≡ Some x → Rises x
kinds-rise kind bytes x e = elim (chosen (eqb kind 1) (leaf_at bytes) (cond (eqb kind 2) (node_at bytes) (cond (eqb kind 3) (root_at bytes) None)) (Some x) e) [
  | inl one ↦ leaf-rises bytes x one.1
  | inr more ↦ elim (chosen (eqb kind 2) (node_at bytes) (cond (eqb kind 3) (root_at bytes) None) (Some x) more.1) [
    | inl two ↦ node-rises bytes x two.1
    | inr most ↦ elim (chosen (eqb kind 3) (root_at bytes) None (Some x) most.1) [
      | inl three ↦ root-rises bytes x three.1
      | inr other ↦ absurd cc
    ]
  ]
]

record-rises : (bytes : List ℕ) (x : RecordValue × List ℕ) → record_and_rest bytes ≡ Some x → Rises x
unfolding record_and_rest
record-rises [] x e = absurd cc
record-rises (kind ∷ bytes) x e = kinds-rise kind bytes x e

if_read : (P : RecordValue → Type 0) (length_of : List ℕ → ℕ) (o : Option (RecordValue × List ℕ)) → ((x : RecordValue × List ℕ) → o ≡ Some x → P x.0) → IfSome (option_map (λ (found : RecordValue × ℕ). found.0) (option_map (λ (found : RecordValue × List ℕ). (found.0, length_of found.1)) o)) P
if_read P length_of None each = tt
if_read P length_of (Some x) each = each x refl

-- what is read at the front of any bytes
pub record_at-rises : (bytes : List ℕ) → IfSome (option_map (λ found. found.0) (record_at bytes)) HasRisingChildren
unfolding record_at
record_at-rises bytes = if_read HasRisingChildren (λ rest. length bytes - length rest) (record_and_rest bytes) (λ x is. (record-rises bytes x is).0)

pub record_at-branches : (bytes : List ℕ) → IfSome (option_map (λ found. found.0) (record_at bytes)) HasEnoughChildren
unfolding record_at
record_at-branches bytes = if_read HasEnoughChildren (λ rest. length bytes - length rest) (record_and_rest bytes) (λ x is. (record-rises bytes x is).1)

pub records_of-rises : (bodies : Bodies) → RisesEverywhere (records_of bodies)
records_of-rises bodies number = record_at-rises (drop (number % 2 ^ 64) (bodies (number / 2 ^ 64)))

pub records_of-branches : (bodies : Bodies) → BranchesEverywhere (records_of bodies)
records_of-branches bodies number = record_at-branches (drop (number % 2 ^ 64) (bodies (number / 2 ^ 64)))
