-- What is read is the spelling of a record, and each spelling is read as its record.
use Rattle.std.proofs.Common.{◌≡◌, ℕ, ◌-◌, ◌^◌, ◌≤◌, true, ◌&&◌, cond, leb, eqb, List, [], ◌∷◌, ◌++◌, length, take, drop, Option, Some, None, refl, sym, ap, subst, ◌∙◌, append_assoc, arith, inl, inr}
use Rattle.std.specs.Option.{option_map}
use Rattle.std.specs.Int.{w16, w64, to_be_bytes}
use Rattle.std.proofs.lemmas.Bool.{and_parts, eqb-true, leb-true, le-leb}
use Rattle.std.proofs.lemmas.Option.{cond_some}
use Rattle.std.proofs.lemmas.List.{append-nil, take_at, take-append-drop, length-append, length-take, nil_from_length}
use Rattle.xod_block.specs.Bytes.{IsBytes}
use Rattle.xod_block.specs.Records.{Link, RecordValue, Leaf, Node, Root, rise, FitsLeaf, FitsNode, FitsRoot, Fits, BeginsWith, least_children, part_bytes, own_bytes, links_bytes, spelling}
use Rattle.xod_block.specs.Reading.{◌>>=◌, byte_at, number_at, part_at, own_at, links_at, leaf_at, node_at, root_at, are_children, are_trees, record_and_rest, record_at}
use Rattle.xod_block.proofs.Numbers.{IsBytes-rest, wide16, wide64}
use Rattle.xod_block.proofs.Parts.{bind_some, chosen, some_is, Splits, Splits-then, byte_splits, number_splits, number_again, part_splits, part_again, own_splits, own_again, links_splits, links_again}

-- bytes behind a kind byte, split as a record and a rest
abbrev IsRecord : ℕ → List ℕ → RecordValue × List ℕ → Type 0
IsRecord kind bytes x = Splits (kind ∷ bytes) (spelling x.0) x.1 × Fits x.0

-- a byte before what is split
before : (k : ℕ) (a x b : List ℕ) → Splits a x b → Splits (k ∷ a) (k ∷ x) b
before k a x b s = record { parts = ap (λ (l : List ℕ). k ∷ l) s.parts; rest_fits = s.rest_fits }

-- ---- leaves

leaf_splits : (bytes : List ℕ) (x : RecordValue × List ℕ) → IsBytes bytes → leaf_at bytes ≡ Some x → IsRecord 1 bytes x
unfolding leaf_at
leaf_splits bytes x fits e =
    let a = bind_some (part_at bytes) (λ key. part_at key.1 >>= (λ value. Some (Leaf key.0 value.0, value.1))) x e in
    let b = bind_some (part_at a.0.1) (λ value. Some (Leaf a.0.0 value.0, value.1)) x a.2 in
    let s = part_splits bytes a.0 fits a.1 in
    let t = part_splits a.0.1 b.0 s.0.rest_fits b.1 in
    let both = Splits-then bytes (part_bytes a.0.0) a.0.1 (part_bytes b.0.0) b.0.1 s.0 t.0 in
    let made : RecordValue × List ℕ = (Leaf a.0.0 b.0.0, b.0.1) in
    subst (IsRecord 1 bytes) {x = made} (some_is made x b.2) (before 1 bytes (part_bytes a.0.0 ++ part_bytes b.0.0) b.0.1 both, record { key_fits = s.1; value_fits = t.1 })

leaf_again : (key value rest : List ℕ) → FitsLeaf key value → leaf_at (part_bytes key ++ part_bytes value ++ rest) ≡ Some (Leaf key value, rest)
unfolding leaf_at
leaf_again key value rest fits =
    ap leaf_at (append_assoc (part_bytes key) (part_bytes value) rest)
    ∙ rw (part_again key (part_bytes value ++ rest) fits.key_fits, part_again value rest fits.value_fits) refl

-- ---- nodes

node_splits : (bytes : List ℕ) (x : RecordValue × List ℕ) → IsBytes bytes → node_at bytes ≡ Some x → IsRecord 2 bytes x
unfolding node_at
node_splits bytes x fits e =
    let a = bind_some (part_at bytes) (λ key. own_at key.1 >>= (λ value. number_at w16 value.1 >>= (λ count. links_at count.0 count.1 >>= (λ children. cond (are_children value.0 count.0 children.0) (Some (Node key.0 value.0 children.0, children.1)) None)))) x e in
    let b = bind_some (own_at a.0.1) (λ value. number_at w16 value.1 >>= (λ count. links_at count.0 count.1 >>= (λ children. cond (are_children value.0 count.0 children.0) (Some (Node a.0.0 value.0 children.0, children.1)) None))) x a.2 in
    let c = bind_some (number_at w16 b.0.1) (λ count. links_at count.0 count.1 >>= (λ children. cond (are_children b.0.0 count.0 children.0) (Some (Node a.0.0 b.0.0 children.0, children.1)) None)) x b.2 in
    let d = bind_some (links_at c.0.0 c.0.1) (λ children. cond (are_children b.0.0 c.0.0 children.0) (Some (Node a.0.0 b.0.0 children.0, children.1)) None) x c.2 in
    let made : RecordValue × List ℕ = (Node a.0.0 b.0.0 d.0.0, d.0.1) in
    let g = cond_some (are_children b.0.0 c.0.0 d.0.0) made x d.2 in
    let s = part_splits bytes a.0 fits a.1 in
    let t = own_splits a.0.1 b.0 s.0.rest_fits b.1 in
    let u = number_splits w16 (2 ^ 16) wide16 b.0.1 c.0 t.0.rest_fits c.1 in
    let v = links_splits c.0.0 c.0.1 d.0 u.0.rest_fits d.1 in
    let count : Splits b.0.1 (to_be_bytes w16 (length d.0.0)) c.0.1 = subst (λ (k : ℕ). Splits b.0.1 (to_be_bytes w16 k) c.0.1) (sym v.1) u.0 in
    let two = Splits-then bytes (part_bytes a.0.0) a.0.1 (own_bytes b.0.0) b.0.1 s.0 t.0 in
    let three = Splits-then bytes (part_bytes a.0.0 ++ own_bytes b.0.0) b.0.1 (to_be_bytes w16 (length d.0.0)) c.0.1 two count in
    let four = Splits-then bytes (part_bytes a.0.0 ++ own_bytes b.0.0 ++ to_be_bytes w16 (length d.0.0)) c.0.1 (links_bytes d.0.0) d.0.1 three v.0 in
    let p = and_parts (leb (least_children b.0.0) c.0.0 && leb c.0.0 256) (rise d.0.0) g.0 in
    let q = and_parts (leb (least_children b.0.0) c.0.0) (leb c.0.0 256) p.0 in
    subst (IsRecord 2 bytes) {x = made} g.1 (
      before 2 bytes (part_bytes a.0.0 ++ own_bytes b.0.0 ++ to_be_bytes w16 (length d.0.0) ++ links_bytes d.0.0) d.0.1 four,
      record {
        key_fits = s.1;
        value_fits = t.1;
        enough = omega (arith, leb-true _ _ q.0, v.1);
        few = omega (arith, leb-true _ _ q.1, v.1);
        each = v.2;
        rising = p.1;
      },
    )

are_children-fit : (value : Option (List ℕ)) (children : List Link) → least_children value ≤ length children → length children ≤ 256 → rise children ≡ true → are_children value (length children) children ≡ true
are_children-fit value children enough few rising = rw (le-leb _ _ enough, le-leb _ _ few, rising) refl

node_again : (key : List ℕ) (value : Option (List ℕ)) (children : List Link) (rest : List ℕ) → FitsNode key value children → node_at (part_bytes key ++ own_bytes value ++ to_be_bytes w16 (length children) ++ links_bytes children ++ rest) ≡ Some (Node key value children, rest)
unfolding node_at
node_again key value children rest fits =
    let tail = to_be_bytes w16 (length children) ++ (links_bytes children ++ rest) in
    let regrouped : part_bytes key ++ own_bytes value ++ to_be_bytes w16 (length children) ++ links_bytes children ++ rest ≡ part_bytes key ++ (own_bytes value ++ tail) =
    append_assoc (part_bytes key ++ own_bytes value ++ to_be_bytes w16 (length children)) (links_bytes children) rest
    ∙ append_assoc (part_bytes key ++ own_bytes value) (to_be_bytes w16 (length children)) (links_bytes children ++ rest)
    ∙ append_assoc (part_bytes key) (own_bytes value) tail in
    let few = fits.few in
    ap node_at regrouped
    ∙ rw (part_again key (own_bytes value ++ tail) fits.key_fits, own_again value tail fits.value_fits, number_again w16 (2 ^ 16) wide16 (length children) (links_bytes children ++ rest) (omega (arith, few)), links_again children rest fits.each, are_children-fit value children fits.enough fits.few fits.rising) refl

-- ---- roots

root_splits : (bytes : List ℕ) (x : RecordValue × List ℕ) → IsBytes bytes → root_at bytes ≡ Some x → IsRecord 3 bytes x
unfolding root_at
root_splits bytes x fits e =
    let a = bind_some (byte_at bytes) (λ format. number_at w64 format.1 >>= (λ commit. byte_at commit.1 >>= (λ count. links_at count.0 count.1 >>= (λ trees. cond (are_trees format.0 count.0 trees.0) (Some (Root commit.0 trees.0, trees.1)) None)))) x e in
    let b = bind_some (number_at w64 a.0.1) (λ commit. byte_at commit.1 >>= (λ count. links_at count.0 count.1 >>= (λ trees. cond (are_trees a.0.0 count.0 trees.0) (Some (Root commit.0 trees.0, trees.1)) None))) x a.2 in
    let c = bind_some (byte_at b.0.1) (λ count. links_at count.0 count.1 >>= (λ trees. cond (are_trees a.0.0 count.0 trees.0) (Some (Root b.0.0 trees.0, trees.1)) None)) x b.2 in
    let d = bind_some (links_at c.0.0 c.0.1) (λ trees. cond (are_trees a.0.0 c.0.0 trees.0) (Some (Root b.0.0 trees.0, trees.1)) None) x c.2 in
    let made : RecordValue × List ℕ = (Root b.0.0 d.0.0, d.0.1) in
    let g = cond_some (are_trees a.0.0 c.0.0 d.0.0) made x d.2 in
    let p = and_parts (eqb a.0.0 1 && leb c.0.0 32) (rise d.0.0) g.0 in
    let q = and_parts (eqb a.0.0 1) (leb c.0.0 32) p.0 in
    let s = byte_splits bytes a.0 fits a.1 in
    let t = number_splits w64 (2 ^ 64) wide64 a.0.1 b.0 s.0.rest_fits b.1 in
    let u = byte_splits b.0.1 c.0 t.0.rest_fits c.1 in
    let v = links_splits c.0.0 c.0.1 d.0 u.0.rest_fits d.1 in
    let format : Splits bytes (1 ∷ []) a.0.1 = subst (λ (k : ℕ). Splits bytes (k ∷ []) a.0.1) (eqb-true _ _ q.0) s.0 in
    let count : Splits b.0.1 (length d.0.0 ∷ []) c.0.1 = subst (λ (k : ℕ). Splits b.0.1 (k ∷ []) c.0.1) (sym v.1) u.0 in
    let later = Splits-then b.0.1 (length d.0.0 ∷ []) c.0.1 (links_bytes d.0.0) d.0.1 count v.0 in
    let last = Splits-then a.0.1 (to_be_bytes w64 b.0.0) b.0.1 (length d.0.0 ∷ links_bytes d.0.0) d.0.1 t.0 later in
    let all = Splits-then bytes (1 ∷ []) a.0.1 (to_be_bytes w64 b.0.0 ++ length d.0.0 ∷ links_bytes d.0.0) d.0.1 format last in
    subst (IsRecord 3 bytes) {x = made} g.1 (
      before 3 bytes (1 ∷ to_be_bytes w64 b.0.0 ++ length d.0.0 ∷ links_bytes d.0.0) d.0.1 all,
      record {
        commit_fits = t.1;
        few = omega (arith, leb-true _ _ q.1, v.1);
        each = v.2;
        rising = p.1;
      },
    )

are_trees-fit : (trees : List Link) → length trees ≤ 32 → rise trees ≡ true → are_trees 1 (length trees) trees ≡ true
are_trees-fit trees few rising = rw (le-leb _ _ few, rising) refl

root_again : (commit : ℕ) (trees : List Link) (rest : List ℕ) → FitsRoot commit trees → root_at (1 ∷ (to_be_bytes w64 commit ++ (length trees ∷ (links_bytes trees ++ rest)))) ≡ Some (Root commit trees, rest)
unfolding root_at
root_again commit trees rest fits =
    let after : List ℕ → Option (RecordValue × List ℕ) = λ l. byte_at l >>= (λ count. links_at count.0 count.1 >>= (λ x. cond (are_trees 1 count.0 x.0) (Some (Root commit x.0, x.1)) None)) in
    ap (λ (r : Option (ℕ × List ℕ)). r >>= (λ c. byte_at c.1 >>= (λ count. links_at count.0 count.1 >>= (λ x. cond (are_trees 1 count.0 x.0) (Some (Root c.0 x.0, x.1)) None)))) (number_again w64 (2 ^ 64) wide64 commit (length trees ∷ (links_bytes trees ++ rest)) fits.commit_fits)
    ∙ rw (links_again trees rest fits.each, are_trees-fit trees fits.few fits.rising) refl

-- ---- all kinds

kinds_split : (kind : ℕ) (bytes : List ℕ) (x : RecordValue × List ℕ) → IsBytes bytes
    → cond (eqb kind 1) (leaf_at bytes) (cond (eqb kind 2) (node_at bytes) (cond (eqb kind 3) (root_at bytes) None)) ≡ Some x → IsRecord kind bytes x
kinds_split kind bytes x fits e = elim (chosen (eqb kind 1) (leaf_at bytes) (cond (eqb kind 2) (node_at bytes) (cond (eqb kind 3) (root_at bytes) None)) (Some x) e) [
  | inl one ↦ subst (λ (k : ℕ). IsRecord k bytes x) (sym (eqb-true _ _ one.0)) (leaf_splits bytes x fits one.1)
  | inr more ↦ elim (chosen (eqb kind 2) (node_at bytes) (cond (eqb kind 3) (root_at bytes) None) (Some x) more.1) [
    | inl two ↦ subst (λ (k : ℕ). IsRecord k bytes x) (sym (eqb-true _ _ two.0)) (node_splits bytes x fits two.1)
    | inr most ↦ elim (chosen (eqb kind 3) (root_at bytes) None (Some x) most.1) [
      | inl three ↦ subst (λ (k : ℕ). IsRecord k bytes x) (sym (eqb-true _ _ three.0)) (root_splits bytes x fits three.1)
      | inr other ↦ absurd cc
    ]
  ]
]

pub record_splits : (bytes : List ℕ) (x : RecordValue × List ℕ) → IsBytes bytes → record_and_rest bytes ≡ Some x → Splits bytes (spelling x.0) x.1 × Fits x.0
unfolding record_and_rest
record_splits [] x fits e = absurd cc
record_splits (kind ∷ bytes) x fits e = kinds_split kind bytes x (IsBytes-rest kind bytes fits) e

pub record_again : (value : RecordValue) (rest : List ℕ) → Fits value → record_and_rest (spelling value ++ rest) ≡ Some (value, rest)
unfolding record_and_rest
record_again (Leaf key value) rest fits = leaf_again key value rest fits
record_again (Node key value children) rest fits = node_again key value children rest fits
record_again (Root commit trees) rest fits = root_again commit trees rest fits

-- ---- the record that bytes begin with

counted : (bytes : List ℕ) (o : Option (RecordValue × List ℕ)) (x : RecordValue × ℕ) → option_map (λ found. (found.0, length bytes - length found.1)) o ≡ Some x
    → (y : RecordValue × List ℕ) × (o ≡ Some y) × (y.0 ≡ x.0) × (length bytes - length y.1 ≡ x.1)
counted bytes None x e = absurd cc
counted bytes (Some y) x e =
    let made : RecordValue × ℕ = (y.0, length bytes - length y.1) in
    let is = some_is made x e in
    (y, refl, ap (λ (p : RecordValue × ℕ). p.0) is, ap (λ (p : RecordValue × ℕ). p.1) is)

pub record_at-BeginsWith : (bytes : List ℕ) (x : RecordValue × ℕ) → IsBytes bytes → record_at bytes ≡ Some x → BeginsWith bytes x.0 x.1
unfolding record_at
record_at-BeginsWith bytes x fits e =
    let c = counted bytes (record_and_rest bytes) x e in
    let s = record_splits bytes c.0 fits c.1 in
    let text = spelling c.0.0 in
    let len : length text ≡ x.1 = omega (arith, c.3, ap length s.0.parts, length-append text c.0.1) in
    let front : take x.1 bytes ≡ text = ap (take x.1) s.0.parts ∙ take_at text c.0.1 x.1 len in
    record {
      fits = subst Fits c.2 s.1;
      within = omega (arith, c.3);
      spelled = front ∙ ap spelling c.2;
    }

pub record_at-spelling : (value : RecordValue) (rest : List ℕ) → Fits value → record_at (spelling value ++ rest) ≡ Some (value, length (spelling value))
unfolding record_at
record_at-spelling value rest fits =
    let len : length (spelling value ++ rest) - length rest ≡ length (spelling value) = omega (arith, length-append (spelling value) rest) in
    ap (option_map (λ found. (found.0, length (spelling value ++ rest) - length found.1))) (record_again value rest fits)
    ∙ ap (λ (n : ℕ). Some (value, n)) len

-- bytes that begin with a record are read as it
pub record_at-from_BeginsWith : (bytes : List ℕ) (value : RecordValue) (count : ℕ) → BeginsWith bytes value count → record_at bytes ≡ Some (value, count)
record_at-from_BeginsWith bytes value count begins =
    let within = begins.within in
    let len : length (spelling value) ≡ count = ap length (sym begins.spelled) ∙ omega (arith, length-take count bytes) in
    ap record_at (sym (ap (λ (l : List ℕ). l ++ drop count bytes) (sym begins.spelled) ∙ take-append-drop count bytes))
    ∙ record_at-spelling value (drop count bytes) begins.fits
    ∙ ap (λ (n : ℕ). Some (value, n)) len

-- a spelling that begins another is that one
pub spelling-no_front : (a b : RecordValue) (more : List ℕ) → Fits a → Fits b → spelling a ++ more ≡ spelling b → (a ≡ b) × (more ≡ [])
spelling-no_front a b more a_fits b_fits same =
    let first : record_at (spelling a ++ more) ≡ Some (a, length (spelling a)) = record_at-spelling a more a_fits in
    let second : record_at (spelling b) ≡ Some (b, length (spelling b)) = ap record_at (sym (append-nil (spelling b))) ∙ record_at-spelling b [] b_fits in
    let left : RecordValue × ℕ = (a, length (spelling a)) in
    let right : RecordValue × ℕ = (b, length (spelling b)) in
    let is : left ≡ right = some_is left right (sym first ∙ ap record_at same ∙ second) in
    let len : length (spelling a) ≡ length (spelling b) = ap (λ (p : RecordValue × ℕ). p.1) is in
    (ap (λ (p : RecordValue × ℕ). p.0) is, nil_from_length more (omega (arith, ap length same, length-append (spelling a) more, len)))

-- ---- what a reader that answers the rest tells of the length

pub rest_within : (bytes : List ℕ) (value : RecordValue) (rest : List ℕ) → IsBytes bytes → record_and_rest bytes ≡ Some (value, rest) → length rest ≤ length bytes
rest_within bytes value rest fits e = let s = record_splits bytes (value, rest) fits e in omega (arith, ap length s.0.parts, length-append (spelling value) rest)

pub BeginsWith-from_rest : (bytes : List ℕ) (value : RecordValue) (rest : List ℕ) → IsBytes bytes → record_and_rest bytes ≡ Some (value, rest) → BeginsWith bytes value (length bytes - length rest)
unfolding record_at
BeginsWith-from_rest bytes value rest fits e = record_at-BeginsWith bytes (value, length bytes - length rest) fits (ap (option_map (λ found. (found.0, length bytes - length found.1))) e)

pub no_record : (bytes : List ℕ) → record_and_rest bytes ≡ None → (value : RecordValue) (count : ℕ) → BeginsWith bytes value count → ⊥
unfolding record_at
no_record bytes none value count begins =
    let nothing : record_at bytes ≡ None = ap (option_map (λ found. (found.0, length bytes - length found.1))) none in
    let something : record_at bytes ≡ Some (value, count) = record_at-from_BeginsWith bytes value count begins in
    absurd (cc (nothing, something))
