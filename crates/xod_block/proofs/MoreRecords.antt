-- A map stays where each record that stood stays.
use Rattle.std.proofs.Common.{◌≡◌, ◌<◌, ℕ, zero, suc, List, [], ◌∷◌, ◌++◌, Bool, cond, Option, Some, None, refl, sym, ◌∙◌, ap, arith}
use Rattle.std.specs.Prelude.{IsSome}
use Rattle.std.specs.Option.{option_map}
use Rattle.std.proofs.lemmas.Bool.{lt-ltb}
use Rattle.xod_block.specs.Addresses.{number_of}
use Rattle.xod_block.specs.Maps.{RecordsAt, Pairs, OnlyMore, under, own_pair, joined, pairs_of_children, pairs_of, map_within, map_at}
use Rattle.xod_block.specs.Records.{Link, RecordValue, Leaf, Node, Root}
use Rattle.xod_block.proofs.MapOrder.{children-join, opened}

-- the maps that `f` gives below an address are given by `g` too
abbrev Gives : (ℕ → Option Pairs) → (ℕ → Option Pairs) → ℕ → Type 0
Gives f g at = (n : ℕ) (pairs : Pairs) → n < at → f n ≡ Some pairs → g n ≡ Some pairs

children-more : (f g : ℕ → Option Pairs) (at : ℕ) → Gives f g at → (children : List Link) (pairs : Pairs) → pairs_of_children f at children ≡ Some pairs → pairs_of_children g at children ≡ Some pairs
children-more f g at more [] pairs e = e
children-more f g at more (child ∷ children) pairs e =
    let j = children-join f at child children pairs e in
    ap (λ (q : Bool). cond q (joined (option_map (under (child.0 ∷ [])) (g (number_of child.1))) (pairs_of_children g at children)) None) (lt-ltb _ _ j.lower)
    ∙ ap (λ (o : Option Pairs). joined (option_map (under (child.0 ∷ [])) o) (pairs_of_children g at children)) (more (number_of child.1) j.first j.lower j.first_is)
    ∙ ap (joined (Some (under (child.0 ∷ []) j.first))) (children-more f g at more children j.others j.others_is)
    ∙ ap (λ (l : Pairs). Some l) (sym j.whole)

record-more : (f g : ℕ → Option Pairs) (at : ℕ) → Gives f g at → (o : Option RecordValue) (pairs : Pairs) → pairs_of f at o ≡ Some pairs → pairs_of g at o ≡ Some pairs
record-more f g at more None pairs e = e
record-more f g at more (Some (Leaf key value)) pairs e = e
record-more f g at more (Some (Node key value children)) pairs e =
    let h = opened (pairs_of_children f at children) key value pairs e in
    ap (option_map (λ ps. under key (own_pair value ++ ps))) (children-more f g at more children h.0 h.1) ∙ ap (λ (l : Pairs). Some l) (sym h.2)
record-more f g at more (Some (Root commit trees)) pairs e = e

is_there : (f : ℕ → Option Pairs) (at : ℕ) (o : Option RecordValue) (pairs : Pairs) → pairs_of f at o ≡ Some pairs → (item : RecordValue) × (o ≡ Some item)
is_there f at None pairs e = absurd cc
is_there f at (Some item) pairs e = (item, refl)

within-more : (old new : RecordsAt) (depth at : ℕ) → OnlyMore old new at → (pairs : Pairs) → map_within old depth at ≡ Some pairs → map_within new depth at ≡ Some pairs
within-more old new zero at more pairs e = e
within-more old new (suc depth) at more pairs e =
    let here = is_there (map_within old depth) at (old at) pairs e in
    let is : new at ≡ Some here.0 = more at here.0 (omega arith) here.1 in
    ap (pairs_of (map_within new depth) at) (is ∙ sym here.1)
    ∙ record-more (map_within old depth) (map_within new depth) at (λ n ps lt f. within-more old new depth n (λ below item le i. more below item (omega (arith, le, lt)) i) ps f) (old at) pairs e

at-more : (old new : RecordsAt) (at : ℕ) → OnlyMore old new at → (pairs : Pairs) → map_at old at ≡ Some pairs → map_at new at ≡ Some pairs
unfolding map_at
at-more old new at more pairs e = within-more old new (suc at) at more pairs e

the_pairs : (o : Option Pairs) → IsSome o → (pairs : Pairs) × (o ≡ Some pairs)
the_pairs None e = absurd cc
the_pairs (Some pairs) e = (pairs, refl)

pub map_at-more : (old new : RecordsAt) (at : ℕ) → OnlyMore old new at → IsSome (map_at old at) → map_at new at ≡ map_at old at
map_at-more old new at more some =
    let h = the_pairs (map_at old at) some in
    at-more old new at more h.0 h.1 ∙ sym h.1
