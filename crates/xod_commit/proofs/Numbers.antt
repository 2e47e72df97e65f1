-- Roots by the numbers of their trees and by where they begin.
use Rattle.std.proofs.Common.{◌≡◌, ◌<◌, ◌≤◌, ℕ, ◌+◌, ◌^◌, Bool, true, ◌&&◌, leb, ltb, List, [], ◌∷◌, length, length-append, Option, Some, None, refl, sym, ap, subst, ◌∙◌, arith}
use Rattle.std.specs.Prelude.{IsSome, is_some}
use Rattle.std.specs.Int.{to_be_bytes, w64}
use Rattle.std.specs.List.{list_all}
use Rattle.std.specs.FinMap.{entries, entries_sorted, get, len, len-entries, nat_cmp-IsAntisymmetric}
use Rattle.std.proofs.lemmas.Bool.{and_parts, le-leb, leb-true, lt-ltb, ltb-true}
use Rattle.std.proofs.lemmas.Cmp.{nat_cmp_total}
use Rattle.xod_block.specs.declared.address.Address.{Address}
use Rattle.xod_block.specs.Addresses.{number_of}
use Rattle.xod_block.specs.Records.{Link, Root, links_bytes, rise, spelling}
use Rattle.xod_block.proofs.CallerLemmas.{length-links_bytes}
use Rattle.xod_root.specs.Roots.{Roots, with_root}
use Rattle.xod_root.proofs.CallerLemmas.{len-with_root, sorted-rise}
use Rattle.xod_trie_mut.specs.Saves.{IsBelow}
use Rattle.xod_commit.specs.Blocks.{AreNumbered, IsTreeNumber, all_begin_before, have_tree_numbers}
use Rattle.xod_commit.specs.Trees.{AreBelow}
use Rattle.xod_commit.proofs.Finite.{all-entries, all-tests, entries-all, tests-all}

pub some-is : {A : Type 0} (o : Option A) → IsSome o → (x : A) × (o ≡ Some x)
some-is None some = absurd cc
some-is (Some x) some = (x, refl)

-- ---- numbers

abbrev passes : Link → Bool
passes link = leb 1 link.0 && leb link.0 8

passes-number : (number : ℕ) → IsTreeNumber number → (leb 1 number && leb number 8) ≡ true
passes-number number is = ap (λ (b : Bool). b && leb number 8) (le-leb 1 number is.0) ∙ le-leb number 8 is.1

number-passes : (number : ℕ) → (leb 1 number && leb number 8) ≡ true → IsTreeNumber number
number-passes number is = let both = and_parts (leb 1 number) (leb number 8) is in (leb-true 1 number both.0, leb-true number 8 both.1)

pub numbered-all : (roots : Roots) → AreNumbered roots → have_tree_numbers (entries roots) ≡ true
numbered-all roots numbered = tests-all passes (entries roots) (all-entries nat_cmp_total nat_cmp-IsAntisymmetric (λ link. passes link ≡ true) roots (λ tree root is. passes-number tree (numbered tree (ap is_some is))))

pub all-numbered : (roots : Roots) → have_tree_numbers (entries roots) ≡ true → AreNumbered roots
all-numbered roots all tree some =
    let found = some-is (get roots tree) some in
    number-passes tree (entries-all nat_cmp_total nat_cmp-IsAntisymmetric (λ link. passes link ≡ true) roots (all-tests passes (entries roots) all) tree found.0 found.1)

-- from each number on no more follow than there are up to 8, so at most 8 trees are listed
rising-few : (link : Link) (links : List Link) → rise (link ∷ links) ≡ true → list_all passes (link ∷ links) ≡ true → link.0 + length (link ∷ links) ≤ 9
rising-few link [] rises all = let last = number-passes link.0 (and_parts (passes link) true all).0 in let low = last.1 in omega (arith, low)
rising-few link (next ∷ links) rises all =
    let lower = ltb-true link.0 next.0 (and_parts (ltb link.0 next.0) (rise (next ∷ links)) rises).0 in
    let rest = rising-few next links (and_parts (ltb link.0 next.0) (rise (next ∷ links)) rises).1 (and_parts (passes link) (list_all passes (next ∷ links)) all).1 in
    omega (arith, lower, rest)

few-links : (links : List Link) → rise links ≡ true → list_all passes links ≡ true → length links ≤ 8
few-links [] rises all = omega arith
few-links (link ∷ links) rises all =
    let few = rising-few link links rises all in
    let first = number-passes link.0 (and_parts (passes link) (list_all passes links) all).0 in
    let low = first.0 in
    omega (arith, few, low)

pub few-trees : (roots : Roots) → AreNumbered roots → len roots ≤ 8
few-trees roots numbered =
    let few = few-links (entries roots) (sorted-rise (entries roots) (entries_sorted roots)) (numbered-all roots numbered) in
    subst (λ (n : ℕ). n ≤ 8) (sym (len-entries roots)) few

-- so one more may be listed
pub one-more : (roots : Roots) (tree : ℕ) (root : Option Address) → AreNumbered roots → len (with_root roots tree root) ≤ 32
one-more roots tree root numbered = let few = few-trees roots numbered in let more = len-with_root roots tree root in omega (arith, few, more)

-- ---- beginnings

pub if-below : (at : Address) (root : Option Address) → ((a : Address) → root ≡ Some a → number_of a < number_of at) → IsBelow root at
if-below at None each = tt
if-below at (Some a) each = each a refl

begins : (at : Address) (root : Option Address) (a : Address) → root ≡ Some a → IsBelow root at → number_of a < number_of at
begins at None a e below = absurd cc
begins at (Some b) a e below = let same : b ≡ a = cc in subst (λ (x : Address). number_of x < number_of at) same below

pub all-below : (at : Address) (roots : Roots) → all_begin_before at (entries roots) ≡ true → AreBelow at roots
all-below at roots all tree = if-below at (get roots tree) (λ a is.
    ltb-true (number_of a) (number_of at) (entries-all nat_cmp_total nat_cmp-IsAntisymmetric (λ link. ltb (number_of link.1) (number_of at) ≡ true) roots
    (all-tests (λ link. ltb (number_of link.1) (number_of at)) (entries roots) all) tree a is))

pub below-all : (at : Address) (roots : Roots) → AreBelow at roots → all_begin_before at (entries roots) ≡ true
below-all at roots below = tests-all (λ link. ltb (number_of link.1) (number_of at)) (entries roots)
    (all-entries nat_cmp_total nat_cmp-IsAntisymmetric (λ link. ltb (number_of link.1) (number_of at) ≡ true) roots (λ tree a is.
    lt-ltb (number_of a) (number_of at) (begins at (get roots tree) a is (below tree))))

-- what is below an address is below each later one
pub below-later : (at later : Address) (root : Option Address) → number_of at ≤ number_of later → IsBelow root at → IsBelow root later
below-later at later None up below = tt
below-later at later (Some a) up below = omega (arith, up, below)

-- ---- root records

-- a root record is short, so a place in it fits into four bytes
pub root-short : (commit : ℕ) (trees : List Link) → length trees ≤ 32 → length (spelling (Root commit trees)) < 2 ^ 32
root-short commit trees few =
    let links = length-links_bytes trees in
    let both = length-append (to_be_bytes w64 commit) (length trees ∷ links_bytes trees) in
    omega (arith, few, links, both)
