-- The orders of ids, of properties and of links.
use Rattle.std.proofs.Common.{◌≡◌, ◌∙◌, ℕ, suc, T, List, [], ◌∷◌, ◌++◌, map, ap, sym, subst, refl, arith}
use Rattle.std.specs.declared.cmp.Ordering.{Ordering}
use Rattle.std.specs.declared.cmp.Ordering.TheVariants.{Less, Equal, Greater}
use Rattle.std.specs.Ordering.{ordering_then, is_eq, nat_cmp}
use Rattle.std.specs.Cmp.{IsTotalOrder}
use Rattle.std.specs.Cmp.Lexicographic.{on_texts}
use Rattle.std.specs.FinMap.{IsAntisymmetric, nat_cmp-IsAntisymmetric, slice_cmp-IsAntisymmetric}
use Rattle.std.proofs.lemmas.Bool.Decides.{nat_tests}
use Rattle.xod_base.specs.declared.value.EntityId.{EntityId}
use Rattle.xod_base.specs.Rows.{Cell, LinkKey, id_cmp, cell_cmp, link_cmp, numbers_of_cell, numbers_of_link}
use Rattle.xod_base.specs.Values.{bytes_cmp}
pub use Rattle.xod_sets.proofs.CallerLemmas.{id_total, id_same}
use Rattle.xod_model.specs.Keys.{id_key, cell_key}

then_then : (a b c : Ordering) → ordering_then (ordering_then a b) c ≡ ordering_then a (ordering_then b c)
then_then Less b c = refl
then_then Equal b c = refl
then_then Greater b c = refl

nat_cmp-suc : (x y : ℕ) → nat_cmp (suc x) (suc y) ≡ nat_cmp x y
nat_cmp-suc x y = grind (arith, nat_tests)

zero_below : (y : ℕ) → nat_cmp 0 (suc y) ≡ Less
zero_below y = grind (arith, nat_tests)

above_zero : (x : ℕ) → nat_cmp (suc x) 0 ≡ Greater
above_zero x = grind (arith, nat_tests)

-- a name that ends where another one goes on is below it
names_cmp : (a b s t : List ℕ) → bytes_cmp (map (λ x. suc x) a ++ (0 ∷ s)) (map (λ x. suc x) b ++ (0 ∷ t)) ≡ ordering_then (bytes_cmp a b) (bytes_cmp s t)
names_cmp [] [] s t = refl
names_cmp [] (y ∷ b) s t = ap (λ r. ordering_then r (bytes_cmp s (map (λ x. suc x) b ++ (0 ∷ t)))) (zero_below y)
names_cmp (x ∷ a) [] s t = ap (λ r. ordering_then r (bytes_cmp (map (λ x. suc x) a ++ (0 ∷ s)) t)) (above_zero x)
names_cmp (x ∷ a) (y ∷ b) s t =
    (λ i. ordering_then (nat_cmp-suc x y i) (names_cmp a b s t i)) ∙ sym (then_then (nat_cmp x y) (bytes_cmp a b) (bytes_cmp s t))

-- a link is ordered by its source, then by its name, then by its target
link_cmp-parts : (k l : LinkKey) → link_cmp k l ≡ ordering_then (id_cmp k.0 l.0) (ordering_then (bytes_cmp k.1.0 l.1.0) (id_cmp k.1.1 l.1.1))
link_cmp-parts k l =
    (λ i. ordering_then (nat_cmp k.0.kind l.0.kind) (ordering_then (nat_cmp k.0.local l.0.local) (names_cmp k.1.0 l.1.0 (k.1.1.kind ∷ k.1.1.local ∷ []) (l.1.1.kind ∷ l.1.1.local ∷ []) i)))
    ∙ by_id (nat_cmp k.0.kind l.0.kind) (nat_cmp k.0.local l.0.local) (ordering_then (bytes_cmp k.1.0 l.1.0) (id_cmp k.1.1 l.1.1))
  where
    by_id : (a b c : Ordering) → ordering_then a (ordering_then b c) ≡ ordering_then (ordering_then a (ordering_then b Equal)) c
    by_id Less b c = refl
    by_id Equal Less c = refl
    by_id Equal Equal c = refl
    by_id Equal Greater c = refl
    by_id Greater b c = refl

ended : (b : Ordering) → b ≡ ordering_then b Equal
ended Less = refl
ended Equal = refl
ended Greater = refl

-- the same in the words of a derived comparison of ids
abbrev by_fields : EntityId → EntityId → Ordering
by_fields a b = ordering_then (nat_cmp a.kind b.kind) (nat_cmp a.local b.local)

pub link_cmp-fields : (k l : LinkKey) → ordering_then (by_fields k.0 l.0) (ordering_then (bytes_cmp k.1.0 l.1.0) (by_fields k.1.1 l.1.1)) ≡ link_cmp k l
link_cmp-fields k l =
    (λ i. ordering_then (fields k.0 l.0 i) (ordering_then (bytes_cmp k.1.0 l.1.0) (fields k.1.1 l.1.1 i))) ∙ sym (link_cmp-parts k l)
  where
    fields : (a b : EntityId) → by_fields a b ≡ id_cmp a b
    fields a b = ap (ordering_then (nat_cmp a.kind b.kind)) (ended (nat_cmp a.local b.local))

-- ---- the orders are total, and only equal keys tie
both_equal : (a b : Ordering) → ordering_then a b ≡ Equal → (a ≡ Equal) × (b ≡ Equal)
both_equal Less b e = absurd (subst (λ r. T (is_eq r)) (sym e) tt)
both_equal Equal b e = (refl, e)
both_equal Greater b e = absurd (subst (λ r. T (is_eq r)) (sym e) tt)

bytes_same : IsAntisymmetric bytes_cmp
bytes_same = slice_cmp-IsAntisymmetric nat_cmp-IsAntisymmetric

pub link_same : IsAntisymmetric link_cmp
link_same k l e =
    let source = both_equal (id_cmp k.0 l.0) (ordering_then (bytes_cmp k.1.0 l.1.0) (id_cmp k.1.1 l.1.1)) (sym (link_cmp-parts k l) ∙ e) in
    let name = both_equal (bytes_cmp k.1.0 l.1.0) (id_cmp k.1.1 l.1.1) source.1 in
    λ i. (id_same k.0 l.0 source.0 i, (bytes_same k.1.0 l.1.0 name.0 i, id_same k.1.1 l.1.1 name.1 i))

pub link_total : IsTotalOrder link_cmp
link_total = on_texts numbers_of_link

-- ---- each order is that of the links which the keys are
pub id_alike : (a b : EntityId) → id_cmp a b ≡ link_cmp (id_key a) (id_key b)
id_alike a b = refl

pub cell_total : IsTotalOrder cell_cmp
cell_total = on_texts numbers_of_cell

pub cell_alike : (a b : Cell) → cell_cmp a b ≡ link_cmp (cell_key a) (cell_key b)
cell_alike a b = λ i. ordering_then (nat_cmp a.0.kind b.0.kind) (ordering_then (nat_cmp a.0.local b.0.local) ((ended (bytes_cmp a.1 b.1) ∙ sym (names_cmp a.1 b.1 (0 ∷ 0 ∷ []) (0 ∷ 0 ∷ []))) i))

pub cell_same : IsAntisymmetric cell_cmp
cell_same a b e = let same = link_same (cell_key a) (cell_key b) (sym (cell_alike a b) ∙ e) in λ i. ((same i).0, (same i).1.0)

pub link_alike : (a b : LinkKey) → link_cmp a b ≡ link_cmp a b
link_alike a b = refl
