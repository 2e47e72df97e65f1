-- The orders in which parts of an entity are given are those of the rows.
use Rattle.std.proofs.Common.{◌≡◌, ℕ, suc, List, [], ◌∷◌, ◌++◌, map, refl, sym, ap, ◌∙◌, arith}
use Rattle.std.specs.declared.cmp.Ordering.{Ordering}
use Rattle.std.specs.declared.cmp.Ordering.TheVariants.{Less, Equal, Greater}
use Rattle.std.specs.Ordering.{nat_cmp, ordering_then}
use Rattle.std.specs.Cmp.{IsTotalOrder, on_total, then_total, tied_itself}
use Rattle.std.proofs.lemmas.Bool.Decides.{nat_tests}
use Rattle.xod_base.specs.declared.value.EntityId.{EntityId}
use Rattle.xod_base.specs.Rows.{cell_cmp, id_cmp, link_cmp, numbers_of_id}
use Rattle.xod_base.specs.Values.{bytes_cmp}
use Rattle.xod_base.proofs.CallerLemmas.{bytes_cmp-front}
use Rattle.xod_carry.proofs.CallerLemmas.{bytes_total}
use Rattle.xod_tables.proofs.CallerLemmas.{id_total}
use Rattle.xod_reader.specs.Orders.{by_name, by_name_and_end, by_end_and_name}

then_then : (a b c : Ordering) → ordering_then (ordering_then a b) c ≡ ordering_then a (ordering_then b c)
then_then Less b c = refl
then_then Equal b c = refl
then_then Greater b c = refl

then_ended : (b : Ordering) → ordering_then b Equal ≡ b
then_ended Less = refl
then_ended Equal = refl
then_ended Greater = refl

nat_cmp-suc : (x y : ℕ) → nat_cmp (suc x) (suc y) ≡ nat_cmp x y
nat_cmp-suc x y = grind (arith, nat_tests)

zero_below : (y : ℕ) → nat_cmp 0 (suc y) ≡ Less
zero_below y = grind (arith, nat_tests)

above_zero : (x : ℕ) → nat_cmp (suc x) 0 ≡ Greater
above_zero x = grind (arith, nat_tests)

-- a name that ends where another one goes on is below it
names_cmp : (a b s t : List ℕ) → bytes_cmp (map (λ x. suc x) a ++ (0 ∷ s)) (map (λ x. suc x) b ++ (0 ∷ t)) ≡ ordering_then (bytes_cmp a b) (bytes_cmp s t)
names_cmp [] [] s t = refl
names_cmp [] (y ∷ b) s t = ap (λ r. ordering_then r (bytes_cmp s (map (λ x. suc x) b ++ (0 ∷ t)))) (zero_below y)
names_cmp (x ∷ a) [] s t = ap (λ r. ordering_then r (bytes_cmp (map (λ x. suc x) a ++ (0 ∷ s)) t)) (above_zero x)
names_cmp (x ∷ a) (y ∷ b) s t =
    (λ i. ordering_then (nat_cmp-suc x y i) (names_cmp a b s t i)) ∙ sym (then_then (nat_cmp x y) (bytes_cmp a b) (bytes_cmp s t))

-- properties of one entity
pub cells_by_name : (id : EntityId) (a b : List ℕ) → cell_cmp (id, a) (id, b) ≡ bytes_cmp a b
cells_by_name id a b = bytes_cmp-front (id.kind ∷ id.local ∷ []) a b

-- links of one source
pub links_by_name : (source : EntityId) (a b : List ℕ) (s t : EntityId)
    → link_cmp (source, (a, s)) (source, (b, t)) ≡ ordering_then (bytes_cmp a b) (id_cmp s t)
links_by_name source a b s t =
    bytes_cmp-front (source.kind ∷ source.local ∷ []) (map (λ x. suc x) a ++ (0 ∷ numbers_of_id s)) (map (λ x. suc x) b ++ (0 ∷ numbers_of_id t))
    ∙ names_cmp a b (numbers_of_id s) (numbers_of_id t)

-- links to one target
pub links_by_source : (target : EntityId) (a b : List ℕ) (s t : EntityId)
    → link_cmp (s, (a, target)) (t, (b, target)) ≡ ordering_then (id_cmp s t) (bytes_cmp a b)
links_by_source target a b s t =
    (λ i. ordering_then (nat_cmp s.kind t.kind) (ordering_then (nat_cmp s.local t.local) (names_cmp a b (numbers_of_id target) (numbers_of_id target) i)))
    ∙ by_id (nat_cmp s.kind t.kind) (nat_cmp s.local t.local) (ordering_then (bytes_cmp a b) (id_cmp target target))
    ∙ ap (ordering_then (id_cmp s t)) (ap (ordering_then (bytes_cmp a b)) (tied_itself id_total target) ∙ then_ended (bytes_cmp a b))
  where
    by_id : (a b c : Ordering) → ordering_then a (ordering_then b c) ≡ ordering_then (ordering_then a (ordering_then b Equal)) c
    by_id Less b c = refl
    by_id Equal Less c = refl
    by_id Equal Equal c = refl
    by_id Equal Greater c = refl
    by_id Greater b c = refl

-- ---- they are total
pub by_name_total : IsTotalOrder by_name
by_name_total = on_total (λ value. value.name) bytes_total

pub by_name_and_end_total : IsTotalOrder by_name_and_end
by_name_and_end_total = then_total (on_total (λ link. link.name) bytes_total) (on_total (λ link. link.end) id_total)

pub by_end_and_name_total : IsTotalOrder by_end_and_name
by_end_and_name_total = then_total (on_total (λ link. link.end) id_total) (on_total (λ link. link.name) bytes_total)
