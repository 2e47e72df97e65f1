-- The keys of trees are in the order of what they are made of.
use Rattle.std.proofs.Common.{◌≡◌, ℕ, ◌<◌, ◌^◌, ◌/◌, ◌%◌, List, [], ◌∷◌, ◌++◌, length, refl, sym, ap, ◌∙◌, arith, nat_cmp, Ordering, Less, Equal, Greater}
use Rattle.std.specs.Ordering.{ordering_then}
use Rattle.xod_base.specs.declared.value.EntityId.{EntityId}
use Rattle.xod_base.specs.Rows.{id_cmp}
use Rattle.xod_base.specs.Values.{bytes_cmp}
use Rattle.xod_base.proofs.ByteOrder.{be_bytes_cmp}
use Rattle.xod_base.proofs.CallerLemmas.{bytes_cmp-front}
use Rattle.xod_dup.specs.Laws.{JoinedKeysRiseAsPairs}
use Rattle.xod_tables.specs.Keys.{IsShort, u32, u64, id_bytes, kind_byte}
use Rattle.xod_tables.specs.Laws.{FrontsDecide, KeysRise}

then_assoc : (a b c : Ordering) → ordering_then a (ordering_then b c) ≡ ordering_then (ordering_then a b) c
then_assoc Less b c = refl
then_assoc Equal b c = refl
then_assoc Greater b c = refl

then_nothing : (a : Ordering) → ordering_then a Equal ≡ a
then_nothing Less = refl
then_nothing Equal = refl
then_nothing Greater = refl

-- fronts of one length decide, and where they are equal what follows
front_cmp : (xs ys zs ws : List ℕ) → length xs ≡ length ys → bytes_cmp (xs ++ zs) (ys ++ ws) ≡ ordering_then (bytes_cmp xs ys) (bytes_cmp zs ws)
front_cmp [] [] zs ws e = refl
front_cmp [] (y ∷ ys) zs ws e = absurd (omega arith)
front_cmp (x ∷ xs) [] zs ws e = absurd (omega arith)
front_cmp (x ∷ xs) (y ∷ ys) zs ws e = ap (ordering_then (nat_cmp x y)) (front_cmp xs ys zs ws (omega arith)) ∙ then_assoc (nat_cmp x y) (bytes_cmp xs ys) (bytes_cmp zs ws)

-- ---- numbers of four bytes, by those of eight
wide : (n : ℕ) → n < 2 ^ 32 → u64 n ≡ 0 ∷ 0 ∷ 0 ∷ 0 ∷ u32 n
wide n h =
    let a : (n / 72057594037927936) % 256 ≡ 0 = omega (arith, h) in
    let b : (n / 281474976710656) % 256 ≡ 0 = omega (arith, h) in
    let c : (n / 1099511627776) % 256 ≡ 0 = omega (arith, h) in
    let d : (n / 4294967296) % 256 ≡ 0 = omega (arith, h) in
    λ i. a i ∷ b i ∷ c i ∷ d i ∷ u32 n

pub u32_cmp : (a b : ℕ) → a < 2 ^ 32 → b < 2 ^ 32 → bytes_cmp (u32 a) (u32 b) ≡ nat_cmp a b
u32_cmp a b p q = sym (λ i. bytes_cmp (wide a p i) (wide b q i)) ∙ be_bytes_cmp a b (omega (arith, p)) (omega (arith, q))

pub u32_front : (a b : ℕ) (zs ws : List ℕ) → a < 2 ^ 32 → b < 2 ^ 32 → bytes_cmp (u32 a ++ zs) (u32 b ++ ws) ≡ ordering_then (nat_cmp a b) (bytes_cmp zs ws)
u32_front a b zs ws p q = front_cmp (u32 a) (u32 b) zs ws refl ∙ ap (λ r. ordering_then r (bytes_cmp zs ws)) (u32_cmp a b p q)

-- ---- ids
pub id_front : (a b : EntityId) (zs ws : List ℕ) → IsShort a → IsShort b → bytes_cmp (id_bytes a ++ zs) (id_bytes b ++ ws) ≡ ordering_then (id_cmp a b) (bytes_cmp zs ws)
id_front a b zs ws s t =
    u32_front a.kind b.kind (u32 a.local ++ zs) (u32 b.local ++ ws) s.kind t.kind
    ∙ ap (ordering_then (nat_cmp a.kind b.kind)) (u32_front a.local b.local zs ws s.local t.local)
    ∙ then_assoc (nat_cmp a.kind b.kind) (nat_cmp a.local b.local) (bytes_cmp zs ws)
    ∙ ap (λ r. ordering_then (ordering_then (nat_cmp a.kind b.kind) r) (bytes_cmp zs ws)) (sym (then_nothing (nat_cmp a.local b.local)))

pub id_alone : (a b : EntityId) → IsShort a → IsShort b → bytes_cmp (id_bytes a) (id_bytes b) ≡ id_cmp a b
id_alone a b s t = id_front a b [] [] s t ∙ then_nothing (id_cmp a b)

pub fronts : FrontsDecide
fronts = record { numbers = u32_front; ids = id_front }

pub rise : JoinedKeysRiseAsPairs → KeysRise
rise joins = record {
  names = λ list number other p q. bytes_cmp-front (kind_byte list ∷ []) (u32 number) (u32 other) ∙ u32_cmp number other p q;
  entities = id_alone;
  properties = λ id other prop next s t p q. id_front id other (u32 prop) (u32 next) s t ∙ ap (ordering_then (id_cmp id other)) (u32_cmp prop next p q);
  index = λ id other prop next key more s t p q ends.
      u32_front id.kind other.kind (u32 prop ++ (key ++ u32 id.local)) (u32 next ++ (more ++ u32 other.local)) s.kind t.kind
      ∙ ap (ordering_then (nat_cmp id.kind other.kind))
      (u32_front prop next (key ++ u32 id.local) (more ++ u32 other.local) p q
      ∙ ap (ordering_then (nat_cmp prop next)) (joins key more (u32 id.local) (u32 other.local) ends ∙ ap (ordering_then (bytes_cmp key more)) (u32_cmp id.local other.local s.local t.local)));
  links = λ source other link next target end s t p q u w.
      id_front source other (u32 link ++ id_bytes target) (u32 next ++ id_bytes end) s t
      ∙ ap (ordering_then (id_cmp source other)) (u32_front link next (id_bytes target) (id_bytes end) p q ∙ ap (ordering_then (nat_cmp link next)) (id_alone target end u w));
}
