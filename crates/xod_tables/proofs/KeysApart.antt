-- Equal keys are made of the same.
use Rattle.std.proofs.Common.{◌≡◌, ℕ, zero, suc, ◌+◌, ◌-◌, ◌<◌, ◌^◌, List, [], ◌∷◌, ◌++◌, drop, take, length, refl, sym, ap, ◌∙◌, arith, length-append}
use Rattle.xod_base.specs.declared.value.EntityId.{EntityId}
use Rattle.xod_tables.specs.Keys.{IsShort, u32, id_bytes, property_key, index_key, link_key}
use Rattle.xod_tables.specs.Laws.{KeysAreApart}
use Rattle.xod_tables.specs.Reading.{of_u32, id_at}
use Rattle.xod_tables.proofs.KeysRead.{u32_back, id_at-bytes}

number_at : ℕ → List ℕ → ℕ
number_at place bytes = of_u32 (take 4 (drop place bytes))

pub property_apart : (id other : EntityId) (prop next : ℕ) → IsShort id → IsShort other → prop < 2 ^ 32 → next < 2 ^ 32 → property_key id prop ≡ property_key other next → (id ≡ other) × (prop ≡ next)
unfolding number_at
property_apart id other prop next s t p q e = (
  sym (id_at-bytes id (u32 prop) s) ∙ ap id_at e ∙ id_at-bytes other (u32 next) t,
  sym (u32_back prop p) ∙ ap (number_at 8) e ∙ u32_back next q,
)

pub link_apart : (source other : EntityId) (link next : ℕ) (target end : EntityId) → IsShort source → IsShort other → link < 2 ^ 32 → next < 2 ^ 32 → IsShort target → IsShort end
    → link_key source link target ≡ link_key other next end → (source ≡ other) × (link ≡ next) × (target ≡ end)
unfolding number_at
link_apart source other link next target end s t p q u w e = (
  sym (id_at-bytes source (u32 link ++ id_bytes target) s) ∙ ap id_at e ∙ id_at-bytes other (u32 next ++ id_bytes end) t,
  sym (u32_back link p) ∙ ap (number_at 8) e ∙ u32_back next q,
  sym (id_at-bytes target [] u) ∙ ap (λ l. id_at (drop 12 l)) e ∙ id_at-bytes end [] w,
)

-- ---- the index: the local number is the last four bytes
last_number : List ℕ → ℕ
last_number bytes = of_u32 (drop (length bytes - 4) bytes)

past : (a b : List ℕ) (k : ℕ) → k ≡ length a → drop k (a ++ b) ≡ b
past [] b zero e = refl
past [] b (suc k) e = absurd (omega arith)
past (x ∷ a) b zero e = absurd (omega arith)
past (x ∷ a) b (suc k) e = past a b k (omega arith)

last_is : (a : List ℕ) (n : ℕ) → n < 2 ^ 32 → last_number (a ++ u32 n) ≡ n
unfolding last_number
last_is a n h =
    let long : length (a ++ u32 n) ≡ length a + 4 = length-append a (u32 n) in
    ap of_u32 (past a (u32 n) (length (a ++ u32 n) - 4) (omega (arith, long))) ∙ u32_back n h

pub index_apart : (id other : EntityId) (prop next : ℕ) (key more : List ℕ) → IsShort id → IsShort other → prop < 2 ^ 32 → next < 2 ^ 32
    → index_key id prop key ≡ index_key other next more → (id ≡ other) × (prop ≡ next)
unfolding number_at
index_apart id other prop next key more s t p q e =
    let kind : id.kind ≡ other.kind = sym (u32_back id.kind s.kind) ∙ ap (number_at 0) e ∙ u32_back other.kind t.kind in
    let local : id.local ≡ other.local = sym (last_is (u32 id.kind ++ (u32 prop ++ key)) id.local s.local) ∙ ap last_number e ∙ last_is (u32 other.kind ++ (u32 next ++ more)) other.local t.local in (
      λ i. record { kind = kind i; local = local i },
      sym (u32_back prop p) ∙ ap (number_at 4) e ∙ u32_back next q,
    )

pub apart : KeysAreApart
apart = record { properties = property_apart; index = index_apart; links = link_apart }
