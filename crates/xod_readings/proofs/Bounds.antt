-- Which keys lie between two bounds: the keys of values bound them, and of keys with fronts the fronts decide.
use Rattle.std.proofs.Common.{◌≡◌, ℕ, ◌<◌, ◌^◌, true, not, ◌&&◌, List, ◌∷◌, ◌++◌, refl, sym, ap, ◌∙◌, arith, nat_cmp, Ordering, Less, Equal, Greater}
use Rattle.std.specs.Ordering.{is_eq, is_gt, ordering_reverse, ordering_then}
use Rattle.xod_base.specs.declared.value.EntityId.{EntityId}
use Rattle.xod_base.specs.Laws.{EachKeyShowsItsEnd}
use Rattle.xod_base.specs.Rows.{id_cmp}
use Rattle.xod_base.specs.Values.{bytes_cmp, is_within}
use Rattle.xod_carry.proofs.CallerLemmas.{numbers_total}
use Rattle.xod_tables.specs.Keys.{IsShort, u32, id_bytes}
use Rattle.xod_tables.proofs.CallerLemmas.{id_total, u32_cmp, u32_front, id_front}
use Rattle.xod_keys.specs.Readings.{LAST}
use Rattle.xod_readings.specs.Laws.{KeysAreBounds}
use Rattle.xod_readings.proofs.Ranging.{nat_not_above}

pub keys_bound : EachKeyShowsItsEnd → KeysAreBounds
keys_bound ends = λ value is. record {
  is_bound = λ other rest h e. ends other value rest h is (sym e);
  fronts_none = λ other rest h e. ends value other rest is h (sym e);
}

-- ---- keys with a front between bounds with one

-- what has another front lies not between, and else what follows decides
behind_front : (front low high : Ordering)
    → (not (is_gt (ordering_then front low)) && not (is_gt (ordering_then (ordering_reverse front) high))) ≡ (is_eq front && (not (is_gt low) && not (is_gt high)))
behind_front Less low high = refl
behind_front Equal low high = refl
behind_front Greater low high = refl

-- a byte in front
pub within_byte : (byte other : ℕ) (low high key : List ℕ)
    → is_within (byte ∷ low) (byte ∷ high) (other ∷ key) ≡ (is_eq (nat_cmp byte other) && is_within low high key)
within_byte byte other low high key =
    ap (λ r. not (is_gt (ordering_then (nat_cmp byte other) (bytes_cmp low key))) && not (is_gt (ordering_then r (bytes_cmp key high)))) (numbers_total.antisymm other byte)
    ∙ behind_front (nat_cmp byte other) (bytes_cmp low key) (bytes_cmp key high)

-- a number in front
pub within_number : (number other : ℕ) (low high key : List ℕ) → number < 2 ^ 32 → other < 2 ^ 32
    → is_within (u32 number ++ low) (u32 number ++ high) (u32 other ++ key) ≡ (is_eq (nat_cmp number other) && is_within low high key)
within_number number other low high key p q =
    (λ i. not (is_gt (u32_front number other low key p q i)) && not (is_gt (u32_front other number key high q p i)))
    ∙ ap (λ r. not (is_gt (ordering_then (nat_cmp number other) (bytes_cmp low key))) && not (is_gt (ordering_then r (bytes_cmp key high)))) (numbers_total.antisymm other number)
    ∙ behind_front (nat_cmp number other) (bytes_cmp low key) (bytes_cmp key high)

-- an id in front
pub within_id : (id other : EntityId) (low high key : List ℕ) → IsShort id → IsShort other
    → is_within (id_bytes id ++ low) (id_bytes id ++ high) (id_bytes other ++ key) ≡ (is_eq (id_cmp id other) && is_within low high key)
within_id id other low high key s t =
    (λ i. not (is_gt (id_front id other low key s t i)) && not (is_gt (id_front other id key high t s i)))
    ∙ ap (λ r. not (is_gt (ordering_then (id_cmp id other) (bytes_cmp low key))) && not (is_gt (ordering_then r (bytes_cmp key high)))) (id_total.antisymm other id)
    ∙ behind_front (id_cmp id other) (bytes_cmp low key) (bytes_cmp key high)

-- every number lies between the first one and the last
pub any_number : (number : ℕ) → number < 2 ^ 32 → is_within (u32 0) (u32 LAST) (u32 number) ≡ true
any_number number h =
    (λ i. not (is_gt (u32_cmp 0 number (omega arith) h i)) && not (is_gt (u32_cmp number LAST h (omega arith) i)))
    ∙ (λ i. not (nat_not_above 0 number (omega arith) i) && not (nat_not_above number LAST (omega arith) i))
