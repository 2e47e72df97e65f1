-- What crates above cite of lists that rise.
use Rattle.std.proofs.Common.{Bool, not, ◌&&◌, ◌||◌, List, ◌++◌, sym, ◌∙◌}
use Rattle.std.specs.List.{filter}
use Rattle.xod_base.specs.declared.value.EntityId.{EntityId}
use Rattle.xod_base.specs.Evaluation.{has_id, rising}
use Rattle.xod_sets.specs.Laws.{RisingPartsSuffice}
use Rattle.xod_sets.proofs.Rising.{Alike, has_rising, has_filter, has_append, rising_alike}
pub use Rattle.xod_sets.proofs.Rising.{Alike, id_total, id_same, same_cmp, rises_rising, has_rising, has_filter, has_append, same_rising, rising_alike, rising_alone, rises_filter}

-- what is kept depends on which ids the lists have, and on nothing else
kept_alike : (keep : Bool → Bool) (a b c d : List EntityId) → Alike a b → Alike c d
    → Alike (filter (λ id. keep (has_id c id)) a) (filter (λ id. keep (has_id d id)) b)
kept_alike keep a b c d h k q = has_filter (λ id. keep (has_id c id)) a q ∙ (λ i. h q i && keep (k q i)) ∙ sym (has_filter (λ id. keep (has_id d id)) b q)

pub parts_suffice : RisingPartsSuffice
parts_suffice a b = record {
  either = rising_alike (rising a ++ rising b) (a ++ b) (λ q. has_append (rising a) (rising b) q ∙ (λ i. has_rising a q i || has_rising b q i) ∙ sym (has_append a b q));
  both = rising_alike (filter (has_id (rising b)) (rising a)) (filter (has_id b) a) (kept_alike (λ has. has) (rising a) a (rising b) b (has_rising a) (has_rising b));
  first = rising_alike (filter (λ id. not (has_id (rising b) id)) (rising a)) (filter (λ id. not (has_id b id)) a) (kept_alike not (rising a) a (rising b) b (has_rising a) (has_rising b));
}
