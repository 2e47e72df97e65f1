-- What it is good for that lists rise.
use Rattle.std.specs.Prelude.{◌≡◌, IsTrue, not, List, ◌++◌}
use Rattle.std.specs.List.{filter}
use Rattle.xod_base.specs.declared.value.EntityId.{EntityId}
use Rattle.xod_base.specs.Evaluation.{has_id, rising}
use Rattle.xod_sets.specs.Rising.{rises}

-- A list that was made rising rises, and one that rises is left as it is.
abbrev pub RisingListsRise : Type 0
RisingListsRise = (ids : List EntityId) → IsTrue (rises (rising ids)) × (IsTrue (rises ids) → rising ids ≡ ids)

-- Two lists may be made rising before they are joined, and the answer is the same.
pub record Suffices (a b : List EntityId) : Type 0 where
  pub either : rising (rising a ++ rising b) ≡ rising (a ++ b)
  pub both : rising (filter (has_id (rising b)) (rising a)) ≡ rising (filter (has_id b) a)
  pub first : rising (filter (λ id. not (has_id (rising b) id)) (rising a)) ≡ rising (filter (λ id. not (has_id b id)) a)

abbrev pub RisingPartsSuffice : Type 0
RisingPartsSuffice = (a b : List EntityId) → Suffices a b
