-- What the crates above cite of cursors.
use Rattle.std.proofs.Common.{◌≡◌, List, [], ◌∷◌, Option, Some, None, Ok, sym, ◌∙◌}
use Rattle.xod_base.specs.declared.pair.Pair.{Pair}
use Rattle.xod_base.specs.Views.{Entry}
use Rattle.xod_cursor.specs.Cursors.{Steps, behind_pair}

-- the first of the entries that were to come was given, and the others are to come
pub record GivesFirst (list : List Entry) (now : Option (List Entry)) (pair : Pair) : Type 0 where
  pub others : List Entry
  pub list_is : list ≡ (pair.key, pair.value) ∷ others
  pub now_is : now ≡ Some others

pub first-given : (list : List Entry) (now : Option (List Entry)) (pair : Pair) → behind_pair pair now ≡ Some list → GivesFirst list now pair
first-given list None pair is = absurd cc
first-given list (Some others) pair is = record { others = others; list_is = cc; now_is = cc }

module _ (before now : Option (List Entry)) (list : List Entry) (is : before ≡ Some list) where
  -- a step gave a pair
  pub Steps-pair : (pair : Pair) → Steps before now (Ok (Some pair)) → GivesFirst list now pair
  Steps-pair pair steps = first-given list now pair (sym steps ∙ is)

  -- it gave none
  pub Steps-none : Steps before now (Ok None) → (list ≡ []) × (now ≡ Some [])
  Steps-none steps = let same : Some list ≡ Some [] = sym is ∙ steps.0 in (cc same, steps.1)
