-- A new entity: its plan fits, and is what the rows give.
use Rattle.std.proofs.Common.{◌≡◌, ℕ, true, false, cond, IsTrue, List, [], ◌∷◌, length, Option, Some, None, Ok, Err, refl}
use Rattle.std.specs.Prelude.{◌||◌, not, is_some, nat_lt, unwrap_or}
use Rattle.xod_base.specs.declared.answer.NameKind.TheVariants.{Kinds}
use Rattle.xod_base.specs.declared.answer.StmtError.TheVariants.{TooMany, IdsSpent}
use Rattle.xod_base.specs.declared.limits.TheConstants.{MOST_LOCALS, MOST_NAMES}
use Rattle.xod_base.specs.declared.query.Act.TheVariants as act
use Rattle.xod_base.specs.Rows.{RowsValue, has_name_length, next_of, number_of}
use Rattle.xod_journal.specs.declared.change.RowChange.TheVariants.{AddEntity}
use Rattle.xod_journal.specs.Changes.{expansion_of}
use Rattle.xod_reader.specs.declared.slot.Slot.{Slot}
use Rattle.xod_reader.specs.declared.slot.Slot.TheVariants.{Listed, Free, Full}
use Rattle.xod_reader.specs.Slots.{slot_by}
use Rattle.xod_acts.specs.Acts.{new_plan, plan_at_number}
use Rattle.xod_acts.specs.Found.{slot_number, type_at}
use Rattle.xod_acts.specs.Making.{no_plan}
use Rattle.xod_acts.proofs.Fitting.{Ready, plan_none, ready_if, ready_named, ready_refused}
use Rattle.xod_acts.proofs.Going.{Agrees, agrees_free, agrees_if, agrees_listed, agrees_refused, going_none}

ready_at : (kind : List ℕ) (slot : Slot) (number next : ℕ) → IsTrue (has_name_length kind) → Ready (plan_at_number kind slot number next)
ready_at kind slot number next n =
    ready_if (not (nat_lt next MOST_LOCALS)) (ready_refused (IdsSpent number) refl)
    (ready_named Kinds kind slot (AddEntity (record { kind = number; local = next }) kind) no_plan n tt plan_none)

pub new_ready : (kind : List ℕ) (found : Slot × ℕ) → IsTrue (has_name_length kind) → Ready (new_plan kind found)
new_ready kind (Listed number, next) n = ready_at kind (Listed number) number next n
new_ready kind (Free number, next) n = ready_at kind (Free number) number next n
new_ready kind (Full, next) n = ready_refused (TooMany Kinds MOST_NAMES) refl

module _ (rows : RowsValue) (kind : List ℕ) where
  by_number : (o : Option ℕ) → number_of rows.types kind ≡ o
      → Agrees rows
      (cond (not (is_some o || nat_lt (length rows.types) MOST_NAMES)) (Err (TooMany Kinds MOST_NAMES))
      (cond (not (nat_lt (next_of rows.nexts (unwrap_or o (length rows.types))) MOST_LOCALS)) (Err (IdsSpent (unwrap_or o (length rows.types))))
      (Ok (AddEntity (record { kind = unwrap_or o (length rows.types); local = next_of rows.nexts (unwrap_or o (length rows.types)) }) kind ∷ []))))
      (new_plan kind (slot_by o (length rows.types), next_of rows.nexts (slot_number (slot_by o (length rows.types)))))
  by_number (Some number) is =
      agrees_if (not (nat_lt (next_of rows.nexts number) MOST_LOCALS)) (agrees_refused (IdsSpent number))
      (agrees_listed Kinds kind (AddEntity (record { kind = number; local = next_of rows.nexts number }) kind) no_plan
      (going_none rows) rows.types refl number is)
  by_number None is =
      elim (nat_lt (length rows.types) MOST_NAMES) as (λ b. Agrees rows
      (cond (not b) (Err (TooMany Kinds MOST_NAMES))
      (cond (not (nat_lt (next_of rows.nexts (length rows.types)) MOST_LOCALS)) (Err (IdsSpent (length rows.types)))
      (Ok (AddEntity (record { kind = length rows.types; local = next_of rows.nexts (length rows.types) }) kind ∷ []))))
      (new_plan kind (cond b (Free (length rows.types)) Full, next_of rows.nexts (slot_number (cond b (Free (length rows.types)) Full))))) [
        | true ↦ agrees_if (not (nat_lt (next_of rows.nexts (length rows.types)) MOST_LOCALS)) (agrees_refused (IdsSpent (length rows.types)))
            (agrees_free Kinds kind (AddEntity (record { kind = length rows.types; local = next_of rows.nexts (length rows.types) }) kind) no_plan
            (going_none rows) rows.types refl is)
        | false ↦ agrees_refused (TooMany Kinds MOST_NAMES)
      ]

  pub new_agrees : Agrees rows (expansion_of rows (act.New kind)) (new_plan kind (type_at rows kind))
  new_agrees = by_number (number_of rows.types kind) refl
