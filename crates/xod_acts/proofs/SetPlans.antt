-- A property that is set or taken away: its plan fits, and is what the rows give.
use Rattle.std.proofs.Common.{◌≡◌, ℕ, ◌≤◌, true, false, cond, IsTrue, List, [], ◌∷◌, length, Option, Some, None, IfSome, Result, Ok, Err, refl, sym, ap, arith, leb-true}
use Rattle.std.specs.Prelude.{not, is_some, nat_le, unwrap_or}
use Rattle.std.specs.FinMap.{get}
use Rattle.xod_base.specs.declared.answer.NameKind.TheVariants.{Props}
use Rattle.xod_base.specs.declared.answer.StmtError.{StmtError}
use Rattle.xod_base.specs.declared.answer.StmtError.TheVariants.{NoEntity, TextTooLong, TooMany}
use Rattle.xod_base.specs.declared.limits.TheConstants.{LONGEST_TEXT, MOST_NAMES}
use Rattle.xod_base.specs.declared.query.Act.TheVariants as act
use Rattle.xod_base.specs.declared.value.EntityId.{EntityId}
use Rattle.xod_base.specs.declared.value.Value.{Value}
use Rattle.xod_base.specs.Rows.{RowsValue, has_name_length, is_sound, number_of, text_length}
use Rattle.xod_journal.specs.declared.change.RowChange.TheVariants.{Prop}
use Rattle.xod_journal.specs.Changes.{expansion_of, has_room, same_option, unset_changes}
use Rattle.xod_tables.specs.Writes.{value_writes}
use Rattle.xod_reader.specs.declared.slot.Slot.{Slot}
use Rattle.xod_reader.specs.declared.slot.Slot.TheVariants.{Listed, Free, Full}
use Rattle.xod_reader.specs.Slots.{slot_by, slot_of}
use Rattle.xod_acts.specs.Acts.{set_plan, unset_plan}
use Rattle.xod_acts.specs.declared.plan.Plan.{Plan}
use Rattle.xod_acts.specs.Found.{IsShortProperty, property_at}
use Rattle.xod_acts.specs.Making.{no_plan, with_change}
use Rattle.xod_acts.proofs.Fitting.{Ready, plan_none, plan_with, ready_if, ready_named, ready_plan, ready_refused}
use Rattle.xod_acts.proofs.Going.{Agrees, agrees_if, agrees_made, agrees_named, agrees_refused, going_none, going_on}
use Rattle.xod_acts.proofs.Sound.{value_named}

-- ---- set

by_length : (value : Value) {rest : Result Plan StmtError} → (text_length value ≤ LONGEST_TEXT → Ready rest)
    → Ready (cond (not (nat_le (text_length value) LONGEST_TEXT)) (Err (TextTooLong (text_length value))) rest)
by_length value {rest} ready =
    elim (nat_le (text_length value) LONGEST_TEXT) as
    (λ b. nat_le (text_length value) LONGEST_TEXT ≡ b → Ready (cond (not b) (Err (TextTooLong (text_length value))) rest)) [
      | true ↦ λ is. ready (leb-true (text_length value) LONGEST_TEXT is)
      | false ↦ λ is. ready_refused (TextTooLong (text_length value)) refl
    ] refl

pub set_ready : (id : EntityId) (prop : List ℕ) (value : Value) (found : Option (Slot × Option Value)) → IsTrue (has_name_length prop)
    → IfSome found IsShortProperty → Ready (set_plan id prop value found)
set_ready id prop value None n short = ready_refused (NoEntity id) refl
set_ready id prop value (Some (slot, old)) n short =
    by_length value (λ few. ready_if (same_option old (Some value)) (ready_plan no_plan plan_none)
    (ready_named Props prop slot (Prop id prop old (Some value)) no_plan n (short, few) plan_none))

pub set_agrees : (rows : RowsValue) (id : EntityId) (prop : List ℕ) (value : Value)
    → Agrees rows (expansion_of rows (act.Set id prop value)) (set_plan id prop value (property_at rows id prop))
set_agrees rows id prop value =
    elim (is_some (get rows.ids id)) as (λ b. Agrees rows
    (cond (not b) (Err (NoEntity id))
    (cond (not (nat_le (text_length value) LONGEST_TEXT)) (Err (TextTooLong (text_length value)))
    (cond (same_option (get rows.values (id, prop)) (Some value)) (Ok [])
    (cond (not (has_room rows.props prop)) (Err (TooMany Props MOST_NAMES)) (Ok (Prop id prop (get rows.values (id, prop)) (Some value) ∷ []))))))
    (set_plan id prop value (cond b (Some (slot_of rows.props prop, get rows.values (id, prop))) None))) [
      | true ↦ agrees_if (not (nat_le (text_length value) LONGEST_TEXT)) (agrees_refused (TextTooLong (text_length value)))
          (agrees_if (same_option (get rows.values (id, prop)) (Some value)) (agrees_made no_plan (going_none rows))
          (agrees_named Props prop (Prop id prop (get rows.values (id, prop)) (Some value)) no_plan (going_none rows) rows.props refl))
      | false ↦ agrees_refused (NoEntity id)
    ]

-- ---- unset

pub unset_ready : (id : EntityId) (prop : List ℕ) (found : Option (Slot × Option Value)) → IfSome found IsShortProperty → Ready (unset_plan id prop found)
unset_ready id prop None short = ready_refused (NoEntity id) refl
unset_ready id prop (Some (Listed number, Some value)) short = ready_plan _ (plan_with number (Prop id prop (Some value) None) no_plan tt (short, omega arith))
unset_ready id prop (Some (Listed number, None)) short = ready_plan no_plan plan_none
unset_ready id prop (Some (Free number, old)) short = ready_plan no_plan plan_none
unset_ready id prop (Some (Full, old)) short = ready_plan no_plan plan_none

module _ (rows : RowsValue) (sound : IsTrue (is_sound rows)) (id : EntityId) (prop : List ℕ) where
  -- nothing goes where there is no value, wherever the name stands
  nothing : (slot : Slot) → Agrees rows (Ok []) (unset_plan id prop (Some (slot, None)))
  nothing (Listed number) = agrees_made no_plan (going_none rows)
  nothing (Free number) = agrees_made no_plan (going_none rows)
  nothing Full = agrees_made no_plan (going_none rows)

  value_gone : (value : Value) (o : Option ℕ) → number_of rows.props prop ≡ o → is_some o ≡ true
      → Agrees rows (Ok (Prop id prop (Some value) None ∷ [])) (unset_plan id prop (Some (slot_by o (length rows.props), Some value)))
  value_gone value None is listed = cc
  value_gone value (Some number) is listed =
      agrees_made (with_change number (Prop id prop (Some value) None) no_plan)
      (going_on rows no_plan (going_none rows) number (Prop id prop (Some value) None) tt
      (λ i. value_writes id (unwrap_or (sym is i) (length rows.props)) (Some value) None))

  by_value : (old : Option Value) → get rows.values (id, prop) ≡ old
      → Agrees rows (Ok (unset_changes id prop old)) (unset_plan id prop (Some (slot_of rows.props prop, old)))
  by_value None is = nothing (slot_of rows.props prop)
  by_value (Some value) is = value_gone value (number_of rows.props prop) refl (ap is_some (value_named rows sound id prop value is).is)

  pub unset_agrees : Agrees rows (expansion_of rows (act.Unset id prop)) (unset_plan id prop (property_at rows id prop))
  unset_agrees =
      elim (is_some (get rows.ids id)) as (λ b. Agrees rows
      (cond (not b) (Err (NoEntity id)) (Ok (unset_changes id prop (get rows.values (id, prop)))))
      (unset_plan id prop (cond b (Some (slot_of rows.props prop, get rows.values (id, prop))) None))) [
        | true ↦ by_value (get rows.values (id, prop)) refl
        | false ↦ agrees_refused (NoEntity id)
      ]
