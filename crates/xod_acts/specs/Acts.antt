-- The plan of each form of act, by what was found.
use Rattle.std.specs.Prelude.{ℕ, Bool, true, not, List, Option, Some, None, Result, Ok, Err, nat_le, nat_lt, if◌then◌else◌}
use Rattle.std.specs.List.{filter}
use Rattle.xod_base.specs.declared.answer.NameKind.TheVariants.{Kinds, Props, Links}
use Rattle.xod_base.specs.declared.answer.StmtError.{StmtError}
use Rattle.xod_base.specs.declared.answer.StmtError.TheVariants.{NoEntity, TooMany, IdsSpent, TextTooLong}
use Rattle.xod_base.specs.declared.limits.TheConstants.{MOST_NAMES, LONGEST_TEXT, MOST_LOCALS}
use Rattle.xod_base.specs.declared.value.EntityId.{EntityId}
use Rattle.xod_base.specs.declared.value.Value.{Value}
use Rattle.xod_base.specs.Rows.{same_id, text_length}
use Rattle.xod_journal.specs.declared.change.RowChange.TheVariants.{AddEntity, RemoveEntity, Prop, LinkAdd, LinkDel}
use Rattle.xod_journal.specs.Changes.{same_option}
use Rattle.xod_reader.specs.declared.parts.NamedLink.{NamedLink}
use Rattle.xod_reader.specs.declared.parts.NamedValue.{NamedValue}
use Rattle.xod_reader.specs.declared.slot.Slot.{Slot}
use Rattle.xod_reader.specs.declared.slot.Slot.TheVariants.{Listed, Free, Full}
use Rattle.xod_acts.specs.declared.found.Belongings.{Belongings}
use Rattle.xod_acts.specs.declared.plan.Plan.{Plan}
use Rattle.xod_acts.specs.Making.{no_plan, with_all, with_change, with_named}

-- a new entity with a number of its type
abbrev pub plan_at_number : List ℕ → Slot → ℕ → ℕ → Result Plan StmtError
plan_at_number kind slot number next =
    if not (nat_lt next MOST_LOCALS) then Err (IdsSpent number)
    else with_named Kinds kind slot (AddEntity (record { kind = number; local = next }) kind) no_plan

-- a new entity
abbrev pub new_plan : List ℕ → Slot × ℕ → Result Plan StmtError
new_plan kind (Listed number, next) = plan_at_number kind (Listed number) number next
new_plan kind (Free number, next) = plan_at_number kind (Free number) number next
new_plan kind (Full, next) = Err (TooMany Kinds MOST_NAMES)

-- a property set
abbrev pub set_plan : EntityId → List ℕ → Value → Option (Slot × Option Value) → Result Plan StmtError
set_plan id prop value None = Err (NoEntity id)
set_plan id prop value (Some (slot, old)) =
    if not (nat_le (text_length value) LONGEST_TEXT) then Err (TextTooLong (text_length value))
    else if same_option old (Some value) then Ok no_plan
    else with_named Props prop slot (Prop id prop old (Some value)) no_plan

-- a property taken away; one whose name is not listed has no value
abbrev pub unset_plan : EntityId → List ℕ → Option (Slot × Option Value) → Result Plan StmtError
unset_plan id prop None = Err (NoEntity id)
unset_plan id prop (Some (Listed number, Some value)) = Ok (with_change number (Prop id prop (Some value) None) no_plan)
unset_plan id prop (Some (slot, old)) = Ok no_plan

-- a link behind changes that are made before it
abbrev pub behind_plan : EntityId → List ℕ → EntityId → Slot → Bool → Plan → Result Plan StmtError
behind_plan source link target slot linked before =
    if linked then Ok before else with_named Links link slot (LinkAdd source link target) before

-- a link
abbrev pub link_plan : EntityId → List ℕ → EntityId → Result (Slot × Bool) EntityId → Result Plan StmtError
link_plan source link target (Err id) = Err (NoEntity id)
link_plan source link target (Ok (slot, linked)) = behind_plan source link target slot linked no_plan

-- the plan in which links by a name go; one whose name is not listed has no targets
abbrev pub gone_plan : EntityId → List ℕ → Slot → List EntityId → Plan
gone_plan source link (Listed number) targets = with_all (λ _. number) (λ target. LinkDel source link target) targets no_plan
gone_plan source link (Free number) targets = no_plan
gone_plan source link Full targets = no_plan

-- a link to one target alone
abbrev pub set_link_plan : EntityId → List ℕ → EntityId → Result (Slot × Bool × List EntityId) EntityId → Result Plan StmtError
set_link_plan source link target (Err id) = Err (NoEntity id)
set_link_plan source link target (Ok (slot, linked, targets)) =
    behind_plan source link target slot linked (gone_plan source link slot (filter (λ other. not (same_id other target)) targets))

-- a link taken away
abbrev pub unlink_plan : EntityId → List ℕ → EntityId → Option (Slot × Bool) → Result Plan StmtError
unlink_plan source link target None = Err (NoEntity source)
unlink_plan source link target (Some (Listed number, true)) = Ok (with_change number (LinkDel source link target) no_plan)
unlink_plan source link target (Some (slot, linked)) = Ok no_plan

-- all links by a name taken away
abbrev pub unlink_all_plan : EntityId → List ℕ → Option (Slot × List EntityId) → Result Plan StmtError
unlink_all_plan source link None = Err (NoEntity source)
unlink_all_plan source link (Some (slot, targets)) = Ok (gone_plan source link slot targets)

-- the properties of an entity go
abbrev pub without_values : EntityId → List NamedValue → Plan → Plan
without_values id values plan = with_all (λ part. part.number) (λ part. Prop id part.name (Some part.value) None) values plan

-- the links out of an entity go
abbrev pub without_links_out : EntityId → List NamedLink → Plan → Plan
without_links_out id links plan = with_all (λ part. part.number) (λ part. LinkDel id part.name part.end) links plan

-- the links into an entity go
abbrev pub without_links_in : EntityId → List NamedLink → Plan → Plan
without_links_in id links plan = with_all (λ part. part.number) (λ part. LinkDel part.end part.name id) links plan

-- an entity goes, and all that belongs to it before
abbrev pub delete_plan : EntityId → Option Belongings → Result Plan StmtError
delete_plan id None = Err (NoEntity id)
delete_plan id (Some found) =
    Ok (with_change id.kind (RemoveEntity id)
    (without_links_in id found.links_in (without_links_out id found.links_out (without_values id found.values no_plan))))
