-- Plans that are made change by change, with the numbers that names have.
use Rattle.std.specs.Prelude.{ℕ, List, [], ◌∷◌, ◌++◌, Result, Ok, Err}
use Rattle.xod_base.specs.declared.answer.NameKind.{NameKind}
use Rattle.xod_base.specs.declared.answer.StmtError.{StmtError}
use Rattle.xod_base.specs.declared.answer.StmtError.TheVariants.{TooMany}
use Rattle.xod_base.specs.declared.limits.TheConstants.{MOST_NAMES}
use Rattle.xod_journal.specs.declared.change.RowChange.{RowChange}
use Rattle.xod_journal.specs.declared.change.RowChange.TheVariants.{AddEntity, RemoveEntity, Prop, LinkAdd, LinkDel}
use Rattle.xod_overlay.specs.declared.write.Write.{Write}
use Rattle.xod_tables.specs.Writes.{id_writes, id_removals, link_writes, link_removals, name_writes, value_writes}
use Rattle.xod_reader.specs.declared.slot.Slot.{Slot}
use Rattle.xod_reader.specs.declared.slot.Slot.TheVariants.{Listed, Free, Full}
use Rattle.xod_acts.specs.declared.plan.Plan.{Plan}

-- what a change writes where the name in it has a number
abbrev pub numbered_writes : ℕ → RowChange → List Write
numbered_writes number (AddEntity id kind) = id_writes id
numbered_writes number (RemoveEntity id) = id_removals id
numbered_writes number (Prop id name old new) = value_writes id number old new
numbered_writes number (LinkAdd source link target) = link_writes source number target
numbered_writes number (LinkDel source link target) = link_removals source number target

-- the plan without changes
abbrev pub no_plan : Plan
no_plan = record { changes = []; writes = [] }

-- a plan with a change behind the others
abbrev pub with_change : ℕ → RowChange → Plan → Plan
with_change number change plan = record { changes = plan.changes ++ change ∷ []; writes = plan.writes ++ numbered_writes number change }

-- a plan with changes behind the others, one for each item of a list
abbrev pub with_all : {A : Type 0} → (A → ℕ) → (A → RowChange) → List A → Plan → Plan
with_all number change [] plan = plan
with_all number change (item ∷ items) plan = with_all number change items (with_change (number item) (change item) plan)

-- a plan with the writes of a new name behind the others
abbrev pub with_name : NameKind → ℕ → List ℕ → Plan → Plan
with_name list number name plan = record { changes = plan.changes; writes = plan.writes ++ name_writes list number name }

-- A plan with a change behind the others whose name stands in a list, or comes to it; the refusal where it finds no room.
abbrev pub with_named : NameKind → List ℕ → Slot → RowChange → Plan → Result Plan StmtError
with_named list name (Listed number) change plan = Ok (with_change number change plan)
with_named list name (Free number) change plan = Ok (with_change number change (with_name list number name plan))
with_named list name Full change plan = Err (TooMany list MOST_NAMES)
