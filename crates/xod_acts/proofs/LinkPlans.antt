-- Links that are made or taken away: their plans fit, and are what the rows give.
use Rattle.std.proofs.Common.{◌≡◌, ℕ, Bool, true, false, cond, IsTrue, List, [], ◌∷◌, length, Option, Some, None, Result, Ok, Err, refl, sym, ap, subst}
use Rattle.std.specs.Prelude.{not, is_some, nat_lt, unwrap_or}
use Rattle.std.specs.List.{filter}
use Rattle.std.specs.FinMap.{get}
use Rattle.xod_base.specs.declared.answer.NameKind.TheVariants.{Links}
use Rattle.xod_base.specs.declared.answer.StmtError.{StmtError}
use Rattle.xod_base.specs.declared.answer.StmtError.TheVariants.{NoEntity}
use Rattle.xod_base.specs.declared.limits.TheConstants.{MOST_NAMES}
use Rattle.xod_base.specs.declared.query.Act.TheVariants as act
use Rattle.xod_base.specs.declared.value.EntityId.{EntityId}
use Rattle.xod_base.specs.Evaluation.{is_linked, targets_of}
use Rattle.xod_base.specs.Rows.{RowsValue, has_name_length, is_sound, number_of, same_id}
use Rattle.xod_journal.specs.declared.change.RowChange.{RowChange}
use Rattle.xod_journal.specs.declared.change.RowChange.TheVariants.{LinkAdd, LinkDel}
use Rattle.xod_journal.specs.Changes.{between, expansion_of, has_join, link_behind, others_of, targets_gone}
use Rattle.xod_tables.specs.Writes.{link_removals}
use Rattle.xod_reader.specs.declared.slot.Slot.{Slot}
use Rattle.xod_reader.specs.declared.slot.Slot.TheVariants.{Listed, Free, Full}
use Rattle.xod_reader.specs.Slots.{slot_by, slot_of}
use Rattle.xod_acts.specs.Acts.{behind_plan, gone_plan, link_plan, set_link_plan, unlink_all_plan, unlink_plan}
use Rattle.xod_acts.specs.declared.plan.Plan.{Plan}
use Rattle.xod_acts.specs.Found.{join_at, joins_at, of_both, of_entity, targets_at}
use Rattle.xod_acts.specs.Making.{no_plan, with_change}
use Rattle.xod_acts.specs.Plans.{IsPlan}
use Rattle.xod_acts.proofs.Fitting.{IsShortChange, Ready, plan_all, plan_none, plan_with, ready_if, ready_named, ready_plan, ready_refused}
use Rattle.xod_acts.proofs.Going.{Agrees, Going, agrees_if, agrees_made, agrees_named, agrees_refused, changes_all, going_all, going_none, going_on}
use Rattle.xod_acts.proofs.Lists.{each}
use Rattle.xod_acts.proofs.Sound.{link_named, no_targets}

-- ---- plans that fit

gone_fits : (source : EntityId) (link : List ℕ) (slot : Slot) (targets : List EntityId) → IsPlan (gone_plan source link slot targets)
gone_fits source link (Listed number) targets =
    plan_all (λ _. number) (λ target. LinkDel source link target) targets no_plan plan_none
    (each {P = λ target. IsShortChange (LinkDel source link target)} (λ target. tt) targets)
gone_fits source link (Free number) targets = plan_none
gone_fits source link Full targets = plan_none

behind_ready : (source : EntityId) (link : List ℕ) (target : EntityId) (slot : Slot) (linked : Bool) (before : Plan) → IsTrue (has_name_length link)
    → IsPlan before → Ready (behind_plan source link target slot linked before)
behind_ready source link target slot linked before n p = ready_if linked (ready_plan before p)
    (ready_named Links link slot (LinkAdd source link target) before n tt p)

pub link_ready : (source : EntityId) (link : List ℕ) (target : EntityId) (found : Result (Slot × Bool) EntityId) → IsTrue (has_name_length link)
    → Ready (link_plan source link target found)
link_ready source link target (Err id) n = ready_refused (NoEntity id) refl
link_ready source link target (Ok (slot, linked)) n = behind_ready source link target slot linked no_plan n plan_none

pub set_link_ready : (source : EntityId) (link : List ℕ) (target : EntityId) (found : Result (Slot × Bool × List EntityId) EntityId)
    → IsTrue (has_name_length link) → Ready (set_link_plan source link target found)
set_link_ready source link target (Err id) n = ready_refused (NoEntity id) refl
set_link_ready source link target (Ok (slot, linked, targets)) n =
    behind_ready source link target slot linked _ n (gone_fits source link slot (filter (λ other. not (same_id other target)) targets))

pub unlink_ready : (source : EntityId) (link : List ℕ) (target : EntityId) (found : Option (Slot × Bool)) → Ready (unlink_plan source link target found)
unlink_ready source link target None = ready_refused (NoEntity source) refl
unlink_ready source link target (Some (Listed number, true)) = ready_plan _ (plan_with number (LinkDel source link target) no_plan tt tt)
unlink_ready source link target (Some (Listed number, false)) = ready_plan no_plan plan_none
unlink_ready source link target (Some (Free number, linked)) = ready_plan no_plan plan_none
unlink_ready source link target (Some (Full, linked)) = ready_plan no_plan plan_none

pub unlink_all_ready : (source : EntityId) (link : List ℕ) (found : Option (Slot × List EntityId)) → Ready (unlink_all_plan source link found)
unlink_all_ready source link None = ready_refused (NoEntity source) refl
unlink_all_ready source link (Some (slot, targets)) = ready_plan _ (gone_fits source link slot targets)

-- ---- what the rows give

-- an act on an entity
pub of_entity_agrees : {A : Type 0} (rows : RowsValue) (id : EntityId) (plan_of : Option A → Result Plan StmtError)
    → plan_of None ≡ Err (NoEntity id) → (known : A) {wanted : Result (List RowChange) StmtError}
    → Agrees rows wanted (plan_of (Some known))
    → Agrees rows (cond (not (is_some (get rows.ids id))) (Err (NoEntity id)) wanted) (plan_of (of_entity rows id known))
of_entity_agrees rows id plan_of none known {wanted} agrees =
    elim (is_some (get rows.ids id)) as (λ b. Agrees rows (cond (not b) (Err (NoEntity id)) wanted) (plan_of (cond b (Some known) None))) [
      | true ↦ agrees
      | false ↦ subst (Agrees rows (Err (NoEntity id))) (sym none) (agrees_refused (NoEntity id))
    ]

-- an act on two entities
of_both_agrees : {A : Type 0} (rows : RowsValue) (source target : EntityId) (plan_of : Result A EntityId → Result Plan StmtError)
    → ((id : EntityId) → plan_of (Err id) ≡ Err (NoEntity id)) → (known : A) {wanted : Result (List RowChange) StmtError}
    → Agrees rows wanted (plan_of (Ok known)) → Agrees rows (between rows source target wanted) (plan_of (of_both rows source target known))
of_both_agrees rows source target plan_of none known {wanted} agrees =
    elim (is_some (get rows.ids source)) as (λ b. Agrees rows
    (cond (not b) (Err (NoEntity source)) (cond (not (is_some (get rows.ids target))) (Err (NoEntity target)) wanted))
    (plan_of (cond b (cond (is_some (get rows.ids target)) (Ok known) (Err target)) (Err source)))) [
      | true ↦ elim (is_some (get rows.ids target)) as
          (λ b. Agrees rows (cond (not b) (Err (NoEntity target)) wanted) (plan_of (cond b (Ok known) (Err target)))) [
            | true ↦ agrees
            | false ↦ subst (Agrees rows (Err (NoEntity target))) (sym (none target)) (agrees_refused (NoEntity target))
          ]
      | false ↦ subst (Agrees rows (Err (NoEntity source))) (sym (none source)) (agrees_refused (NoEntity source))
    ]

module _ (rows : RowsValue) (source : EntityId) (link : List ℕ) where
  behind_agrees : (target : EntityId) (before : List RowChange) (plan : Plan) → Going rows plan → plan.changes ≡ before
      → Agrees rows (link_behind rows source link target before)
      (behind_plan source link target (slot_of rows.links link) (is_linked rows link target source) plan)
  behind_agrees target before plan g is =
      subst (λ cs. Agrees rows (link_behind rows source link target cs)
      (behind_plan source link target (slot_of rows.links link) (is_linked rows link target source) plan)) is
      (agrees_if (has_join rows source link target) (agrees_made plan g) (agrees_named Links link (LinkAdd source link target) plan g rows.links refl))

  pub link_agrees : (target : EntityId)
      → Agrees rows (expansion_of rows (act.Link source link target))
      (link_plan source link target (of_both rows source target (join_at rows source link target)))
  link_agrees target = of_both_agrees rows source target (link_plan source link target) (λ id. refl) (join_at rows source link target)
      (behind_agrees target [] no_plan (going_none rows) refl)

  -- the plan in which links go, and its changes
  record Gone (wanted : List RowChange) (plan : Plan) : Type 0 where
    pub going : Going rows plan
    pub changes : plan.changes ≡ wanted

  gone_by : (targets : List EntityId) (o : Option ℕ) → number_of rows.links link ≡ o → (o ≡ None → targets ≡ [])
      → Gone (targets_gone source link targets) (gone_plan source link (slot_by o (length rows.links)) targets)
  gone_by targets (Some number) is few = record {
    going = going_all rows (λ _. number) (λ target. LinkDel source link target) (λ target. tt) targets
        (each (λ target. λ i. link_removals source (unwrap_or (sym is i) (length rows.links)) target) targets) no_plan (going_none rows);
    changes = changes_all (λ _. number) (λ target. LinkDel source link target) targets no_plan;
  }
  gone_by targets None is few =
      let none : targets_gone source link targets ≡ [] = ap (targets_gone source link) (few refl) in
      elim (nat_lt (length rows.links) MOST_NAMES) as
      (λ b. Gone (targets_gone source link targets) (gone_plan source link (cond b (Free (length rows.links)) Full) targets)) [
        | true ↦ record { going = going_none rows; changes = sym none }
        | false ↦ record { going = going_none rows; changes = sym none }
      ]

  module _ (sound : IsTrue (is_sound rows)) where
    gone : (targets : List EntityId) → (number_of rows.links link ≡ None → targets ≡ [])
        → Gone (targets_gone source link targets) (gone_plan source link (slot_of rows.links link) targets)
    gone targets few = gone_by targets (number_of rows.links link) refl few

    pub unlink_all_agrees : Agrees rows (expansion_of rows (act.UnlinkAll source link))
        (unlink_all_plan source link (of_entity rows source (targets_at rows source link)))
    unlink_all_agrees =
        let gone_here = gone (targets_of rows link source) (no_targets rows sound source link) in
        of_entity_agrees rows source (unlink_all_plan source link) refl (targets_at rows source link)
        (subst (λ cs. Agrees rows (Ok cs) (Ok (gone_plan source link (slot_of rows.links link) (targets_of rows link source)))) gone_here.changes
        (agrees_made (gone_plan source link (slot_of rows.links link) (targets_of rows link source)) gone_here.going))

    pub set_link_agrees : (target : EntityId)
        → Agrees rows (expansion_of rows (act.SetLink source link target))
        (set_link_plan source link target (of_both rows source target (joins_at rows source link target)))
    set_link_agrees target =
        let gone_here = gone (others_of rows source link target)
        (λ none. ap (filter (λ other. not (same_id other target))) (no_targets rows sound source link none)) in
        of_both_agrees rows source target (set_link_plan source link target) (λ id. refl) (joins_at rows source link target)
        (behind_agrees target (targets_gone source link (others_of rows source link target))
        (gone_plan source link (slot_of rows.links link) (others_of rows source link target)) gone_here.going gone_here.changes)

    module _ (target : EntityId) where
      -- nothing goes where there is no link, wherever the name stands
      nothing : (slot : Slot) → Agrees rows (Ok []) (unlink_plan source link target (Some (slot, false)))
      nothing (Listed number) = agrees_made no_plan (going_none rows)
      nothing (Free number) = agrees_made no_plan (going_none rows)
      nothing Full = agrees_made no_plan (going_none rows)

      link_gone : (o : Option ℕ) → number_of rows.links link ≡ o → is_some o ≡ true
          → Agrees rows (Ok (LinkDel source link target ∷ [])) (unlink_plan source link target (Some (slot_by o (length rows.links), true)))
      link_gone None is listed = cc
      link_gone (Some number) is listed =
          agrees_made (with_change number (LinkDel source link target) no_plan)
          (going_on rows no_plan (going_none rows) number (LinkDel source link target) tt
          (λ i. link_removals source (unwrap_or (sym is i) (length rows.links)) target))

      by_join : (b : Bool) → is_linked rows link target source ≡ b
          → Agrees rows (cond b (Ok (LinkDel source link target ∷ [])) (Ok [])) (unlink_plan source link target (Some (slot_of rows.links link, b)))
      by_join false is = nothing (slot_of rows.links link)
      by_join true is = link_gone (number_of rows.links link) refl (ap is_some (link_named rows sound source link target is).is)

      pub unlink_agrees : Agrees rows (expansion_of rows (act.Unlink source link target))
          (unlink_plan source link target (of_entity rows source (join_at rows source link target)))
      unlink_agrees = of_entity_agrees rows source (unlink_plan source link target) refl (join_at rows source link target)
          (by_join (is_linked rows link target source) refl)
