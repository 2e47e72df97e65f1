-- An entity that goes: its plan fits, and is what the rows give.
use Rattle.std.proofs.Common.{◌≡◌, ℕ, Bool, true, false, cond, IsTrue, List, [], ◌∷◌, ◌++◌, map, Option, Some, None, IfSome, Ok, refl, sym, ap, subst, ◌∙◌, append_assoc, arith, leb-true}
use Rattle.std.specs.Prelude.{◌&&◌, not, nat_le}
use Rattle.std.specs.List.{filter}
use Rattle.std.specs.FinMap.{entries, keys}
use Rattle.xod_base.specs.declared.answer.StmtError.TheVariants.{NoEntity}
use Rattle.xod_base.specs.declared.limits.TheConstants.{LONGEST_TEXT}
use Rattle.xod_base.specs.declared.query.Act.TheVariants as act
use Rattle.xod_base.specs.declared.value.EntityId.{EntityId}
use Rattle.xod_base.specs.Rows.{LinkKey, RowsValue, same_id, text_length}
use Rattle.xod_carry.proofs.CallerLemmas.{each_too}
use Rattle.xod_journal.specs.declared.change.RowChange.{RowChange}
use Rattle.xod_journal.specs.declared.change.RowChange.TheVariants.{RemoveEntity, Prop, LinkDel}
use Rattle.xod_journal.specs.Changes.{expansion_of, kind_number, link_gone, links_in_gone, links_out_gone, props_gone}
use Rattle.xod_journal.specs.Shows.{links_of, props_of}
use Rattle.xod_journal.proofs.KeyLemmas.{same_id-is}
use Rattle.xod_tables.proofs.CallerLemmas.{each_of_all}
use Rattle.xod_writes.specs.Changes.{writes_of}
use Rattle.xod_reader.specs.declared.parts.NamedLink.{NamedLink}
use Rattle.xod_reader.specs.declared.parts.NamedValue.{NamedValue}
use Rattle.xod_reader.specs.Named.{named_sources, named_targets, named_values}
use Rattle.xod_acts.specs.Acts.{delete_plan, without_links_in, without_links_out, without_values}
use Rattle.xod_acts.specs.declared.found.Belongings.{Belongings}
use Rattle.xod_acts.specs.declared.plan.Plan.{Plan}
use Rattle.xod_acts.specs.Found.{all_short, belongings_at, of_entity}
use Rattle.xod_acts.specs.Making.{no_plan, numbered_writes, with_change}
use Rattle.xod_acts.proofs.Fitting.{IsShortChange, Ready, plan_all, plan_none, plan_with, ready_plan, ready_refused}
use Rattle.xod_acts.proofs.Going.{Agrees, Going, agrees_made, changes_all, going_all, going_none, going_on}
use Rattle.xod_acts.proofs.LinkPlans.{of_entity_agrees}
use Rattle.xod_acts.proofs.Lists.{each, each_map, map_map}

-- ---- the changes of each part, with the numbers of their names

abbrev number_of_value : NamedValue → ℕ
number_of_value part = part.number

abbrev value_gone : EntityId → NamedValue → RowChange
value_gone id part = Prop id part.name (Some part.value) None

abbrev number_of_link : NamedLink → ℕ
number_of_link part = part.number

abbrev out_gone : EntityId → NamedLink → RowChange
out_gone id part = LinkDel id part.name part.end

abbrev in_gone : EntityId → NamedLink → RowChange
in_gone id part = LinkDel part.end part.name id

-- ---- the plan fits

pub delete_ready : (id : EntityId) (found : Option Belongings) → IfSome found (λ parts. IsTrue (all_short parts.values)) → Ready (delete_plan id found)
delete_ready id None short = ready_refused (NoEntity id) refl
delete_ready id (Some parts) short =
    let values = plan_all number_of_value (value_gone id) parts.values no_plan plan_none
    (each_too (λ part is. (leb-true (text_length part.value) LONGEST_TEXT is, omega arith)) parts.values
    (each_of_all (λ part. nat_le (text_length part.value) LONGEST_TEXT) parts.values short)) in
    let out = plan_all number_of_link (out_gone id) parts.links_out (without_values id parts.values no_plan) values
    (each {P = λ part. IsShortChange (out_gone id part)} (λ part. tt) parts.links_out) in
    let into = plan_all number_of_link (in_gone id) parts.links_in (without_links_out id parts.links_out (without_values id parts.values no_plan)) out
    (each {P = λ part. IsShortChange (in_gone id part)} (λ part. tt) parts.links_in) in
    ready_plan _ (plan_with id.kind (RemoveEntity id)
    (without_links_in id parts.links_in (without_links_out id parts.links_out (without_values id parts.values no_plan))) into.fit tt)

-- ---- what the rows give

-- links that pass a test go, said in another way that comes to the same where they pass
gone_where : (p : LinkKey → Bool) (change : LinkKey → RowChange) → ((link : LinkKey) → p link ≡ true → change link ≡ link_gone link)
    → (links : List LinkKey) → map change (filter p links) ≡ map link_gone (filter p links)
gone_where p change is [] = refl
gone_where p change is (link ∷ links) = by (p link) refl (gone_where p change is links)
  where
    by : (b : Bool) → p link ≡ b → map change (filter p links) ≡ map link_gone (filter p links)
        → map change (cond b (link ∷ filter p links) (filter p links)) ≡ map link_gone (cond b (link ∷ filter p links) (filter p links))
    by true passes more = λ i. is link passes i ∷ more i
    by false passes more = more

first : (a b : Bool) → (a && b) ≡ true → a ≡ true
first true b h = refl
first false b h = cc

module _ (rows : RowsValue) (id : EntityId) where
  values_are : map (value_gone id) (named_values rows id) ≡ props_gone rows id
  values_are =
      map_map (λ prop. record { number = kind_number rows.props prop.0; name = prop.0; value = prop.1 }) (value_gone id) (props_of rows id)
      ∙ map_map (λ cell. (cell.0.1, cell.1)) (λ prop. Prop id prop.0 (Some prop.1) None) (filter (λ cell. same_id cell.0.0 id) (entries rows.values))

  out_are : map (out_gone id) (named_targets rows id) ≡ links_out_gone rows id
  out_are =
      map_map (λ link. record { number = kind_number rows.links link.0; name = link.0; end = link.1 }) (out_gone id) (links_of rows id)
      ∙ map_map (λ link. (link.1.0, link.1.1)) (λ link. LinkDel id link.0 link.1) (filter (λ link. same_id link.0 id) (keys rows.joined))
      ∙ gone_where (λ link. same_id link.0 id) (λ link. LinkDel id link.1.0 link.1.1)
      (λ link is. λ i. LinkDel (sym (same_id-is link.0 id is) i) link.1.0 link.1.1) (keys rows.joined)

  in_are : map (in_gone id) (named_sources rows id) ≡ links_in_gone rows id
  in_are =
      map_map (λ link. record { number = kind_number rows.links link.1.0; name = link.1.0; end = link.0 }) (in_gone id)
      (filter (λ link. same_id link.1.1 id && not (same_id link.0 id)) (keys rows.joined))
      ∙ gone_where (λ link. same_id link.1.1 id && not (same_id link.0 id)) (λ link. LinkDel link.0 link.1.0 id)
      (λ link is. λ i. LinkDel link.0 link.1.0 (sym (same_id-is link.1.1 id (first (same_id link.1.1 id) (not (same_id link.0 id)) is)) i)) (keys rows.joined)

  -- the plan behind each part
  abbrev after_values : Plan
  after_values = without_values id (named_values rows id) no_plan

  abbrev after_out : Plan
  after_out = without_links_out id (named_targets rows id) after_values

  abbrev after_in : Plan
  after_in = without_links_in id (named_sources rows id) after_out

  going_values : Going rows after_values
  going_values = going_all rows number_of_value (value_gone id) (λ part. tt) (named_values rows id)
      (each_map (λ part. numbered_writes part.number (value_gone id part) ≡ writes_of rows (value_gone id part))
      (λ prop. record { number = kind_number rows.props prop.0; name = prop.0; value = prop.1 }) (λ prop. refl) (props_of rows id)) no_plan (going_none rows)

  going_out : Going rows after_out
  going_out = going_all rows number_of_link (out_gone id) (λ part. tt) (named_targets rows id)
      (each_map (λ part. numbered_writes part.number (out_gone id part) ≡ writes_of rows (out_gone id part))
      (λ link. record { number = kind_number rows.links link.0; name = link.0; end = link.1 }) (λ link. refl) (links_of rows id)) after_values going_values

  going_in : Going rows after_in
  going_in = going_all rows number_of_link (in_gone id) (λ part. tt) (named_sources rows id)
      (each_map (λ part. numbered_writes part.number (in_gone id part) ≡ writes_of rows (in_gone id part))
      (λ link. record { number = kind_number rows.links link.1.0; name = link.1.0; end = link.0 }) (λ link. refl)
      (filter (λ link. same_id link.1.1 id && not (same_id link.0 id)) (keys rows.joined))) after_out going_out

  four_parts : (a b c d : List RowChange) → ((a ++ b) ++ c) ++ d ≡ a ++ (b ++ (c ++ d))
  four_parts a b c d = append_assoc (a ++ b) c d ∙ append_assoc a b (c ++ d)

  changes_are : (with_change id.kind (RemoveEntity id) after_in).changes ≡ props_gone rows id ++
      (links_out_gone rows id ++ (links_in_gone rows id ++ (RemoveEntity id ∷ [])))
  changes_are =
      let a = changes_all number_of_value (value_gone id) (named_values rows id) no_plan ∙ values_are in
      let b = changes_all number_of_link (out_gone id) (named_targets rows id) after_values ∙ (λ i. a i ++ out_are i) in
      let c = changes_all number_of_link (in_gone id) (named_sources rows id) after_out ∙ (λ i. b i ++ in_are i) in
      ap (λ cs. cs ++ (RemoveEntity id ∷ [])) c ∙ four_parts (props_gone rows id) (links_out_gone rows id) (links_in_gone rows id) (RemoveEntity id ∷ [])

  pub delete_agrees : Agrees rows (expansion_of rows (act.Delete id)) (delete_plan id (of_entity rows id (belongings_at rows id)))
  delete_agrees = of_entity_agrees rows id (delete_plan id) refl (belongings_at rows id)
      (subst (λ cs. Agrees rows (Ok cs) (Ok (with_change id.kind (RemoveEntity id) after_in))) changes_are
      (agrees_made (with_change id.kind (RemoveEntity id) after_in) (going_on rows after_in going_in id.kind (RemoveEntity id) tt refl)))
