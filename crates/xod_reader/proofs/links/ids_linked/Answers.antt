use Rattle.std.proofs.Common.{◌≡◌, ℕ, Bool, IsTrue, List, Result, Ok, Err, Some, None, ap, sym, ◌∙◌}
use Rattle.std.proofs.lemmas.Result.{err_from_is_err_and}
use Rattle.std.specs.Prelude.{◌==◌}
use Rattle.std.specs.List.{filter}
use Rattle.xod_base.specs.declared.answer.NameKind.TheVariants.{Links}
use Rattle.xod_base.specs.Evaluation.{ids_with_number, is_linked}
use Rattle.xod_base.specs.Rows.{RowsValue, number_of}
use Rattle.xod_base.specs.Views.{Trees}
use Rattle.xod_base.specs.declared.causes.ReadError.{ReadError}
use Rattle.xod_base.specs.declared.value.EntityId.{EntityId}
use Rattle.xod_keys.specs.Readings.{ends_at}
use Rattle.xod_range.specs.Reads.{Reads}
use Rattle.xod_readings.specs.Lists.{sources_of}
use Rattle.xod_tables.specs.LookUps.{names_of}
use Rattle.xod_tables.specs.Keys.{IsShort}
use Rattle.xod_tables.specs.Tables.{AreTables, back_tree}
use Rattle.xod_readings.specs.Laws.{LinksOfRowsAreRead}
use Rattle.xod_tables.specs.declared.trees.TheConstants.{BACK}
use Rattle.xod_reader.specs.Told.{ReadsRows}
use Rattle.xod_reader.proofs.Listing.{absent, none_linked, sources_of_kind}
use Rattle.xod_reader.proofs.Named.{keeps_on}
use Rattle.xod_reader.proofs.Told.{fails_rows, moved, ok_rows, reads_rows, value_rows}
use Rattle.xod_reader.proofs.links.ids_linked.Goals as goal

-- what the sources are that are read by the number of a link
sources_rows : LinksOfRowsAreRead → (target : EntityId) → IsShort target → (name : List ℕ) (link : ℕ) {tells : Bool} {trees : Trees} {result : Result (List EntityId) ReadError}
    → (IsTrue tells → (rows : RowsValue) → AreTables trees rows → Some link ≡ number_of rows.links name)
    → Reads tells (trees BACK) (ends_at target link) result → ReadsRows tells trees (λ rows. sources_of rows name target) result
sources_rows laws target short name link is reads = reads_rows back_tree (λ rows. sources_of rows name target) (λ rows are. are.linked_back)
    (λ told rows are. (laws rows are.sound).sources target name link short (sym (is told rows are))) reads

pub returns-in_err-kind-clause-reads : goal.returns-in_err-kind-clause-reads
returns-in_err-kind-clause-reads g c =
    let error = err_from_is_err_and c.from_residual.result c.from_residual.ensures.1 in
    fails_rows c.from_residual.result c.in_err-kind.field-0.0 (error.1 ∙ ap Err error.2) c.in_err-kind.was c.number_of.ensures.reads

pub returns-in_default-clause-reads : goal.returns-in_default-clause-reads
returns-in_default-clause-reads g c =
    let none = absent c.in_ok-kind.field-0 c.in_default.not-Some in
    ok_rows c.new.result (λ told rows are. c.new.ensures
    ∙ ap (λ found. filter (is_linked rows c.args.link.now c.args.target) (ids_with_number rows found)) (value_rows None (c.in_ok-kind.was ∙ ap Ok none) c.number_of.ensures.reads told rows are))

pub returns-in_err-link-clause-reads : goal.returns-in_err-link-clause-reads
returns-in_err-link-clause-reads g c =
    let error = err_from_is_err_and c.from_residual-in_err-link.result c.from_residual-in_err-link.ensures.1 in
    fails_rows c.from_residual-in_err-link.result c.in_err-link.field-0.0 (error.1 ∙ ap Err error.2) c.in_err-link.was
    (moved c.number_of.ensures.keeps (λ b ts. ReadsRows b ts (λ rows. number_of (names_of rows Links) c.args.link.now) c.number_of-2.result) c.number_of-2.ensures.reads)

pub returns-in_default-2-clause-reads : goal.returns-in_default-2-clause-reads
returns-in_default-2-clause-reads g c =
    let links = moved c.number_of.ensures.keeps (λ b ts. ReadsRows b ts (λ rows. number_of (names_of rows Links) c.args.link.now) c.number_of-2.result) c.number_of-2.ensures.reads in
    let none = absent c.in_ok-link.field-0 c.in_default-2.not-Some in
    ok_rows c.new-in_default-2.result (λ told rows are. c.new-in_default-2.ensures
    ∙ sym (none_linked rows are.sound c.args.link.now (sym (value_rows None (c.in_ok-link.was ∙ ap Ok none) links told rows are)) c.args.kind.now c.args.target))

pub returns-in_err-sources-clause-reads : goal.returns-in_err-sources-clause-reads
returns-in_err-sources-clause-reads g c =
    let error = err_from_is_err_and c.from_residual-in_err-sources.result c.from_residual-in_err-sources.ensures.1 in
    let keeps = keeps_on c.number_of.ensures.keeps c.number_of-2.ensures.keeps in
    let link = c.in-Some-2.link in
    let links = moved c.number_of.ensures.keeps (λ b ts. ReadsRows b ts (λ rows. number_of (names_of rows Links) c.args.link.now) c.number_of-2.result) c.number_of-2.ensures.reads in
    fails_rows c.from_residual-in_err-sources.result c.in_err-sources.field-0.0 (error.1 ∙ ap Err error.2) c.in_err-sources.was
    (sources_rows c.links_of_rows_are_read.ensures c.args.target c.id_is_short.ensures c.args.link.now link
    (value_rows (Some link) (c.in_ok-link.was ∙ ap Ok c.in-Some-2.is) links)
    (moved keeps (λ b ts. Reads b (ts BACK) (ends_at c.args.target link) c.sources_of.result) c.sources_of.ensures.reads))

pub returns-clause-reads : goal.returns-clause-reads
returns-clause-reads g c =
    let keeps = keeps_on c.number_of.ensures.keeps c.number_of-2.ensures.keeps in
    let kind = c.in-Some.kind in
    let link = c.in-Some-2.link in
    let links = moved c.number_of.ensures.keeps (λ b ts. ReadsRows b ts (λ rows. number_of (names_of rows Links) c.args.link.now) c.number_of-2.result) c.number_of-2.ensures.reads in
    ok_rows c.in_ok-found.found (λ told rows are.
    let sources = value_rows c.in_ok-sources.sources c.in_ok-sources.was
    (sources_rows c.links_of_rows_are_read.ensures c.args.target c.id_is_short.ensures c.args.link.now link
    (value_rows (Some link) (c.in_ok-link.was ∙ ap Ok c.in-Some-2.is) links)
    (moved keeps (λ b ts. Reads b (ts BACK) (ends_at c.args.target link) c.sources_of.result) c.sources_of.ensures.reads)) told rows are in
    c.in_ok-found.ensures
    ∙ ap (filter (λ id. id.kind == kind)) sources
    ∙ sources_of_kind rows c.args.link.now c.args.target kind
    ∙ ap (λ found. filter (is_linked rows c.args.link.now c.args.target) (ids_with_number rows found))
    (value_rows (Some kind) (c.in_ok-kind.was ∙ ap Ok c.in-Some.is) c.number_of.ensures.reads told rows are))
