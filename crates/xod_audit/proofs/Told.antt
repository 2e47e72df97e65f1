-- The tests tell whether trees are the tables of some rows, and which types these have.
use Rattle.std.proofs.Common.{◌≡◌, Bool, true, false, cond, Option, Some, None, refl, sym, ap, ◌∙◌, true≢false}
use Rattle.std.specs.Option.{option_map}
use Rattle.xod_base.specs.declared.answer.NameKind.TheVariants.{Kinds}
use Rattle.xod_base.specs.Rows.{RowsValue}
use Rattle.xod_base.specs.Views.{Trees}
use Rattle.xod_tables.specs.Reading.{rows_of, tree_at}
use Rattle.xod_tables.specs.declared.trees.TheConstants.{NAMES}
use Rattle.xod_tables.proofs.CallerLemmas.{rows_of_tables, tables_of_rows}
use Rattle.xod_audit.specs.Audits.{kinds_of}
use Rattle.xod_audit.specs.Laws.{TestsTell}
use Rattle.xod_audit.specs.Tests.{is_audited, names_listed}
use Rattle.xod_audit.proofs.Sound.{audited_are_tables}
use Rattle.xod_audit.proofs.Complete.{tables_are_audited}

-- trees that are not audited are those of no rows
pub none_unaudited : (trees : Trees) → is_audited trees ≡ false → rows_of trees ≡ None
none_unaudited trees h = at (rows_of trees) refl
  where
    at : (o : Option RowsValue) → rows_of trees ≡ o → o ≡ None
    at None is = refl
    at (Some rows) is = absurd (true≢false (sym (tables_are_audited trees rows (tables_of_rows trees rows is)).0 ∙ h))

pub tests_tell : TestsTell
tests_tell trees = at (is_audited trees) refl
  where
    at : (b : Bool) → is_audited trees ≡ b → kinds_of trees ≡ cond b (Some (names_listed Kinds (tree_at trees NAMES))) None
    at true h =
        let found = audited_are_tables trees h in
        ap (option_map (λ rows. rows.types)) (rows_of_tables trees found.0 found.1) ∙ ap Some found.2
    at false h = ap (option_map (λ rows. rows.types)) (none_unaudited trees h)
