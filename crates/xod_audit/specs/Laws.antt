-- The tests tell whether trees are the tables of some rows, and whose.
use Rattle.std.specs.Prelude.{◌≡◌, Some, None, if◌then◌else◌}
use Rattle.xod_base.specs.declared.answer.NameKind.TheVariants.{Kinds}
use Rattle.xod_base.specs.Views.{Trees}
use Rattle.xod_tables.specs.Reading.{tree_at}
use Rattle.xod_tables.specs.declared.trees.TheConstants.{NAMES}
use Rattle.xod_audit.specs.Audits.{kinds_of}
use Rattle.xod_audit.specs.Tests.{is_audited, names_listed}

-- Trees are the tables of some rows exactly where they pass the tests, and then the names of the types are those that
-- are listed in the tree of names.
abbrev pub TestsTell : Type 0
TestsTell = (trees : Trees) → kinds_of trees ≡ (if is_audited trees then Some (names_listed Kinds (tree_at trees NAMES)) else None)
