-- What entries are tested for, as data.
use Rattle.std.specs.Prelude.{ℕ, Bool, true, ◌+◌, ◌≤◌, ◌&&◌, ◌==◌, List, length, Option, Some, None, if◌then◌else◌}
use Rattle.std.specs.List.{list_all}
use Rattle.std.specs.FinMap.{len}
use Rattle.xod_base.specs.declared.answer.NameKind.TheVariants.{Kinds, Props, Links}
use Rattle.xod_base.specs.Rows.{is_name}
use Rattle.xod_base.specs.Views.{Entry, Tree, Trees}
use Rattle.xod_tables.specs.Reading.{tree_at}
use Rattle.xod_tables.specs.declared.trees.TheConstants.{NAMES, NUMBERS, NEXT, ENTITIES, PROPERTIES, INDEX, LINKS, BACK}
use Rattle.xod_audit.specs.declared.check.Check.{Check}
use Rattle.xod_audit.specs.declared.check.Check.TheVariants.{Any, Entity, Property, Link}
use Rattle.xod_audit.specs.declared.trees.Lists.{Lists}
use Rattle.xod_audit.specs.Tests.{holds, names_listed, numbers_stand, nexts_counted, is_entity, entities_fit, is_property_entry, properties_fit, is_link_entry, links_fit}

-- whether an entry passes, by what the trees have
abbrev pub test_of : Check → Trees → Entry → Bool
test_of Any trees entry = true
test_of (Entity nexts) trees entry = is_entity nexts entry
test_of (Property count) trees entry = is_property_entry count (tree_at trees ENTITIES) (tree_at trees INDEX) entry
test_of (Link count) trees entry = is_link_entry count (tree_at trees ENTITIES) (tree_at trees BACK) entry

-- how many entries there are, where all of them pass
abbrev pub counted : (Entry → Bool) → List Entry → Option ℕ
counted test entries = if list_all test entries then Some (length entries) else None

-- a list of names, where each is a name
abbrev pub names_that : List (List ℕ) → Option (List (List ℕ))
names_that names = if list_all is_name names then Some names else None

-- three lists of names, where each is one
abbrev pub lists_of : Option (List (List ℕ)) → Option (List (List ℕ)) → Option (List (List ℕ)) → Option Lists
lists_of None props links = None
lists_of (Some kinds) None links = None
lists_of (Some kinds) (Some props) None = None
lists_of (Some kinds) (Some props) (Some links) = Some (record { kinds = kinds; props = props; links = links })

-- the three lists of a tree of names
abbrev pub lists_in : Tree → Option Lists
lists_in names = lists_of (names_that (names_listed Kinds names)) (names_that (names_listed Props names)) (names_that (names_listed Links names))

-- the names of three lists have their numbers in a tree, which has nothing else
abbrev pub have_their_numbers : Tree → Lists → ℕ → Bool
have_their_numbers numbers lists total =
    numbers_stand numbers Kinds lists.kinds && numbers_stand numbers Props lists.props && numbers_stand numbers Links lists.links
    && (len numbers == total)

-- how many names there are in three lists
abbrev pub total_of : Lists → ℕ
total_of lists = length lists.kinds + (length lists.props + length lists.links)

-- trees fit to the lists of names
abbrev pub fit_to : Trees → Lists → Bool
fit_to trees lists =
    (len (tree_at trees NAMES) == total_of lists)
    && have_their_numbers (tree_at trees NUMBERS) lists (total_of lists)
    && holds (entities_fit (tree_at trees ENTITIES)) (nexts_counted (tree_at trees NEXT) (length lists.kinds))
    && properties_fit (length lists.props) (tree_at trees ENTITIES) (tree_at trees PROPERTIES) (tree_at trees INDEX)
    && links_fit (length lists.links) (tree_at trees ENTITIES) (tree_at trees LINKS) (tree_at trees BACK)

-- the types of trees that fit to their lists of names
abbrev pub kinds_audited : Trees → Option Lists → Option (List (List ℕ))
kinds_audited trees None = None
kinds_audited trees (Some lists) = if fit_to trees lists then Some lists.kinds else None

-- no list is longer than a list of names may be
pub record AreShort (lists : Lists) : Type 0 where
  pub kinds : length lists.kinds ≤ 4096
  pub props : length lists.props ≤ 4096
  pub links : length lists.links ≤ 4096
