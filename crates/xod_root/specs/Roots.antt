-- What the roots of a store's trees are, and which root record lists them.
use Rattle.std.specs.Prelude.{◌≤◌, ℕ, List, T, take, Option, Some, None, refl}
use Rattle.std.specs.Coded.{Coded, code_by, coded×, coded_ℕ}
use Rattle.std.specs.FinMap.{FinMap, entries, from_entries, insert, is_sorted, remove}
use Rattle.std.specs.Ordering.{nat_cmp}
use Rattle.xod_block.specs.declared.address.Address.{Address}
use Rattle.xod_root.specs.declared.roots.TheConstants.{MOST_TREES}
use Rattle.xod_block.specs.Records.{Link, RecordValue, Leaf, Node, Root}

-- where the root of each tree begins, by the tree's number; a tree that is not listed has none
abbrev pub Roots : Type 0
Roots = FinMap nat_cmp Address

-- an address by its two numbers
abbrev pub address_code : Coded Address
address_code = code_by (ℕ × ℕ) (coded× coded_ℕ coded_ℕ) (λ address. (address.file, address.at)) (λ pair. record { file = pair.0; at = pair.1 }) (λ _. refl)

-- so many links stand at the front, by rising number
pub record IsListed (count : ℕ) (links : List Link) : Type 0 where
  pub few : count ≤ MOST_TREES
  pub sorted : T (is_sorted nat_cmp (take count links))

-- the roots with that of one tree as given; without one the tree is not listed
abbrev pub with_root : Roots → ℕ → Option Address → Roots
with_root roots tree None = remove roots tree
with_root roots tree (Some root) = insert roots tree root

-- the root record of a commit that lists these roots, by rising number
abbrev pub root_record : ℕ → Roots → RecordValue
root_record commit roots = Root commit (entries roots)

-- the commit and the roots of a root record; a leaf or a node has none
abbrev pub root_in : RecordValue → Option (ℕ × Roots)
root_in (Leaf key value) = None
root_in (Node key value children) = None
root_in (Root commit trees) = Some (commit, from_entries trees)
