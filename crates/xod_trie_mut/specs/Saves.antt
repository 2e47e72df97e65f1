-- What a save puts out: the branches in memory that the root reaches, children before their parents and by rising byte.
use Rattle.std.specs.Prelude.{◌≡◌, ◌<◌, ℕ, zero, suc, ◌+◌, true, if◌then◌else◌, List, [], ◌∷◌, ◌++◌, length, take, Option, Some, None, slice_get}
use Rattle.std.specs.List.{flat_map, AllByRecursion}
use Rattle.xod_block.specs.declared.address.Address.{Address}
use Rattle.xod_block.specs.Addresses.{number_of}
use Rattle.xod_block.specs.Records.{Link, spelling}
use Rattle.xod_trie.specs.declared.branch.Branch.{Branch}
use Rattle.xod_trie_mut.specs.Own.{IsBelowBase, IsSound, TrieView, is_saved, own_address, own_start, record_as}

-- the branches that were put out so far, and where the last one's trie has its root
pub record Put : Type 0 where
  pub branches : List Branch
  pub at : Address

-- the same, and the children of a branch with their new addresses
pub record PutAll : Type 0 where
  pub branches : List Branch
  pub children : List Link

-- where the next branch will stand, by those that were put out before it
abbrev pub Places : Type 0
Places = List Branch → Address

abbrev pub put_child : ℕ → Put → PutAll → PutAll
put_child byte one others = record { branches = others.branches; children = (byte, one.at) ∷ others.children }

-- one child after another, by rising byte
abbrev pub put_children : (List Branch → Address → Put) → List Branch → List Link → PutAll
put_children puts before [] = record { branches = before; children = [] }
put_children puts before (child ∷ children) =
    let one = puts before child.1 in
    put_child child.0 one (put_children puts one.branches children)

-- a branch behind its children
abbrev pub put_behind : Places → Branch → PutAll → Put
put_behind places branch below = record { branches = below.branches ++ record branch { children = below.children } ∷ []; at = places below.branches }

abbrev pub put_branch : Places → (List Branch → Address → Put) → List Branch → Address → Option Branch → Put
put_branch places puts before at None = record { branches = before; at = at }
put_branch places puts before at (Some branch) = put_behind places branch (put_children puts before branch.children)

-- what stands at an address, where no way down passes more than so many branches; a record stays where it is
abbrev pub put_within : ℕ → Places → List Branch → List Branch → Address → Put
put_within zero places own before at = record { branches = before; at = at }
put_within (suc depth) places own before at =
    if is_saved at
    then record { branches = before; at = at }
    else put_branch places (put_within depth places own) before at (slice_get own at.at)

-- A whole trie, behind branches that were put out before. Without a root nothing is put out.
pub record Saved : Type 0 where
  pub branches : List Branch
  pub root : Option Address

abbrev pub saved_at : Put → Saved
saved_at put = record { branches = put.branches; root = Some put.at }

abbrev pub saved_from : Places → TrieView → List Branch → Option Address → Saved
saved_from places trie before None = record { branches = before; root = None }
saved_from places trie before (Some root) = saved_at (put_within (suc (length trie.own)) places trie.own before root)

abbrev pub saved : Places → TrieView → List Branch → Saved
saved places trie before = saved_from places trie before trie.root

-- ---- a block of records

-- the bytes of branches, one behind another
abbrev pub spelled : List Branch → List ℕ
spelled branches = flat_map (λ branch. spelling (record_as branch)) branches

-- where the next one stands, in a block that begins at an address
abbrev pub block_places : Address → Places
block_places start branches = record { file = start.file; at = start.at + length (spelled branches) }

-- a place so many bytes behind an address
abbrev pub further : Address → ℕ → Address
further start count = record { file = start.file; at = start.at + count }

-- what a save of a trie puts behind the bytes of a block, of which the first one has an address
abbrev pub saved_behind : Address → List ℕ → TrieView → Saved
saved_behind at block trie = saved (block_places (further at (length block))) trie []

-- the bytes of just that came behind, and the root is where it has it
pub record IsSavedBehind (at : Address) (old new : List ℕ) (trie : TrieView) (root : Option Address) : Type 0 where
  pub block : new ≡ old ++ spelled (saved_behind at old trie).branches
  pub root_is : root ≡ (saved_behind at old trie).root

-- each branch names only what stands before it
abbrev pub ChildrenFall : Places → List Branch → Type 0
ChildrenFall places branches =
    (index : ℕ) (branch : Branch) → slice_get branches index ≡ Some branch
    → AllByRecursion (λ child. number_of child.1 < number_of (places (take index branches))) branch.children

-- no branch in memory is reached from there
abbrev pub IsUntouched : Option Address → Type 0
IsUntouched None = Unit {0}
IsUntouched (Some root) = is_saved root ≡ true

-- a base whose number is below that of an address
abbrev pub IsBelow : Option Address → Address → Type 0
IsBelow None at = Unit {0}
IsBelow (Some base) at = number_of base < number_of at

-- what is up to a base stands below all branches in memory
abbrev pub IsLowBase : Option Address → Type 0
IsLowBase base = (at : Address) → IsBelowBase base at → number_of at < own_start

-- ---- branches in memory

-- where the next one stands, behind branches that stand in memory
abbrev pub list_places : Places
list_places branches = own_address (length branches)

-- a trie over the same base
abbrev pub trie_by : Option Address → Saved → TrieView
trie_by base saved = record { base = base; own = saved.branches; root = saved.root }

-- the same trie, of which only those branches are left that the root reaches
abbrev pub compacted : TrieView → TrieView
compacted trie = trie_by trie.base (saved list_places trie [])

-- ---- saves by the parts of a trie

-- a list of branches and a root, which are sound over some base
pub record IsSoundOver (own : List Branch) (root : Option Address) : Type 0 where
  pub base : Option Address
  pub are : IsSound (record { base = base; own = own; root = root })

-- the same, seen without its base, which no save looks at
abbrev pub without_base : List Branch → Option Address → TrieView
without_base own root = record { base = None; own = own; root = root }
