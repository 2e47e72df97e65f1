-- What a call puts behind the branches that a keeper has, and what a save puts there in all.
use Rattle.std.specs.Prelude.{◌≡◌, ℕ, suc, Bool, IsTrue, List, [], ◌∷◌, ◌++◌, length, map, Option}
use Rattle.std.specs.List.{AllByRecursion}
use Rattle.xod_block.specs.declared.address.Address.{Address}
use Rattle.xod_block.specs.Records.{Link}
use Rattle.xod_trie.specs.declared.branch.Branch.{Branch}
use Rattle.xod_trie_mut.specs.Own.{HasParts, AreOwn, are_enough, own_address}
use Rattle.xod_trie.specs.Branches.{FitsBranch}
use Rattle.xod_trie_mut.specs.Saves.{Places, Put, block_places, further, put_within, spelled}

-- branches of one trie in memory, whatever it was made over
pub record AreOfOneTrie (own : List Branch) : Type 0 where
  pub base : Option Address
  pub are : AreOwn base own

-- a branch with other children
abbrev pub with_children : Branch → List Link → Branch
with_children branch children = record branch { children = children }

-- the bytes of children, in their order
abbrev pub bytes_of : List Link → List ℕ
bytes_of children = map (λ child. child.0) children

-- each of them may be named
abbrev pub AreNamed : (Address → Bool) → List Link → Type 0
AreNamed names children = AllByRecursion (λ child. IsTrue (names child.1)) children

-- a leaf or a node whose children have new addresses, of which each may be named
pub record CanPut (names : Address → Bool) (branch : Branch) (children : List Link) : Type 0 where
  pub parts : HasParts branch
  pub enough : IsTrue (are_enough branch.value (length branch.children))
  pub bytes : bytes_of children ≡ bytes_of branch.children
  pub named : AreNamed names children

-- a branch was put at the end, and may be named there
pub record IsPutLast {K : Type 0} (place : K → Address) (with_last : K → Branch → K) (names : Address → Bool) (Takes : Branch → Type 0) (old new : K) (branch : Branch) (at : Address) : Type 0 where
  pub put : new ≡ with_last old branch
  pub at_is : at ≡ place old
  pub named : IsTrue (names at)
  pub taken : Takes branch

-- the same with a list of branches at its end, the first one first
abbrev pub with_all : {K : Type 0} → (K → Branch → K) → K → List Branch → K
with_all with_last keeper [] = keeper
with_all with_last keeper (branch ∷ branches) = with_all with_last (with_last keeper branch) branches

-- where the next one stands, by those that were put
abbrev pub places_of : {K : Type 0} → (K → Address) → (K → Branch → K) → K → Places
places_of place with_last keeper branches = place (with_all with_last keeper branches)

-- some branches were put
pub record HasPut {K : Type 0} (with_last : K → Branch → K) (old new : K) : Type 0 where
  pub branches : List Branch
  pub is : new ≡ with_all with_last old branches

-- what a save of the branch at a place of the list puts out
abbrev pub put_from : Places → List Branch → ℕ → Put
put_from places own index = put_within (suc (length own)) places own [] (own_address index)

-- exactly that was put
pub record IsPutUnder {K : Type 0} (place : K → Address) (with_last : K → Branch → K) (names : Address → Bool) (Takes : Branch → Type 0) (own : List Branch) (index : ℕ) (old new : K) (at : Address) : Type 0 where
  pub put : new ≡ with_all with_last old (put_from (places_of place with_last old) own index).branches
  pub at_is : at ≡ (put_from (places_of place with_last old) own index).at
  pub named : IsTrue (names at)
  pub taken : AllByRecursion Takes (put_from (places_of place with_last old) own index).branches

-- the same behind the bytes of a block
pub record IsPutBehind (at : Address) (own : List Branch) (index : ℕ) (old new : List ℕ) (root : Address) : Type 0 where
  pub block : new ≡ old ++ spelled (put_from (block_places (further at (length old))) own index).branches
  pub root_is : root ≡ (put_from (block_places (further at (length old))) own index).at
  pub fit : AllByRecursion FitsBranch (put_from (block_places (further at (length old))) own index).branches
