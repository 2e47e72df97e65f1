-- When two tries have one shape: the same key parts, values and child bytes, from the roots down.
use Rattle.std.specs.Prelude.{◌≡◌, ℕ, zero, suc, List, [], ◌∷◌, Option, Some, None}
use Rattle.xod_block.specs.declared.address.Address.{Address}
use Rattle.xod_block.specs.Addresses.{number_of}
use Rattle.xod_block.specs.Maps.{RecordsAt}
use Rattle.xod_block.specs.Records.{Link}
use Rattle.xod_trie.specs.declared.branch.Branch.{Branch}
use Rattle.xod_trie.specs.Branches.{branch_of}

-- the same bytes, and what stands below each of them alike
abbrev pub AreAlike : (ℕ → ℕ → Type 0) → List Link → List Link → Type 0
AreAlike below [] [] = Unit {0}
AreAlike below [] (child ∷ children) = ⊥
AreAlike below (child ∷ children) [] = ⊥
AreAlike below (one ∷ ones) (other ∷ others) = (one.0 ≡ other.0) × below (number_of one.1) (number_of other.1) × AreAlike below ones others

pub record IsAlike (below : ℕ → ℕ → Type 0) (one other : Branch) : Type 0 where
  pub key : one.key ≡ other.key
  pub value : one.value ≡ other.value
  pub children : AreAlike below one.children other.children

-- two branches, and both are there
abbrev pub BothAlike : (ℕ → ℕ → Type 0) → Option Branch → Option Branch → Type 0
BothAlike below None other = ⊥
BothAlike below (Some one) None = ⊥
BothAlike below (Some one) (Some other) = IsAlike below one other

-- the shapes at two addresses, where no way down passes more than so many records
abbrev pub SameWithin : ℕ → RecordsAt → RecordsAt → ℕ → ℕ → Type 0
SameWithin zero ones others at place = ⊥
SameWithin (suc depth) ones others at place = BothAlike (SameWithin depth ones others) (branch_of (ones at)) (branch_of (others place))

-- the tries under two roots have one shape; without a root there is none
abbrev pub HaveSameShape : RecordsAt → RecordsAt → Option Address → Option Address → Type 0
HaveSameShape ones others None None = Unit {0}
HaveSameShape ones others None (Some place) = ⊥
HaveSameShape ones others (Some at) None = ⊥
HaveSameShape ones others (Some at) (Some place) = SameWithin (suc (number_of at)) ones others (number_of at) (number_of place)
