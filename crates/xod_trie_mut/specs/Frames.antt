-- Branches of which some children have their new addresses.
use Rattle.std.specs.Prelude.{◌≡◌, ℕ, Bool, List, [], ◌∷◌, ◌++◌, length, take, Option, Some, None, slice_get}
use Rattle.std.specs.Option.{option_and_then}
use Rattle.xod_block.specs.declared.address.Address.{Address}
use Rattle.xod_block.specs.Records.{Link}
use Rattle.xod_trie.specs.declared.branch.Branch.{Branch}
use Rattle.xod_trie_mut.specs.declared.frames.Frame.{Frame}
use Rattle.xod_trie_mut.specs.Keeps.{AreNamed, CanPut, bytes_of}

-- the child that comes next
abbrev pub next_of : List Branch → Frame → Option Link
next_of own frame = option_and_then (λ branch. slice_get branch.children (length frame.list)) (slice_get own frame.index)

-- its byte, where there is one
abbrev pub byte_in : Option Link → ℕ
byte_in None = 0
byte_in (Some child) = child.0

-- a frame with one child more
abbrev pub with_child : Frame → ℕ → Address → Frame
with_child frame byte at = record frame { list = frame.list ++ (byte, at) ∷ [] }

-- a branch of the list, and its first children where they are now
pub record IsFrame (names : Address → Bool) (own : List Branch) (frame : Frame) : Type 0 where
  pub branch : Branch
  pub is : slice_get own frame.index ≡ Some branch
  pub bytes : bytes_of frame.list ≡ bytes_of (take (length frame.list) branch.children)
  pub named : AreNamed names frame.list

-- all of them are there
pub record IsDone (names : Address → Bool) (own : List Branch) (frame : Frame) : Type 0 where
  pub branch : Branch
  pub is : slice_get own frame.index ≡ Some branch
  pub can : CanPut names branch frame.list
