use Rattle.std.proofs.Common.{◌≡◌, drop}
use Rattle.xod_trie.specs.Branches.{child_of}
use Rattle.xod_trie_mut.proofs.own_branch.OwnBranch.child_under.Given as goal

abbrev pub invariant-loop-b : goal.invariant-loop-b
invariant-loop-b l = child_of l.byte (drop l.b-index l.b-items) ≡ child_of l.byte l.self.children
