use Rattle.std.proofs.Common.{◌≡◌, drop}
use Rattle.xod_trie.specs.Branches.{child_of}
use Rattle.xod_trie.proofs.child.child_of.Given as goal

abbrev pub invariant-loop-b : goal.invariant-loop-b
invariant-loop-b l = child_of l.byte (drop l.b-index l.children) ≡ child_of l.byte l.children
