use Rattle.xod_trie_mut.proofs.LinkLemmas.{set-parts}
use Rattle.xod_trie_mut.proofs.own_branch.OwnBranch.relinked.Goals as goal

pub invariant_of-result : goal.invariant_of-result
invariant_of-result c = set-parts c.self.inside.key c.self.inside.value c.self.inside.children c.in_ok-children.children c.args.byte c.args.at c.self.invariant c.ranges.byte.fits c.in_ok-children.ensures
