use Rattle.std.proofs.Common.{◌∙◌, ap, sym}
use Rattle.xod_trie.specs.declared.branch.Branch.{Branch}
use Rattle.xod_trie_mut.proofs.LinkLemmas.{same-parts, bytes_in}
use Rattle.xod_trie_mut.proofs.own_branch.OwnBranch.with_children.Goals as goal

pub invariant_of-result : goal.invariant_of-result
invariant_of-result c = same-parts c.self.inside.key c.self.inside.value c.self.inside.children c.args.children c.self.invariant (c.requires ∙ ap (λ (b : Branch). bytes_in b.children) (sym c.self.view_is))
