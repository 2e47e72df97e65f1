use Rattle.xod_trie_mut.proofs.LookLemmas.{few}
use Rattle.xod_trie_mut.proofs.looking.with_children.Goals as goal

pub returns-then-not-is_below-clause-few : goal.returns-then-not-is_below-clause-few
returns-then-not-is_below-clause-few c = let p = c.children-link-items.ensures.parts in few c.args.branch.now.children p.rising p.bytes

pub returns-then-is_err-clause-few : goal.returns-then-is_err-clause-few
returns-then-is_err-clause-few c = let p = c.children-link-items.ensures.parts in few c.args.branch.now.children p.rising p.bytes

pub returns-clause-few : goal.returns-clause-few
returns-clause-few c = let p = c.children-link-items.ensures.parts in few c.args.branch.now.children p.rising p.bytes
