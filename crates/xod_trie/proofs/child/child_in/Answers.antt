use Rattle.std.proofs.Common.{sym, ◌∙◌}
use Rattle.xod_block.specs.Reading.{links_in}
use Rattle.xod_trie.proofs.Keys.{child-hit, child-miss}
use Rattle.xod_trie.proofs.child.child_in.Goals as goal

pub returns-then-b-byte : goal.returns-then-b-byte
returns-then-b-byte c = sym (child-hit c.args.byte (links_in c.args.links.now) c.loop-index.index c.link_at-b.result c.link_at-b.ensures c.if-b-byte.true) ∙ c.loop-index.invariant

pub loop-index-preserved : goal.loop-index-preserved
loop-index-preserved c = sym (child-miss c.args.byte (links_in c.args.links.now) c.loop-index.index c.link_at-b.result c.link_at-b.ensures c.if-b-byte.false) ∙ c.loop-index.invariant
