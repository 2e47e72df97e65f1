use Rattle.xod_trie.proofs.CallerLemmas.{take_one_more}
use Rattle.xod_block.specs.Reading.{links_in}
use Rattle.xod_recover.proofs.enter.links_of.Goals as goal

pub loop-index-preserved : goal.loop-index-preserved
loop-index-preserved c = let h = take_one_more (links_in c.args.bytes.now) c.loop-index.index c.link_at.result c.link_at.ensures in let i = c.loop-index.invariant in let p = c.in_ok-push.ensures in cc
