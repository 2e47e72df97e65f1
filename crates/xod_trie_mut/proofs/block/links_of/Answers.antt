use Rattle.xod_trie_mut.proofs.SavingRecords.{fits-more, link-here, links-more}
use Rattle.xod_trie_mut.proofs.block.links_of.Goals as goal

pub loop-index-preserved : goal.loop-index-preserved
loop-index-preserved c =
    let cs = c.args.children.now in
    let i = c.loop-index.index in
    let get = link-here cs i c.index-children-index.result c.index-children-index-in-loop-index.result c.in-Saved.at c.loop-index-test.true c.in-Saved.ensures.is in
    record {
      raw = links-more cs i _ c.loop-index.raw c.push_link.new.raw get c.loop-index.invariant.raw c.in_ok-push_link.ensures.put;
      fits = fits-more cs i _ get c.loop-index.invariant.fits c.in_ok-push_link.ensures.fits;
    }
