use Rattle.std.proofs.Common.{◌≡◌, ◌∙◌, arith}
use Rattle.std.proofs.Math.ListN.{length-set}
use Rattle.xod_block.specs.Reading.{links_in}
use Rattle.xod_root.proofs.Listed.{more-links, from-record}
use Rattle.xod_root.proofs.roots.RootList.from_links.Goals as goal

pub loop-index-preserved : goal.loop-index-preserved
loop-index-preserved c = (length-set c.loop-index.roots c.loop-index.index c.link_at.result ∙ c.loop-index.invariant.0, more-links c.loop-index.index c.loop-index.roots (links_in c.args.links.now) c.link_at.result (omega (arith, c.link_count-count.ensures.count, c.requires.few, c.loop-index.invariant.0)) c.loop-index.invariant.1 c.link_at.ensures)

pub invariant_of-result : goal.invariant_of-result
invariant_of-result c =
    let end : c.loop-index.index ≡ c.link_count-count.result = omega arith in
    record {
      few = omega (arith, c.link_count-count.ensures.count, c.requires.few);
      sorted = (from-record c.link_count-count.result c.loop-index.roots (links_in c.args.links.now) c.link_count-count.ensures.count (rw end at c.loop-index.invariant.1) c.requires.rising).sorted;
    }

pub returns : goal.returns
returns c =
    let end : c.loop-index.index ≡ c.link_count-count.result = omega arith in
    (from-record c.link_count-count.result c.loop-index.roots (links_in c.args.links.now) c.link_count-count.ensures.count (rw end at c.loop-index.invariant.1) c.requires.rising).is
