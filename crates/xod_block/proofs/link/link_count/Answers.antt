use Rattle.std.proofs.Common.{◌/◌, length, sym}
use Rattle.xod_block.proofs.Links.{length-first_links}
use Rattle.xod_block.proofs.link.link_count.Goals as goal

pub returns-clause-count : goal.returns-clause-count
returns-clause-count c = sym (length-first_links (length c.args.links.now / 13) c.args.links.now)
