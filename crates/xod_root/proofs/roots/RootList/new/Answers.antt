use Rattle.xod_root.proofs.Listed.{no_links}
use Rattle.xod_root.proofs.roots.RootList.new.Goals as goal

pub returns : goal.returns
returns c = no_links
