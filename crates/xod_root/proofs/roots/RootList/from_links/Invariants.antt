use Rattle.std.proofs.Common.{◌≡◌, length, take}
use Rattle.xod_block.specs.Reading.{links_in}
use Rattle.xod_root.proofs.roots.RootList.from_links.Given as goal

abbrev pub invariant-loop-index : goal.invariant-loop-index
invariant-loop-index l = (length l.roots ≡ 32) × (take l.index l.roots ≡ take l.index (links_in l.links))
