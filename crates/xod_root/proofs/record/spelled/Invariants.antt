use Rattle.std.proofs.Common.{◌≡◌, take}
use Rattle.std.specs.List.{AllByRecursion}
use Rattle.xod_block.specs.Records.{FitsLink, links_bytes}
use Rattle.xod_root.proofs.record.spelled.Given as goal

abbrev pub invariant-loop-link : goal.invariant-loop-link
invariant-loop-link l = (l.bytes.items ≡ links_bytes (take l.link-index l.links)) × AllByRecursion FitsLink (take l.link-index l.links)
