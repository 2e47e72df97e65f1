use Rattle.std.proofs.Common.{List, ap, ◌∙◌}
use Rattle.std.specs.FinMap.{entries}
use Rattle.xod_block.specs.Records.{Link}
use Rattle.xod_recover.specs.Check.{Newest}
use Rattle.xod_recover.proofs.Rooting.{entries-empty}
use Rattle.xod_recover.proofs.newest.nothing.Goals as goal

empty_store : List Link → Newest
empty_store trees = record { file = 0; marks = 0; end = 0; back = 0; commit = 0; trees = trees }

pub returns-clause-newest : goal.returns-clause-newest
unfolding empty_store
returns-clause-newest c = ap empty_store (ap entries c.new.ensures ∙ entries-empty)
