use Rattle.xod_reader.proofs.Fronts.{all_high, all_low, any_with}
use Rattle.xod_reader.proofs.Told.{reads_as}
use Rattle.xod_reader.proofs.props.ids_having.Goals as goal

pub ids_between-requires-clause-low : goal.ids_between-requires-clause-low
ids_between-requires-clause-low g c = all_low

pub ids_between-requires-clause-high : goal.ids_between-requires-clause-high
ids_between-requires-clause-high g c = all_high

pub returns-clause-reads : goal.returns-clause-reads
returns-clause-reads g c = reads_as (λ told rows are. any_with rows c.args.kind.now c.args.prop.now) c.ids_between.ensures.reads
