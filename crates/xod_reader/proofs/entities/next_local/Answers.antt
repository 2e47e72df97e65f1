use Rattle.xod_base.specs.Rows.{next_of}
use Rattle.xod_tables.specs.Tables.{next_tree}
use Rattle.xod_reader.proofs.Told.{reads_rows}
use Rattle.xod_reader.proofs.entities.next_local.Goals as goal

pub returns-clause-reads : goal.returns-clause-reads
returns-clause-reads g c = reads_rows next_tree (λ rows. next_of rows.nexts c.args.kind) (λ rows are. are.nexts)
    (λ told rows are. (c.entities_of_rows_are_read.ensures rows are.sound).next c.args.kind c.ranges.kind.fits) c.next_local.ensures.reads
