use Rattle.std.specs.List.{slice_get}
use Rattle.xod_tables.specs.LookUps.{names_of}
use Rattle.xod_tables.specs.Tables.{names_tree}
use Rattle.xod_reader.proofs.Told.{reads_rows}
use Rattle.xod_reader.proofs.slot.name_of.Goals as goal

pub returns-clause-reads : goal.returns-clause-reads
returns-clause-reads g c = reads_rows names_tree (λ rows. slice_get (names_of rows c.args.list) c.args.number) (λ rows are. are.names)
    (λ told rows are. (c.names_of_rows_are_read.ensures rows are.sound).name c.args.list c.args.number c.ranges.number.fits) c.name_of.ensures.reads
