use Rattle.std.specs.Prelude.{is_some}
use Rattle.std.specs.FinMap.{get}
use Rattle.xod_tables.specs.Tables.{entities_tree}
use Rattle.xod_reader.proofs.Told.{answers_rows}
use Rattle.xod_reader.proofs.entities.has.Goals as goal

pub returns-clause-reads : goal.returns-clause-reads
returns-clause-reads g c = answers_rows entities_tree (λ rows. is_some (get rows.ids c.args.id)) (λ rows are. are.entities)
    (λ told rows are. (c.entities_of_rows_are_read.ensures rows are.sound).has c.args.id c.id_is_short.ensures) c.has.ensures.answers
