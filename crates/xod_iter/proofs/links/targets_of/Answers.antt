use Rattle.xod_base.specs.Evaluation.{targets_of}
use Rattle.xod_tables.specs.Tables.{links_tree}
use Rattle.xod_iter.proofs.Such.{reads_such}
use Rattle.xod_iter.proofs.links.targets_of.Goals as goal

pub returns-clause-reads : goal.returns-clause-reads
returns-clause-reads g c = λ name. reads_such links_tree (λ rows. targets_of rows name c.args.source) (λ rows are. are.linked)
    (λ rows are such. (c.links_of_rows_are_read.ensures rows are.sound).targets c.args.source name c.args.link c.id_is_short.ensures such) c.targets_of.ensures.reads
