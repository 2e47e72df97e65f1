use Rattle.std.proofs.Common.{◌∙◌}
use Rattle.std.specs.FinMap.{keys}
use Rattle.xod_base.specs.Evaluation.{has_link, is_link_of, targets_of}
use Rattle.xod_tables.specs.Tables.{links_tree}
use Rattle.xod_iter.proofs.Linking.{any_kept, read_any}
use Rattle.xod_iter.proofs.Such.{answers_such}
use Rattle.xod_iter.proofs.links.has_link.Goals as goal

pub returns-clause-reads : goal.returns-clause-reads
returns-clause-reads g c = λ name. answers_such links_tree (λ rows. has_link rows name c.args.source) (λ rows are. are.linked)
    (λ rows are such.
    read_any _ _ (targets_of rows name c.args.source) ((c.links_of_rows_are_read.ensures rows are.sound).targets c.args.source name c.args.link c.id_is_short.ensures such)
    ∙ any_kept (is_link_of c.args.source name) (λ link. link.1.1) (keys rows.joined))
    c.has_link.ensures.answers
