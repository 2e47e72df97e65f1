use Rattle.std.proofs.Common.{List, ◌++◌, if◌then◌else◌, is_ok, ap, ◌∙◌}
use Rattle.std.specs.Option.{option_copied}
use Rattle.xod_overlay.specs.Marks.{all_touching, touched}
use Rattle.xod_overlay.specs.declared.write.Write.{Write}
use Rattle.xod_tables.specs.Writes.{value_writes}
use Rattle.xod_props.proofs.writing.change.Goals as goal

pub returns : goal.returns
returns c =
    c.write_all.ensures
    ∙ ap (λ (writes : List Write). if is_ok c.write_all.result then all_touching (touched c.args.own.now) writes else touched c.args.own.now)
    (c.in_ok-push_change.ensures ∙ ap (λ (list : List Write). list ++ value_writes c.args.id c.args.prop (option_copied c.args.old) (option_copied c.args.new)) c.new-writes.ensures)
