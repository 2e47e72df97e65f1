use Rattle.std.proofs.Common.{◌≡◌, ◌∙◌, sym}
use Rattle.xod_cursor.proofs.Damaging.{child-reached, no_record-damaged, not_below-damaged}
use Rattle.xod_cursor.proofs.down.read_child.Goals as goal

pub returns-then-not-is_below-clause-damaged_only_where_bytes_are : goal.returns-then-not-is_below-clause-damaged_only_where_bytes_are
returns-then-not-is_below-clause-damaged_only_where_bytes_are g c told root reached names place e =
    let same : c.place_of.result ≡ place = cc e in
    not_below-damaged _ root c.args.parent c.args.child reached names place (λ lt. let t = c.is_below.ensures.1 lt in absurd cc) (sym same ∙ c.place_of.ensures)

pub returns-clause-damaged_only_where_bytes_are : goal.returns-clause-damaged_only_where_bytes_are
returns-clause-damaged_only_where_bytes_are g c told root reached names place e =
    no_record-damaged _ root c.args.child place (child-reached _ root c.args.parent c.args.child reached names) (c.read_record.ensures.damaged_only_without_a_record told place e) (c.read_record.ensures.damaged_names_this_place place e)
