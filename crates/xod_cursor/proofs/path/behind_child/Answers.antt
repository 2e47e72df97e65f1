use Rattle.std.proofs.Common.{◌≤◌, ◌+◌, length, ◌∙◌, ap, arith}
use Rattle.xod_block.specs.Reading.{links_in}
use Rattle.xod_block.specs.Maps.{joined}
use Rattle.xod_cursor.specs.Cursors.{entries_at}
use Rattle.xod_cursor.proofs.Rungs.{rung_entries-next, children_entries-past}
use Rattle.xod_cursor.proofs.path.behind_child.Goals as goal

pub returns-then-place-count-clause-entries : goal.returns-then-place-count-clause-entries
returns-then-place-count-clause-entries c records child next =
    let rung = c.args.rung in
    let past : length (links_in rung.links) ≤ rung.place + 1 = (let count = c.link_count-count.ensures.count in let same = ap (λ bytes. length (links_in bytes)) c.as_slice.ensures in let ge = c.if-place-count.true in omega (arith, count, same, ge)) in
    rung_entries-next records rung child next ∙ ap (joined (entries_at records _ child.1)) (children_entries-past records rung.at rung.front (links_in rung.links) (rung.place + 1) past)

pub returns-clause-entries : goal.returns-clause-entries
returns-clause-entries c records child next = rung_entries-next records c.args.rung child next
