use Rattle.std.proofs.Common.{List, Option, Some, ◌∙◌, ap}
use Rattle.xod_base.specs.Views.{Entry}
use Rattle.xod_block.specs.Maps.{joined, under}
use Rattle.xod_cursor.specs.Cursors.{path_entries}
use Rattle.xod_cursor.proofs.Paths.{puts-entries}
use Rattle.xod_cursor.proofs.cursor.put_onward.Goals as goal

pub returns-clause-entries : goal.returns-clause-entries
returns-clause-entries c records front others later whole is before =
    puts-entries records c.args.path.now.items c.put.new.path.items c.in_ok-left.left c.in_ok-put.ensures
    ∙ ap (λ (found : Option (List Entry)). joined found (path_entries records c.args.path.now.items)) (c.in_ok-left.ensures.entries records front others whole is)
    ∙ ap (joined (Some (under front others))) before
