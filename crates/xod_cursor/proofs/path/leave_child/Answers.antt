use Rattle.xod_cursor.proofs.Paths.{leaves-child, leaves-standing}
use Rattle.xod_cursor.proofs.path.leave_child.Goals as goal

pub returns-clause-entries : goal.returns-clause-entries
returns-clause-entries c records rung child last next =
    leaves-child records c.args.path.now.items c.pop.new.self.items c.put_reserved.new.path.items c.in-Some.rung c.behind_child.result c.in-Some.ensures.items c.put_reserved.ensures.items rung child last (c.behind_child.ensures.entries records child) next

pub returns-clause-stands : goal.returns-clause-stands
returns-clause-stands c records root on =
    leaves-standing records c.args.path.now.items c.pop.new.self.items c.put_reserved.new.path.items c.in-Some.rung c.behind_child.result c.in-Some.ensures.items c.put_reserved.ensures.items root (c.behind_child.ensures.stands records root) on
