use Rattle.std.proofs.Common.{List, ◌∙◌, sym, ap, subst}
use Rattle.xod_cursor.specs.declared.rung.Rung.{Rung}
use Rattle.xod_cursor.specs.Cursors.{StandsOn, last_of, path_entries}
use Rattle.xod_cursor.proofs.Paths.{puts-nothing, puts-one, puts-entries, puts-standing, puts-last}
use Rattle.xod_cursor.proofs.path.move_down.Goals as goal

pub returns-in_default-clause-moves : goal.returns-in_default-clause-moves
returns-in_default-clause-moves c records rung child last next =
    let new = c.leave_child.new.path.items in
    record {
      later = path_entries records new;
      before = c.leave_child.ensures.entries records rung child last next;
      now = puts-entries records new new c.args.left (puts-nothing new c.args.left c.in_default.is);
    }

pub returns-in_default-clause-stands : goal.returns-in_default-clause-stands
returns-in_default-clause-stands c records root on stands = c.leave_child.ensures.stands records root on

pub returns-clause-moves : goal.returns-clause-moves
returns-clause-moves c records rung child last next =
    let path = c.leave_child-2.new.path.items in
    let new = c.push_reserved.new.self.items in
    record {
      later = path_entries records path;
      before = ap (path_entries records) (sym {A = List Rung} c.reserve.ensures.items) ∙ c.leave_child-2.ensures.entries records rung child (ap last_of c.reserve.ensures.items ∙ last) next;
      now = puts-entries records path new c.args.left (puts-one path new c.args.left c.in-Some.below c.in-Some.is c.push_reserved.ensures.items);
    }

pub returns-clause-last : goal.returns-clause-last
returns-clause-last c =
    let path = c.leave_child-2.new.path.items in
    let new = c.push_reserved.new.self.items in
    puts-last path new c.args.left (puts-one path new c.args.left c.in-Some.below c.in-Some.is c.push_reserved.ensures.items)

pub returns-clause-stands : goal.returns-clause-stands
returns-clause-stands c records root on stands =
    let path = c.leave_child-2.new.path.items in
    let new = c.push_reserved.new.self.items in
    puts-standing records path new c.args.left (puts-one path new c.args.left c.in-Some.below c.in-Some.is c.push_reserved.ensures.items) root (c.leave_child-2.ensures.stands records root (subst (StandsOn records root) (sym {A = List Rung} c.reserve.ensures.items) on)) stands
