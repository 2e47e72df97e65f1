use Rattle.std.proofs.Common.{◌+◌, ◌*◌, max}
use Rattle.xod_base.specs.declared.query.Query.{size-Query}
use Rattle.xod_handle.proofs.normal.+normal_form.Given as goal

abbrev pub decreases-normal_printed : goal.decreases-normal_printed
decreases-normal_printed l = 4 * size-Query l.query.now + 1

abbrev pub decreases-push_parts : goal.decreases-push_parts
decreases-push_parts l = 4 * size-Query l.query.now + 2

abbrev pub decreases-put_join : goal.decreases-put_join
decreases-put_join l = 4 * max (size-Query l.left.now) (size-Query l.right.now) + 3

abbrev pub decreases-put_normal : goal.decreases-put_normal
decreases-put_normal l = 4 * size-Query l.query.now
