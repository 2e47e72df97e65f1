use Rattle.xod_cursor.proofs.Starting.{begins-own, begins-below}
use Rattle.xod_cursor.proofs.cursor.cursor_at.Goals as goal

pub returns-in_ok-put-in-Own-clause-coming : goal.returns-in_ok-put-in-Own-clause-coming
returns-in_ok-put-in-Own-clause-coming c records =
    begins-own records c.args.path.items c.put.new.path.items c.args.whole c.in-Own.pair c.in-Own.left c.in-Own.is c.in_ok-put-in-Own.ensures

pub returns-in_ok-put-in-Below-clause-coming : goal.returns-in_ok-put-in-Below-clause-coming
returns-in_ok-put-in-Below-clause-coming c records =
    begins-below records c.args.path.items c.put-in-Below.new.path.items c.args.whole c.in-Below.rung c.in-Below.is c.in_ok-put-in-Below.ensures
