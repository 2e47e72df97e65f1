use Rattle.std.proofs.Common.{arith}
use Rattle.std.specs.Prelude.{◌==◌}
use Rattle.xod_spaces.specs.Views.{faulty_view}
use Rattle.xod_spaces.proofs.tests.seated.Goals as goal

pub returns-clause-both : goal.returns-clause-both
returns-clause-both c =
    let made = c.in_ok-new.field-0 in
    let space = faulty_view made.first made.journal.items made.sessions made.outside in
    let empty = c.in_ok-new.ensures.journal in
    let room = c.in_ok-new.ensures.sessions in
    let one = c.in_ok-new-2.ensures.actor in
    let two = c.in_ok-new-3.ensures.actor in
    record {
      mine_plays = c.in_ok-new-2.ensures.plays space empty (omega arith) (omega arith);
      other_plays = c.in_ok-new-3.ensures.plays space empty (omega arith) (omega arith);
      apart = λ i. one i == two i;
      beside = λ i. two i == one i;
    }
