use Rattle.std.proofs.Common.{arith, ◌≤◌, length, decimal}
use Rattle.std.proofs.lemmas.Fmt.{length-decimal-le}
use Rattle.xod_print.proofs.step.push_decimal.Goals as goal

pub push_number-requires : goal.push_number-requires
push_number-requires c =
    let short : length (decimal c.args.number) ≤ 20 = length-decimal-le 20 c.args.number (omega arith) (omega arith) (omega arith) in
    omega arith

pub returns : goal.returns
returns c =
    let short : length (decimal c.args.number) ≤ 20 = length-decimal-le 20 c.args.number (omega arith) (omega arith) (omega arith) in
    record { printed = c.push_number.ensures.printed; length = omega arith; room = omega arith }
