use Rattle.std.proofs.Common.{arith}
use Rattle.xod_words.proofs.NumberLemmas.{number_past}
use Rattle.xod_words.proofs.numbers.number_of.Goals as goal

pub returns-in_err-number : goal.returns-in_err-number
returns-in_err-number c =
    let past = number_past c.loop-digit.number c.loop-digit.digit-index c.args.digits.now (omega arith) in
    grind (arith, past)
