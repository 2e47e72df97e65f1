use Rattle.std.proofs.Common.{rules, arith}
use Rattle.std.proofs.lemmas.Bool.Decides.{nat_tests}
use Rattle.xod_words.proofs.TextLemmas.{unescaped-plain}
use Rattle.xod_words.proofs.values.take_byte.Goals as goal

pub returns-in_ok-push-2 : goal.returns-in_ok-push-2
returns-in_ok-push-2 c rest =
    unescaped-plain c.args.text.now c.push-else-byte-eq92.new.self rest c.args.byte c.args.escaped (search rules)
    (grind (arith, nat_tests, c.requires)) (search rules) (c.in_ok-push-2.ensures {u = tt})
