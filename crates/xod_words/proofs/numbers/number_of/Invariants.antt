use Rattle.std.proofs.Common.{◌≡◌, ◌<◌, ◌^◌, drop}
use Rattle.xod_words.specs.Numbers.{number_after}
use Rattle.xod_words.proofs.numbers.number_of.Given as goal

abbrev pub invariant-loop-digit : goal.invariant-loop-digit
invariant-loop-digit l = (number_after l.number (drop l.digit-index l.digits) ≡ number_after 0 l.digits) × (l.number < 2 ^ 64)
