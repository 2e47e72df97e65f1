use Rattle.std.proofs.Common.{◌≡◌, ◌+◌, ◌/◌, ◌%◌, ◌^◌, ◌≤◌, ◌<◌, ◌∷◌, [], ◌++◌, ◌∙◌, ℕ, length, decimal, ap, sym, arith, append_assoc, length-append}
use Rattle.std.proofs.lemmas.Fmt.{decimal_digit, decimal_step}
use Rattle.xod_print.proofs.step.+push_number.Goals as goal

-- a number of two digits or more is one digit longer than its tenth
longer : (n : ℕ) → 10 ≤ n → n < 2 ^ 64 → length (decimal n) ≡ length (decimal (n / 10)) + 1
longer n ten small = ap length (decimal_step n ten small) ∙ length-append (decimal (n / 10)) ((48 + n % 10) ∷ [])

pub push_number-requires : goal.push_number-requires
push_number-requires t c = omega (arith, longer c.args.number (omega arith) (omega arith))

pub push_reserved-requires : goal.push_reserved-requires
push_reserved-requires t c = omega (arith, longer c.args.number (omega arith) (omega arith))

pub push_reserved-requires-else-number-ge10 : goal.push_reserved-requires-else-number-ge10
push_reserved-requires-else-number-ge10 t c = omega (arith, ap length (decimal_digit c.args.number (omega arith)))

pub returns-then-number-ge10-clause-printed : goal.returns-then-number-ge10-clause-printed
returns-then-number-ge10-clause-printed t c =
    c.push_reserved.ensures.items ∙ rw (c.push_number.ensures.printed, append_assoc) (ap (λ ds. c.args.out.now.items ++ ds) (sym (decimal_step c.args.number (omega arith) (omega arith))))

pub returns-then-number-ge10-clause-length : goal.returns-then-number-ge10-clause-length
returns-then-number-ge10-clause-length t c = omega (arith, longer c.args.number (omega arith) (omega arith))

pub returns-else-number-ge10-clause-printed : goal.returns-else-number-ge10-clause-printed
returns-else-number-ge10-clause-printed t c = c.push_reserved-else-number-ge10.ensures.items ∙ ap (λ ds. c.args.out.now.items ++ ds) (sym (decimal_digit c.args.number (omega arith)))

pub returns-else-number-ge10-clause-length : goal.returns-else-number-ge10-clause-length
returns-else-number-ge10-clause-length t c = omega (arith, ap length (decimal_digit c.args.number (omega arith)))
