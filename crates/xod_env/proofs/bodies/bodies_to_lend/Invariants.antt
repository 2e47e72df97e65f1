use Rattle.std.proofs.Common.{◌≡◌, ◌++◌, drop}
use Rattle.std.specs.List.{filter}
use Rattle.xod_env.specs.Bodies.{is_body_up_to}
use Rattle.xod_env.proofs.bodies.bodies_to_lend.Given as goal

abbrev pub invariant-loop-number : goal.invariant-loop-number
invariant-loop-number l =
    l.bodies.items ++ filter (is_body_up_to l.current) (drop l.number-index l.numbers) ≡ filter (is_body_up_to l.current) l.numbers
