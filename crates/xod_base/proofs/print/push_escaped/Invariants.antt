use Rattle.std.proofs.Common.{◌≡◌, ◌++◌, take}
use Rattle.std.specs.List.{flat_map}
use Rattle.xod_base.specs.QueryTexts.{escaped_byte}
use Rattle.xod_base.proofs.print.push_escaped.Given as goal

abbrev pub invariant-loop-byte : goal.invariant-loop-byte
invariant-loop-byte l = l.out ≡ l.initial.out ++ flat_map escaped_byte (take l.byte-index l.bytes)
