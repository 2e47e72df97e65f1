use Rattle.std.proofs.Common.{◌≡◌, ◌++◌, map, take}
use Rattle.xod_base.specs.Ids.{id_of_number}
use Rattle.xod_print.specs.Texts.{ids_text}
use Rattle.xod_print.proofs.answer.push_ids.Given as goal

abbrev pub invariant-loop-number : goal.invariant-loop-number
invariant-loop-number l = l.out ≡ l.initial.out ++ ids_text (map id_of_number (take l.number-index l.number-items))
