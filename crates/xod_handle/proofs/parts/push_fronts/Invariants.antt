use Rattle.std.proofs.Common.{◌≡◌, ◌++◌, take}
use Rattle.std.specs.List.{flat_map}
use Rattle.xod_handle.specs.Forms.{front_text}
use Rattle.xod_handle.proofs.parts.push_fronts.Given as goal

abbrev pub invariant-loop-part : goal.invariant-loop-part
invariant-loop-part l = l.out ≡ l.initial.out ++ flat_map (front_text l.join) (take l.part-index l.parts)
