use Rattle.std.proofs.Common.{◌≡◌, ◌++◌, take}
use Rattle.std.specs.List.{flat_map}
use Rattle.xod_print.specs.Texts.{prop_text}
use Rattle.xod_print.proofs.answer.push_props.Given as goal

abbrev pub invariant-loop-prop : goal.invariant-loop-prop
invariant-loop-prop l = l.out ≡ l.initial.out ++ flat_map prop_text (take l.prop-index l.props)
