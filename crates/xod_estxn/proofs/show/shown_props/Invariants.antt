use Rattle.std.proofs.Common.{◌≡◌, map}
use Rattle.xod_estxn.proofs.show.shown_props.Given as goal

abbrev pub invariant-loop-value : goal.invariant-loop-value
invariant-loop-value l = record {
  can_next : (goal.iterator-loop-value).can_next l.value-iterator;
  is_finite : (goal.iterator-loop-value).is_finite l.value-iterator;
  made : l.props ≡ map (λ value. (value.name, value.value)) l.yielded;
}
