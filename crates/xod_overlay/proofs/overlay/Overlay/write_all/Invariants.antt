use Rattle.std.proofs.Common.{◌≡◌}
use Rattle.xod_overlay.specs.Marks.{all_touching, touched}
use Rattle.xod_overlay.specs.Restoring.{undone}
use Rattle.xod_overlay.proofs.overlay.Overlay.write_all.Given as goal

abbrev pub invariant-loop-write : goal.invariant-loop-write
invariant-loop-write l = record {
  can_next : (goal.iterator-loop-write).can_next l.write-iterator;
  is_finite : (goal.iterator-loop-write).is_finite l.write-iterator;
  written : touched l.self ≡ all_touching (touched l.initial.self) l.yielded;
  kept : undone (touched l.self) l.made.items ≡ touched l.initial.self;
}
