use Rattle.std.proofs.Common.{ℕ, refl, ap, ◌∙◌}
use Rattle.xod_overlay.specs.Marks.{TouchMap, touched, touching}
use Rattle.xod_overlay.specs.Restoring.{undone}
use Rattle.xod_overlay.proofs.Taken.{undone-nil, all_touching-more}
use Rattle.xod_overlay.proofs.overlay.Overlay.write_all.Goals as goal

pub loop-write-init : goal.loop-write-init
loop-write-init c = record {
  can_next = tt;
  is_finite = tt;
  written = refl;
  kept = ap (undone (touched c.args.self.now)) c.new-made.ensures.items ∙ undone-nil (touched c.args.self.now);
}

pub loop-write-preserved : goal.loop-write-preserved
loop-write-preserved c =
    let write = c.in-Some.write in
    let made = c.in_default.ensures {u = tt} in
    record {
      can_next = tt;
      is_finite = tt;
      written =
          made.touches
          ∙ ap (λ (f : ℕ → TouchMap). touching f write.tree write.key write.value) c.loop-write.invariant.written
          ∙ all_touching-more (touched c.args.self.now) c.loop-write.yielded write;
      kept = made.undone ∙ c.loop-write.invariant.kept;
    }
