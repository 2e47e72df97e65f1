use Rattle.std.proofs.Common.{ap, refl, sym}
use Rattle.std.specs.Prelude.{◌==◌, ◌^◌, ◌-◌}
use Rattle.xod_journal.specs.Standing.{Newest}
use Rattle.xod_model.proofs.PlainLemmas.{plain-newest}
use Rattle.xod_model.proofs.plain.PlainSpace.cannot_fail.Goals as goal

pub returns : goal.returns
returns c = record {
  tells = refl;
  faults = refl;
  made = refl;
  is_broken = refl;
  is_last = sym (ap (λ (n : Newest). n.commit == 2 ^ 64 - 1) (plain-newest _ _ _ _ _ _ _ _ c.args.self.now.kept));
}
