use Rattle.std.proofs.Common.{Some, refl, inl}
use Rattle.xod_log.proofs.CallerLemmas.{rested}
use Rattle.xod_recover.specs.Images.{Stores}
use Rattle.xod_env.specs.Envs.{newest_stored}
use Rattle.xod_env.proofs.env.Env.flush.Goals as goal

pub returns-then-is_empty-clause-crash : goal.returns-then-is_empty-clause-crash
returns-then-is_empty-clause-crash g c told whole steady =
    let was = c.args.self.now in
    rested (g.V.Volume.moment was.volume) (g.V.Volume.may_leave was.volume) (Stores (Some (newest_stored was.log.file (g.V.Volume.files was.volume) was.roots was.commit))) (λ left is. inl refl)

pub returns-then-base-self-clause-crash : goal.returns-then-base-self-clause-crash
returns-then-base-self-clause-crash g c told whole steady =
    let was = c.args.self.now in
    rested (g.V.Volume.moment was.volume) (g.V.Volume.may_leave was.volume) (Stores (Some (newest_stored was.log.file (g.V.Volume.files was.volume) was.roots was.commit))) (λ left is. inl refl)

pub returns-then-self-2-clause-crash : goal.returns-then-self-2-clause-crash
returns-then-self-2-clause-crash g c told whole steady =
    let was = c.args.self.now in
    rested (g.V.Volume.moment was.volume) (g.V.Volume.may_leave was.volume) (Stores (Some (newest_stored was.log.file (g.V.Volume.files was.volume) was.roots was.commit))) (λ left is. inl refl)
