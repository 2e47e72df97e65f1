use Rattle.std.proofs.Common.{IsTrue, ◌∙◌, ap, sym}
use Rattle.std.specs.FinMap.{contains_key}
use Rattle.xod_log.specs.Ends.{body_of}
use Rattle.xod_log.specs.Standing.{last_file}
use Rattle.xod_volume.specs.Files.{Files}
use Rattle.xod_env.specs.Envs.{log_file_count}
use Rattle.xod_env.proofs.Resting.{at_over}
use Rattle.xod_env.proofs.env.Env.pin.Goals as goal

pub invariant_of-self : goal.invariant_of-self
invariant_of-self g c =
    let was = c.args.self.now in
    let keeps = c.lend_bodies.ensures.keeps in
    record {
      opened = λ whole told1.
          let told : IsTrue (g.V.Volume.tells was.volume) = rw keeps.tells_same at told1 in
          at_over was.log (g.V.Volume.files was.volume) (g.V.Volume.files c.lend_bodies.new.volume)
          (g.V.Volume.moment was.volume) (g.V.Volume.moment c.lend_bodies.new.volume) (g.V.Volume.may_leave was.volume) (g.V.Volume.may_leave c.lend_bodies.new.volume)
          (keeps.same told) (keeps.rests told) was.roots was.commit (was.opened whole told);
      counted = λ told1.
          let told : IsTrue (g.V.Volume.tells was.volume) = rw keeps.tells_same at told1 in
          was.counted told ∙ ap log_file_count (sym (keeps.same told));
      placed = was.placed;
      last = λ told1 is.
          let told : IsTrue (g.V.Volume.tells was.volume) = rw keeps.tells_same at told1 in
          ap (λ (f : Files). contains_key f (body_of last_file)) (keeps.same told) ∙ was.last told is;
    }
