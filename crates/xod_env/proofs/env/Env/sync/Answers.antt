use Rattle.std.proofs.Common.{rules, is_ok, IsTrue, sym, subst, ◌∙◌}
use Rattle.xod_log.specs.declared.log.Log.{Log}
use Rattle.xod_env.specs.Envs.{ArePlaced}
use Rattle.xod_env.proofs.Lasting.{moved_last}
use Rattle.xod_env.proofs.Placing.{placed_answered}
use Rattle.xod_env.proofs.Sealed.{either-answered, either-file}
use Rattle.xod_env.proofs.env.Env.sync.Goals as goal

pub invariant_of-self : goal.invariant_of-self
invariant_of-self g c =
    let was = c.args.self.now in
    record {
      opened = λ whole told1.
          let told : IsTrue (g.V.Volume.tells was.volume) = rw c.seal_newest.ensures.stays.tells at told1 in
          c.seal_newest.ensures.at told was.roots was.commit (was.opened whole told) (λ bad. search rules);
      counted = λ told1.
          let told : IsTrue (g.V.Volume.tells was.volume) = rw c.seal_newest.ensures.stays.tells at told1 in
          was.counted told ∙ sym (c.seal_newest.ensures.count told);
      placed = subst (λ (log : Log). ArePlaced log was.roots) (sym c.seal_newest.ensures.log) (placed_answered (is_ok c.seal_newest.result) was.log was.roots was.placed);
      last = λ told1 is.
          let told : IsTrue (g.V.Volume.tells was.volume) = rw c.seal_newest.ensures.stays.tells at told1 in
          moved_last was.log c.seal_newest.new.log (g.V.Volume.files c.seal_newest.new.volume)
          (either-file was.log c.seal_newest.new.log (either-answered (is_ok c.seal_newest.result) was.log c.seal_newest.new.log c.seal_newest.ensures.log)) (c.seal_newest.ensures.body_stays told) is;
    }

pub invariant_of-self-in-Err-Memory : goal.invariant_of-self-in-Err-Memory
invariant_of-self-in-Err-Memory g c =
    let was = c.args.self.now in
    record {
      opened = λ whole told1.
          let told : IsTrue (g.V.Volume.tells was.volume) = rw c.seal_newest.ensures.stays.tells at told1 in
          c.seal_newest.ensures.at told was.roots was.commit (was.opened whole told) (λ bad. search rules);
      counted = λ told1.
          let told : IsTrue (g.V.Volume.tells was.volume) = rw c.seal_newest.ensures.stays.tells at told1 in
          was.counted told ∙ sym (c.seal_newest.ensures.count told);
      placed = subst (λ (log : Log). ArePlaced log was.roots) (sym c.seal_newest.ensures.log) (placed_answered (is_ok c.seal_newest.result) was.log was.roots was.placed);
      last = λ told1 is.
          let told : IsTrue (g.V.Volume.tells was.volume) = rw c.seal_newest.ensures.stays.tells at told1 in
          moved_last was.log c.seal_newest.new.log (g.V.Volume.files c.seal_newest.new.volume)
          (either-file was.log c.seal_newest.new.log (either-answered (is_ok c.seal_newest.result) was.log c.seal_newest.new.log c.seal_newest.ensures.log)) (c.seal_newest.ensures.body_stays told) is;
    }

pub invariant_of-self-in-Err-Device : goal.invariant_of-self-in-Err-Device
invariant_of-self-in-Err-Device g c =
    let was = c.args.self.now in
    record {
      opened = λ whole told1. absurd cc;
      counted = λ told1.
          let told : IsTrue (g.V.Volume.tells was.volume) = rw c.seal_newest.ensures.stays.tells at told1 in
          was.counted told ∙ sym (c.seal_newest.ensures.count told);
      placed = subst (λ (log : Log). ArePlaced log was.roots) (sym c.seal_newest.ensures.log) (placed_answered (is_ok c.seal_newest.result) was.log was.roots was.placed);
      last = λ told1 is.
          let told : IsTrue (g.V.Volume.tells was.volume) = rw c.seal_newest.ensures.stays.tells at told1 in
          moved_last was.log c.seal_newest.new.log (g.V.Volume.files c.seal_newest.new.volume)
          (either-file was.log c.seal_newest.new.log (either-answered (is_ok c.seal_newest.result) was.log c.seal_newest.new.log c.seal_newest.ensures.log)) (c.seal_newest.ensures.body_stays told) is;
    }

pub returns-in-Ok-clause-crash : goal.returns-in-Ok-clause-crash
returns-in-Ok-clause-crash g c told whole steady =
    let was = c.args.self.now in
    c.seal_newest.ensures.crash told was.roots was.commit (was.opened whole told) was.placed steady

pub returns-in-Err-Device-clause-crash : goal.returns-in-Err-Device-clause-crash
returns-in-Err-Device-clause-crash g c told whole steady =
    let was = c.args.self.now in
    c.seal_newest.ensures.crash told was.roots was.commit (was.opened whole told) was.placed steady

pub returns-in-Err-Memory-clause-crash : goal.returns-in-Err-Memory-clause-crash
returns-in-Err-Memory-clause-crash g c told whole steady =
    let was = c.args.self.now in
    c.seal_newest.ensures.crash told was.roots was.commit (was.opened whole told) was.placed steady

pub returns-in-Ok-clause-steady : goal.returns-in-Ok-clause-steady
returns-in-Ok-clause-steady g c told steady no_device =
    let was = c.args.self.now in
    c.seal_newest.ensures.steady told was.roots was.commit (was.opened (search rules) told) steady (λ bad. search rules)

pub returns-in-Err-Memory-clause-steady : goal.returns-in-Err-Memory-clause-steady
returns-in-Err-Memory-clause-steady g c told steady no_device =
    let was = c.args.self.now in
    c.seal_newest.ensures.steady told was.roots was.commit (was.opened (search rules) told) steady (λ bad. search rules)

pub returns-in-Ok-clause-settled : goal.returns-in-Ok-clause-settled
returns-in-Ok-clause-settled g c told steady =
    let was = c.args.self.now in
    let settled = c.seal_newest.ensures.settled told was.roots was.commit (was.opened (search rules) told) was.placed steady in
    search rules

pub returns-in-Ok-clause-stores : goal.returns-in-Ok-clause-stores
returns-in-Ok-clause-stores g c told =
    let was = c.args.self.now in
    let stores = c.seal_newest.ensures.stores told was.roots was.commit (was.opened (search rules) told) was.placed in
    search rules
