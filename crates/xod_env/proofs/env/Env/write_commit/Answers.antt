use Rattle.std.proofs.Common.{rules, ◌≡◌, ◌<◌, ℕ, ◌+◌, ◌^◌, List, IsTrue, is_some, length, refl, sym, subst, ◌∙◌, ap}
use Rattle.xod_log.specs.declared.log.Log.{Log}
use Rattle.xod_log.specs.Standing.{appended_log, receiving_log}
use Rattle.xod_env.specs.Blocks.{IsNextBlock, trees_with}
use Rattle.xod_volume.specs.Files.{Content}
use Rattle.xod_env.specs.Envs.{ArePlaced, IsAt, env_trees}
use Rattle.xod_env.proofs.Lasting.{moved_last, stands_last}
use Rattle.xod_env.proofs.Placing.{placed_after, refused_file, refused_placed}
use Rattle.xod_env.proofs.env.Env.write_commit.Goals as goal

pub invariant_of-self : goal.invariant_of-self
invariant_of-self g c =
    let was = c.args.self.now in
    let built = c.args.built in
    let v1 = c.write_block.new.volume in
    let same : c.as_slice.result.now ≡ built.block = c.as_slice.ensures in
    let log : c.write_block.new.log ≡ appended_log (receiving_log was.log) (length c.as_slice.result.now) built.back = c.in-Ok.ensures.log in
    let at : IsTrue (g.V.Volume.tells was.volume) → IsAt c.write_block.new.log built.roots (was.commit + 1) (g.V.Volume.files v1) (g.V.Volume.may_leave v1 (g.V.Volume.moment v1)) = λ told.
    (c.in-Ok.ensures.writes told).at was.roots was.commit built.roots (was.commit + 1) (was.opened c.requires.whole told)
    (subst (λ (b : List ℕ). IsNextBlock was.log (g.V.Volume.files was.volume) b built.back built.roots (was.commit + 1)) (sym same) (c.requires.next told)) in
    record {
      opened = λ whole told1.
          let told : IsTrue (g.V.Volume.tells was.volume) = rw c.write_block.ensures.stays.tells at told1 in
          at told;
      counted = λ told1.
          let told : IsTrue (g.V.Volume.tells was.volume) = rw c.write_block.ensures.stays.tells at told1 in
          (c.write_block.ensures.writes told).count (was.counted told);
      placed =
          let now : c.write_block.new.log ≡ appended_log (receiving_log was.log) (length built.block) built.back = log ∙ ap (λ (b : List ℕ). appended_log (receiving_log was.log) (length b) built.back) same in
          subst (λ (l : Log). ArePlaced l built.roots) (sym now)
          (placed_after was.log built.roots (length built.block) built.back c.requires.room c.requires.placed.within was.placed.low was.placed.some
          (subst (λ (l : Log). l.end < 2 ^ 64) now c.in-Ok.ensures.fits) c.requires.placed.numbered c.requires.placed.below);
      last = λ told1 is.
          let told : IsTrue (g.V.Volume.tells was.volume) = rw c.write_block.ensures.stays.tells at told1 in
          stands_last c.write_block.new.log (g.V.Volume.files v1) (g.V.Volume.files v1) _ (at told).stands is;
    }

pub invariant_of-self-in-Err-Memory : goal.invariant_of-self-in-Err-Memory
invariant_of-self-in-Err-Memory g c =
    let was = c.args.self.now in
    record {
      opened = λ whole told1.
          let told : IsTrue (g.V.Volume.tells was.volume) = rw c.write_block.ensures.stays.tells at told1 in
          (c.write_block.ensures.writes told).at_kept was.roots was.commit (was.opened c.requires.whole told) (search rules) (λ bad. search rules);
      counted = λ told1.
          let told : IsTrue (g.V.Volume.tells was.volume) = rw c.write_block.ensures.stays.tells at told1 in
          (c.write_block.ensures.writes told).count (was.counted told);
      placed = refused_placed was.log c.write_block.new.log c.in-Err-Memory.ensures.refused was.roots was.placed;
      last = λ told1 is.
          let told : IsTrue (g.V.Volume.tells was.volume) = rw c.write_block.ensures.stays.tells at told1 in
          moved_last was.log c.write_block.new.log (g.V.Volume.files c.write_block.new.volume) (refused_file was.log c.write_block.new.log c.in-Err-Memory.ensures.refused)
          ((c.write_block.ensures.writes told).body_stays (ap (λ (x : Content). is_some x) (was.opened c.requires.whole told).stands.has_body)) is;
    }

pub invariant_of-self-in-Err-Device : goal.invariant_of-self-in-Err-Device
invariant_of-self-in-Err-Device g c =
    let was = c.args.self.now in
    record {
      opened = λ whole told1. absurd cc;
      counted = λ told1.
          let told : IsTrue (g.V.Volume.tells was.volume) = rw c.write_block.ensures.stays.tells at told1 in
          (c.write_block.ensures.writes told).count (was.counted told);
      placed = refused_placed was.log c.write_block.new.log c.in-Err-Device.ensures.refused was.roots was.placed;
      last = λ told1 is.
          let told : IsTrue (g.V.Volume.tells was.volume) = rw c.write_block.ensures.stays.tells at told1 in
          moved_last was.log c.write_block.new.log (g.V.Volume.files c.write_block.new.volume) (refused_file was.log c.write_block.new.log c.in-Err-Device.ensures.refused)
          ((c.write_block.ensures.writes told).body_stays (ap (λ (x : Content). is_some x) (was.opened c.requires.whole told).stands.has_body)) is;
    }

pub returns-in-Ok-clause-trees : goal.returns-in-Ok-clause-trees
returns-in-Ok-clause-trees g c told =
    let was = c.args.self.now in
    let built = c.args.built in
    let same : c.as_slice.result.now ≡ built.block = c.as_slice.ensures in
    let next = subst (λ (b : List ℕ). IsNextBlock was.log (g.V.Volume.files was.volume) b built.back built.roots (was.commit + 1)) (sym same) (c.requires.next told) in
    subst (λ (b : List ℕ). env_trees c.write_block.new.log.file (g.V.Volume.files c.write_block.new.volume) built.roots ≡ trees_with was.log (g.V.Volume.files was.volume) b built.roots) same
    ((c.in-Ok.ensures.writes told).new_trees was.roots was.commit built.roots (was.commit + 1) (was.opened c.requires.whole told) next)

pub returns-in-Ok-clause-crash : goal.returns-in-Ok-clause-crash
returns-in-Ok-clause-crash g c told steady =
    let was = c.args.self.now in
    (c.write_block.ensures.writes told).crash was.roots was.commit (was.opened c.requires.whole told) was.placed steady

pub returns-in-Err-Device-clause-crash : goal.returns-in-Err-Device-clause-crash
returns-in-Err-Device-clause-crash g c told steady =
    let was = c.args.self.now in
    (c.write_block.ensures.writes told).crash was.roots was.commit (was.opened c.requires.whole told) was.placed steady

pub returns-clause-crash : goal.returns-clause-crash
returns-clause-crash g c told steady =
    let was = c.args.self.now in
    (c.write_block.ensures.writes told).crash was.roots was.commit (was.opened c.requires.whole told) was.placed steady

pub returns-in-Ok-clause-steady : goal.returns-in-Ok-clause-steady
returns-in-Ok-clause-steady g c told steady fine =
    let was = c.args.self.now in
    (c.write_block.ensures.writes told).steady was.roots was.commit (was.opened c.requires.whole told) steady (λ bad. search rules)

pub returns-clause-steady : goal.returns-clause-steady
returns-clause-steady g c told steady fine =
    let was = c.args.self.now in
    (c.write_block.ensures.writes told).steady was.roots was.commit (was.opened c.requires.whole told) steady (λ bad. search rules)

pub returns-in-Err-Device-clause-refused : goal.returns-in-Err-Device-clause-refused
returns-in-Err-Device-clause-refused g c =
    let was = c.args.self.now in
    record {
      commit = refl;
      roots = refl;
      trees = λ told tree. ap (λ trees. trees tree)
          (ap (λ (n : ℕ). env_trees n (g.V.Volume.files c.write_block.new.volume) was.roots) (refused_file was.log c.write_block.new.log c.in-Err-Device.ensures.refused)
          ∙ (c.write_block.ensures.writes told).old_trees was.roots was.commit (was.opened c.requires.whole told));
    }

pub returns-clause-refused : goal.returns-clause-refused
returns-clause-refused g c =
    let was = c.args.self.now in
    record {
      commit = refl;
      roots = refl;
      trees = λ told tree. ap (λ trees. trees tree)
          (ap (λ (n : ℕ). env_trees n (g.V.Volume.files c.write_block.new.volume) was.roots) (refused_file was.log c.write_block.new.log c.in-Err-Memory.ensures.refused)
          ∙ (c.write_block.ensures.writes told).old_trees was.roots was.commit (was.opened c.requires.whole told));
    }
