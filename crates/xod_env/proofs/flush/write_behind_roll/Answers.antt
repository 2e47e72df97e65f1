use Rattle.std.proofs.Common.{rules, Bool, IsTrue, sym, subst, ◌∙◌, arith}
use Rattle.xod_log.specs.declared.error.LogError.{LogError}
use Rattle.xod_env.specs.Envs.{log_file_count}
use Rattle.xod_env.proofs.Resting.{stands_over}
use Rattle.xod_env.proofs.Sizes.{count_fits}
use Rattle.xod_env.proofs.Writing.{counted_is, writes_nothing, writes_then}
use Rattle.xod_env.proofs.flush.write_behind_roll.Goals as goal

pub append_next-requires-clause-stands : goal.append_next-requires-clause-stands
append_next-requires-clause-stands g c told1 =
    let before = c.args.volume.now in
    let mid = c.has_next.new.volume in
    let told : IsTrue (g.V.Volume.tells before) = rw c.has_next.ensures.reads.stays.tells at told1 in
    stands_over c.args.log.now (g.V.Volume.files before) (g.V.Volume.files mid) (g.V.Volume.moment before) (g.V.Volume.moment mid) (g.V.Volume.may_leave before) (g.V.Volume.may_leave mid)
    (c.has_next.ensures.reads.same told) (c.has_next.ensures.reads.rests told) (c.requires.stands told)

pub returns-in-Err-Failed-clause-writes : goal.returns-in-Err-Failed-clause-writes
returns-in-Err-Failed-clause-writes g c told =
    let before = c.args.volume.now in
    let mid = c.has_next.new.volume in
    writes_nothing g.V.Volume.files g.V.Volume.moment g.V.Volume.may_leave c.args.log.now c.args.count.now c.args.block.now c.args.back before mid
    (c.has_next.ensures.reads.same told) (c.has_next.ensures.reads.rests told) LogError.Device

pub returns-in-Err-Memory-clause-writes : goal.returns-in-Err-Memory-clause-writes
returns-in-Err-Memory-clause-writes g c told =
    let before = c.args.volume.now in
    let mid = c.has_next.new.volume in
    writes_nothing g.V.Volume.files g.V.Volume.moment g.V.Volume.may_leave c.args.log.now c.args.count.now c.args.block.now c.args.back before mid
    (c.has_next.ensures.reads.same told) (c.has_next.ensures.reads.rests told) LogError.Memory

pub returns-in-Ok-append_next-clause-writes : goal.returns-in-Ok-append_next-clause-writes
returns-in-Ok-append_next-clause-writes g c told =
    let before = c.args.volume.now in
    let mid = c.has_next.new.volume in
    let now = c.append_next.new.volume in
    let reads = c.has_next.ensures.reads in
    let told1 : IsTrue (g.V.Volume.tells mid) = subst (λ (t : Bool). IsTrue t) (sym reads.stays.tells) told in
    let ok = c.in-Ok-append_next.ensures in
    writes_then g.V.Volume.files g.V.Volume.moment g.V.Volume.may_leave c.args.log.now c.args.count.now c.args.block.now c.args.back before mid
    (reads.same told) (reads.rests told) c.append_next.new.log c.count_next.result now _
    (record {
      at = ok.at told1;
      at_kept = λ roots commit at err fine. absurd cc;
      count = λ own.
          let few = count_fits (g.V.Volume.files mid) in
          counted_is c.count_next.result c.args.count.now (log_file_count (g.V.Volume.files mid)) (log_file_count (g.V.Volume.files now)) _ _
          (c.count_next.ensures c.append_next.ensures.never_lost (omega (arith, few, own))) (c.append_next.ensures.count told1) own;
      body_stays = λ there. c.append_next.ensures.body_stays told1;
      new_trees = ok.new_trees told1;
      old_trees = λ roots commit at. c.append_next.ensures.old_trees told1 roots;
      kept = c.append_next.ensures.kept told1;
      crash = c.append_next.ensures.crash told1;
      steady = λ roots commit at steady fine. c.append_next.ensures.steady told1 roots commit at steady (λ bad. search rules);
    })

pub returns-in-Err-clause-writes : goal.returns-in-Err-clause-writes
returns-in-Err-clause-writes g c told =
    let before = c.args.volume.now in
    let mid = c.has_next.new.volume in
    let now = c.append_next.new.volume in
    let reads = c.has_next.ensures.reads in
    let told1 : IsTrue (g.V.Volume.tells mid) = subst (λ (t : Bool). IsTrue t) (sym reads.stays.tells) told in
    writes_then g.V.Volume.files g.V.Volume.moment g.V.Volume.may_leave c.args.log.now c.args.count.now c.args.block.now c.args.back before mid
    (reads.same told) (reads.rests told) c.append_next.new.log c.count_next-in-Err.result now _
    (record {
      at = λ roots commit new_roots new_commit at next. tt;
      at_kept = λ roots commit at err fine. c.append_next.ensures.at_kept told1 roots commit at (search rules) (λ bad. fine (sym c.in-Err.is ∙ bad));
      count = λ own.
          let few = count_fits (g.V.Volume.files mid) in
          counted_is c.count_next-in-Err.result c.args.count.now (log_file_count (g.V.Volume.files mid)) (log_file_count (g.V.Volume.files now)) _ _
          (c.count_next-in-Err.ensures c.append_next.ensures.never_lost (omega (arith, few, own))) (c.append_next.ensures.count told1) own;
      body_stays = λ there. c.append_next.ensures.body_stays told1;
      new_trees = λ roots commit new_roots new_commit at next. tt;
      old_trees = λ roots commit at. c.append_next.ensures.old_trees told1 roots;
      kept = c.append_next.ensures.kept told1;
      crash = c.append_next.ensures.crash told1;
      steady = λ roots commit at steady fine. c.append_next.ensures.steady told1 roots commit at steady (λ bad. fine (sym c.in-Err.is ∙ bad));
    })
