use Rattle.xod_env.proofs.Starting.{still_decided, still_stored}
use Rattle.xod_env.proofs.opening.first_log.Goals as goal

pub returns-in-Ok-clause-leaves : goal.returns-in-Ok-clause-leaves
returns-in-Ok-clause-leaves g c =
    let before = g.V.Volume.files c.args.volume.now in
    let now = g.V.Volume.files c.make_first.new.volume in
    record {
      stays = c.make_first.ensures.stays;
      decided = λ told. still_decided before now (c.requires.nothing told) (c.make_first.ensures.reads told);
      stored = λ told. still_stored before now (c.requires.nothing told) (c.make_first.ensures.reads told);
      kept = c.make_first.ensures.kept;
      crash = c.make_first.ensures.crash;
    }

pub returns-in-Err-Device-clause-leaves : goal.returns-in-Err-Device-clause-leaves
returns-in-Err-Device-clause-leaves g c =
    let before = g.V.Volume.files c.args.volume.now in
    let now = g.V.Volume.files c.make_first.new.volume in
    record {
      stays = c.make_first.ensures.stays;
      decided = λ told. still_decided before now (c.requires.nothing told) (c.make_first.ensures.reads told);
      stored = λ told. still_stored before now (c.requires.nothing told) (c.make_first.ensures.reads told);
      kept = c.make_first.ensures.kept;
      crash = c.make_first.ensures.crash;
    }

pub returns-in-Err-Memory-clause-leaves : goal.returns-in-Err-Memory-clause-leaves
returns-in-Err-Memory-clause-leaves g c =
    let before = g.V.Volume.files c.args.volume.now in
    let now = g.V.Volume.files c.make_first.new.volume in
    record {
      stays = c.make_first.ensures.stays;
      decided = λ told. still_decided before now (c.requires.nothing told) (c.make_first.ensures.reads told);
      stored = λ told. still_stored before now (c.requires.nothing told) (c.make_first.ensures.reads told);
      kept = c.make_first.ensures.kept;
      crash = c.make_first.ensures.crash;
    }
