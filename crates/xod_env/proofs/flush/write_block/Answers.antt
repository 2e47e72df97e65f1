use Rattle.std.proofs.Common.{sym, ◌∙◌}
use Rattle.xod_env.proofs.flush.write_block.Goals as goal

pub returns-clause-writes : goal.returns-clause-writes
returns-clause-writes g c told =
    let a = c.append_newest.ensures in
    record {
      at = a.at told;
      at_kept = a.at_kept told;
      count = λ counted. counted ∙ sym (a.count told);
      body_stays = λ there. a.body_stays told;
      new_trees = a.new_trees told;
      old_trees = a.old_trees told;
      kept = a.kept told;
      crash = λ roots commit at placed. a.crash told roots commit at;
      steady = a.steady told;
    }
