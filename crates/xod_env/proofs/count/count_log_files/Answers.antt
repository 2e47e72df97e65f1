use Rattle.std.proofs.Common.{◌∙◌}
use Rattle.xod_env.proofs.Counting.{pairs_counted}
use Rattle.xod_env.proofs.count.count_log_files.Goals as goal

pub returns : goal.returns
returns c files listed = c.pairs_among.ensures.count ∙ pairs_counted files c.args.numbers.now listed
