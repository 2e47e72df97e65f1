use Rattle.std.proofs.Common.{suc, arith}
use Rattle.xod_recover.proofs.Lasting.{lasts}
use Rattle.xod_recover.proofs.since.what_was_stored_goes_on.Goals as goal

pub returns-clause-over_a_call : goal.returns-clause-over_a_call
returns-clause-over_a_call g c list newest since before after later listed passes all = lasts list newest since _ _ _ _ later listed passes all

pub returns-clause-with_one_more : goal.returns-clause-with_one_more
returns-clause-with_one_more g c list one since volume all left when = record { one = (all left when).one; listed = (suc (all left when).listed.0, omega (arith, (all left when).listed.1), (all left when).listed.2); stored = (all left when).stored }
