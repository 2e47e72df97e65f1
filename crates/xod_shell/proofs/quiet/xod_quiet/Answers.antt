use Rattle.xod_shell.proofs.EndingLemmas.{through, untouched-by}
use Rattle.xod_shell.proofs.quiet.xod_quiet.Goals as goal

pub returns-clause-complete : goal.returns-clause-complete
returns-clause-complete g c = λ goes.
    through _ _ _ _ _ _ (record {
      ending = c.ending_of-ending.result.0;
      due = c.ending_of-ending.ensures.due;
      blamed = c.ending_of-ending.ensures.blamed;
      untouched = c.ending_of-ending.ensures.untouched;
      told = c.tell-status.ensures.told;
    }) goes

pub returns-clause-untouched : goal.returns-clause-untouched
returns-clause-untouched g c = λ status.
    untouched-by _ _ _ _ _ _ (record {
      ending = c.ending_of-ending.result.0;
      due = c.ending_of-ending.ensures.due;
      blamed = c.ending_of-ending.ensures.blamed;
      untouched = c.ending_of-ending.ensures.untouched;
      told = c.tell-status.ensures.told;
    }) status
