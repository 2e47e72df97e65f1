use Rattle.xod_words.proofs.PartsGiven.{draft_query}
use Rattle.xod_words.proofs.query.read_query.Goals as goal

pub returns-in-Ok-clause-well_formed : goal.returns-in-Ok-clause-well_formed
returns-in-Ok-clause-well_formed c = draft_query c.in-Ok.draft c.in-Ok.ensures.well_formed
