use Rattle.xod_words.specs.Words.{words_of}
use Rattle.xod_words.proofs.PartsGiven.{draft_is, few_ents}
use Rattle.xod_words.proofs.query.read_draft.Goals as goal

pub numbered-requires : goal.numbered-requires
numbered-requires c = few_ents (words_of c.args.line.now) c.in_ok-part.part (words_of c.in_ok-part.rest.now) (c.in_ok-part.ensures {u = tt})

pub returns-clause-well_formed : goal.returns-clause-well_formed
returns-clause-well_formed c =
    draft_is (words_of c.args.line.now) c.in_ok-part.part (words_of c.in_ok-part.rest.now) c.in_ok-vars.vars (c.in_ok-part.ensures {u = tt}) (c.in_ok-vars.ensures {u = tt})
