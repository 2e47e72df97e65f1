use Rattle.std.proofs.Common.{◌∷◌, [], rules}
use Rattle.xod_words.proofs.WordLemmas.{words_of-text, words_of-word, word_on-at}
use Rattle.xod_words.proofs.words.len_behind.Goals as goal

pub returns-then-first-eq34-clause-cut : goal.returns-then-first-eq34-clause-cut
returns-then-first-eq34-clause-cut c =
    words_of-text c.args.first c.quoted_len.result c.args.rest.now c.requires (search rules) (c.quoted_len.ensures.cut (c.args.first ∷ []))

pub returns-else-first-eq34-clause-cut : goal.returns-else-first-eq34-clause-cut
returns-else-first-eq34-clause-cut c =
    words_of-word c.args.first c.word_len.result c.args.rest.now c.requires (search rules) (word_on-at c.args.rest.now (c.args.first ∷ []) c.word_len.result c.word_len.ensures.exact)
