use Rattle.std.proofs.Common.{refl}
use Rattle.xod_words.proofs.WordLemmas.{words_of-nil}
use Rattle.xod_words.proofs.words.next_word.Goals as goal

pub returns-in-None : goal.returns-in-None
returns-in-None c = (refl, words_of-nil c.args.line.now c.skip_blanks-start.result.now c.skip_blanks-start.ensures.words c.in-None.ensures.cases)
