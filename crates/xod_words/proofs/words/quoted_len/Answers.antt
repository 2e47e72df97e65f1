use Rattle.xod_words.proofs.WordLemmas.{text_on-word}
use Rattle.xod_words.proofs.words.quoted_len.Goals as goal

pub returns-clause-cut : goal.returns-clause-cut
returns-clause-cut c front =
    text_on-word c.args.bytes.now c.split_at.result.1.now front c.text_len-text.result c.word_len.result c.split_at.ensures.back
    c.word_len.ensures.exact (c.text_len-text.ensures.cut front)
