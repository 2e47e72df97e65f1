use Rattle.xod_words.proofs.QueriesBack.{printed_is_read_back}
use Rattle.xod_words.proofs.laws.what_is_printed_is_read_back.Goals as goal

pub returns : goal.returns
returns c = printed_is_read_back
