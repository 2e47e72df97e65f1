use Rattle.xod_words.proofs.NameLemmas.{is_text-name}
use Rattle.xod_words.proofs.names.read_name.Goals as goal

pub text_of-requires : goal.text_of-requires
text_of-requires c = is_text-name _ cc
