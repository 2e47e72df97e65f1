use Rattle.xod_block.proofs.MarkLemmas.{mark_of-mark_bytes}
use Rattle.xod_block.proofs.laws.every_mark_comes_back.Goals as goal

pub returns : goal.returns
returns c = mark_of-mark_bytes
