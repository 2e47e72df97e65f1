use Rattle.xod_trie_mut.proofs.SavingKeepers.{block-cut, block-put}
use Rattle.xod_trie_mut.proofs.save.put_behind.Goals as goal

pub returns-in-Ok-clause-put : goal.returns-in-Ok-clause-put
returns-in-Ok-clause-put c = block-put c.args.at c.replace-bytes.result c.args.block.now _ c.args.own.now c.args.index c.put_under-put.new.keeper c.in-Ok.root c.address_of.result c.in-Ok.ensures.put c.replace-bytes.ensures.value c.address_of.ensures

pub returns-in-Err-clause-refused : goal.returns-in-Err-clause-refused
returns-in-Err-clause-refused c = block-cut c.args.at c.replace-bytes.result c.args.block.now c.cut.result _ c.len-count.result c.put_under-put.new.keeper c.in-Err.ensures.refused c.cut.ensures c.len-count.ensures c.replace-bytes.ensures.value
