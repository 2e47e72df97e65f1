use Rattle.xod_trie.proofs.Fetching.{Fetched-record_in}
use Rattle.xod_trie.proofs.read.read_record.Goals as goal

pub returns-clause-record : goal.returns-clause-record
returns-clause-record g c told = Fetched-record_in _ _ _ _ _ c.in_ok-fetch.ensures.found c.emptied-bytes.ensures told
