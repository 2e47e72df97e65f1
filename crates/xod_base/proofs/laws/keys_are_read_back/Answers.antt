use Rattle.xod_base.proofs.KeyReading.{one_key, read_back}
use Rattle.xod_base.proofs.laws.keys_are_read_back.Goals as goal

pub returns-clause-read_back : goal.returns-clause-read_back
returns-clause-read_back c = read_back

pub returns-clause-only_one : goal.returns-clause-only_one
returns-clause-only_one c = one_key
