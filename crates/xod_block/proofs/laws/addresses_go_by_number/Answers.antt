use Rattle.xod_block.proofs.AddressLemmas.{number_of-order}
use Rattle.xod_block.proofs.laws.addresses_go_by_number.Goals as goal

pub returns : goal.returns
returns c = number_of-order
