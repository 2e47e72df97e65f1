use Rattle.std.proofs.Common.{rules}
use Rattle.xod_device_tests.proofs.tests.log.the_last_file_is_rolled_to_and_not_rolled.Goals as goal

pub roll-requires-2 : goal.roll-requires-2
roll-requires-2 g c = record { stands = λ told. c.append_block.ensures.stands_on told (λ bad. search rules) }
