use Rattle.xod_env.proofs.RestStores.{reads-stored, settled-steady}
use Rattle.xod_env.proofs.steady.settled_volumes_are_steady.Goals as goal

pub returns-clause-steady : goal.returns-clause-steady
returns-clause-steady g c log roots commit volume at sealed settled = settled-steady log roots commit _ _ at sealed settled

pub returns-clause-stored : goal.returns-clause-stored
returns-clause-stored g c log roots commit volume at placed sealed = reads-stored log roots commit _ _ at sealed placed
