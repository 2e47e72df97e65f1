use Rattle.xod_audit.proofs.Told.{tests_tell}
use Rattle.xod_audit.proofs.laws.tests_tell.Goals as goal

pub returns : goal.returns
returns c = tests_tell
