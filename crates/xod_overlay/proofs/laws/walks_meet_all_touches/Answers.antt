use Rattle.xod_overlay.proofs.Walked.{walks_begin, walks_go_on}
use Rattle.xod_overlay.proofs.laws.walks_meet_all_touches.Goals as goal

pub returns-clause-begin : goal.returns-clause-begin
returns-clause-begin c = walks_begin

pub returns-clause-go_on : goal.returns-clause-go_on
returns-clause-go_on c = walks_go_on
