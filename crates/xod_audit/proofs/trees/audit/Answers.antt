use Rattle.xod_audit.proofs.Audited.{audits}
use Rattle.xod_audit.proofs.trees.audit.Goals as goal

pub returns-clause-audits : goal.returns-clause-audits
returns-clause-audits g c = audits c.args.view.now c.audited.new.view c.audited.result c.audited.ensures.looks
