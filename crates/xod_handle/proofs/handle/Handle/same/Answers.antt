use Rattle.std.proofs.Common.{ap}
use Rattle.xod_base.specs.QueryTexts.{query_text}
use Rattle.xod_handle.proofs.Telling.{texts_tell}
use Rattle.xod_handle.proofs.handle.Handle.same.Goals as goal

pub returns-clause-equal : goal.returns-clause-equal
returns-clause-equal c = (
  λ r. texts_tell c.args.self.now c.args.other.now c.has_bytes_of.ensures.handles.0.named c.has_bytes_of.ensures.handles.1.named (c.has_bytes_of.ensures.bytes.0 r),
  λ e. c.has_bytes_of.ensures.bytes.1 (ap query_text e),
)
