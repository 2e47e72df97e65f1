use Rattle.xod_handle.proofs.FoldedTexts.{lowered}
use Rattle.xod_handle.proofs.folding.folded_text.Goals as goal

pub unreachable-requires : goal.unreachable-requires
unreachable-requires c = lowered c.args.text.now c.as_bytes.result.now c.in_ok-lower.lower.items c.deref.result.now
    c.as_bytes.ensures.text c.as_bytes.ensures.bytes c.in_ok-lower.ensures.ok c.deref.ensures.value (rw c.in-None.is at c.in_ok-other.ensures)
