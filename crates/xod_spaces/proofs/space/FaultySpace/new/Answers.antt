use Rattle.std.proofs.Common.{◌∙◌}
use Rattle.xod_spaces.proofs.KeepingLemmas.{keeps-new}
use Rattle.xod_spaces.proofs.space.FaultySpace.new.Goals as goal

pub invariant_of-result : goal.invariant_of-result
invariant_of-result c =
    let made = c.in_ok-make_room.ensures in
    let empty = c.new-journal.ensures in
    record { kept = keeps-new _ _ _ _ _ _ _ (made.items ∙ empty.items) c.new-3.ensures (made.len ∙ empty.len) made.room c.new-2.ensures }
