use Rattle.std.proofs.Common.{◌∙◌, ◌≡◌, sym, subst, true}
use Rattle.xod_base.specs.Rows.{is_sound}
use Rattle.xod_model.proofs.PlainLemmas.{keeps-new}
use Rattle.xod_model.proofs.plain.PlainSpace.new.Goals as goal

pub invariant_of-result : goal.invariant_of-result
invariant_of-result c =
    let origin = c.of-origin.ensures in
    let room = c.in_ok-journal.ensures in
    record { kept = keeps-new _ _ _ _ _ _ _ (subst (λ r. is_sound r ≡ true) (sym origin) c.are_sound.ensures) room.items c.new-txns.ensures (c.in_ok-rows.ensures ∙ sym origin) room.len room.room }
