use Rattle.std.proofs.Common.{◌∙◌, ap, refl, sym}
use Rattle.xod_journal.specs.Locals.{held_of}
use Rattle.xod_journal.specs.Seats.{entered}
use Rattle.xod_journal.specs.Standing.{Newest}
use Rattle.xod_journal.specs.declared.journal.Step.TheVariants as step
use Rattle.xod_model.proofs.PlainLemmas.{keeps-reverted, plain-newest, plain-txn, pushed}
use Rattle.xod_model.proofs.plain.PlainSpaceSpace.revert.Goals as goal

pub invariant_of-self-2 : goal.invariant_of-self-2
invariant_of-self-2 c =
    let made = c.in_ok-make_room.ensures in
    let put = c.enter.ensures in
    record {
      kept = keeps-reverted _ _ _ _ _ _ _ _ c.args.self.now.kept _ _ _ c.args.actor _ _ c.requires.seat c.in_ok-set.ensures
          (pushed _ _ _ _ _ _ _ _ _ _ step.Revert made.items made.len made.room put.items put.len put.capacity);
    }

pub returns-clause-reverts : goal.returns-clause-reverts
returns-clause-reverts c =
    let made = c.in_ok-make_room.ensures in
    let put = c.enter.ensures in
    let txn = plain-txn _ _ _ _ _ _ _ _ c.args.self.now.kept c.args.txn.now.mode _ _ _ (c.of.ensures ∙ c.as_rows.ensures) c.new.ensures.items c.in_ok-rows.ensures in
    let newest = plain-newest _ _ _ _ _ _ _ _ c.args.self.now.kept in
    record {
      unbroken = refl;
      entry = put.items ∙ ap (λ j. entered j c.args.actor step.Revert) made.items;
      at = sym (ap (λ (n : Newest). n.commit) newest);
      txn_is = record { held = ap held_of txn; told = λ _. refl; all = λ _. txn };
    }
