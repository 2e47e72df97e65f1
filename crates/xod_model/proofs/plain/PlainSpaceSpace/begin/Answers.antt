use Rattle.std.proofs.Common.{◌≡◌, ◌∙◌, None, ap, refl, sym}
use Rattle.xod_journal.specs.Seats.{busy_of, entered}
use Rattle.xod_journal.specs.Standing.{Newest}
use Rattle.xod_journal.specs.Locals.{held_of}
use Rattle.xod_journal.specs.declared.journal.Step.TheVariants as step
use Rattle.xod_model.proofs.PlainLemmas.{keeps-begun, memory-begins, plain-busy, plain-newest, plain-txn, pushed}
use Rattle.xod_model.proofs.plain.PlainSpaceSpace.begin.Goals as goal
use Rattle.xod_model.proofs.plain.PlainSpaceSpace.begin.Goals.{After-make_room}

-- nobody is in the way
free : (c : After-make_room) → busy_of (record { rows = c.args.self.now.origin.value; commit = c.args.self.now.first }) c.args.self.now.journal.items c.args.mode ≡ None
free c = plain-busy _ _ _ _ _ _ _ _ c.args.self.now.kept c.args.mode ∙ sym c.holder.ensures ∙ c.in_default.is

pub returns-in-Some-clause-refused : goal.returns-in-Some-clause-refused
returns-in-Some-clause-refused c = (plain-busy _ _ _ _ _ _ _ _ c.args.self.now.kept c.args.mode ∙ sym c.holder.ensures ∙ c.in-Some.is, refl)

pub returns-in_err-make_room-clause-refused : goal.returns-in_err-make_room-clause-refused
returns-in_err-make_room-clause-refused c = memory-begins c.args.mode _ _ _ c.from_residual.ensures.1 (free (goal.at.returns-in_err-make_room-clause-refused c).After-make_room) c.make_room.ensures.items

pub returns-in_err-rows-clause-refused : goal.returns-in_err-rows-clause-refused
returns-in_err-rows-clause-refused c = memory-begins c.args.mode _ _ _ c.from_residual-in_err-rows.ensures.1 (free (goal.at.returns-in_err-rows-clause-refused c).After-make_room) c.make_room.ensures.items

pub returns-in_err-set-clause-refused : goal.returns-in_err-set-clause-refused
returns-in_err-set-clause-refused c = memory-begins c.args.mode _ _ _ c.from_residual-in_err-set.ensures.1 (free (goal.at.returns-in_err-set-clause-refused c).After-make_room) c.make_room.ensures.items

pub invariant_of-self-2 : goal.invariant_of-self-2
invariant_of-self-2 c =
    let made = c.in_ok-make_room.ensures in
    let put = c.enter.ensures in
    record {
      kept = keeps-begun _ _ _ _ _ _ _ _ c.args.self.now.kept _ _ _ c.args.actor c.args.mode _ c.requires (sym c.holder.ensures ∙ c.in_default.is) c.in_ok-set.ensures
          (pushed _ _ _ _ _ _ _ _ _ _ (step.Begin c.args.mode) made.items made.len made.room put.items put.len put.capacity);
    }

pub returns-clause-begins : goal.returns-clause-begins
returns-clause-begins c =
    let made = c.in_ok-make_room.ensures in
    let put = c.enter.ensures in
    let txn = plain-txn _ _ _ _ _ _ _ _ c.args.self.now.kept c.args.mode _ _ _ (c.of-begun.ensures ∙ c.as_rows.ensures) c.new-own.ensures.items c.in_ok-rows.ensures in
    let newest = plain-newest _ _ _ _ _ _ _ _ c.args.self.now.kept in
    record {
      free = free (goal.at.returns-clause-begins c).After-make_room;
      unbroken = refl;
      entry = put.items ∙ ap (λ j. entered j c.args.actor (step.Begin c.args.mode)) made.items;
      at = sym (ap (λ (n : Newest). n.commit) newest);
      txn_is = record { held = ap held_of txn; told = λ _. refl; all = λ _. txn };
    }
