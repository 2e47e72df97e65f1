use Rattle.std.proofs.Common.{◌≡◌, ◌∙◌, None, Some, ap, arith, refl, sym}
use Rattle.xod_base.specs.declared.answer.FlushAnswer.TheVariants as answer
use Rattle.xod_journal.specs.declared.journal.Step.TheVariants as step
use Rattle.xod_journal.specs.Books.{flush_answer, version_of}
use Rattle.xod_journal.specs.Seats.{entered}
use Rattle.xod_spaces.specs.FaultyTxns.{faulty_txn}
use Rattle.xod_spaces.proofs.KeepingLemmas.{grew, keeps-committed, keeps-unchanged}
use Rattle.xod_spaces.proofs.SpaceLemmas.{committed-is, fault-since, same-seat}
use Rattle.xod_spaces.proofs.space.FaultySpaceSpace.flush.Goals as goal
use Rattle.xod_spaces.proofs.space.FaultySpaceSpace.flush.Goals.{After-enter-2}

-- a flush without a commit
pub invariant_of-self-in_default-version_of : goal.invariant_of-self-in_default-version_of
invariant_of-self-in_default-version_of c =
    let put = c.enter.ensures in
    let same = c.admit.ensures.same in
    let answers = ap (λ l. version_of (flush_answer c.admit.new.self.commit c.args.txn.now.base l)) (sym c.deref.ensures.value) ∙ ap version_of (sym c.in-Some.ensures) ∙ sym c.version_of.ensures ∙ c.in_default-version_of.is in
    record {
      kept = keeps-unchanged _ _ _ _ _ _ _ _ c.admit.new.self.kept c.args.actor _ (same-seat c.args.self.now c.admit.new.self c.args.actor same ∙ c.requires.seat) _ _ _ _ (omega arith)
          (faulty_txn c.args.txn.now) refl answers
          (grew _ _ _ _ _ _ _ _ (step.Flush c.args.txn.now.own.items None) c.in_ok-trouble.ensures.room
          (put.items ∙ ap (λ l. entered c.admit.new.self.journal.items c.args.actor (step.Flush l None)) (c.in_ok-changes.ensures ∙ c.deref-2.ensures.value)) put.len put.capacity);
    }

-- a flush that commits
commits : (c : After-enter-2) → version_of (flush_answer c.admit.new.self.commit c.args.txn.now.base c.args.txn.now.own.items) ≡ Some c.in-Some-version_of.version
commits c = ap (λ l. version_of (flush_answer c.admit.new.self.commit c.args.txn.now.base l)) (sym c.deref.ensures.value) ∙ ap version_of (sym c.in-Some.ensures) ∙ sym c.version_of.ensures ∙ c.in-Some-version_of.is

entry : (c : After-enter-2) → c.enter-2.new.journal.items ≡ entered c.admit.new.self.journal.items c.args.actor (step.Flush c.args.txn.now.own.items (Some c.in-Some-version_of.version))
entry c = c.enter-2.ensures.items ∙ ap (λ l. entered c.admit.new.self.journal.items c.args.actor (step.Flush l (Some c.in-Some-version_of.version))) (c.in_ok-changes.ensures ∙ c.deref-2.ensures.value)

answered : (c : After-enter-2) → answer.Committed c.in-Some-version_of.version None ≡ flush_answer c.args.self.now.commit c.args.txn.now.base c.args.txn.now.own.items
answered c = sym (ap (λ n. flush_answer n c.args.txn.now.base c.args.txn.now.own.items) (sym c.admit.ensures.same.commit) ∙ committed-is c.admit.new.self.commit c.args.txn.now.base c.args.txn.now.own.items c.in-Some-version_of.version (commits c))

pub invariant_of-self-2 : goal.invariant_of-self-2
invariant_of-self-2 c =
    let put = c.enter-2.ensures in
    let at = (goal.at.invariant_of-self-2 c).After-enter-2 in
    record {
      kept = keeps-committed _ _ _ _ _ _ _ _ c.admit.new.self.kept c.args.actor _ (same-seat c.args.self.now c.admit.new.self c.args.actor c.admit.ensures.same ∙ c.requires.seat) _ _ _ _ c.fault.ensures.stays.never_falls
          (faulty_txn c.args.txn.now) _ _ refl (commits at) c.in_ok-set.ensures (grew _ _ _ _ _ _ _ _ _ c.in_ok-trouble.ensures.room (entry at) put.len put.capacity);
    }

pub returns-in-Some-fault-clause-flushes : goal.returns-in-Some-fault-clause-flushes
returns-in-Some-fault-clause-flushes c =
    let at = (goal.at.returns-in-Some-fault-clause-flushes c).After-enter-2 in
    record {
      unbroken = c.in_ok-trouble.ensures.unbroken;
      answer_is = answered at ∙ ap (λ n. flush_answer n c.args.txn.now.base c.args.txn.now.own.items) (sym c.args.self.now.kept.newest);
      entry = entry at ∙ ap (λ j. entered j c.args.actor (step.Flush c.args.txn.now.own.items (Some c.in-Some-version_of.version))) c.admit.ensures.same.journal;
    }

pub returns-in-Some-fault-clause-flushed : goal.returns-in-Some-fault-clause-flushed
returns-in-Some-fault-clause-flushed c =
    let old = c.args.self.now in
    let was = c.admit.new.self in (
      record { tells_same = refl; txn_same = refl; refs_same = refl; never_falls = omega arith },
      fault-since old.first was.first old.sessions was.sessions old.journal.items c.enter-2.new.journal.items old.outside was.outside c.fault.new.self c.admit.ensures.keeps.never_falls c.in-Some-fault.cause c.in-Some-fault.ensures.reason,
    )

pub returns-clause-flushes : goal.returns-clause-flushes
returns-clause-flushes c =
    let at = (goal.at.returns-clause-flushes c).After-enter-2 in
    record {
      unbroken = c.in_ok-trouble.ensures.unbroken;
      answer_is = answered at ∙ ap (λ n. flush_answer n c.args.txn.now.base c.args.txn.now.own.items) (sym c.args.self.now.kept.newest);
      entry = entry at ∙ ap (λ j. entered j c.args.actor (step.Flush c.args.txn.now.own.items (Some c.in-Some-version_of.version))) c.admit.ensures.same.journal;
    }
