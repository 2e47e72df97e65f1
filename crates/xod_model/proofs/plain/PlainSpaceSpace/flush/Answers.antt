use Rattle.std.proofs.Common.{◌≡◌, ◌∙◌, ◌+◌, [], Some, None, ap, refl, sym}
use Rattle.std.specs.Vec.{vec_items}
use Rattle.xod_base.specs.declared.answer.FlushAnswer.TheVariants as answer
use Rattle.xod_journal.specs.Books.{flush_answer}
use Rattle.xod_journal.specs.Seats.{entered}
use Rattle.xod_journal.specs.Standing.{Newest}
use Rattle.xod_journal.specs.declared.journal.Step.TheVariants as step
use Rattle.xod_journal.proofs.CallerLemmas.{flush-nothing, flush-conflict, flush-commits}
use Rattle.xod_model.specs.PlainTxns.{plain_txn}
use Rattle.xod_model.proofs.PlainLemmas.{has-none, has-some, keeps-committed, keeps-unchanged, plain-newest, pushed}
use Rattle.xod_model.proofs.plain.PlainSpaceSpace.flush.Goals as goal
use Rattle.xod_model.proofs.plain.PlainSpaceSpace.flush.Goals.{After-enter, After-enter-then-base-now, After-enter-2}

-- without changes
none : (c : After-enter) → c.args.txn.now.own.items ≡ []
none c = has-none _ _ _ c.is_empty.ensures c.as_slice.ensures.value c.if-is_empty.true

-- with changes, where another commit came since
conflicts : (c : After-enter-then-base-now) → flush_answer c.args.self.now.commit c.args.txn.now.base c.args.txn.now.own.items ≡ answer.Conflict c.args.txn.now.base c.args.self.now.commit
conflicts c = flush-conflict _ _ _ (has-some _ _ _ c.is_empty.ensures c.as_slice.ensures.value c.if-is_empty.false) c.if-base-now.true

-- and where none came
commits : (c : After-enter-2) → flush_answer c.args.self.now.commit c.args.txn.now.base c.args.txn.now.own.items ≡ answer.Committed (c.args.self.now.commit + 1) None
commits c = flush-commits _ _ _ (has-some _ _ _ c.is_empty.ensures c.as_slice.ensures.value c.if-is_empty.false) c.if-base-now.false

pub invariant_of-self-then-is_empty : goal.invariant_of-self-then-is_empty
invariant_of-self-then-is_empty c =
    let made = c.in_ok-make_room.ensures in
    let put = c.enter.ensures in
    let own = none (goal.at.invariant_of-self-then-is_empty c).After-enter in
    record {
      kept = keeps-unchanged _ _ _ _ _ _ _ _ c.args.self.now.kept _ _ _ c.args.actor (plain_txn c.args.txn.now) c.requires answer.Nothing (flush-nothing _ _ _ own) refl
          (pushed _ _ _ _ _ _ _ _ _ _ _ made.items made.len made.room (put.items ∙ ap (λ l. entered c.make_room.new.items.items c.args.actor (step.Flush l None)) (c.new-changes.ensures ∙ sym own)) put.len put.capacity);
    }

pub invariant_of-self-then-base-now : goal.invariant_of-self-then-base-now
invariant_of-self-then-base-now c =
    let made = c.in_ok-make_room.ensures in
    let put = c.enter-then-base-now.ensures in
    record {
      kept = keeps-unchanged _ _ _ _ _ _ _ _ c.args.self.now.kept _ _ _ c.args.actor (plain_txn c.args.txn.now) c.requires _ (conflicts (goal.at.invariant_of-self-then-base-now c).After-enter-then-base-now) refl
          (pushed _ _ _ _ _ _ _ _ _ _ _ made.items made.len made.room
          (put.items ∙ ap (λ l. entered c.make_room.new.items.items c.args.actor (step.Flush l None)) (c.in_ok-changes.ensures ∙ c.deref.ensures.value)) put.len put.capacity);
    }

pub returns-then-base-now-clause-flushes : goal.returns-then-base-now-clause-flushes
returns-then-base-now-clause-flushes c =
    let made = c.in_ok-make_room.ensures in
    record {
      unbroken = refl;
      answer_is = sym (ap (λ (n : Newest). flush_answer n.commit c.args.txn.now.base c.args.txn.now.own.items) (plain-newest _ _ _ _ _ _ _ _ c.args.self.now.kept)
          ∙ conflicts (goal.at.returns-then-base-now-clause-flushes c).After-enter-then-base-now);
      entry = c.enter-then-base-now.ensures.items ∙ (λ i. entered (made.items i) c.args.actor (step.Flush ((c.in_ok-changes.ensures ∙ c.deref.ensures.value) i) None));
    }

pub invariant_of-self-2 : goal.invariant_of-self-2
invariant_of-self-2 c =
    let made = c.in_ok-make_room.ensures in
    let put = c.enter-2.ensures in
    record {
      kept = keeps-committed _ _ _ _ _ _ _ _ c.args.self.now.kept _ _ _ c.args.actor (plain_txn c.args.txn.now) c.requires (c.args.self.now.commit + 1) _ _
          (commits (goal.at.invariant_of-self-2 c).After-enter-2) c.if-base-now.false c.in_ok-set.ensures c.in_ok-rows.ensures
          (pushed _ _ _ _ _ _ _ _ _ _ _ made.items made.len made.room
          (put.items ∙ ap (λ l. entered c.make_room.new.items.items c.args.actor (step.Flush l (Some (c.args.self.now.commit + 1)))) (c.from_vec-changes.ensures ∙ ap vec_items c.replace-own.ensures.value)) put.len put.capacity);
    }

pub returns-clause-flushes : goal.returns-clause-flushes
returns-clause-flushes c =
    let made = c.in_ok-make_room.ensures in
    record {
      unbroken = refl;
      answer_is = sym (ap (λ (n : Newest). flush_answer n.commit c.args.txn.now.base c.args.txn.now.own.items) (plain-newest _ _ _ _ _ _ _ _ c.args.self.now.kept)
          ∙ commits (goal.at.returns-clause-flushes c).After-enter-2);
      entry = c.enter-2.ensures.items ∙ (λ i. entered (made.items i) c.args.actor (step.Flush ((c.from_vec-changes.ensures ∙ ap vec_items c.replace-own.ensures.value) i) (Some (c.args.self.now.commit + 1))));
    }
