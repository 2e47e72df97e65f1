use Rattle.std.proofs.Common.{◌∙◌, refl, sym, ap, arith, ℕ, List, Some, None, Ok, Err}
use Rattle.std.specs.Prelude.{is_some}
use Rattle.std.specs.FinMap.{insert}
use Rattle.std.proofs.lemmas.Bool.{false≢true}
use Rattle.std.proofs.lemmas.Result.{err_from_is_err_and}
use Rattle.xod_base.specs.declared.answer.FlushAnswer.TheVariants as answer
use Rattle.xod_env.specs.Flushes.{is_commit}
use Rattle.xod_estxn.specs.Txns.{txn_over}
use Rattle.xod_journal.specs.declared.change.RowChange.{RowChange}
use Rattle.xod_journal.specs.declared.journal.Step.TheVariants as step
use Rattle.xod_journal.specs.Books.{flush_answer, version_of}
use Rattle.xod_journal.specs.Seats.{entered}
use Rattle.xod_overlay.specs.Marks.{touched}
use Rattle.xod_snapshot.specs.Snapshots.{snapshot_trees}
use Rattle.xod_store.specs.Views.{is_spent}
use Rattle.xod_store.proofs.Booked.{open-is}
use Rattle.xod_store.proofs.Flushes.{made-facts, overlaid-newest, rows-committed, unchanged-facts, with-refused, with-same}
use Rattle.xod_store.proofs.Flushing.{answer-commit, answer-conflict, answer-nothing, behind, flush-refused, here-commit, last-commit, last-refused, unbroken-commit, whole-commit, whole-conflict, whole-nothing}
use Rattle.xod_store.proofs.Leaving.{at-least-wrote}
use Rattle.xod_store.proofs.Newest.{base-low, synced-low}
use Rattle.xod_store.proofs.state.StoreState.enter_flush.Goals as goal

pub flush-requires-clause-seen : goal.flush-requires-clause-seen
flush-requires-clause-seen g c =
    let at = ap (λ v. v.version) c.view.ensures in
    let low = base-low _ _ _ _ _ _ _ c.args.self.now.booked c.args.actor _ c.requires.is_open.seat in
    omega arith

pub flush-requires-clause-rows : goal.flush-requires-clause-rows
flush-requires-clause-rows g c told whole here =
    let store = c.args.self.now in
    let txn = c.args.txn.now in
    ap is_some (overlaid-newest _ _ _ _ (store.told told) c.args.actor txn.mode txn.view.version (snapshot_trees (g.V.Held.Lease.lent txn.view.lease) txn.view.roots) txn.changes c.requires.is_open.seat (c.requires.is_open.fits told)
    ((λ i. (sym c.view.ensures i).version) ∙ here ∙ sym store.booked.newest) (touched c.overlay.result.now) (c.overlay.ensures.over (c.requires.is_open.told told)))

pub invariant_of-self : goal.invariant_of-self
invariant_of-self g c =
    let store = c.args.self.now in
    let said_err = behind c.flush.result (Err _) (sym c.answered.ensures ∙ c.in_err-answer.was {u = tt}) in
    let keeps = rw said_err at c.flush.ensures.refused in
    let flush = c.flush.ensures in
    let now = with-refused store.env c.flush.new.self (record { accounted = store.accounted; booked = store.booked; told = store.told; safe = store.safe }) flush.broken_before_all keeps flush.stays.tells flush.stays.faults (λ whole is. flush.device (flush.breaks_only_by_device whole is))
    (last-refused c.overlay.ensures.kept c.flush.ensures.broken_exactly c.flush.ensures.nothing_exactly c.flush.ensures.conflict_exactly c.flush.new.self.commit flush.goes_on (ap is_commit said_err) keeps.commit) flush.crash flush.steady in
    record { tells = flush.stays.tells ∙ store.tells; accounted = now.accounted; booked = now.booked; told = now.told; safe = now.safe }

pub invariant_of-self-in-Nothing : goal.invariant_of-self-in-Nothing
invariant_of-self-in-Nothing g c =
    let store = c.args.self.now in
    let txn = c.args.txn.now in
    let at = behind c.flush.result (Ok (answer.Nothing)) (sym c.answered.ensures ∙ c.in_ok-answer.was {u = tt} ∙ ap Ok c.in-Nothing.is) in
    let base_is = ap (λ v. v.version) c.view.ensures in
    let put = c.enter.ensures in
    let here = unchanged-facts (record { accounted = store.accounted; booked = store.booked; told = store.told; safe = store.safe }) c.args.actor (txn_over txn.mode txn.view.version (snapshot_trees (g.V.Held.Lease.lent txn.view.lease) txn.view.roots) txn.changes) c.requires.is_open.seat c.requires.is_open.fits
    (ap (λ (b : ℕ). version_of (flush_answer store.env.commit b txn.changes)) (sym base_is) ∙ ap version_of (answer-nothing c.overlay.ensures.kept c.flush.ensures.broken_exactly c.flush.ensures.nothing_exactly c.flush.ensures.conflict_exactly at))
    (record { entry = put.items ∙ ap (λ (own : List RowChange). entered store.journal.items c.args.actor (step.Flush own None)) c.requires.copied; room = omega arith }) in
    let now = with-same store.env c.flush.new.self (c.flush.ensures.nothing_leaves_all at) here in
    record { tells = c.flush.ensures.stays.tells ∙ store.tells; accounted = now.accounted; booked = now.booked; told = now.told; safe = now.safe }

pub invariant_of-self-in-Conflict : goal.invariant_of-self-in-Conflict
invariant_of-self-in-Conflict g c =
    let store = c.args.self.now in
    let txn = c.args.txn.now in
    let at = behind c.flush.result (Ok (answer.Conflict c.in-Conflict.base c.in-Conflict.now)) (sym c.answered.ensures ∙ c.in_ok-answer.was {u = tt} ∙ ap Ok c.in-Conflict.is) in
    let base_is = ap (λ v. v.version) c.view.ensures in
    let put = c.enter-in-Conflict.ensures in
    let here = unchanged-facts (record { accounted = store.accounted; booked = store.booked; told = store.told; safe = store.safe }) c.args.actor (txn_over txn.mode txn.view.version (snapshot_trees (g.V.Held.Lease.lent txn.view.lease) txn.view.roots) txn.changes) c.requires.is_open.seat c.requires.is_open.fits
    (ap (λ (b : ℕ). version_of (flush_answer store.env.commit b txn.changes)) (sym base_is) ∙ ap version_of (answer-conflict c.overlay.ensures.kept c.flush.ensures.broken_exactly c.flush.ensures.nothing_exactly c.flush.ensures.conflict_exactly _ _ at))
    (record { entry = put.items ∙ ap (λ (own : List RowChange). entered store.journal.items c.args.actor (step.Flush own None)) c.requires.copied; room = omega arith }) in
    let now = with-same store.env c.flush.new.self (c.flush.ensures.conflict_leaves_all _ _ at) here in
    record { tells = c.flush.ensures.stays.tells ∙ store.tells; accounted = now.accounted; booked = now.booked; told = now.told; safe = now.safe }

pub invariant_of-self-in-Committed : goal.invariant_of-self-in-Committed
invariant_of-self-in-Committed g c =
    let store = c.args.self.now in
    let txn = c.args.txn.now in
    let flush = c.flush.ensures in
    let at = behind c.flush.result (Ok (answer.Committed c.in-Committed.version c.in-Committed.fault)) (sym c.answered.ensures ∙ c.in_ok-answer.was {u = tt} ∙ ap Ok c.in-Committed.is) in
    let made = c.flush.ensures.committed _ at in
    let base_is = ap (λ v. v.version) c.view.ensures in
    let put = c.enter-in-Committed.ensures in
    let here = here-commit c.overlay.ensures.kept c.flush.ensures.broken_exactly c.flush.ensures.nothing_exactly c.flush.ensures.conflict_exactly _ at in
    let is_open = open-is _ _ _ _ _ _ _ store.booked c.args.actor _ c.requires.is_open.seat in
    let now = made-facts store.env.roots c.flush.new.self.roots c.flush.new.self.commit (record { accounted = store.accounted; booked = store.booked; told = store.told; safe = store.safe }) (whole-commit c.overlay.ensures.kept c.flush.ensures.broken_exactly c.flush.ensures.nothing_exactly c.flush.ensures.conflict_exactly _ at) flush.stays.tells flush.stays.faults
    (λ is. flush.device (flush.breaks_only_by_device (whole-commit c.overlay.ensures.kept c.flush.ensures.broken_exactly c.flush.ensures.nothing_exactly c.flush.ensures.conflict_exactly _ at) is))
    (last-commit c.overlay.ensures.kept c.flush.ensures.broken_exactly c.flush.ensures.nothing_exactly c.flush.ensures.conflict_exactly c.flush.new.self.commit flush.goes_on _ at flush.spent_by_file (λ whole some base last. (flush.spent_by_commit whole some base last).0))
    (λ told. flush.crash told (whole-commit c.overlay.ensures.kept c.flush.ensures.broken_exactly c.flush.ensures.nothing_exactly c.flush.ensures.conflict_exactly _ at)) flush.steady
    c.args.actor txn.mode txn.view.version (snapshot_trees (g.V.Held.Lease.lent txn.view.lease) txn.view.roots) txn.changes c.requires.is_open.seat c.requires.is_open.fits (sym base_is ∙ here)
    (touched c.overlay.result.now) (λ told. c.overlay.ensures.over (c.requires.is_open.told told)) (λ told tree. flush.trees told _ tree at) (made.1 ∙ made.0)
    (ap (λ (b : ℕ). flush_answer store.env.commit b txn.changes) (sym base_is) ∙ answer-commit c.overlay.ensures.kept c.flush.ensures.broken_exactly c.flush.ensures.nothing_exactly c.flush.ensures.conflict_exactly _ at made.0 ∙ ap (λ (n : ℕ). answer.Committed n None) (sym made.1))
    (c.rebase.ensures _ is_open ∙ ap (λ (b : ℕ). insert store.open_txns c.args.actor (record { mode = txn.mode; base = b })) (sym made.1))
    c.requires.names
    (record { entry = put.items ∙ (λ i. entered store.journal.items c.args.actor (step.Flush (c.requires.copied i) (Some (sym made.1 i)))); room = omega arith }) in
    record { tells = flush.stays.tells ∙ store.tells; accounted = now.accounted; booked = now.booked; told = now.told; safe = now.safe }

pub returns-in-Conflict-clause-flushes : goal.returns-in-Conflict-clause-flushes
returns-in-Conflict-clause-flushes g c =
    let store = c.args.self.now in
    let txn = c.args.txn.now in
    let at = behind c.flush.result (Ok (answer.Conflict c.in-Conflict.base c.in-Conflict.now)) (sym c.answered.ensures ∙ c.in_ok-answer.was {u = tt} ∙ ap Ok c.in-Conflict.is) in
    record {
      unbroken = whole-conflict c.overlay.ensures.kept c.flush.ensures.broken_exactly c.flush.ensures.nothing_exactly c.flush.ensures.conflict_exactly _ _ at;
      answer_is = sym ((λ i. flush_answer (store.booked.newest i) (sym (c.view.ensures) i).version txn.changes) ∙ answer-conflict c.overlay.ensures.kept c.flush.ensures.broken_exactly c.flush.ensures.nothing_exactly c.flush.ensures.conflict_exactly _ _ at);
      entry = c.enter-in-Conflict.ensures.items ∙ ap (λ (own : List RowChange). entered store.journal.items c.args.actor (step.Flush own None)) c.requires.copied;
    }

pub returns-in-Committed-clause-flushes : goal.returns-in-Committed-clause-flushes
returns-in-Committed-clause-flushes g c =
    let store = c.args.self.now in
    let txn = c.args.txn.now in
    let at = behind c.flush.result (Ok (answer.Committed c.in-Committed.version c.in-Committed.fault)) (sym c.answered.ensures ∙ c.in_ok-answer.was {u = tt} ∙ ap Ok c.in-Committed.is) in
    let made = c.flush.ensures.committed _ at in
    record {
      unbroken = whole-commit c.overlay.ensures.kept c.flush.ensures.broken_exactly c.flush.ensures.nothing_exactly c.flush.ensures.conflict_exactly _ at;
      answer_is = sym ((λ i. flush_answer (store.booked.newest i) (sym (c.view.ensures) i).version txn.changes) ∙ answer-commit c.overlay.ensures.kept c.flush.ensures.broken_exactly c.flush.ensures.nothing_exactly c.flush.ensures.conflict_exactly _ at made.0);
      entry = c.enter-in-Committed.ensures.items ∙ ap (λ (own : List RowChange). entered store.journal.items c.args.actor (step.Flush own (Some c.in-Committed.version))) c.requires.copied;
    }

pub returns-in-Committed-clause-may_go_on : goal.returns-in-Committed-clause-may_go_on
returns-in-Committed-clause-may_go_on g c =
    let store = c.args.self.now in
    let txn = c.args.txn.now in
    let flush = c.flush.ensures in
    let at = behind c.flush.result (Ok (answer.Committed c.in-Committed.version c.in-Committed.fault)) (sym c.answered.ensures ∙ c.in_ok-answer.was {u = tt} ∙ ap Ok c.in-Committed.is) in
    let made = c.flush.ensures.committed _ at in
    let here = here-commit c.overlay.ensures.kept c.flush.ensures.broken_exactly c.flush.ensures.nothing_exactly c.flush.ensures.conflict_exactly _ at in (
      unbroken-commit c.overlay.ensures.kept c.flush.ensures.broken_exactly c.flush.ensures.nothing_exactly c.flush.ensures.conflict_exactly _ at c.flush.new.self.is_broken flush.breaks_only_by_device,
      made.1,
      λ tell. let told = sym flush.stays.tells ∙ tell in
          rows-committed _ _ _ _ (store.told told) c.args.actor txn.mode txn.view.version (snapshot_trees (g.V.Held.Lease.lent txn.view.lease) txn.view.roots) txn.changes c.requires.is_open.seat (c.requires.is_open.fits told)
          ((λ i. (sym (c.view.ensures) i).version) ∙ here ∙ sym store.booked.newest) c.in-Committed.version c.enter-in-Committed.new.journal.items
          (c.enter-in-Committed.ensures.items ∙ ap (λ (own : List RowChange). entered store.journal.items c.args.actor (step.Flush own (Some c.in-Committed.version))) c.requires.copied),
    )

pub returns-in_err-answer-clause-refused : goal.returns-in_err-answer-clause-refused
returns-in_err-answer-clause-refused g c =
    let flush = c.flush.ensures in
    let error = err_from_is_err_and c.from_residual.result c.from_residual.ensures.1 in
    let at = behind c.flush.result (Err error.0) (sym c.answered.ensures ∙ c.in_err-answer.was {u = tt} ∙ ap Err (sym error.2)) in
    let keeps = rw at at flush.refused in
    rw error.1 (flush-refused c.overlay.ensures.kept c.flush.ensures.broken_exactly c.flush.ensures.nothing_exactly c.flush.ensures.conflict_exactly c.flush.new.self.commit flush.goes_on _ _ _ _ error.0 at refl refl flush.device flush.never_damaged flush.spent_only keeps.commit (λ is. is))

pub returns-in_err-answer-clause-undamaged : goal.returns-in_err-answer-clause-undamaged
returns-in_err-answer-clause-undamaged g c told place is =
    let error = err_from_is_err_and c.from_residual.result c.from_residual.ensures.1 in
    c.flush.ensures.never_damaged told place (behind c.flush.result (Err _) (sym c.answered.ensures ∙ c.in_err-answer.was {u = tt} ∙ ap Err (sym error.2) ∙ sym error.1 ∙ is))

pub returns-in_err-answer-clause-spent : goal.returns-in_err-answer-clause-spent
returns-in_err-answer-clause-spent g c last is =
    let error = err_from_is_err_and c.from_residual.result c.from_residual.ensures.1 in
    c.flush.ensures.spent_only last (behind c.flush.result (Err _) (sym c.answered.ensures ∙ c.in_err-answer.was {u = tt} ∙ ap Err (sym error.2) ∙ sym error.1 ∙ is))

pub returns-in-Nothing-clause-flushes : goal.returns-in-Nothing-clause-flushes
returns-in-Nothing-clause-flushes g c =
    let store = c.args.self.now in
    let txn = c.args.txn.now in
    let at = behind c.flush.result (Ok (answer.Nothing)) (sym c.answered.ensures ∙ c.in_ok-answer.was {u = tt} ∙ ap Ok c.in-Nothing.is) in
    record {
      unbroken = whole-nothing c.overlay.ensures.kept c.flush.ensures.broken_exactly c.flush.ensures.nothing_exactly c.flush.ensures.conflict_exactly at;
      answer_is = sym ((λ i. flush_answer (store.booked.newest i) (sym (c.view.ensures) i).version txn.changes) ∙ answer-nothing c.overlay.ensures.kept c.flush.ensures.broken_exactly c.flush.ensures.nothing_exactly c.flush.ensures.conflict_exactly at);
      entry = c.enter.ensures.items ∙ ap (λ (own : List RowChange). entered store.journal.items c.args.actor (step.Flush own None)) c.requires.copied;
    }

pub returns-in-Nothing-clause-keeps : goal.returns-in-Nothing-clause-keeps
returns-in-Nothing-clause-keeps g c =
    let at = behind c.flush.result (Ok (answer.Nothing)) (sym c.answered.ensures ∙ c.in_ok-answer.was {u = tt} ∙ ap Ok c.in-Nothing.is) in
    let same = c.flush.ensures.nothing_leaves_all at in
    record {
      tells_same = c.flush.ensures.stays.tells;
      start_same = refl;
      made_same = refl;
      sessions_same = refl;
      never_falls = c.flush.ensures.stays.faults;
      stays_broken = λ is. (λ i. (same i).is_broken) ∙ is;
      stays_last = λ is. (λ i. is_spent ((same i).log) ((same i).commit)) ∙ is;
    }

pub returns-in-Conflict-clause-keeps : goal.returns-in-Conflict-clause-keeps
returns-in-Conflict-clause-keeps g c =
    let at = behind c.flush.result (Ok (answer.Conflict c.in-Conflict.base c.in-Conflict.now)) (sym c.answered.ensures ∙ c.in_ok-answer.was {u = tt} ∙ ap Ok c.in-Conflict.is) in
    let same = c.flush.ensures.conflict_leaves_all _ _ at in
    record {
      tells_same = c.flush.ensures.stays.tells;
      start_same = refl;
      made_same = refl;
      sessions_same = refl;
      never_falls = c.flush.ensures.stays.faults;
      stays_broken = λ is. (λ i. (same i).is_broken) ∙ is;
      stays_last = λ is. (λ i. is_spent ((same i).log) ((same i).commit)) ∙ is;
    }

pub returns-in-Committed-clause-keeps : goal.returns-in-Committed-clause-keeps
returns-in-Committed-clause-keeps g c =
    let flush = c.flush.ensures in
    let at = behind c.flush.result (Ok (answer.Committed c.in-Committed.version c.in-Committed.fault)) (sym c.answered.ensures ∙ c.in_ok-answer.was {u = tt} ∙ ap Ok c.in-Committed.is) in
    record {
      tells_same = flush.stays.tells;
      start_same = refl;
      made_same = refl;
      sessions_same = refl;
      never_falls = flush.stays.faults;
      stays_broken = λ is. absurd (false≢true (sym (whole-commit c.overlay.ensures.kept c.flush.ensures.broken_exactly c.flush.ensures.nothing_exactly c.flush.ensures.conflict_exactly _ at) ∙ is));
      stays_last = last-commit c.overlay.ensures.kept c.flush.ensures.broken_exactly c.flush.ensures.nothing_exactly c.flush.ensures.conflict_exactly c.flush.new.self.commit flush.goes_on _ at flush.spent_by_file (λ whole some base last. (flush.spent_by_commit whole some base last).0);
    }

pub returns-in_err-answer-clause-crash : goal.returns-in_err-answer-clause-crash
returns-in_err-answer-clause-crash g c told calm =
    let store = c.args.self.now in
    at-least-wrote store.env c.flush.new.self c.flush.ensures.broken_before_all (c.flush.ensures.crash told) (store.safe told calm).steady (synced-low _ _ _ _ _ _ _ store.booked) (store.safe told calm).leaves.synced

pub returns-in-Nothing-clause-crash : goal.returns-in-Nothing-clause-crash
returns-in-Nothing-clause-crash g c told calm =
    let store = c.args.self.now in
    at-least-wrote store.env c.flush.new.self c.flush.ensures.broken_before_all (c.flush.ensures.crash told) (store.safe told calm).steady (synced-low _ _ _ _ _ _ _ store.booked) (store.safe told calm).leaves.synced

pub returns-in-Conflict-clause-crash : goal.returns-in-Conflict-clause-crash
returns-in-Conflict-clause-crash g c told calm =
    let store = c.args.self.now in
    at-least-wrote store.env c.flush.new.self c.flush.ensures.broken_before_all (c.flush.ensures.crash told) (store.safe told calm).steady (synced-low _ _ _ _ _ _ _ store.booked) (store.safe told calm).leaves.synced

pub returns-in-Committed-clause-crash : goal.returns-in-Committed-clause-crash
returns-in-Committed-clause-crash g c told calm =
    let store = c.args.self.now in
    at-least-wrote store.env c.flush.new.self c.flush.ensures.broken_before_all (c.flush.ensures.crash told) (store.safe told calm).steady (synced-low _ _ _ _ _ _ _ store.booked) (store.safe told calm).leaves.synced
