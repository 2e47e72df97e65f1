use Rattle.std.proofs.Common.{List, sym, ap, subst, ◌∙◌}
use Rattle.std.specs.Prelude.{is_ok, IsTrue, Ok}
use Rattle.xod_base.specs.declared.answer.ActAnswer.{ActAnswer}
use Rattle.std.specs.List.{list_all}
use Rattle.xod_journal.specs.declared.change.RowChange.{RowChange}
use Rattle.xod_journal.specs.Changes.{act_answer, is_change}
use Rattle.xod_journal.specs.Locals.{Acts}
use Rattle.xod_overlay.specs.Marks.{touched}
use Rattle.xod_estxn.specs.Txns.{IsKept, IsOver, txn_over}
use Rattle.xod_estxn.proofs.Acting.{acts-made, either_kept, kept-more, over-more, txn-grows}
use Rattle.xod_estxn.proofs.Moving.{stays_over}
use Rattle.xod_estxn.proofs.txn.EntityTxn.write.Goals as goal

pub invariant_of-self-2 : goal.invariant_of-self-2
invariant_of-self-2 g c =
    let laws = c.know_laws.ensures in
    let own = c.args.self.now.changes in
    let touches = touched c.args.self.now.own in
    let trees = g.T.TreeView.trees c.args.self.now.view in
    let plans = c.in_ok-plan.ensures.plans in
    let plan = c.in_ok-plan.plan in
    let known = subst (λ (changes : List RowChange). IsTrue (list_all is_change changes)) c.as_slice.ensures c.know_changes.ensures in
    record {
      kept = either_kept IsKept (is_ok c.keep.result) c.keep.ensures.changes c.keep.ensures.touches c.args.self.now.kept
          (kept-more laws.more own touches plan c.args.self.now.kept plans.plan);
      over = stays_over c.expand_over.ensures.keeps (λ told.
          let over = c.args.self.now.over told in
          either_kept (IsOver trees) (is_ok c.keep.result) c.keep.ensures.changes c.keep.ensures.touches over
          (over-more laws trees own touches c.args.act.now over c.requires.names plan known (plans.changes told _ over.seen) (plans.writes told _ over.seen)));
    }

pub returns-clause-acts : goal.returns-clause-acts
returns-clause-acts g c =
    let plans = c.in_ok-plan.ensures.plans in
    let plan = c.in_ok-plan.plan in
    let keeps = c.expand_over.ensures.keeps in
    let old = txn_over c.args.self.now.mode (g.T.TreeView.commit c.args.self.now.view) (g.T.TreeView.trees c.args.self.now.view) c.args.self.now.changes in
    let new = txn_over c.args.self.now.mode (g.T.TreeView.commit c.expand_over.new.view) (g.T.TreeView.trees c.expand_over.new.view) c.keep.new.changes in
    subst (λ (answer : ActAnswer). Acts (g.T.TreeView.tells c.args.self.now.view) c.args.act.now old new (Ok answer))
    (sym (c.answer_to-answer.ensures ∙ ap act_answer c.as_slice-2.ensures))
    (acts-made c.args.act.now old new c.requires.writes plan.changes
    (txn-grows c.args.self.now.mode c.args.self.now.changes _ plan.changes keeps.commit_same keeps.trees_same c.in_ok-keep.ensures.changes)
    (λ told. plans.changes told _ (c.args.self.now.over told).seen))
