use Rattle.std.proofs.Common.{◌≡◌, ℕ, List, sym, ap, ◌∙◌}
use Rattle.std.specs.Ordering.{is_gt}
use Rattle.xod_base.specs.Values.{bytes_cmp}
use Rattle.xod_range.specs.Ranges.{behind}
use Rattle.xod_range.proofs.Steps.{Ended, Begins, ended-none, ended-behind, begins, ended-answers, ended-goes_on, begins-answers, begins-goes_on}
use Rattle.xod_range.proofs.range.Range.step.Goals as goal

test : {k l : List ℕ} {key last : List ℕ} → k ≡ key → l ≡ last → is_gt (bytes_cmp key last) ≡ is_gt (bytes_cmp k l)
test key last = λ i. is_gt (bytes_cmp (sym key i) (sym last i))

none_left : (g : _) (c : goal.In-None g) → Ended (g.T.TreeView.tells c.args.view.now) (g.T.TreeView.trees c.args.view.now c.args.self.now.tree) c.args.self.now
none_left g c = ended-none _ _ c.args.self.now c.in_ok-onward.field-0 (c.in_ok-onward.ensures {u = tt}).answers c.in-None.is

pub returns-in-None-clause-answers : goal.returns-in-None-clause-answers
returns-in-None-clause-answers g c = ended-answers _ _ c.args.self.now (none_left g c)

pub returns-in-None-clause-goes_on : goal.returns-in-None-clause-goes_on
returns-in-None-clause-goes_on g c = ended-goes_on _ _ c.args.self.now (none_left g c)

behind_last : (g : _) (c : goal.After-drop-pair-then-lies_behind g) → Ended (g.T.TreeView.tells c.args.view.now) (g.T.TreeView.trees c.args.view.now c.args.self.now.tree) c.args.self.now
behind_last g c =
    ended-behind _ _ c.args.self.now c.in_ok-onward.field-0 c.in-Some.pair (c.in_ok-onward.ensures {u = tt}).answers c.in-Some.is
    (test c.as_slice.ensures c.as_slice-in-Some.ensures ∙ sym c.lies_behind.ensures ∙ c.if-lies_behind.true)

pub returns-then-lies_behind-clause-answers : goal.returns-then-lies_behind-clause-answers
returns-then-lies_behind-clause-answers g c = ended-answers _ _ c.args.self.now (behind_last g c)

pub returns-then-lies_behind-clause-goes_on : goal.returns-then-lies_behind-clause-goes_on
returns-then-lies_behind-clause-goes_on g c = ended-goes_on _ _ c.args.self.now (behind_last g c)

comes : (g : _) (c : goal.In_ok-go_behind-in-Some g) → Begins (g.T.TreeView.tells c.args.view.now) (g.T.TreeView.trees c.args.view.now c.args.self.now.tree) c.args.self.now c.in-Some.pair
comes g c =
    begins _ _ c.args.self.now c.in_ok-onward.field-0 c.in-Some.pair (c.in_ok-onward.ensures {u = tt}).answers c.in-Some.is
    (test c.as_slice.ensures c.as_slice-in-Some.ensures ∙ sym c.lies_behind.ensures ∙ c.if-lies_behind.false)

pub returns-in_ok-go_behind-in-Some-clause-answers : goal.returns-in_ok-go_behind-in-Some-clause-answers
returns-in_ok-go_behind-in-Some-clause-answers g c = begins-answers _ _ c.args.self.now c.in-Some.pair (comes g c)

pub returns-in_ok-go_behind-in-Some-clause-goes_on : goal.returns-in_ok-go_behind-in-Some-clause-goes_on
returns-in_ok-go_behind-in-Some-clause-goes_on g c =
    begins-goes_on _ _ c.args.self.now c.in-Some.pair c.go_behind.new.self (comes g c)
    (c.in_ok-go_behind-in-Some.ensures {u = tt} ∙ ap (behind c.args.self.now) c.as_slice-in-Some-2.ensures)
