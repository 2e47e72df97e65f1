use Rattle.std.proofs.Common.{ℕ, true, Option, Some, sym, ap, ◌∙◌, ◌≡◌, true≢false}
use Rattle.std.specs.Prelude.{nat_eq, is_some, ◌==◌}
use Rattle.std.specs.FinMap.{entries, len}
use Rattle.xod_base.specs.Views.{Tree}
use Rattle.xod_audit.specs.Checks.{counted}
use Rattle.xod_tables.specs.Reading.{tree_at}
use Rattle.xod_audit.proofs.Counting.{counted_alone}
use Rattle.xod_audit.proofs.Looked.{looks-done, steady-after}
use Rattle.xod_audit.proofs.count.has_count.Goals as goal

of_some : (t : Tree) (o : Option ℕ) (found count : ℕ) → o ≡ counted (λ e. true) (entries t) → o ≡ Some found → nat_eq found count ≡ (len t == count)
of_some t o found count is some = let same : Some found ≡ Some (len t) = sym some ∙ is ∙ counted_alone t in let own : found ≡ len t = cc same in ap (λ (n : ℕ). nat_eq n count) own

pub returns-in-None : goal.returns-in-None
returns-in-None g c =
    let looks = (c.in_ok-count_passing.ensures {u = tt}).looks in
    record { looks = looks-done _ _ _ _ (steady-after _ _ _ _ looks) (λ told there. absurd (true≢false (ap is_some (sym (counted_alone (tree_at (g.T.TreeView.trees c.args.view.now) c.args.tree)) ∙ sym (looks.value told there) ∙ c.in-None.is)))) }

pub returns-in-Some : goal.returns-in-Some
returns-in-Some g c =
    let looks = (c.in_ok-count_passing.ensures {u = tt}).looks in
    record { looks = looks-done _ _ _ _ (steady-after _ _ _ _ looks) (λ told there. of_some (tree_at (g.T.TreeView.trees c.args.view.now) c.args.tree) c.in_ok-count_passing.field-0 c.in-Some.found c.args.count (looks.value told there) c.in-Some.is) }
