use Rattle.std.proofs.Common.{◌≡◌, ◌∙◌, None, Some, ap, sym}
use Rattle.std.specs.Prelude.{is_some}
use Rattle.std.specs.FinMap.{get, insert}
use Rattle.std.proofs.lemmas.Bool.{false≢true}
use Rattle.std.proofs.lemmas.Option.{same_Some}
use Rattle.xod_journal.specs.declared.journal.Pinned.{Pinned}
use Rattle.xod_books.proofs.TxnLemmas.{from_sorted-inserted, get-sorted, is_sorted-rising}
use Rattle.xod_books.proofs.txns.TxnMap.rebase.Goals as goal

pub unreachable-requires : goal.unreachable-requires
unreachable-requires c =
    let there : get c.args.self.now c.args.actor ≡ None = ap (λ m. get m c.args.actor) (sym c.self.view_is) ∙ get-sorted _ _ c.self.invariant ∙ sym c.in-None.ensures.value in
    false≢true (ap is_some (sym there) ∙ c.requires)

pub invariant_of-self : goal.invariant_of-self
invariant_of-self c = is_sorted-rising _ (c.get_mut.follows.holds (record { mode = c.in-Some.txn.now.mode; base = c.args.base })).4

pub returns : goal.returns
returns c txn here =
    let there : get c.args.self.now c.args.actor ≡ Some c.in-Some.txn.now = ap (λ m. get m c.args.actor) (sym c.self.view_is) ∙ get-sorted _ _ c.self.invariant ∙ sym c.in-Some.ensures.value in
    let same = same_Some _ _ (sym there ∙ here) in
    let now = c.get_mut.follows.holds (record { mode = c.in-Some.txn.now.mode; base = c.args.base }) in
    from_sorted-inserted c.self.inside.items.entries _ c.args.actor c.self.invariant now.4 (record { mode = c.in-Some.txn.now.mode; base = c.args.base }) ((now.3 (ap is_some (sym c.in-Some.ensures.value))).0)
    ∙ ap (λ m. insert m c.args.actor (record { mode = c.in-Some.txn.now.mode; base = c.args.base })) c.self.view_is
    ∙ ap (λ (t : Pinned). insert c.args.self.now c.args.actor (record { mode = t.mode; base = c.args.base })) same
