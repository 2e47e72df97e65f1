use Rattle.std.proofs.Common.{List, Option, refl, subst, sym}
use Rattle.xod_overlay.specs.declared.overlay.Touched.{Touched}
use Rattle.xod_overlay.specs.Marks.{TouchMap, touched}
use Rattle.xod_trie_mut.specs.declared.change.Change.{Change}
use Rattle.xod_commit.proofs.Walks.{IsWalked, walk-ends, walk-goes_on}
use Rattle.xod_commit.proofs.tree.touched_list.Goals as goal

pub touches-preserved : goal.touches-preserved
touches-preserved c =
    let touches : TouchMap = touched c.args.changes.now c.args.tree in
    let change : Change = record { key = c.in-Some.touch.key; value = c.in-Some.touch.value } in
    let next = c.next_touched-next-in-Some.result in
    let walked = subst (λ (n : Option Touched). IsWalked touches c.touches.list.items n) c.in-Some.is c.touches.invariant in
    subst (λ (l : List Change). IsWalked touches l next) (sym c.in_ok-push.ensures.items)
    (walk-goes_on c.walks_meet_all_touches.ensures.go_on touches c.touches.list.items c.in-Some.touch change next walked refl c.next_touched-next-in-Some.ensures)

pub returns : goal.returns
returns c =
    let touches : TouchMap = touched c.args.changes.now c.args.tree in
    walk-ends touches c.touches.list.items (subst (λ (n : Option Touched). IsWalked touches c.touches.list.items n) c.in_default.is c.touches.invariant)
