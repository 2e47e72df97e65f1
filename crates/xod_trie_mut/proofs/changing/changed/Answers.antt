use Rattle.std.proofs.Common.{◌≡◌, ◌∙◌, sym, subst, Bool, Option, Some, false, length}
use Rattle.std.specs.Prelude.{IsSome, IfSome, IfOk}
use Rattle.std.specs.Option.{option_map}
use Rattle.std.proofs.lemmas.Result.{IfOk-weaker, IfErr-weaker}
use Rattle.xod_block.specs.declared.address.Address.{Address}
use Rattle.xod_block.specs.Maps.{RecordsAt}
use Rattle.xod_block.proofs.CallerLemmas.{Stays-then}
use Rattle.xod_trie.specs.Tries.{TrieMap, trie_map}
use Rattle.xod_trie_mut.specs.Changes.{KeysFit, SetNothing, with_changes}
use Rattle.xod_trie_mut.specs.Fingers.{IsClosed, IsFinger}
use Rattle.xod_trie_mut.specs.Own.{IsRoot, with_own}
use Rattle.xod_trie_mut.specs.Stops.{StopsBy}
use Rattle.xod_trie_mut.proofs.ChangeLemmas.{if_some, some-fit, some-still}
use Rattle.xod_trie_mut.proofs.FingerLemmas.{forth, back}
use Rattle.xod_trie_mut.proofs.LoadLemmas.{stops-weaker}
use Rattle.xod_trie_mut.proofs.OwnLemmas.{extends-length, root-more}
use Rattle.xod_trie_mut.proofs.changing.changed.Goals as goal

pub returns-in-Err-change_all-clause-stops : goal.returns-in-Err-change_all-clause-stops
returns-in-Err-change_all-clause-stops g c base each root_is =
    let t = g.F.Fetch.tells c.args.fetch.now in
    let R = g.F.Fetch.records c.args.fetch.now in
    let W = with_own c.args.own.now R in
    let s = c.opened_root.ensures.stays in
    let first = c.in-Ok.first in
    let root = c.args.root in
    let map = trie_map W root in
    let e = c.copy_of.ensures in
    let f0 = c.in-Ok.ensures.opens base each (subst (λ (r : Option Address). IsRoot base (length c.args.own.now) r) (sym e) root_is) in
    let f1 = subst (λ (r : Option Address). IsFinger t R base r c.args.own.now first.levels.items first.focus (trie_map W r)) e f0 in
    back (λ (u : Bool) (S : RecordsAt). StopsBy u S (IsSome map) (IfSome map KeysFit) c.in-Err-change_all.stop) s
    (c.in-Err-change_all.ensures.stops base root map (forth (λ (u : Bool) (S : RecordsAt). IsFinger u S base root c.args.own.now first.levels.items first.focus map) s f1) c.in-Ok.ensures.on_way)

pub returns-clause-changes : goal.returns-clause-changes
returns-clause-changes g c base each root_is =
    let t = g.F.Fetch.tells c.args.fetch.now in
    let R = g.F.Fetch.records c.args.fetch.now in
    let W = with_own c.args.own.now R in
    let s = c.opened_root.ensures.stays in
    let s2 = c.change_all.ensures.stays in
    let first = c.in-Ok.first in
    let made = c.in-Ok-change_all.made in
    let own = c.change_all.new.own in
    let root = c.args.root in
    let map = trie_map W root in
    let end : Option TrieMap = option_map (λ m. with_changes m c.args.changes.now) map in
    let e = c.copy_of.ensures in
    let f0 = c.in-Ok.ensures.opens base each (subst (λ (r : Option Address). IsRoot base (length c.args.own.now) r) (sym e) root_is) in
    let f1 = subst (λ (r : Option Address). IsFinger t R base r c.args.own.now first.levels.items first.focus (trie_map W r)) e f0 in
    let f2 = c.in-Ok-change_all.ensures.changes base root map (forth (λ (u : Bool) (S : RecordsAt). IsFinger u S base root c.args.own.now first.levels.items first.focus map) s f1) c.in-Ok.ensures.on_way in
    let f3 = forth (λ (u : Bool) (S : RecordsAt). IsFinger u S base root own made.levels.items made.focus end) s2 f2 in
    IfOk-weaker c.closed.result _ _ (λ made h. back (λ (u : Bool) (S : RecordsAt). IsClosed u S base c.closed.new.own made.root end) (Stays-then s s2) h)
    (c.closed.ensures.closes base end f3 (root-more base (length c.args.own.now) (length own) root (extends-length c.args.own.now own c.change_all.ensures.extends) root_is))

pub returns-clause-stops : goal.returns-clause-stops
returns-clause-stops g c base each root_is =
    let t = g.F.Fetch.tells c.args.fetch.now in
    let R = g.F.Fetch.records c.args.fetch.now in
    let W = with_own c.args.own.now R in
    let s = c.opened_root.ensures.stays in
    let s2 = c.change_all.ensures.stays in
    let first = c.in-Ok.first in
    let made = c.in-Ok-change_all.made in
    let own = c.change_all.new.own in
    let root = c.args.root in
    let map = trie_map W root in
    let end : Option TrieMap = option_map (λ m. with_changes m c.args.changes.now) map in
    let e = c.copy_of.ensures in
    let f0 = c.in-Ok.ensures.opens base each (subst (λ (r : Option Address). IsRoot base (length c.args.own.now) r) (sym e) root_is) in
    let f1 = subst (λ (r : Option Address). IsFinger t R base r c.args.own.now first.levels.items first.focus (trie_map W r)) e f0 in
    let f2 = c.in-Ok-change_all.ensures.changes base root map (forth (λ (u : Bool) (S : RecordsAt). IsFinger u S base root c.args.own.now first.levels.items first.focus map) s f1) c.in-Ok.ensures.on_way in
    let f3 = forth (λ (u : Bool) (S : RecordsAt). IsFinger u S base root own made.levels.items made.focus end) s2 f2 in
    IfErr-weaker c.closed.result _ _ (λ stop h.
    stops-weaker t R (IsSome end) (IfSome end KeysFit) (IsSome map) (IfSome map KeysFit) stop
    (λ told some. some-still map c.args.changes.now some) (λ told some fits. some-fit map c.args.changes.now c.requires fits)
    (back (λ (u : Bool) (S : RecordsAt). StopsBy u S (IsSome end) (IfSome end KeysFit) stop) (Stays-then s s2) h)) (c.closed.ensures.stops base end f3)

pub returns-clause-untouched : goal.returns-clause-untouched
returns-clause-untouched g c base each root_is told =
    let t = g.F.Fetch.tells c.args.fetch.now in
    let R = g.F.Fetch.records c.args.fetch.now in
    let W = with_own c.args.own.now R in
    let s = c.opened_root.ensures.stays in
    let first = c.in-Ok.first in
    let root = c.args.root in
    let e = c.copy_of.ensures in
    let f0 = c.in-Ok.ensures.opens base each (subst (λ (r : Option Address). IsRoot base (length c.args.own.now) r) (sym e) root_is) in
    let f1 = subst (λ (r : Option Address). IsFinger t R base r c.args.own.now first.levels.items first.focus (trie_map W r)) e f0 in
    if_some (trie_map W root) (λ map. SetNothing map c.args.changes.now → IfOk c.closed.result (λ made. (c.closed.new.own ≡ c.args.own.now) × (made.root ≡ root) × (made.changed ≡ false))) (λ m is nothing.
    let f2 = subst (λ (x : Option TrieMap). IsFinger t R base root c.args.own.now first.levels.items first.focus x) is f1 in
    let u = c.in-Ok-change_all.ensures.untouched base root m (forth (λ (v : Bool) (S : RecordsAt). IsFinger v S base root c.args.own.now first.levels.items first.focus (Some m)) s f2) c.in-Ok.ensures.on_way (s.tells_same ∙ told) nothing c.in-Ok.ensures.untouched in
    IfOk-weaker c.closed.result _ _ (λ made h. (h.0 ∙ u.0, h.1, h.2)) (c.closed.ensures.untouched u.1))
