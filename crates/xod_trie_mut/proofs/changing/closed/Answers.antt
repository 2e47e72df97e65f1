use Rattle.std.proofs.Common.{◌≡◌, refl, true, false, Bool, length}
use Rattle.std.specs.Prelude.{IsSome, IfSome, not}
use Rattle.xod_block.specs.Maps.{RecordsAt}
use Rattle.xod_trie.specs.Branches.{value_by}
use Rattle.xod_trie.specs.Tries.{value_at}
use Rattle.xod_trie_mut.specs.Changes.{KeysFit}
use Rattle.xod_trie_mut.specs.Fingers.{HaveMaps, ValuesFit}
use Rattle.xod_trie_mut.specs.Own.{with_own}
use Rattle.xod_trie_mut.specs.Settling.{IsSettled}
use Rattle.xod_trie_mut.specs.Stops.{StopsBy}
use Rattle.xod_trie_mut.proofs.ChangeLemmas.{closed-same, closed-settled}
use Rattle.xod_trie_mut.proofs.FingerLemmas.{back, held-last, finger-maps, finger-fits}
use Rattle.xod_trie_mut.proofs.LoadLemmas.{stops-weaker}
use Rattle.xod_trie_mut.proofs.OwnLemmas.{extends-length, root-more}
use Rattle.xod_trie_mut.proofs.changing.closed.Goals as goal

not-true : (b : Bool) → not b ≡ true → b ≡ false
not-true true e = absurd cc
not-true false e = refl

pub returns-in-Err-clause-stops : goal.returns-in-Err-clause-stops
returns-in-Err-clause-stops g c base map f = c.in-Err.ensures.stops base c.args.root map f

pub returns-then-not-focus-clause-closes : goal.returns-then-not-focus-clause-closes
returns-then-not-focus-clause-closes g c base map f root_is =
    let top = c.in-Ok.top in
    let f1 = c.in-Ok.ensures.finger base c.args.root map f in
    closed-same (g.F.Fetch.tells c.args.fetch.now) (g.F.Fetch.records c.args.fetch.now) base c.args.root c.turn_back.new.own top.levels.items top.focus map f1 (c.in-Ok.ensures.low base c.args.root map f) (not-true top.focus.changed c.if-not-focus.true) (root-more base (length c.args.own.now) (length c.turn_back.new.own) c.args.root (extends-length c.args.own.now c.turn_back.new.own c.turn_back.ensures.extends) root_is)

pub returns-in-Ok-settle-clause-closes : goal.returns-in-Ok-settle-clause-closes
returns-in-Ok-settle-clause-closes g c base map f root_is =
    let t = g.F.Fetch.tells c.args.fetch.now in
    let R = g.F.Fetch.records c.args.fetch.now in
    let top = c.in-Ok.top in
    let own = c.turn_back.new.own in
    let at = c.in-Ok-settle.root in
    let f1 = c.in-Ok.ensures.finger base c.args.root map f in
    closed-settled t R base c.args.root own c.settle.new.own top.levels.items top.focus at map f1 (c.in-Ok.ensures.low base c.args.root map f)
    (back (λ (u : Bool) (S : RecordsAt). IsSettled u S base own c.settle.new.own top.focus.branch at) c.turn_back.ensures.stays (c.in-Ok-settle.ensures.settles base f1.own_are (held-last base (length own) 0 top.levels.items top.focus f1.held)))

pub returns-in-Err-settle-clause-stops : goal.returns-in-Err-settle-clause-stops
returns-in-Err-settle-clause-stops g c base map f =
    let t = g.F.Fetch.tells c.args.fetch.now in
    let R = g.F.Fetch.records c.args.fetch.now in
    let top = c.in-Ok.top in
    let b = top.focus.branch in
    let own = c.turn_back.new.own in
    let stop = c.in-Err-settle.stop in
    let f1 = c.in-Ok.ensures.finger base c.args.root map f in
    stops-weaker t R (HaveMaps (with_own own R) b.children) (ValuesFit (value_by (value_at (with_own own R)) b)) (IsSome map) (IfSome map KeysFit) stop
    (λ told some. finger-maps (with_own own R) c.args.root top.levels.items top.focus map (f1.stands told) some)
    (λ told some fits. finger-fits (with_own own R) c.args.root top.levels.items top.focus map (f1.stands told) some fits)
    (back (λ (u : Bool) (S : RecordsAt). StopsBy u S (HaveMaps (with_own own S) b.children) (ValuesFit (value_by (value_at (with_own own S)) b)) stop) c.turn_back.ensures.stays (c.in-Err-settle.ensures.stops base f1.own_are (held-last base (length own) 0 top.levels.items top.focus f1.held)))
