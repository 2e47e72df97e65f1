use Rattle.std.proofs.Common.{◌≡◌, ◌+◌, ◌∙◌, ap, sym, refl, subst, List, ℕ, Bool, false, arith, length}
use Rattle.std.specs.Prelude.{IsSome, IfSome}
use Rattle.xod_block.specs.Addresses.{number_of}
use Rattle.xod_block.specs.Maps.{RecordsAt, map_at}
use Rattle.xod_block.proofs.CallerLemmas.{Stays-then}
use Rattle.xod_trie_mut.specs.declared.finger.Level.{Level}
use Rattle.xod_trie_mut.specs.declared.finger.Opened.{Opened}
use Rattle.xod_trie_mut.specs.Changes.{KeysFit}
use Rattle.xod_trie_mut.specs.Fingers.{IsFinger}
use Rattle.xod_trie_mut.specs.Own.{with_own}
use Rattle.xod_trie_mut.specs.Settling.{IsLoaded}
use Rattle.xod_trie_mut.specs.Stops.{StopsBy}
use Rattle.xod_trie_mut.proofs.FingerLemmas.{moved, untouched-push, held-last, goes-lower, goes-within, smaller, on_way-down, down-finger, finger-maps}
use Rattle.xod_trie_mut.proofs.LoadLemmas.{stops-weaker}
use Rattle.xod_trie_mut.proofs.OwnLemmas.{child-map}
use Rattle.xod_trie_mut.proofs.way.go_down.Goals as goal

pub returns-in-Err-clause-stops : goal.returns-in-Err-clause-stops
returns-in-Err-clause-stops g c base root map f =
    let t = g.F.Fetch.tells c.args.fetch.now in
    let R = g.F.Fetch.records c.args.fetch.now in
    let s = c.down.invariant.stays in
    let own = c.args.own.now in
    let a = c.in-Some.link.1 in
    let b = c.down.focus.branch in
    let goes = c.in-Some.ensures.goes in
    let f2 = c.down.invariant.finger base root map f in
    let lower = goes-lower base (length own) b c.rest_of.result.now c.in-Some.link.0 a (held-last base (length own) 0 c.down.levels.items c.down.focus f2.held) goes in
    let stops = moved (λ (u : Bool) (S : RecordsAt). StopsBy u S (IsSome (map_at (with_own own S) (number_of a))) (Unit {0}) c.in-Err.stop) t (g.F.Fetch.tells c.down.fetch) R (g.F.Fetch.records c.down.fetch) s.tells_same s.records_same (c.in-Err.ensures.stops base lower) in
    stops-weaker t R (IsSome (map_at (with_own own R) (number_of a))) (Unit {0}) (IsSome map) (IfSome map KeysFit) c.in-Err.stop
    (λ told some. child-map (with_own own R) c.in-Some.link.0 b.children a (finger-maps (with_own own R) root c.down.levels.items c.down.focus map (f2.stands told) some) goes.child_is)
    (λ told some fits. tt) stops

pub overflow_add-taken : goal.overflow_add-taken
overflow_add-taken g c =
    let w = goes-within c.down.focus.branch c.args.key.now c.rest_of.result.now c.down.focus.taken c.in-Some.link.0 c.in-Some.link.1 c.rest_of.ensures.exactly c.in-Some.ensures.goes in
    let k = ap length c.key.ensures.exactly in
    let fits = c.rest_of.ensures.fits in
    omega (arith, w, k, fits)

pub overflow_add-taken-in-down : goal.overflow_add-taken-in-down
overflow_add-taken-in-down g c =
    let w = goes-within c.down.focus.branch c.args.key.now c.rest_of.result.now c.down.focus.taken c.in-Some.link.0 c.in-Some.link.1 c.rest_of.ensures.exactly c.in-Some.ensures.goes in
    let k = ap length c.key.ensures.exactly in
    let fits = c.rest_of.ensures.fits in
    omega (arith, w, k, fits)

pub down-smaller : goal.down-smaller
down-smaller g c =
    let w = goes-within c.down.focus.branch c.args.key.now c.rest_of.result.now c.down.focus.taken c.in-Some.link.0 c.in-Some.link.1 c.rest_of.ensures.exactly c.in-Some.ensures.goes in
    let k = ap length c.key.ensures.exactly in
    smaller (length c.args.key.now) c.down.focus.taken (length c.key.result.now) (omega (arith, w, k))

pub down-preserved : goal.down-preserved
down-preserved g c =
    let t = g.F.Fetch.tells c.args.fetch.now in
    let R = g.F.Fetch.records c.args.fetch.now in
    let s = c.down.invariant.stays in
    let own = c.args.own.now in
    let x = c.in-Some.link.0 in
    let a = c.in-Some.link.1 in
    let o = c.down.focus in
    let goes = c.in-Some.ensures.goes in
    let new : Opened = record { branch = c.in-Ok.branch; changed = false; taken = o.taken + length c.key.result.now + 1 } in
    let taken : new.taken ≡ o.taken + length o.branch.key + 1 = ap (λ (l : List ℕ). o.taken + length l + 1) c.key.ensures.exactly in
    let put = rw c.if-is_err.ensures.negation at c.push.ensures.items in
    record {
      stays = Stays-then s c.load.ensures.stays;
      no_fault = c.in-Ok.ensures.counts ∙ c.down.invariant.no_fault;
      finger = λ base root map f.
          let f2 = c.down.invariant.finger base root map f in
          let lower = goes-lower base (length own) o.branch c.rest_of.result.now x a (held-last base (length own) 0 c.down.levels.items o f2.held) goes in
          let loaded = moved (λ (u : Bool) (S : RecordsAt). IsLoaded u S base own a c.in-Ok.branch) t (g.F.Fetch.tells c.down.fetch) R (g.F.Fetch.records c.down.fetch) s.tells_same s.records_same (c.in-Ok.ensures.loads base f2.own_are lower) in
          subst (λ (ls : List Level). IsFinger t R base root own ls new map) (sym put) (down-finger t R base root own c.down.levels.items o new map f2 c.rest_of.result.now x a goes loaded taken);
      on_way = λ on. on_way-down o.branch c.args.key.now c.rest_of.result.now c.down.levels.items c.push.new.self.items o new x a refl c.rest_of.ensures.exactly goes put taken (c.down.invariant.on_way on);
      untouched = λ u. untouched-push c.down.levels.items c.push.new.self.items o new x put refl (c.down.invariant.untouched u);
    }
