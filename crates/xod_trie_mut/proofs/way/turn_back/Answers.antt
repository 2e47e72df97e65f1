use Rattle.std.proofs.Common.{◌≡◌, ◌∙◌, sym, refl, subst, List, ◌++◌, ◌∷◌, [], Bool, arith, length}
use Rattle.std.specs.Prelude.{IsSome, IfSome}
use Rattle.std.proofs.lemmas.List.{append-nil}
use Rattle.xod_block.specs.Maps.{RecordsAt}
use Rattle.xod_block.proofs.CallerLemmas.{Stays-then}
use Rattle.xod_trie.specs.Branches.{value_by}
use Rattle.xod_trie.specs.Tries.{value_at}
use Rattle.xod_trie_mut.specs.declared.finger.Level.{Level}
use Rattle.xod_trie_mut.specs.Changes.{KeysFit}
use Rattle.xod_trie_mut.specs.Fingers.{HaveMaps, IsFinger, IsLeft, ValuesFit}
use Rattle.xod_trie_mut.specs.Own.{with_own}
use Rattle.xod_trie_mut.specs.Stops.{StopsBy}
use Rattle.xod_trie_mut.proofs.FingerLemmas.{moved, no-levels, front-pop, untouched-pop, held-last, left-held, left-finger, finger-maps, finger-fits}
use Rattle.xod_trie_mut.proofs.LoadLemmas.{stops-weaker}
use Rattle.xod_trie_mut.proofs.OwnLemmas.{extends-then}
use Rattle.xod_trie_mut.proofs.way.turn_back.Goals as goal

pub returns-in_default-clause-finger : goal.returns-in_default-clause-finger
returns-in_default-clause-finger g c base root map f =
    subst (λ (ls : List Level). IsFinger (g.F.Fetch.tells c.args.fetch.now) (g.F.Fetch.records c.args.fetch.now) base root c.up.own ls c.up.focus map) (c.in_default.ensures.items ∙ append-nil c.pop.new.self.items) (c.up.invariant.finger base root map f)

pub returns-in_default-clause-low : goal.returns-in_default-clause-low
returns-in_default-clause-low g c base root map f =
    let h = (c.up.invariant.finger base root map f).held in
    let none : length c.up.levels.items ≡ 0 = sym c.up.levels.ok.0 ∙ c.in_default.ensures.cases.0 in
    let zero = no-levels base (length c.up.own) c.up.levels.items c.up.focus none h in
    omega (arith, zero)

pub returns-in-Err-clause-stops : goal.returns-in-Err-clause-stops
returns-in-Err-clause-stops g c base root map f =
    let t = g.F.Fetch.tells c.args.fetch.now in
    let R = g.F.Fetch.records c.args.fetch.now in
    let s = c.up.invariant.stays in
    let f2 = c.up.invariant.finger base root map f in
    let b = c.up.focus.branch in
    let stops = moved (λ (u : Bool) (S : RecordsAt). StopsBy u S (HaveMaps (with_own c.up.own S) b.children) (ValuesFit (value_by (value_at (with_own c.up.own S)) b)) c.in-Err.stop) t (g.F.Fetch.tells c.up.fetch) R (g.F.Fetch.records c.up.fetch) s.tells_same s.records_same
    (c.in-Err.ensures.stops base f2.own_are (held-last base (length c.up.own) 0 c.up.levels.items c.up.focus f2.held)) in
    stops-weaker t R (HaveMaps (with_own c.up.own R) b.children) (ValuesFit (value_by (value_at (with_own c.up.own R)) b)) (IsSome map) (IfSome map KeysFit) c.in-Err.stop
    (λ told some. finger-maps (with_own c.up.own R) root c.up.levels.items c.up.focus map (f2.stands told) some)
    (λ told some fits. finger-fits (with_own c.up.own R) root c.up.levels.items c.up.focus map (f2.stands told) some fits) stops

pub up-preserved : goal.up-preserved
up-preserved g c =
    let t = g.F.Fetch.tells c.args.fetch.now in
    let R = g.F.Fetch.records c.args.fetch.now in
    let s = c.up.invariant.stays in
    let l = c.in-Some.level in
    record {
      stays = Stays-then s c.leave.ensures.stays;
      no_fault = c.in-Ok.ensures.counts ∙ c.up.invariant.no_fault;
      extends = extends-then c.args.own.now c.up.own c.leave.new.own c.up.invariant.extends c.leave.ensures.extends;
      front = front-pop c.up.levels.items c.pop.new.self.items c.args.finger.levels.items l c.in-Some.ensures.items c.up.invariant.front;
      finger = λ base root map f.
          let f2 = subst (λ (ls : List Level). IsFinger t R base root c.up.own ls c.up.focus map) c.in-Some.ensures.items (c.up.invariant.finger base root map f) in
          let x = c.leave.ensures.extends in
          let held = left-held t R base root c.up.own c.leave.new.own c.pop.new.self.items l c.up.focus c.in-Ok.above map f2 x in
          let left = moved (λ (u : Bool) (S : RecordsAt). IsLeft u S base c.up.own c.leave.new.own l.opened.taken l c.up.focus c.in-Ok.above) t (g.F.Fetch.tells c.up.fetch) R (g.F.Fetch.records c.up.fetch) s.tells_same s.records_same
          (c.in-Ok.ensures.leaves base l.opened.taken f2.own_are (record { lower = held-last base (length c.up.own) 0 c.pop.new.self.items l.opened held; taken_is = refl }) (held-last base (length c.up.own) 0 (c.pop.new.self.items ++ l ∷ []) c.up.focus f2.held)) in
          left-finger t R base root c.up.own c.leave.new.own c.pop.new.self.items l c.up.focus c.in-Ok.above map f2 x left;
      untouched = λ u.
          let un = c.up.invariant.untouched u in
          let same = c.in-Ok.ensures.untouched un.1.focus_same in
          (same.0 ∙ un.0, untouched-pop c.up.levels.items c.pop.new.self.items l c.up.focus c.in-Ok.above c.in-Some.ensures.items same.1 un.1);
    }
