use Rattle.std.proofs.Common.{◌≡◌, ◌∙◌, ◌++◌, ◌∷◌, ◌+◌, [], sym, ap, subst, Bool, Option, Some, None, List, take, get_or}
use Rattle.std.specs.Prelude.{IsSome, IfSome}
use Rattle.std.specs.FinMap.{get}
use Rattle.std.specs.Option.{option_map, option_copied}
use Rattle.std.proofs.lemmas.List.{take_more, take_all}
use Rattle.xod_block.specs.Maps.{RecordsAt}
use Rattle.xod_block.proofs.CallerLemmas.{Stays-then}
use Rattle.xod_trie.specs.Tries.{TrieMap}
use Rattle.xod_trie_mut.specs.declared.change.Change.{Change}
use Rattle.xod_trie_mut.specs.Changes.{FitsToSet, KeysFit, with_change, with_changes}
use Rattle.xod_trie_mut.specs.Fingers.{IsFinger}
use Rattle.xod_trie_mut.specs.Stops.{StopsBy}
use Rattle.xod_trie_mut.proofs.ChangeLemmas.{mapped-more, all-take, all-at, some-fit, some-still, changes-nothing}
use Rattle.xod_trie_mut.proofs.FingerLemmas.{forth, back}
use Rattle.xod_trie_mut.proofs.LoadLemmas.{stops-weaker}
use Rattle.xod_trie_mut.proofs.OwnLemmas.{extends-then}
use Rattle.xod_trie_mut.proofs.changing.change_all.Goals as goal

pub returns-in-Err-clause-stops : goal.returns-in-Err-clause-stops
returns-in-Err-clause-stops g c base root map f on =
    let s = c.each.invariant.stays in
    let first = take c.each.change-index c.args.changes.now in
    let mi : Option TrieMap = option_map (λ m. with_changes m first) map in
    let fi = c.each.invariant.finger base root map f on in
    let stops = back (λ (u : Bool) (S : RecordsAt). StopsBy u S (IsSome mi) (IfSome mi KeysFit) c.in-Err.stop) s
    (c.in-Err.ensures.stops base root mi (forth (λ (u : Bool) (S : RecordsAt). IsFinger u S base root c.each.own c.each.finger.levels.items c.each.finger.focus mi) s fi) (c.each.invariant.on_way base root map f on)) in
    stops-weaker (g.F.Fetch.tells c.args.fetch.now) (g.F.Fetch.records c.args.fetch.now) (IsSome mi) (IfSome mi KeysFit) (IsSome map) (IfSome map KeysFit) c.in-Err.stop
    (λ told some. some-still map first some) (λ told some fits. some-fit map first (all-take FitsToSet c.each.change-index c.args.changes.now c.requires) fits) stops

pub each-preserved : goal.each-preserved
each-preserved g c =
    let t = g.F.Fetch.tells c.args.fetch.now in
    let R = g.F.Fetch.records c.args.fetch.now in
    let s = c.each.invariant.stays in
    let i = c.each.change-index in
    let changes = c.args.changes.now in
    let first = take i changes in
    let d : Change = record { key = record { ref_ptr = (0, 0); now = [] }; value = None } in
    let item : Change = get_or changes i d in
    let lt = c.each-test.true in
    let more : take (i + 1) changes ≡ first ++ item ∷ [] = take_more changes i d lt in
    let made = c.in-Ok.made in
    let new = c.change_one.new.own in
    let old = c.each.finger in
    record {
      stays = Stays-then s c.change_one.ensures.stays;
      no_fault = c.in-Ok.ensures.counts ∙ c.each.invariant.no_fault;
      extends = extends-then c.args.own.now c.each.own new c.each.invariant.extends c.change_one.ensures.extends;
      finger = λ base root map f on.
          let mi : Option TrieMap = option_map (λ m. with_changes m first) map in
          let mj : Option TrieMap = option_map (λ m. with_change m item) mi in
          let fi = forth (λ (u : Bool) (S : RecordsAt). IsFinger u S base root c.each.own old.levels.items old.focus mi) s (c.each.invariant.finger base root map f on) in
          let h = back (λ (u : Bool) (S : RecordsAt). IsFinger u S base root new made.levels.items made.focus mj) s (c.in-Ok.ensures.changes base root mi fi (c.each.invariant.on_way base root map f on)) in
          subst (λ (x : Option TrieMap). IsFinger t R base root new made.levels.items made.focus x) (mapped-more map first item ∙ ap (λ (l : List Change). option_map (λ m. with_changes m l) map) (sym more)) h;
      on_way = λ base root map f on.
          let mi : Option TrieMap = option_map (λ m. with_changes m first) map in
          let fi = forth (λ (u : Bool) (S : RecordsAt). IsFinger u S base root c.each.own old.levels.items old.focus mi) s (c.each.invariant.finger base root map f on) in
          c.in-Ok.ensures.on_way base root mi fi (c.each.invariant.on_way base root map f on);
      untouched = λ base root m f on told nothing u.
          let mi : TrieMap = with_changes m first in
          let fi = forth (λ (u : Bool) (S : RecordsAt). IsFinger u S base root c.each.own old.levels.items old.focus (Some mi)) s (c.each.invariant.finger base root (Some m) f on) in
          let un = c.each.invariant.untouched base root m f on told nothing u in
          let same : get mi item.key.now ≡ option_copied item.value =
          ap (λ (n : TrieMap). get n item.key.now) (changes-nothing m first (all-take (λ (change : Change). get m change.key.now ≡ option_copied change.value) i changes nothing))
          ∙ all-at (λ (change : Change). get m change.key.now ≡ option_copied change.value) i changes d nothing lt in
          let h = c.in-Ok.ensures.untouched base root mi fi (c.each.invariant.on_way base root (Some m) f on) (s.tells_same ∙ told) same un.1 in
          (h.0 ∙ un.0, h.1);
    }

pub returns-clause-changes : goal.returns-clause-changes
returns-clause-changes g c base root map f on =
    subst (λ (l : List Change). IsFinger (g.F.Fetch.tells c.args.fetch.now) (g.F.Fetch.records c.args.fetch.now) base root c.each.own c.each.finger.levels.items c.each.finger.focus (option_map (λ m. with_changes m l) map))
    (take_all c.each.change-index c.args.changes.now c.each-test.false) (c.each.invariant.finger base root map f on)
