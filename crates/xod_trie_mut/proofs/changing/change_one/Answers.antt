use Rattle.std.proofs.Common.{◌∙◌, ap, sym, List, ◌++◌, ℕ, Bool, Some, None, length}
use Rattle.std.specs.Prelude.{IsSome, IfSome}
use Rattle.std.specs.Option.{option_map, option_copied}
use Rattle.std.proofs.lemmas.Result.{IfOk-weaker, IfErr-weaker}
use Rattle.xod_block.specs.Maps.{RecordsAt}
use Rattle.xod_block.proofs.CallerLemmas.{Stays-then}
use Rattle.xod_trie.specs.Tries.{value_at}
use Rattle.xod_trie_mut.specs.Changes.{KeysFit, set_in}
use Rattle.xod_trie_mut.specs.Fingers.{IsFinger, path_of}
use Rattle.xod_trie_mut.specs.Own.{with_own}
use Rattle.xod_trie_mut.specs.Stops.{StopsBy}
use Rattle.xod_trie_mut.proofs.FingerLemmas.{forth, back, on_way-turn, on_way-whole}
use Rattle.xod_trie_mut.proofs.PutLemmas.{set-at, value-here}
use Rattle.xod_trie_mut.proofs.changing.change_one.Goals as goal

pub returns-in-Err-clause-stops : goal.returns-in-Err-clause-stops
returns-in-Err-clause-stops g c base root map f on = c.in-Err.ensures.stops base root map f

pub returns-in-Err-go_down-clause-stops : goal.returns-in-Err-go_down-clause-stops
returns-in-Err-go_down-clause-stops g c base root map f on =
    let s = c.turn_back.ensures.stays in
    let above = c.in-Ok.above in
    back (λ (u : Bool) (S : RecordsAt). StopsBy u S (IsSome map) (IfSome map KeysFit) c.in-Err-go_down.stop) s
    (c.in-Err-go_down.ensures.stops base root map (forth (λ (u : Bool) (S : RecordsAt). IsFinger u S base root c.turn_back.new.own above.levels.items above.focus map) s (c.in-Ok.ensures.finger base root map f)))

pub returns-in-None-clause-changes : goal.returns-in-None-clause-changes
returns-in-None-clause-changes g c base root map f on =
    let t = g.F.Fetch.tells c.args.fetch.now in
    let R = g.F.Fetch.records c.args.fetch.now in
    let s = c.turn_back.ensures.stays in
    let above = c.in-Ok.above in
    let here = c.in-Ok-go_down.here in
    let own = c.turn_back.new.own in
    let f1 = c.in-Ok.ensures.finger base root map f in
    let f2 = back (λ (u : Bool) (S : RecordsAt). IsFinger u S base root own here.levels.items here.focus map) s (c.in-Ok-go_down.ensures.finger base root map (forth (λ (u : Bool) (S : RecordsAt). IsFinger u S base root own above.levels.items above.focus map) s f1)) in
    let turn = on_way-turn base (length c.args.own.now) (length own) c.args.last.now c.args.change.key.now c.args.finger.levels.items above.levels.items c.args.finger.focus above.focus c.common-until.result f.held f1.held c.in-Ok.ensures.front (c.in-Ok.ensures.low base root map f) c.common-until.ensures.same on in
    let way = c.in-Ok-go_down.ensures.on_way turn in
    let whole = ap (λ (l : List ℕ). path_of here.levels.items ++ l) c.rest_of-rest.ensures.exactly ∙ on_way-whole c.args.change.key.now here.levels.items here.focus way in
    set-at t R base root own c.remove_here.result.levels.items c.remove_here.result.focus map (path_of here.levels.items ++ c.rest_of-rest.result.now) c.args.change.key.now None (option_copied c.args.change.value) whole (sym (ap option_copied c.in-None.is)) (c.remove_here.ensures.sets t R base root own map f2)

pub returns-in-None-clause-on_way : goal.returns-in-None-clause-on_way
returns-in-None-clause-on_way g c base root map f on =
    let above = c.in-Ok.above in
    let own = c.turn_back.new.own in
    let f1 = c.in-Ok.ensures.finger base root map f in
    let turn = on_way-turn base (length c.args.own.now) (length own) c.args.last.now c.args.change.key.now c.args.finger.levels.items above.levels.items c.args.finger.focus above.focus c.common-until.result f.held f1.held c.in-Ok.ensures.front (c.in-Ok.ensures.low base root map f) c.common-until.ensures.same on in
    c.remove_here.ensures.on_way c.args.change.key.now (c.in-Ok-go_down.ensures.on_way turn)

pub returns-in-None-clause-untouched : goal.returns-in-None-clause-untouched
returns-in-None-clause-untouched g c base root m f on told nothing u =
    let t = g.F.Fetch.tells c.args.fetch.now in
    let R = g.F.Fetch.records c.args.fetch.now in
    let s = c.turn_back.ensures.stays in
    let above = c.in-Ok.above in
    let here = c.in-Ok-go_down.here in
    let own = c.turn_back.new.own in
    let f1 = c.in-Ok.ensures.finger base root (Some m) f in
    let f2 = back (λ (u : Bool) (S : RecordsAt). IsFinger u S base root own here.levels.items here.focus (Some m)) s (c.in-Ok-go_down.ensures.finger base root (Some m) (forth (λ (u : Bool) (S : RecordsAt). IsFinger u S base root own above.levels.items above.focus (Some m)) s f1)) in
    let turn = on_way-turn base (length c.args.own.now) (length own) c.args.last.now c.args.change.key.now c.args.finger.levels.items above.levels.items c.args.finger.focus above.focus c.common-until.result f.held f1.held c.in-Ok.ensures.front (c.in-Ok.ensures.low base root (Some m) f) c.common-until.ensures.same on in
    let way = c.in-Ok-go_down.ensures.on_way turn in
    let whole = ap (λ (l : List ℕ). path_of here.levels.items ++ l) c.rest_of-rest.ensures.exactly ∙ on_way-whole c.args.change.key.now here.levels.items here.focus way in
    let u1 = c.in-Ok.ensures.untouched u in
    let u2 = c.in-Ok-go_down.ensures.untouched u1.1 in
    (u1.0, c.remove_here.ensures.untouched (value_at (with_own own R)) (value-here t R base root own here.levels.items here.focus m c.rest_of-rest.result.now c.args.change.key.now f2 told whole ∙ nothing ∙ ap option_copied c.in-None.is) u2)

pub returns-in-Some-clause-changes : goal.returns-in-Some-clause-changes
returns-in-Some-clause-changes g c base root map f on =
    let t = g.F.Fetch.tells c.args.fetch.now in
    let R = g.F.Fetch.records c.args.fetch.now in
    let s = c.turn_back.ensures.stays in
    let s2 = c.go_down.ensures.stays in
    let above = c.in-Ok.above in
    let here = c.in-Ok-go_down.here in
    let own = c.turn_back.new.own in
    let new = c.put_here.new.own in
    let f1 = c.in-Ok.ensures.finger base root map f in
    let f2 = c.in-Ok-go_down.ensures.finger base root map (forth (λ (u : Bool) (S : RecordsAt). IsFinger u S base root own above.levels.items above.focus map) s f1) in
    let f3 = forth (λ (u : Bool) (S : RecordsAt). IsFinger u S base root own here.levels.items here.focus map) s2 f2 in
    let turn = on_way-turn base (length c.args.own.now) (length own) c.args.last.now c.args.change.key.now c.args.finger.levels.items above.levels.items c.args.finger.focus above.focus c.common-until.result f.held f1.held c.in-Ok.ensures.front (c.in-Ok.ensures.low base root map f) c.common-until.ensures.same on in
    let way = c.in-Ok-go_down.ensures.on_way turn in
    let whole = ap (λ (l : List ℕ). path_of here.levels.items ++ l) c.rest_of-rest.ensures.exactly ∙ on_way-whole c.args.change.key.now here.levels.items here.focus way in
    let key = path_of here.levels.items ++ c.rest_of-rest.result.now in
    IfOk-weaker c.put_here.result _ _ (λ made h.
    set-at t R base root new made.levels.items made.focus map key c.args.change.key.now (Some c.in-Some.value.now) (option_copied c.args.change.value) whole (sym (ap option_copied c.in-Some.is))
    (back (λ (u : Bool) (S : RecordsAt). IsFinger u S base root new made.levels.items made.focus (option_map (λ m. set_in m key (Some c.in-Some.value.now)) map)) (Stays-then s s2) h)) (c.put_here.ensures.sets base root map f3)

pub returns-in-Some-clause-on_way : goal.returns-in-Some-clause-on_way
returns-in-Some-clause-on_way g c base root map f on =
    let above = c.in-Ok.above in
    let own = c.turn_back.new.own in
    let f1 = c.in-Ok.ensures.finger base root map f in
    let turn = on_way-turn base (length c.args.own.now) (length own) c.args.last.now c.args.change.key.now c.args.finger.levels.items above.levels.items c.args.finger.focus above.focus c.common-until.result f.held f1.held c.in-Ok.ensures.front (c.in-Ok.ensures.low base root map f) c.common-until.ensures.same on in
    c.put_here.ensures.on_way c.args.change.key.now (c.in-Ok-go_down.ensures.on_way turn) c.rest_of-rest.ensures.exactly

pub returns-in-Some-clause-stops : goal.returns-in-Some-clause-stops
returns-in-Some-clause-stops g c base root map f on =
    let s = c.turn_back.ensures.stays in
    let s2 = c.go_down.ensures.stays in
    let above = c.in-Ok.above in
    let here = c.in-Ok-go_down.here in
    let own = c.turn_back.new.own in
    let f1 = c.in-Ok.ensures.finger base root map f in
    let f2 = c.in-Ok-go_down.ensures.finger base root map (forth (λ (u : Bool) (S : RecordsAt). IsFinger u S base root own above.levels.items above.focus map) s f1) in
    let f3 = forth (λ (u : Bool) (S : RecordsAt). IsFinger u S base root own here.levels.items here.focus map) s2 f2 in
    IfErr-weaker c.put_here.result _ _ (λ stop h. back (λ (u : Bool) (S : RecordsAt). StopsBy u S (IsSome map) (IfSome map KeysFit) stop) (Stays-then s s2) h) (c.put_here.ensures.stops base root map f3)

pub returns-in-Some-clause-untouched : goal.returns-in-Some-clause-untouched
returns-in-Some-clause-untouched g c base root m f on told nothing u =
    let t = g.F.Fetch.tells c.args.fetch.now in
    let R = g.F.Fetch.records c.args.fetch.now in
    let s = c.turn_back.ensures.stays in
    let above = c.in-Ok.above in
    let here = c.in-Ok-go_down.here in
    let own = c.turn_back.new.own in
    let f1 = c.in-Ok.ensures.finger base root (Some m) f in
    let f2 = back (λ (u : Bool) (S : RecordsAt). IsFinger u S base root own here.levels.items here.focus (Some m)) s (c.in-Ok-go_down.ensures.finger base root (Some m) (forth (λ (u : Bool) (S : RecordsAt). IsFinger u S base root own above.levels.items above.focus (Some m)) s f1)) in
    let turn = on_way-turn base (length c.args.own.now) (length own) c.args.last.now c.args.change.key.now c.args.finger.levels.items above.levels.items c.args.finger.focus above.focus c.common-until.result f.held f1.held c.in-Ok.ensures.front (c.in-Ok.ensures.low base root (Some m) f) c.common-until.ensures.same on in
    let way = c.in-Ok-go_down.ensures.on_way turn in
    let whole = ap (λ (l : List ℕ). path_of here.levels.items ++ l) c.rest_of-rest.ensures.exactly ∙ on_way-whole c.args.change.key.now here.levels.items here.focus way in
    let u1 = c.in-Ok.ensures.untouched u in
    let u2 = c.in-Ok-go_down.ensures.untouched u1.1 in
    IfOk-weaker c.put_here.result _ _ (λ made h. (h.0 ∙ u1.0, h.1)) (c.put_here.ensures.untouched (value_at (with_own own R)) (value-here t R base root own here.levels.items here.focus m c.rest_of-rest.result.now c.args.change.key.now f2 told whole ∙ nothing ∙ ap option_copied c.in-Some.is) u2)
