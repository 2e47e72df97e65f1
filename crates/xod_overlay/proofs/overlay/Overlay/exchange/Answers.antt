use Rattle.std.proofs.Common.{◌≡◌, IfOk, Option, ap, subst, ◌∙◌, is_ok}
use Rattle.std.specs.FinMap.{get}
use Rattle.xod_overlay.specs.Marks.{Mark, TouchMap, touched}
use Rattle.xod_overlay.proofs.Trees.{touched-touch, touched_at}
use Rattle.xod_overlay.proofs.overlay.Overlay.exchange.Goals as goal

pub returns-clause-touches : goal.returns-clause-touches
returns-clause-touches c =
    touched-touch c.args.self.now c.make_room.new.trees.items c.args.tree c.args.key.now c.args.mark c.index_mut.result.now c.exchange.new.self (is_ok c.exchange.result)
    (c.make_room.ensures.same ∙ ap touched c.self.view_is) c.in_ok-make_room.ensures.room c.index_mut.ensures.value c.exchange.ensures.keys

pub returns-clause-before : goal.returns-clause-before
returns-clause-before c =
    let key = c.args.key.now in
    subst (λ (was : Option Mark). IfOk c.exchange.result (λ before. before ≡ was))
    (ap (λ (keys : TouchMap). get keys key) (touched_at c.args.self.now c.make_room.new.trees.items c.args.tree c.index_mut.result.now
    (c.make_room.ensures.same ∙ ap touched c.self.view_is) c.in_ok-make_room.ensures.room c.index_mut.ensures.value))
    c.exchange.ensures.before
