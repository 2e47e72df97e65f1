use Rattle.std.proofs.Common.{◌≡◌, IfOk, Option, is_ok, sym, ap, subst, ◌∙◌}
use Rattle.std.specs.FinMap.{get, get-from_sorted}
use Rattle.xod_base.specs.Values.{bytes_cmp}
use Rattle.xod_overlay.specs.Marks.{Mark, TouchMap}
use Rattle.xod_overlay.specs.Pieces.{joined}
use Rattle.xod_overlay.proofs.Trees.{touch_view}
use Rattle.xod_overlay.proofs.sorted.TouchedKeys.exchange.Goals as goal

pub returns-clause-keys : goal.returns-clause-keys
returns-clause-keys c =
    touch_view c.self.inside.pieces.items c.exchange_in.new.pieces.items c.args.key.now c.args.mark c.args.self.now (is_ok c.exchange_in.result)
    c.self.invariant c.exchange_in.ensures.in_pieces c.self.view_is c.exchange_in.ensures.touches

pub returns-clause-before : goal.returns-clause-before
returns-clause-before c =
    let key = c.args.key.now in
    subst (λ (was : Option Mark). IfOk c.exchange_in.result (λ before. before ≡ was))
    (sym (get-from_sorted bytes_cmp (joined c.self.inside.pieces.items) key c.self.invariant.by_key) ∙ ap (λ (keys : TouchMap). get keys key) c.self.view_is)
    c.exchange_in.ensures.before
