use Rattle.std.proofs.Common.{◌-◌, ◌+◌, drop, List, ℕ, arith, ◌∙◌, ap, subst}
use Rattle.xod_volume.specs.Leases.{Filled}
use Rattle.xod_volume.proofs.Joined.{filled_on}
use Rattle.xod_volume.proofs.body.Body.read.Goals as goal

pub returns : goal.returns
returns c =
    let shared = c.self.inside.shared in
    let own = c.self.inside.own.items in
    let n = c.read-n.result in
    let more = c.fill_behind.result in
    let from = c.saturating_sub-from.result in
    let second : Filled own from (drop n c.read-n.new.out) (drop n c.fill_behind.new.out) more = subst (λ (m : List ℕ). Filled m from (drop n c.read-n.new.out) (drop n c.fill_behind.new.out) more) c.deref.ensures.value c.fill_behind.ensures.filled in
    subst (λ (m : List ℕ). Filled m c.args.at c.args.out.now c.fill_behind.new.out (n + more)) c.self.view_is
    (filled_on shared own c.args.out.now c.read-n.new.out c.fill_behind.new.out c.args.at from n more c.read-n.ensures (omega (arith, c.read-n.auto.out))
    (c.saturating_sub-from.ensures ∙ ap (λ (k : ℕ). c.args.at - k) c.len.ensures) c.fill_behind.ensures.first_stay second)
