use Rattle.std.proofs.Common.{◌≡◌, ◌++◌, ◌+◌, ◌-◌, is_some, length, set, List, ℕ, arith, sym, ◌∙◌, ap, subst, length-append, if◌then◌else◌}
use Rattle.std.specs.List.{concat}
use Rattle.std.specs.Vec.{vec_len}
use Rattle.xod_volume.proofs.Joined.{concat_extended, starts_same}
use Rattle.xod_volume.proofs.pieces.Pieces.extend.Goals as goal

pub invariant_of-self-then-done : goal.invariant_of-self-then-done
invariant_of-self-then-done c =
    let pieces = c.self.inside.list.items in
    let last = vec_len c.self.inside.list - 1 in
    let more = c.args.more.now in
    let ends : length pieces ≡ last + 1 = omega (arith, c.last_mut.ensures.variant.0 (ap is_some c.in-Some.is)) in
    let now = concat_extended c.in_ok-done.done pieces last c.in-Some.last.now more c.extend.new.self c.if-done.true c.in_ok-done.ensures ends c.in-Some.ensures.value in (
      omega (arith, c.self.invariant.0, ap length now, length-append (concat pieces) more),
      c.self.invariant.1 ∙ sym (starts_same pieces last c.extend.new.self ends),
    )

pub returns-then-done : goal.returns-then-done
returns-then-done c =
    let pieces = c.self.inside.list.items in
    let last = vec_len c.self.inside.list - 1 in
    let more = c.args.more.now in
    let ends : length pieces ≡ last + 1 = omega (arith, c.last_mut.ensures.variant.0 (ap is_some c.in-Some.is)) in
    let now = concat_extended c.in_ok-done.done pieces last c.in-Some.last.now more c.extend.new.self c.if-done.true c.in_ok-done.ensures ends c.in-Some.ensures.value in
    subst (λ b. concat (set pieces last c.extend.new.self) ≡ (if b then c.args.self.now ++ more else c.args.self.now)) (sym c.if-done.true) (now ∙ ap (λ (m : List ℕ). m ++ more) c.self.view_is)
