use Rattle.std.proofs.Common.{◌≡◌, ◌≤◌, ◌+◌, ◌-◌, ◌++◌, length, take, MatchBool, List, ℕ, arith, sym, ◌∙◌, ap, subst}
use Rattle.xod_volume.specs.Files.{overwritten}
use Rattle.xod_volume.proofs.Joined.{over_behind, over_split}
use Rattle.xod_volume.proofs.body.Body.overwrite.Goals as goal

pub returns-then-at-lent : goal.returns-then-at-lent
returns-then-at-lent c =
    let shared = c.self.inside.shared in
    let own = c.self.inside.own.items in
    ap (λ (m : List ℕ). shared ++ m) (c.put_over.ensures ∙ ap (λ (k : ℕ). overwritten own (c.args.at - k) c.args.bytes.now) c.len-lent.ensures)
    ∙ sym (over_behind shared own c.args.bytes.now c.args.at (omega (arith, c.len-lent.ensures)))
    ∙ ap (λ (m : List ℕ). overwritten m c.args.at c.args.bytes.now) c.self.view_is

pub returns : goal.returns
returns c =
    let shared = c.self.inside.shared in
    let own = c.self.inside.own.items in
    let at = c.args.at in
    let bytes = c.args.bytes.now in
    let front = c.split_at.result.0.now in
    let back = c.split_at.result.1.now in
    let n = c.min.result in
    let fits : at + length bytes ≤ length (shared ++ own) = subst (λ (m : List ℕ). at + length bytes ≤ length m) (sym c.self.view_is) c.requires in
    let over : c.overwrite.new.self ≡ overwritten shared at front = subst (λ b. MatchBool b (c.overwrite.new.self ≡ overwritten shared at front) (c.overwrite.new.self ≡ shared)) c.if-not-overwrite.false c.overwrite.ensures in
    ap (λ (m : List ℕ). m ++ c.put_over-2.new.bytes.items) (over ∙ ap (overwritten shared at) c.split_at.ensures.front)
    ∙ ap (λ (m : List ℕ). overwritten shared at (take n bytes) ++ m) (c.put_over-2.ensures ∙ ap (overwritten own 0) c.split_at.ensures.back)
    ∙ sym (over_split shared own bytes at n (omega (arith, c.len-lent.ensures)) fits (omega (arith, c.min.ensures, c.len-lent.ensures)))
    ∙ ap (λ (m : List ℕ). overwritten m at bytes) c.self.view_is
