use Rattle.std.proofs.Common.{◌≡◌, ◌++◌, ◌∷◌, ℕ, List, [], false, true, refl, sym, ◌∙◌, ap, arith}
use Rattle.xod_volume.specs.Leases.{names}
use Rattle.xod_volume.proofs.Walked.{absent_apart, away_before, away_last, away_other, on_none}
use Rattle.xod_volume.proofs.walk.numbers_in.Goals as goal
use Rattle.xod_volume.proofs.walk.numbers_in.Goals.{then-not-contains+in_ok-push, else-not-contains}

pub loop-call-init : goal.loop-call-init
loop-call-init c = λ file away. (absent_apart c.args.start.now c.in_ok-numbers.numbers.items file c.in_ok-numbers.ensures away, refl)

pub loop-call-preserved : goal.loop-call-preserved
loop-call-preserved c = λ file away.
    let numbers : List ℕ = c.loop-call.numbers.items in
    let number : ℕ = c.call-item.result.file in
    elim c.if-not-contains.branch [
      | then-not-contains+in_ok-push w ↦
          let apart : names (numbers ++ number ∷ []) file ≡ false =
          ap (λ (l : List ℕ). names l file) (sym (ap (λ v. v.items) w.numbers-is ∙ w.in_ok-push.ensures.items)) ∙ away in
          let before = c.loop-call.invariant file (away_before numbers number file apart) in
          (before.0, on_none c.args.calls.now c.loop-call.call-index c.call-item.result file (omega arith) c.call-item.is (away_last numbers number file apart) before.1)
      | else-not-contains w ↦
          let apart : names numbers file ≡ false = ap (λ (l : List ℕ). names l file) (sym (ap (λ v. v.items) w.numbers-is)) ∙ away in
          let before = c.loop-call.invariant file apart in
          let there : names numbers number ≡ true = ap (λ (l : List ℕ). names l number) (sym c.deref.ensures.value) ∙ sym c.contains.ensures.value ∙ w.if-not-contains.false in
          (before.0, on_none c.args.calls.now c.loop-call.call-index c.call-item.result file (omega arith) c.call-item.is (away_other numbers number file there apart) before.1)
    ]
