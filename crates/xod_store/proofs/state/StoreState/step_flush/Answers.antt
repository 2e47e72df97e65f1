use Rattle.std.proofs.Common.{◌∙◌, sym, ap, Err}
use Rattle.std.proofs.lemmas.Result.{err_from_is_err_and}
use mathlib.Core.Path.{transport}
use Rattle.xod_env.specs.Flushes.{IsSpent}
use Rattle.xod_store.specs.Leaving.{StepLeaves}
use Rattle.xod_store.proofs.Leaving.{at-least-behind}
use Rattle.xod_store.proofs.state.StoreState.step_flush.Goals as goal

pub returns-in_err-enter_flush-clause-spent : goal.returns-in_err-enter_flush-clause-spent
returns-in_err-enter_flush-clause-spent g c last is =
    let error = err_from_is_err_and c.from_residual-in_err-enter_flush.result c.from_residual-in_err-enter_flush.ensures.1 in
    let same = c.prepare.ensures.env in
    transport (λ i. IsSpent ((same i).commit) ((same i).log) last) (c.enter_flush.ensures.spent last (c.in_err-enter_flush.was {u = tt} ∙ ap Err (sym error.2) ∙ sym error.1 ∙ is))

pub returns-in-Committed-clause-crash : goal.returns-in-Committed-clause-crash
returns-in-Committed-clause-crash g c told calm =
    let made = c.prepare.ensures in
    let begun = c.enter_flush.ensures in
    let step = transport (λ i. StepLeaves ((made.start i).origin.value) ((made.view i).journal) (made.env i) c.enter_flush.new.self.env) begun.crash in
    at-least-behind (step told calm) (c.go_on-fault.ensures.rests (begun.keeps.tells_same ∙ ap (λ e. g.V.Volume.tells e.volume) made.env ∙ told))
