use Rattle.std.proofs.Common.{◌≡◌, ℕ, List, Result, Ok, Err, sym, ◌∙◌, ap, subst}
use Rattle.std.specs.Prelude.{IfOk}
use Rattle.std.specs.FinMap.{entries}
use Rattle.xod_base.specs.declared.causes.ReadError.{ReadError}
use Rattle.xod_root.specs.Roots.{Roots}
use Rattle.xod_recover.specs.Cuts.{lent_upto}
use Rattle.xod_recover.specs.Frames.{lists_body}
use Rattle.xod_recover.specs.Steps.{kinds_reached, kinds_upto}
use Rattle.xod_recover.proofs.Erring.{damaged-from}
use Rattle.xod_recover.proofs.Lending.{bodies-there, lent-kinds, lent-stands}
use Rattle.xod_recover.proofs.reach.judge_reached.Goals as goal

pub lend-requires : goal.lend-requires
lend-requires g c = record { exist = λ told. bodies-there (g.V.Volume.files c.args.volume.now) c.args.numbers.now (c.requires.listed told) c.deref.result.now (c.deref.ensures.value ∙ c.in_ok-bodies.ensures) }

pub returns-in_err-judged-clause-damaged : goal.returns-in_err-judged-clause-damaged
returns-in_err-judged-clause-damaged g c told place e =
    let files = g.V.Volume.files c.args.volume.now in
    let bodies = c.deref.ensures.value ∙ c.in_ok-bodies.ensures in
    let lent = c.in_ok-lease.ensures.holds told in
    ap (λ (roots : Roots). kinds_upto files c.args.root c.args.end (entries roots)) (sym c.copied.ensures)
    ∙ sym (lent-kinds files c.args.numbers.now (c.requires.listed told) _ c.deref.result.now bodies lent c.args.root.file c.args.end c.args.root (entries c.copied.result))
    ∙ c.judge_lease-lease.ensures.damaged (c.in_ok-lease.ensures.tells_alike ∙ told) (lent-stands files c.args.numbers.now (c.requires.listed told) _ c.deref.result.now bodies lent c.args.root.file c.args.end)
    place (c.in_err-judged.was ∙ ap (λ (x : ReadError). Err x) (damaged-from c.in_err-judged.field-0.0 c.from_residual-in_err-judged.result place c.from_residual-in_err-judged.ensures.1 e))

pub returns-clause-kinds : goal.returns-clause-kinds
returns-clause-kinds g c told =
    let files = g.V.Volume.files c.args.volume.now in
    let bodies = c.deref.ensures.value ∙ c.in_ok-bodies.ensures in
    let lent = c.in_ok-lease.ensures.holds told in
    let found = c.judge_lease-lease.ensures.kinds (c.in_ok-lease.ensures.tells_alike ∙ told) (lent-stands files c.args.numbers.now (c.requires.listed told) _ c.deref.result.now bodies lent c.args.root.file c.args.end) in
    ap (λ (roots : Roots). kinds_upto files c.args.root c.args.end (entries roots)) (sym c.copied.ensures)
    ∙ sym (lent-kinds files c.args.numbers.now (c.requires.listed told) _ c.deref.result.now bodies lent c.args.root.file c.args.end c.args.root (entries c.copied.result))
    ∙ subst (λ (r : Result (List (List ℕ)) ReadError). IfOk r (λ kinds. kinds_reached (lent_upto (g.V.Held.Lease.lent c.in_ok-lease.lease) c.args.root.file c.args.end) (lists_body c.args.numbers.now) c.args.root (entries c.copied.result) ≡ Ok kinds)) c.in_ok-judged.was found
