use Rattle.std.proofs.Common.{◌∙◌, sym, refl}
use Rattle.std.proofs.lemmas.Bool.{false≢true}
use Rattle.xod_model.proofs.NameLemmas.{number_here, number_later}
use Rattle.xod_model.proofs.names.number_of.Goals as goal

pub returns-then-same-clause-place : goal.returns-then-same-clause-place
returns-then-same-clause-place c =
    sym (c.loop-i.invariant ∙ number_here c.args.names.now c.loop-i.i c.index-names-i.result c.args.name.now c.loop-i-test.true c.index-names-i.is (c.if-same.ensures.equal.0 refl))

pub loop-i-preserved : goal.loop-i-preserved
loop-i-preserved c =
    c.loop-i.invariant ∙ number_later c.args.names.now c.loop-i.i c.index-names-i.result c.args.name.now c.loop-i-test.true c.index-names-i.is (λ e. false≢true (c.if-same.ensures.equal.1 e))
