use Rattle.std.proofs.Common.{◌≡◌, ◌∙◌, ◌∷◌, true, false, length, drop, suc, ap, sym, subst, arith}
use Rattle.std.specs.Prelude.{◌&&◌}
use Rattle.std.proofs.Math.Seq.{drop-cons, drop-length}
use Rattle.xod_lang.specs.declared.script.Statement.{Statement}
use Rattle.xod_session.specs.Answers.{is_below}
use Rattle.xod_session.specs.Turns.{is_private}
use Rattle.xod_session.proofs.RowLemmas.{Goes, ends, goes_on, meets, no_more, same_front}
use Rattle.xod_session.proofs.row.answer_row.Goals as goal

pub returns-then-not-goes_on : goal.returns-then-not-goes_on
returns-then-not-goes_on g c =
    let rest = c.args.statements.now in
    let one = c.index-statements-count.result in
    let is = drop-cons rest c.loop-count.count one c.loop-count-test.true ∙ ap (λ s. s ∷ drop (suc c.loop-count.count) rest) (sym c.index-statements-count.is) in
    let stop : (is_private one.form && is_below c.args.until one.line) ≡ false = sym c.goes_on.ensures ∙ c.if-not-goes_on.true in
    ends g.O.Local.tells g.O.Local.txn g.O.Local.faults rest c.args.until c.args.said.now c.args.txn.now c.loop-count.count c.loop-count.said c.loop-count.txn c.loop-count.invariant
    (λ statement more e. subst (λ (s : Statement). (is_private s.form && is_below c.args.until s.line) ≡ false) (same_front _ _ _ _ (sym is ∙ e)) stop)

pub returns-in-Err : goal.returns-in-Err
returns-in-Err g c =
    let rest = c.args.statements.now in
    let one = c.index-statements-count.result in
    let is = drop-cons rest c.loop-count.count one c.loop-count-test.true ∙ ap (λ s. s ∷ drop (suc c.loop-count.count) rest) (sym c.index-statements-count.is) in
    meets g.O.Local.tells g.O.Local.txn g.O.Local.faults rest c.args.until c.args.said.now c.args.txn.now c.loop-count.count c.loop-count.said c.answer.new.said c.loop-count.txn c.answer.new.txn one _ c.in-Err.cause
    c.loop-count.invariant is c.in-Err.ensures

pub loop-count-preserved : goal.loop-count-preserved
loop-count-preserved g c =
    let rest = c.args.statements.now in
    let one = c.index-statements-count.result in
    let is = drop-cons rest c.loop-count.count one c.loop-count-test.true ∙ ap (λ s. s ∷ drop (suc c.loop-count.count) rest) (sym c.index-statements-count.is) in
    let private : (is_private one.form && is_below c.args.until one.line) ≡ true = sym c.goes_on.ensures ∙ c.if-not-goes_on.false in
    goes_on g.O.Local.tells g.O.Local.txn g.O.Local.faults rest c.args.until c.args.said.now c.args.txn.now c.loop-count.count c.loop-count.said c.answer.new.said c.loop-count.txn c.answer.new.txn one _ c.in_default.field-0
    c.loop-count.invariant is private c.in_default.ensures

pub returns : goal.returns
returns g c =
    let rest = c.args.statements.now in
    let all : c.loop-count.count ≡ length rest = omega arith in
    ends g.O.Local.tells g.O.Local.txn g.O.Local.faults rest c.args.until c.args.said.now c.args.txn.now (length rest) c.loop-count.said c.loop-count.txn
    (subst (λ n. Goes g.O.Local.tells g.O.Local.txn g.O.Local.faults rest c.args.until c.args.said.now c.args.txn.now n c.loop-count.said c.loop-count.txn) all c.loop-count.invariant)
    (λ statement more e. absurd (no_more statement more (sym (drop-length rest) ∙ e)))
