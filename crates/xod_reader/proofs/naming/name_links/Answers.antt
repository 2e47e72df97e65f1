use Rattle.std.proofs.Common.{length, sym, ap, Ok, Err, ◌∙◌}
use Rattle.std.proofs.lemmas.Iterator.Adapters.{YieldsList-from_vec}
use Rattle.std.proofs.lemmas.Iterator.Consumers.{YieldsList-turn, YieldsList-end}
use Rattle.std.proofs.lemmas.List.{map-id}
use Rattle.std.proofs.lemmas.Result.{err_from_is_err_and}
use Rattle.xod_reader.proofs.Named.{keeps_on, counts_on, memory_counts, named-begun, named-more, named-fails, named-nameless, named-ends}
use Rattle.xod_reader.proofs.naming.name_links.Goals as goal

pub loop-number-init : goal.loop-number-init
loop-number-init g c = record { can_next = tt; is_finite = tt; named = named-begun c.args.view.now c.new-named.result c.new-named.ensures }

pub returns-in_err-name-clause-reads : goal.returns-in_err-name-clause-reads
returns-in_err-name-clause-reads g c =
    let error = err_from_is_err_and c.from_residual.result c.from_residual.ensures.1 in
    named-fails c.loop-number.invariant.named c.in-Some.number c.name_of.ensures.reads c.from_residual.result c.in_err-name.field-0.0 c.args.links
    (error.1 ∙ ap Err error.2) c.in_err-name.was

pub returns-in_err-name-clause-counts : goal.returns-in_err-name-clause-counts
returns-in_err-name-clause-counts g c =
    let error = err_from_is_err_and c.from_residual.result c.from_residual.ensures.1 in
    counts_on c.from_residual.result c.in_err-name.field-0.0 (error.1 ∙ ap Err error.2) c.in_err-name.was c.loop-number.invariant.named.steady c.name_of.ensures.counts

pub returns-in_err-name-clause-keeps : goal.returns-in_err-name-clause-keeps
returns-in_err-name-clause-keeps g c = keeps_on c.loop-number.invariant.named.keeps c.name_of.ensures.keeps

pub loop-number-preserved : goal.loop-number-preserved
loop-number-preserved g c = record {
  can_next = tt;
  is_finite = tt;
  named = named-more c.loop-number.invariant.named c.in-Some.number c.name_of.ensures.reads c.name_of.new.view c.in-Some-2.name c.in-Some.end
      (record { number = c.in-Some.number; name = c.in-Some-2.name; end = c.in-Some.end }) c.push.new.self
      (c.in_ok-name.was ∙ ap Ok c.in-Some-2.is) c.name_of.ensures.keeps c.in_ok-name.ensures.counts.ok
      (λ names is. λ i. record { number = c.in-Some.number; name = sym is i; end = c.in-Some.end }) c.in_ok-push-in-Some-2.ensures;
}

pub returns-in_err-push-in-Some-2-clause-counts : goal.returns-in_err-push-in-Some-2-clause-counts
returns-in_err-push-in-Some-2-clause-counts g c =
    let error = err_from_is_err_and c.from_residual-in_err-push-in-Some-2.result c.from_residual-in_err-push-in-Some-2.ensures.1 in
    memory_counts c.from_residual-in_err-push-in-Some-2.result (error.1 ∙ ap Err error.2) (c.in_ok-name.ensures.counts.ok ∙ c.loop-number.invariant.named.steady)

pub returns-in_err-push-in-Some-2-clause-keeps : goal.returns-in_err-push-in-Some-2-clause-keeps
returns-in_err-push-in-Some-2-clause-keeps g c = keeps_on c.loop-number.invariant.named.keeps c.name_of.ensures.keeps

pub returns-in-None-2-clause-reads : goal.returns-in-None-2-clause-reads
returns-in-None-2-clause-reads g c =
    named-nameless c.loop-number.invariant.named c.in-Some.number c.name_of.ensures.reads _ c.args.links c.in-Some.end (length c.loop-number.yielded) (c.in_ok-name.was ∙ ap Ok c.in-None-2.is)
    (YieldsList-turn (YieldsList-from_vec {s = c.into_iter-number-iterator.result} c.args.links (c.into_iter-number-iterator.ensures.into_iter_gives.0 ∙ c.into_vec-number-items.ensures)
    (c.into_iter-number-iterator.ensures.into_iter_gives.1 ∙ c.into_vec-number-items.result.ok.0 ∙ ap length c.into_vec-number-items.ensures)) c.loop-number.yielded _ c.loop-number.yielded_by
    c.next.result c.next.new.self (c.in-Some.number, c.in-Some.end) c.in-Some.is c.next.ensures.steps)

pub returns-in-None-2-clause-keeps : goal.returns-in-None-2-clause-keeps
returns-in-None-2-clause-keeps g c = keeps_on c.loop-number.invariant.named.keeps c.name_of.ensures.keeps

pub returns-clause-reads : goal.returns-clause-reads
returns-clause-reads g c =
    named-ends c.args.links c.loop-number.invariant.named (sym (map-id c.loop-number.yielded) ∙
    (YieldsList-end (YieldsList-from_vec {s = c.into_iter-number-iterator.result} c.args.links (c.into_iter-number-iterator.ensures.into_iter_gives.0 ∙ c.into_vec-number-items.ensures)
    (c.into_iter-number-iterator.ensures.into_iter_gives.1 ∙ c.into_vec-number-items.result.ok.0 ∙ ap length c.into_vec-number-items.ensures)) c.loop-number.yielded _ c.loop-number.yielded_by
    c.next.result c.next.new.self c.in-None.is c.next.ensures.steps).0)

pub returns-clause-counts : goal.returns-clause-counts
returns-clause-counts g c = record { device = λ e. cc e; memory = λ e. cc e; ok = c.loop-number.invariant.named.steady }

pub returns-clause-keeps : goal.returns-clause-keeps
returns-clause-keeps g c = c.loop-number.invariant.named.keeps
