use Rattle.std.proofs.Common.{Option, Some, None, sym, arith}
use Rattle.std.specs.Prelude.{IfNone}
use Rattle.xod_block.specs.Seen.{seen}
use Rattle.xod_block.proofs.RecordLemmas.{rest_within, BeginsWith-from_rest, no_record}
use Rattle.xod_block.proofs.reading.decode_record.Goals as goal

always : {A : Type 0} (o : Option A) (P : Type 0) → P → IfNone o P
always None P p = p
always (Some x) P p = tt

pub returns-in_err-item-clause-none : goal.returns-in_err-item-clause-none
returns-in_err-item-clause-none c = always c.from_residual.result _ (no_record c.args.bytes.now (sym c.in_err-item.ensures.exactly))

pub overflow_sub-result : goal.overflow_sub-result
overflow_sub-result c = rest_within c.args.bytes.now (seen c.in_ok-item.item) c.in_ok-item.rest.now (λ i. let fits = c.type_inv.bytes i in omega (arith, fits)) (sym c.in_ok-item.ensures.exactly)

pub returns-clause-found : goal.returns-clause-found
returns-clause-found c = BeginsWith-from_rest c.args.bytes.now (seen c.in_ok-item.item) c.in_ok-item.rest.now (λ i. let fits = c.type_inv.bytes i in omega (arith, fits)) (sym c.in_ok-item.ensures.exactly)

pub returns-clause-encodable : goal.returns-clause-encodable
returns-clause-encodable c =
    let begins = BeginsWith-from_rest c.args.bytes.now (seen c.in_ok-item.item) c.in_ok-item.rest.now (λ i. let fits = c.type_inv.bytes i in omega (arith, fits)) (sym c.in_ok-item.ensures.exactly) in
    record { whole = c.in_ok-item.ensures.whole; fits = begins.fits }
