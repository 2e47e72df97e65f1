use Rattle.std.proofs.Common.{arith, ℤ, Some, sym, ap, ◌∙◌, w64}
use Rattle.std.proofs.lemmas.Int.{to_z-of_z}
use Rattle.xod_base.specs.declared.value.Value.TheVariants.{Int}
use Rattle.xod_keys.proofs.IntegersRead.{int_read}
use Rattle.xod_keys.proofs.reading.read_int.Goals as goal

pub returns : goal.returns
returns c =
    ap (λ (z : ℤ). Some (Int z)) (to_z-of_z w64 c.cast_signed.result (record { sfits = c.cast_signed.type_inv }) ∙ c.cast_signed.ensures)
    ∙ int_read c.args.rest.now c.in_ok-number.number (λ i. let fits = c.type_inv.rest i in omega (arith, fits)) (sym (c.in_ok-number.ensures {u = tt}))
