use Rattle.std.proofs.Common.{ℕ, List, take, ap, ◌∙◌, arith}
use Rattle.std.specs.Int.{w32, from_be_bytes}
use Rattle.xod_block.proofs.MarkLemmas.{mark_bytes-read}
use Rattle.xod_block.proofs.end_mark.mark_in.Goals as goal

pub returns-clause-spelled_so : goal.returns-clause-spelled_so
returns-clause-spelled_so c =
    mark_bytes-read c.args.bytes.now c.first_u64.result c.first_u32.result c.first_u64.ensures
    (c.first_u32.ensures ∙ ap (λ (l : List ℕ). from_be_bytes w32 (take 4 l)) c.split_at.ensures.back)
    c.requires (λ i. let fits = c.type_inv.bytes i in omega (arith, fits))
