use Rattle.std.proofs.Common.{◌*◌, take, subst, sym, arith}
use Rattle.std.proofs.lemmas.List.{length-take}
use Rattle.xod_block.specs.Seen.{AreLinks}
use Rattle.xod_block.proofs.Numbers.{IsBytes-take}
use Rattle.xod_block.proofs.Links.{links_bytes-links_in}
use Rattle.xod_block.proofs.reading.links_at.Goals as goal

pub returns-clause-whole : goal.returns-clause-whole
returns-clause-whole c =
    let raw = take (13 * c.args.count) c.args.bytes.now in
    let whole : AreLinks raw = sym (links_bytes-links_in raw c.args.count (omega (arith, length-take (13 * c.args.count) c.args.bytes.now)) (IsBytes-take (13 * c.args.count) c.args.bytes.now (λ i. let fits = c.type_inv.bytes i in omega (arith, fits)))) in
    subst AreLinks (sym c.split_at.ensures.front) whole
