use Rattle.std.proofs.Common.{ap, length, length-append, arith}
use Rattle.std.specs.FinMap.{entries}
use Rattle.xod_block.specs.Records.{spelling}
use Rattle.xod_root.specs.Roots.{root_record}
use Rattle.xod_commit.proofs.Numbers.{root-short}
use Rattle.xod_commit.proofs.block.put_root.Goals as goal

pub overflow_cast-result : goal.overflow_cast-result
overflow_cast-result c =
    let bytes = spelling (root_record c.args.commit c.args.roots.now) in
    let short = root-short c.args.commit (entries c.args.roots.now) c.in_ok-encode_root.ensures.fits.few in
    let whole = ap length c.in_ok-encode_root.ensures.ok in
    let both = length-append c.args.block.now bytes in
    omega (arith, short, whole, both)
