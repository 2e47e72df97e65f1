use Rattle.std.proofs.Common.{List, length, sym, ap, ◌∙◌, slice_get, arith}
use Rattle.std.specs.FinMap.{len-entries}
use Rattle.std.proofs.lemmas.Option.{slice_get-get_or}
use Rattle.xod_block.specs.Records.{Link}
use Rattle.xod_root.proofs.roots.RootList.at.Goals as goal

pub offset_bounds-links-index : goal.offset_bounds-links-index
offset_bounds-links-index c = omega (arith, c.requires, len-entries c.args.self.now, ap length c.as_slice-links.ensures.exactly, c.as_slice-links.ensures.few)

pub bounds-links-index : goal.bounds-links-index
bounds-links-index c = omega (arith, c.requires, len-entries c.args.self.now, ap length c.as_slice-links.ensures.exactly)

pub returns : goal.returns
returns c =
    ap (λ (l : List Link). slice_get l c.args.index) (sym c.as_slice-links.ensures.exactly)
    ∙ slice_get-get_or c.as_slice-links.result.now c.args.index _ (omega (arith, c.requires, len-entries c.args.self.now, ap length c.as_slice-links.ensures.exactly))
