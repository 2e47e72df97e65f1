use Rattle.std.proofs.Common.{List, sym, ap, ◌∙◌}
use Rattle.std.specs.FinMap.{find, get-entries}
use Rattle.std.specs.Ordering.{nat_cmp}
use Rattle.xod_block.specs.Records.{Link}
use Rattle.xod_root.proofs.roots.RootList.get.Goals as goal

pub returns : goal.returns
returns c =
    c.address_in.ensures
    ∙ ap (λ (l : List Link). find nat_cmp c.args.tree l) c.as_slice.ensures.exactly
    ∙ sym (get-entries c.args.self.now c.args.tree)
