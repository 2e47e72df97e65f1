use Rattle.std.proofs.Common.{ℕ, List, ◌<◌, ◌/◌, length, Some, sym, ap, ◌∙◌, arith}
use Rattle.xod_block.specs.Reading.{link_of}
use Rattle.xod_block.proofs.Links.{length-first_links, slice_get-first_links}
use Rattle.xod_block.proofs.link.link_at.Goals as goal

pub returns : goal.returns
returns c =
    let links = c.args.links.now in
    let lt : c.args.index < length links / 13 = omega (arith, length-first_links (length links / 13) links, c.requires) in
    slice_get-first_links (length links / 13) c.args.index links lt
    ∙ ap (λ (l : List ℕ). Some (link_of l)) (sym c.split_at.ensures.back)
    ∙ ap Some (sym c.first_link.ensures)
