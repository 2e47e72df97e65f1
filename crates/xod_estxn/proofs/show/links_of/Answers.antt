use Rattle.std.proofs.Common.{List, ap, map, ◌∙◌}
use Rattle.xod_reader.specs.declared.parts.NamedLink.{NamedLink}
use Rattle.xod_estxn.proofs.Moving.{ok_rows}
use Rattle.xod_estxn.proofs.Showing.{links-parts}
use Rattle.xod_estxn.proofs.show.links_of.Goals as goal

pub returns-clause-reads : goal.returns-clause-reads
returns-clause-reads g c = ok_rows _ (λ told rows are.
    c.in_ok-links.ensures
    ∙ ap (λ (ends : List NamedLink). map (λ link. (link.name, link.end)) ends) (c.into_vec.ensures ∙ c.in_ok-ends.ensures.reads.value told rows are)
    ∙ links-parts rows c.args.id)
