use Rattle.std.proofs.Common.{◌≡◌, map}
use Rattle.xod_estxn.proofs.show.shown_links.Given as goal

abbrev pub invariant-loop-link : goal.invariant-loop-link
invariant-loop-link l = record {
  can_next : (goal.iterator-loop-link).can_next l.link-iterator;
  is_finite : (goal.iterator-loop-link).is_finite l.link-iterator;
  made : l.links ≡ map (λ link. (link.name, link.end)) l.yielded;
}
