use Rattle.std.proofs.Common.{ap, ◌∙◌, arith}
use Rattle.std.specs.FinMap.{entries}
use Rattle.xod_root.proofs.Listed.{parts-of, links-of, changed, changed-room}
use Rattle.xod_root.proofs.roots.RootList.set.Goals as goal

pub splice-self-inside-requires : goal.splice-self-inside-requires
splice-self-inside-requires c =
    let parts = parts-of c.args.self.now c.as_slice.result.now c.around-place.result.1.now c.args.tree c.around-place.result.0 (c.as_slice.ensures.exactly ∙ ap entries c.copied-before.ensures) c.around-place.ensures.place c.around-place.ensures.bound c.around-place.ensures.behind in
    changed-room c.args.self.now c.args.tree c.around-place.result.0 c.args.root c.around-place.result.1.now parts c.requires

pub invariant_of-self : goal.invariant_of-self
invariant_of-self c =
    let parts = parts-of c.args.self.now c.as_slice.result.now c.around-place.result.1.now c.args.tree c.around-place.result.0 (c.as_slice.ensures.exactly ∙ ap entries c.copied-before.ensures) c.around-place.ensures.place c.around-place.ensures.bound c.around-place.ensures.behind in
    record {
      few = omega (arith, c.splice-self-inside.ensures.end, changed-room c.args.self.now c.args.tree c.around-place.result.0 c.args.root c.around-place.result.1.now parts c.requires);
      sorted = (changed c.args.self.now c.args.tree c.around-place.result.0 c.self.inside.count c.args.root c.around-place.result.1.now c.self.inside.links _ parts (links-of _ c.args.self.now c.self.invariant.sorted c.self.view_is) c.splice-self-inside.ensures.exactly).sorted;
    }

pub returns : goal.returns
returns c =
    let parts = parts-of c.args.self.now c.as_slice.result.now c.around-place.result.1.now c.args.tree c.around-place.result.0 (c.as_slice.ensures.exactly ∙ ap entries c.copied-before.ensures) c.around-place.ensures.place c.around-place.ensures.bound c.around-place.ensures.behind in
    (changed c.args.self.now c.args.tree c.around-place.result.0 c.self.inside.count c.args.root c.around-place.result.1.now c.self.inside.links _ parts (links-of _ c.args.self.now c.self.invariant.sorted c.self.view_is) c.splice-self-inside.ensures.exactly).is
