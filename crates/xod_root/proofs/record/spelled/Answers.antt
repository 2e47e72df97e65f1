use Rattle.std.proofs.Common.{get_or, take, sym, ap, subst, ◌∙◌, refl, ◌++◌, arith}
use Rattle.std.specs.List.{AllByRecursion}
use Rattle.std.proofs.lemmas.List.{take_more}
use Rattle.xod_block.specs.Records.{Link, FitsLink}
use Rattle.xod_root.proofs.Listed.{all-fit, more-bytes}
use Rattle.xod_root.proofs.record.spelled.Goals as goal

pub loop-link-preserved : goal.loop-link-preserved
loop-link-preserved c =
    let links = c.args.links.now in
    let i = c.loop-link.link-index in
    let none : Link = (0, record { file = 0; at = 0 }) in
    let link = get_or links i none in (
      more-bytes links i link none c.loop-link.bytes.items c.extend_from_slice.new.self.items (omega arith) refl c.loop-link.invariant.0
          (c.in_ok-extend_from_slice.ensures.items ∙ ap (λ l. c.loop-link.bytes.items ++ l) c.link_bytes.ensures.spelled),
      subst (AllByRecursion FitsLink) (sym (take_more links i none (omega arith))) (all-fit (take i links) link c.loop-link.invariant.1 c.link_bytes.ensures.fits),
    )
