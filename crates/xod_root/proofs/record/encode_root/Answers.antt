use Rattle.std.proofs.Common.{List, ◌++◌, sym, ap, subst, ◌∙◌, arith}
use Rattle.xod_block.specs.Records.{Link, Root, FitsRoot, spelling}
use Rattle.xod_root.proofs.Listed.{root-fits, links-again, whole-again}
use Rattle.xod_root.proofs.record.encode_root.Goals as goal

pub encode_record-requires : goal.encode_record-requires
encode_record-requires c =
    let spelled = c.as_slice-2.ensures.value ∙ c.in_ok-trees.ensures.spelled in
    let again = links-again c.as_slice-2.result.now c.as_slice.result.now c.args.roots.now spelled c.as_slice.ensures.exactly c.in_ok-trees.ensures.fits in
    record {
      whole = whole-again c.as_slice-2.result.now c.as_slice.result.now c.args.roots.now spelled c.as_slice.ensures.exactly c.in_ok-trees.ensures.fits;
      fits = subst (λ (l : List Link). FitsRoot c.args.commit l) (sym again) (root-fits c.args.commit c.args.roots.now c.as_slice.result.now (omega arith) c.as_slice.ensures.exactly c.as_slice.ensures.few c.in_ok-trees.ensures.fits);
    }

pub returns-clause-ok : goal.returns-clause-ok
returns-clause-ok c =
    let spelled = c.as_slice-2.ensures.value ∙ c.in_ok-trees.ensures.spelled in
    let again = links-again c.as_slice-2.result.now c.as_slice.result.now c.args.roots.now spelled c.as_slice.ensures.exactly c.in_ok-trees.ensures.fits in
    c.in_ok-encode_record.ensures.ok ∙ ap (λ (l : List Link). c.args.out.now ++ spelling (Root c.args.commit l)) again

pub returns-clause-fits : goal.returns-clause-fits
returns-clause-fits c = root-fits c.args.commit c.args.roots.now c.as_slice.result.now (omega arith) c.as_slice.ensures.exactly c.as_slice.ensures.few c.in_ok-trees.ensures.fits
