use Rattle.std.proofs.Common.{◌≡◌, ◌∙◌, ◌++◌, List, ℕ, Option, ap, subst}
use Rattle.std.specs.List.{AllByRecursion}
use Rattle.xod_block.specs.Reading.{links_in}
use Rattle.xod_block.specs.Records.{Link, FitsLink, spelling}
use Rattle.xod_trie_mut.specs.Own.{is_saved, record_by}
use Rattle.xod_trie_mut.specs.Saves.{further}
use Rattle.xod_trie_mut.proofs.SavingRecords.{block-is, branch-fits, links-back, links-whole, record-fits}
use Rattle.xod_trie_mut.proofs.block.BlockKeep.keep.Goals as goal

pub put_record-requires-clause-whole : goal.put_record-requires-clause-whole
put_record-requires-clause-whole c = links-whole c.as_slice.result.now c.as_slice-2.result.now (c.as_slice-2.ensures ∙ c.in_ok-links.ensures.raw) c.in_ok-links.ensures.fits

pub put_record-requires-clause-fits : goal.put_record-requires-clause-fits
put_record-requires-clause-fits c =
    let each : AllByRecursion FitsLink c.args.children = subst (AllByRecursion FitsLink) c.as_slice.ensures c.in_ok-links.ensures.fits in
    let back : links_in c.as_slice-2.result.now ≡ c.args.children = links-back c.as_slice.result.now c.as_slice-2.result.now (c.as_slice-2.ensures ∙ c.in_ok-links.ensures.raw) c.in_ok-links.ensures.fits ∙ c.as_slice.ensures in
    rw (c.key.ensures.exactly, c.value.ensures.exactly, back) (record-fits c.args.branch.now.key c.args.branch.now.value c.args.children (branch-fits _ c.args.branch.now c.args.children c.requires each))

put_bytes : {k l : List ℕ} {v w : Option (List ℕ)} {cs ds : List Link} (old was new : List ℕ) → k ≡ l → v ≡ w → cs ≡ ds → was ≡ old → new ≡ was ++ spelling (record_by k v cs) → new ≡ old ++ spelling (record_by l w ds)
put_bytes {k} {l} {v} {w} {cs} {ds} old was new a b d e put =
    put
    ∙ ap (λ (x : List ℕ). x ++ spelling (record_by k v cs)) e
    ∙ ap (λ (x : List ℕ). old ++ spelling (record_by x v cs)) a
    ∙ ap (λ (x : Option (List ℕ)). old ++ spelling (record_by l x cs)) b
    ∙ ap (λ (x : List Link). old ++ spelling (record_by l w x)) d

pub returns-clause-put : goal.returns-clause-put
returns-clause-put c =
    let each : AllByRecursion FitsLink c.args.children = subst (AllByRecursion FitsLink) c.as_slice.ensures c.in_ok-links.ensures.fits in
    let back : links_in c.as_slice-2.result.now ≡ c.args.children = links-back c.as_slice.result.now c.as_slice-2.result.now (c.as_slice-2.ensures ∙ c.in_ok-links.ensures.raw) c.in_ok-links.ensures.fits ∙ c.as_slice.ensures in
    record {
      put = block-is c.args.self.now.start c.put_record.new.out _ _ _ (put_bytes c.args.self.now.bytes _ c.put_record.new.out c.key.ensures.exactly c.value.ensures.exactly back c.count_of.ensures.same c.in_ok-put_record.ensures.ok);
      at_is = c.saved.ensures ∙ c.place_behind-at.ensures.place ∙ ap (further c.args.self.now.start) c.count_of.ensures.count;
      named = ap is_saved c.saved.ensures ∙ c.place_behind-at.ensures.saved;
      taken = branch-fits _ c.args.branch.now c.args.children c.requires each;
    }
