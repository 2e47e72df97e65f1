use Rattle.std.proofs.Common.{◌++◌, ◌∷◌, [], take, List, sym, ◌∙◌, ap}
use Rattle.xod_block.specs.declared.address.Address.{Address}
use Rattle.xod_block.specs.Reading.{links_in}
use Rattle.xod_block.specs.Records.{Link}
use Rattle.xod_trie.proofs.CallerLemmas.{take_one_more}
use Rattle.xod_trie_mut.proofs.own_branch.seats_of.Goals as goal

pub loop-index-preserved : goal.loop-index-preserved
loop-index-preserved c =
    let links = links_in c.args.links.now in
    let i = c.loop-index.index in
    let r = c.link_at-byte.result in
    c.in_ok-push.ensures
    ∙ ap (λ (l : List Link). l ++ (r.0, c.saved.result) ∷ []) c.loop-index.invariant
    ∙ ap (λ (s : Address). take i links ++ (r.0, s) ∷ []) c.saved.ensures
    ∙ sym (take_one_more links i r c.link_at-byte.ensures)
