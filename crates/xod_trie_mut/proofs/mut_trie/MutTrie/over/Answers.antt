use Rattle.std.proofs.Common.{◌∙◌, ap, List, [], Option}
use Rattle.xod_block.specs.declared.address.Address.{Address}
use Rattle.xod_trie.specs.declared.branch.Branch.{Branch}
use Rattle.xod_trie.specs.Tries.{trie_map}
use Rattle.xod_trie_mut.specs.Own.{with_own}
use Rattle.xod_trie_mut.proofs.OwnLemmas.{untouched-map}
use Rattle.xod_trie_mut.proofs.mut_trie.MutTrie.over.Goals as goal

pub returns-clause-map : goal.returns-clause-map
returns-clause-map c records =
    ap (λ (own : List Branch). trie_map (with_own own records) c.seat_of.result) c.new.ensures
    ∙ ap (λ (root : Option Address). trie_map (with_own [] records) root) c.seat_of.ensures.exactly
    ∙ untouched-map records c.args.root c.seat_of.ensures.low
