-- How tries in memory are told apart.
use Rattle.std.specs.Prelude.{List, Option, refl}
use Rattle.std.specs.Coded.{Coded, code_by, coded×, coded_list, coded_option}
use Rattle.xod_block.specs.declared.address.Address.{Address}
use Rattle.xod_block.specs.contracts.address.Address as address_contracts
use Rattle.xod_trie.specs.declared.branch.Branch.{Branch}
use Rattle.xod_trie.specs.contracts.branch.Branch as branch_contracts
use Rattle.xod_trie_mut.specs.Own.{TrieView}

abbrev pub trie_code : Coded TrieView
trie_code =
    code_by (Option Address × (List Branch × Option Address))
    (coded× (coded_option ((address_contracts.the_row).coded)) (coded× (coded_list ((branch_contracts.the_row).coded)) (coded_option ((address_contracts.the_row).coded))))
    (λ t. (t.base, (t.own, t.root)))
    (λ p. record { base = p.0; own = p.1.0; root = p.1.1 })
    (λ _. refl)
