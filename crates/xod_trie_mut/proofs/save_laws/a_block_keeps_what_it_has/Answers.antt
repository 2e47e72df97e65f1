use Rattle.std.proofs.Common.{refl, ◌≡◌, ◌++◌, ℕ, List, Option, Some, None}
use Rattle.std.specs.Prelude.{IsSome}
use Rattle.xod_block.specs.declared.address.Address.{Address}
use Rattle.xod_block.specs.Addresses.{number_of}
use Rattle.xod_block.specs.Bodies.{with_block}
use Rattle.xod_block.specs.Maps.{RecordsAt}
use Rattle.xod_trie.specs.Tries.{trie_map}
use Rattle.xod_trie.proofs.CallerLemmas.{trie_map-more}
use Rattle.xod_trie_mut.proofs.SavingBlocks.{block-more}
use Rattle.xod_trie_mut.proofs.save_laws.a_block_keeps_what_it_has.Goals as goal

keeps : (start : ℕ) (block more : List ℕ) (records : RecordsAt) (root : Option Address) → IsSome (trie_map (with_block start block records) root) → trie_map (with_block start (block ++ more) records) root ≡ trie_map (with_block start block records) root
keeps start block more records None some = refl
keeps start block more records (Some root) some = trie_map-more (with_block start block records) (with_block start (block ++ more) records) root (block-more start block more records (number_of root)) some

pub returns : goal.returns
returns c = keeps
