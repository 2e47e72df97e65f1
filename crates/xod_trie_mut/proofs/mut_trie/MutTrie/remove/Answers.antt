use Rattle.std.proofs.Common.{◌≡◌}
use Rattle.xod_trie_mut.specs.Own.{mut_map}
use Rattle.xod_trie_mut.proofs.ChangeLemmas.{both-some, was-there}
use Rattle.xod_trie_mut.proofs.mut_trie.MutTrie.remove.Goals as goal

pub returns-clause-was_there : goal.returns-clause-was_there
returns-clause-was_there g c told =
    both-some _ _ _ (mut_map c.args.self.now (g.F.Fetch.records c.args.fetch.now)) (λ m h k. was-there m c.args.key.now c.make_changes.result (λ t. c.make_changes.new.self ≡ c.args.self.now) h (λ none. k (none, tt))) (c.make_changes.ensures.told told) (c.make_changes.ensures.nothing_new told)
