use Rattle.std.proofs.Common.{◌≡◌, subst, false}
use Rattle.std.specs.Prelude.{IfSome}
use Rattle.xod_trie.specs.Tries.{trie_map}
use Rattle.xod_trie_mut.specs.Changes.{with_changes}
use Rattle.xod_trie_mut.specs.Own.{TrieView, mut_map, with_own}
use Rattle.xod_trie_mut.proofs.ChangeLemmas.{if_some, kept-map}
use Rattle.xod_trie_mut.proofs.mut_trie.MutTrie.make_all.Goals as goal

pub invariant_of-self : goal.invariant_of-self
invariant_of-self g c =
    let closed = c.in-Ok.ensures.changes c.self.inside.base c.self.invariant.own c.self.invariant.root in
    record { own = closed.own_are; root = closed.root_is }

pub returns-in-Ok-clause-told : goal.returns-in-Ok-clause-told
returns-in-Ok-clause-told g c told =
    let R = g.F.Fetch.records c.args.fetch.now in
    let own = c.self.inside.own in
    let root = c.self.inside.root in
    let changes = c.args.changes.now in
    let closed = c.in-Ok.ensures.changes c.self.inside.base c.self.invariant.own c.self.invariant.root in
    subst (λ (v : TrieView). IfSome (mut_map v R) (λ map. c.in-Ok.made.changed ≡ false → with_changes map changes ≡ map)) c.self.view_is
    (if_some (trie_map (with_own own R) root) (λ map. c.in-Ok.made.changed ≡ false → with_changes map changes ≡ map) (λ m is un.
    kept-map own c.changed_or_kept.new.own R root c.in-Ok.made.root m (λ n. with_changes n changes) c.in-Ok.ensures.extends (c.in-Ok.ensures.same un) is (closed.stands told)))
