use Rattle.std.proofs.Common.{◌≡◌, ◌∙◌, Some, ap, refl, subst, sym}
use Rattle.std.specs.Prelude.{IfSome}
use Rattle.xod_trie_mut.specs.Own.{IsSound, TrieView, mut_map}
use Rattle.xod_trie_mut.specs.Saves.{IsLowBase, compacted}
use Rattle.xod_trie_mut.proofs.SavingLists.{compacted-means, compacted-of, compacted-sound, seen}
use Rattle.xod_trie_mut.proofs.mut_trie.MutTrie.compact.Goals as goal

pub invariant_of-self : goal.invariant_of-self
invariant_of-self c =
    let trie : TrieView = seen c.self.inside.base c.self.inside.own c.self.inside.root in
    let is = compacted-of c.as_slice.result.now trie c.self.inside.root c.in_ok-own.field-0 c.as_slice.ensures refl c.in_ok-own.ensures in
    subst IsSound (sym is) (compacted-sound trie c.self.invariant)

pub returns-clause-map : goal.returns-clause-map
returns-clause-map c records =
    let trie : TrieView = seen c.self.inside.base c.self.inside.own c.self.inside.root in
    let now = c.args.self.now in
    let is = compacted-of c.as_slice.result.now trie c.self.inside.root c.in_ok-own.field-0 c.as_slice.ensures refl c.in_ok-own.ensures ∙ ap compacted c.self.view_is in
    let sound : IsSound now = subst IsSound c.self.view_is c.self.invariant in
    let low : IsLowBase now.base = subst (λ (t : TrieView). IsLowBase t.base) c.self.view_is c.base_stands_below.ensures in
    subst (λ (t : TrieView). IfSome (mut_map now records) (λ map. mut_map t records ≡ Some map)) (sym is) (compacted-means now sound low records)
