use Rattle.std.proofs.Common.{◌≤◌, ◌∙◌, ap, subst, arith}
use Rattle.xod_block.specs.Addresses.{number_of}
use Rattle.xod_trie_mut.specs.Own.{IsSound, TrieView, own_start}
use Rattle.xod_trie_mut.proofs.SavingTries.{fits-of, saved-of, trie-empty, trie-falls, trie-low, trie-means}
use Rattle.xod_trie_mut.proofs.mut_trie.MutTrie.save.Goals as goal

pub returns-in-Ok-clause-map : goal.returns-in-Ok-clause-map
returns-in-Ok-clause-map c =
    let trie = c.args.self.now in
    let sound : IsSound trie = subst IsSound c.self.view_is c.self.invariant in
    let small : number_of c.args.at ≤ own_start = omega arith in
    let s = saved-of c.args.at c.args.block.now c.save_trie.new.block c.as_slice.result.now c.self.inside.root trie c.in-Ok.root (c.as_slice.ensures ∙ ap (λ (t : TrieView). t.own) c.self.view_is) (ap (λ (t : TrieView). t.root) c.self.view_is) c.in-Ok.ensures.saved in
    let fits = fits-of c.args.at c.args.block.now c.as_slice.result.now c.self.inside.root trie (c.as_slice.ensures ∙ ap (λ (t : TrieView). t.own) c.self.view_is) (ap (λ (t : TrieView). t.root) c.self.view_is) c.in-Ok.ensures.records in
    trie-means c.args.at c.args.block.now c.save_trie.new.block trie c.in-Ok.root sound c.requires.below small s fits

pub returns-in-Ok-clause-empty : goal.returns-in-Ok-clause-empty
returns-in-Ok-clause-empty c =
    let trie = c.args.self.now in
    let sound : IsSound trie = subst IsSound c.self.view_is c.self.invariant in
    let s = saved-of c.args.at c.args.block.now c.save_trie.new.block c.as_slice.result.now c.self.inside.root trie c.in-Ok.root (c.as_slice.ensures ∙ ap (λ (t : TrieView). t.own) c.self.view_is) (ap (λ (t : TrieView). t.root) c.self.view_is) c.in-Ok.ensures.saved in
    trie-empty c.args.at c.args.block.now c.save_trie.new.block trie c.in-Ok.root sound c.requires.below s

pub returns-in-Ok-clause-root_is_before_the_end : goal.returns-in-Ok-clause-root_is_before_the_end
returns-in-Ok-clause-root_is_before_the_end c =
    let trie = c.args.self.now in
    let sound : IsSound trie = subst IsSound c.self.view_is c.self.invariant in
    let s = saved-of c.args.at c.args.block.now c.save_trie.new.block c.as_slice.result.now c.self.inside.root trie c.in-Ok.root (c.as_slice.ensures ∙ ap (λ (t : TrieView). t.own) c.self.view_is) (ap (λ (t : TrieView). t.root) c.self.view_is) c.in-Ok.ensures.saved in
    trie-low c.args.at c.args.block.now c.save_trie.new.block trie c.in-Ok.root sound c.requires.below s

pub returns-in-Ok-clause-falling : goal.returns-in-Ok-clause-falling
returns-in-Ok-clause-falling c = trie-falls c.args.at c.args.block.now c.args.self.now (subst IsSound c.self.view_is c.self.invariant) c.requires.below

pub returns-in-Err-clause-falling : goal.returns-in-Err-clause-falling
returns-in-Err-clause-falling c = trie-falls c.args.at c.args.block.now c.args.self.now (subst IsSound c.self.view_is c.self.invariant) c.requires.below
