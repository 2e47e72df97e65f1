-- What a save of a trie in memory means.
use Rattle.std.proofs.Common.{◌≡◌, ◌≤◌, ℕ, suc, List, [], ◌++◌, length, Option, Some, None, refl, sym, ◌∙◌, ap, subst, arith, length-append}
use Rattle.std.specs.Prelude.{◌↔◌, IfSome, IsSome, is_some}
use Rattle.std.specs.FinMap.{empty, from_entries}
use Rattle.std.specs.List.{AllByRecursion}
use Rattle.std.specs.Option.{option_map}
use Rattle.xod_base.specs.Values.{bytes_cmp}
use Rattle.xod_block.specs.declared.address.Address.{Address}
use Rattle.xod_block.specs.Addresses.{number_of}
use Rattle.xod_block.specs.Bodies.{with_block}
use Rattle.xod_block.specs.Maps.{RecordsAt, BranchesEverywhere, Pairs}
use Rattle.xod_trie.specs.declared.branch.Branch.{Branch}
use Rattle.xod_trie.specs.Branches.{FitsBranch}
use Rattle.xod_trie.specs.Tries.{TrieMap, trie_map}
use Rattle.xod_trie.proofs.CallerLemmas.{has_pairs}
use Rattle.xod_trie_mut.specs.Own.{AreOwn, IsRoot, IsSound, TrieView, mut_map, own_start, with_own}
use Rattle.xod_trie_mut.specs.Saves.{ChildrenFall, IsBelow, IsSavedBehind, Saved, block_places, further, saved_behind, spelled, without_base}
use Rattle.xod_trie_mut.proofs.SavingNotEmpty.{own-branches, trie-not_empty}
use Rattle.xod_trie_mut.proofs.SavingBlocks.{block-fine, block-map}
use Rattle.xod_trie_mut.proofs.SavingBranches.{IsReach, lower-reach}

pub if-some : {A : Type 0} (o : Option A) (P : A → Type 0) → ((x : A) → o ≡ Some x → P x) → IfSome o P
if-some None P f = tt
if-some (Some x) P f = f x refl

pub root-reach : (base : Option Address) (own : List Branch) (root : Address) → IsRoot base (length own) (Some root) → IsReach base own (suc (length own)) root
root-reach base own root low = lower-reach base own (suc (length own)) (length own) root (omega arith) (omega arith) low

module _ (at : Address) (block : List ℕ) (base : Option Address) (own : List Branch) (sound : AreOwn base own) (below : IsBelow base at) where
  abbrev pub behind : Option Address → Saved
  behind root = saved_behind at block (record { base = base; own = own; root = root })

  pub save-falls : (root : Option Address) → IsRoot base (length own) root → ChildrenFall (block_places (further at (length block))) (behind root).branches
  save-falls None low index b e = absurd cc
  save-falls (Some root) low index b e = ((block-fine at block base own sound below (suc (length own)) [] root (root-reach base own root low)).seated (λ i x none. absurd cc) index b e).low

  pub save-low : (root : Option Address) → IsRoot base (length own) root → IsBelow (behind root).root (further at (length (block ++ spelled (behind root).branches)))
  save-low None low = tt
  save-low (Some root) low =
      let lt = (block-fine at block base own sound below (suc (length own)) [] root (root-reach base own root low)).low in
      let both = length-append block (spelled (behind (Some root)).branches) in
      omega (arith, lt, both)

  pub save-map : (records : RecordsAt) → number_of at ≤ own_start → (root : Option Address) → IsRoot base (length own) root → AllByRecursion FitsBranch (behind root).branches → IsSome (trie_map (with_own own records) root) → trie_map (with_block (number_of at) (block ++ spelled (behind root).branches) records) (behind root).root ≡ trie_map (with_own own records) root
  save-map records small None low fits some = refl
  save-map records small (Some root) low fits some = ap (option_map (λ (pairs : Pairs). from_entries {R = bytes_cmp} pairs)) (block-map at block base own sound below records small (suc (length own)) [] root (root-reach base own root low) (has_pairs (with_own own records) root some) fits)

  pub save-empty : (records : RecordsAt) → BranchesEverywhere records → (root : Option Address) (map : TrieMap) → trie_map (with_own own records) root ≡ Some map → ((behind root).root ≡ None) ↔ (map ≡ empty)
  save-empty records enough None map e = (λ none. cc e, λ none. refl)
  save-empty records enough (Some root) map e = (λ none. absurd cc, λ none. absurd (trie-not_empty (with_own own records) root map (own-branches own records enough) e none))

-- ---- a trie as it is seen

pub saved-of : (at : Address) (old new : List ℕ) (own : List Branch) (root : Option Address) (trie : TrieView) (result : Option Address) → own ≡ trie.own → root ≡ trie.root → IsSavedBehind at old new (without_base own root) result → IsSavedBehind at old new trie result
saved-of at old new own root trie result e f s =
    let one = subst (λ (l : List Branch). IsSavedBehind at old new (without_base l root) result) e s in
    let two = subst (λ (r : Option Address). IsSavedBehind at old new (without_base trie.own r) result) f one in
    record { block = two.block; root_is = two.root_is }

pub fits-of : (at : Address) (old : List ℕ) (own : List Branch) (root : Option Address) (trie : TrieView) → own ≡ trie.own → root ≡ trie.root → AllByRecursion FitsBranch (saved_behind at old (without_base own root)).branches → AllByRecursion FitsBranch (saved_behind at old trie).branches
fits-of at old own root trie e f fits =
    let one = subst (λ (l : List Branch). AllByRecursion FitsBranch (saved_behind at old (without_base l root)).branches) e fits in
    subst (λ (r : Option Address). AllByRecursion FitsBranch (saved_behind at old (without_base trie.own r)).branches) f one

pub trie-falls : (at : Address) (block : List ℕ) (trie : TrieView) → IsSound trie → IsBelow trie.base at → ChildrenFall (block_places (further at (length block))) (saved_behind at block trie).branches
trie-falls at block trie sound below = save-falls at block trie.base trie.own sound.own below trie.root sound.root

-- the root stands before the end of the block
pub trie-low : (at : Address) (old new : List ℕ) (trie : TrieView) (root : Option Address) → IsSound trie → IsBelow trie.base at → IsSavedBehind at old new trie root → IsBelow root (further at (length new))
trie-low at old new trie root sound below s =
    let before = save-low at old trie.base trie.own sound.own below trie.root sound.root in
    let whole = subst (λ (l : List ℕ). IsBelow (saved_behind at old trie).root (further at (length l))) (sym s.block) before in
    subst (λ (r : Option Address). IsBelow r (further at (length new))) (sym s.root_is) whole

pub trie-means : (at : Address) (old new : List ℕ) (trie : TrieView) (root : Option Address) → IsSound trie → IsBelow trie.base at → number_of at ≤ own_start → IsSavedBehind at old new trie root → AllByRecursion FitsBranch (saved_behind at old trie).branches → (records : RecordsAt) → IfSome (mut_map trie records) (λ map. trie_map (with_block (number_of at) new records) root ≡ Some map)
trie-means at old new trie root sound below small s fits records = if-some (mut_map trie records) _ (λ map e.
    ap (λ (l : List ℕ). trie_map (with_block (number_of at) l records) root) s.block
    ∙ ap (trie_map (with_block (number_of at) (old ++ spelled (saved_behind at old trie).branches) records)) s.root_is
    ∙ save-map at old trie.base trie.own sound.own below records small trie.root sound.root fits (ap is_some e)
    ∙ e)

pub trie-empty : (at : Address) (old new : List ℕ) (trie : TrieView) (root : Option Address) → IsSound trie → IsBelow trie.base at → IsSavedBehind at old new trie root → (records : RecordsAt) → BranchesEverywhere records → IfSome (mut_map trie records) (λ map. (root ≡ None) ↔ (map ≡ empty))
trie-empty at old new trie root sound below s records enough = if-some (mut_map trie records) _ (λ map e.
    subst (λ (r : Option Address). (r ≡ None) ↔ (map ≡ empty)) (sym s.root_is) (save-empty at old trie.base trie.own sound.own below records enough trie.root map e))
