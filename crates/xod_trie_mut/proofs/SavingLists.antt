-- What is left of a trie in memory when it is compacted.
use Rattle.std.proofs.Common.{◌≡◌, ◌<◌, ◌≤◌, ℕ, suc, Bool, true, false, List, [], ◌∷◌, ◌++◌, length, Option, Some, None, slice_get, refl, sym, ◌∙◌, ap, subst, arith, length-append}
use Rattle.std.specs.Prelude.{IfSome, IsSome, is_some}
use Rattle.std.specs.FinMap.{from_entries}
use Rattle.std.specs.List.{AllByRecursion}
use Rattle.std.specs.Option.{option_map}
use Rattle.std.proofs.lemmas.List.{length-take-le}
use Rattle.std.proofs.lemmas.Option.{slice_get_within}
use Rattle.xod_base.specs.Values.{bytes_cmp}
use Rattle.xod_block.specs.declared.address.Address.{Address}
use Rattle.xod_block.specs.Addresses.{number_of}
use Rattle.xod_block.specs.Maps.{RecordsAt, OnlyMore, Pairs, map_at}
use Rattle.xod_block.proofs.CallerLemmas.{map_at-agree}
use Rattle.xod_trie.specs.declared.branch.Branch.{Branch}
use Rattle.xod_trie.specs.Branches.{branch_of}
use Rattle.xod_trie.proofs.CallerLemmas.{has_pairs}
use Rattle.xod_trie_mut.specs.declared.compact.Kept.{Kept}
use Rattle.xod_trie_mut.specs.Compacts.{IsCompacted}
use Rattle.xod_trie_mut.specs.Own.{AreOwn, IsBelowBase, IsLower, IsLowerBy, IsRoot, IsSound, TrieView, is_saved, is_whole, mut_map, own_file, own_start, with_own}
use Rattle.xod_trie_mut.specs.Saves.{IsLowBase, Put, compacted, list_places, put_within}
use Rattle.xod_trie_mut.proofs.SavingOwn.{own-below, own-branch, own-more, own-number, whole-is}
use Rattle.xod_trie_mut.proofs.SavingBranches.{AreSeated, IsFine, IsReach, put-fine, put-map}
use Rattle.xod_trie_mut.proofs.SavingTries.{if-some, root-reach}

get-end : (bs : List Branch) (b : Branch) → slice_get (bs ++ b ∷ []) (length bs) ≡ Some b
get-end [] b = refl
get-end (x ∷ bs) b = get-end bs b

module _ (base : Option Address) (own : List Branch) (sound : AreOwn base own) where
  abbrev pub Low : List Branch → Address → Type 0
  Low bs at = IsLower base (length bs) at

  pub low_saved : (bs : List Branch) (at : Address) → is_saved at ≡ true → IsBelowBase base at → Low bs at
  low_saved bs at e below = subst (λ (q : Bool). IsLowerBy q base (length bs) at) (sym e) below

  pub low_place : (bs : List Branch) (b : Branch) → Low (bs ++ b ∷ []) (list_places bs)
  low_place bs b = record { own = refl; before = (let longer = length-append bs (b ∷ []) in omega (arith, longer)) }

  lower-more : (q : Bool) (m n : ℕ) (at : Address) → m ≤ n → IsLowerBy q base m at → IsLowerBy q base n at
  lower-more true m n at le low = low
  lower-more false m n at le low = record { own = low.own; before = (let lt = low.before in omega (arith, lt, le)) }

  pub low_more : (bs : List Branch) (b : Branch) (at : Address) → Low bs at → Low (bs ++ b ∷ []) at
  low_more bs b at low = lower-more (is_saved at) (length bs) (length (bs ++ b ∷ [])) at (let longer = length-append bs (b ∷ []) in omega (arith, longer)) low

  pub list-fine : (depth : ℕ) (before : List Branch) (at : Address) → IsReach base own depth at → IsFine list_places base own sound Low low_saved low_place low_more before (put_within depth list_places own before at)
  list-fine depth before at r = put-fine list_places base own sound Low low_saved low_place low_more depth before at r

  -- seated branches are those of a trie
  seated-own : (bs : List Branch) → AreSeated list_places base own sound Low low_saved low_place low_more bs → AreOwn base bs
  seated-own bs seated index b e =
      let s = seated index b e in
      let within = slice_get_within bs index b e in
      record {
        parts = s.parts;
        enough = s.enough;
        lower = subst (λ (n : ℕ). AllByRecursion (λ child. IsLower base n child.1) b.children) (length-take-le index bs (omega (arith, within))) s.low;
      }

  abbrev pub put_root : Address → Put
  put_root root = put_within (suc (length own)) list_places own [] root

  pub list-own : (root : Address) → IsRoot base (length own) (Some root) → AreOwn base (put_root root).branches
  list-own root low = seated-own (put_root root).branches ((list-fine (suc (length own)) [] root (root-reach base own root low)).seated (λ i x none. absurd cc))

  pub list-root : (root : Address) → IsRoot base (length own) (Some root) → IsRoot base (length (put_root root).branches) (Some (put_root root).at)
  list-root root low = (list-fine (suc (length own)) [] root (root-reach base own root low)).low

  -- each of them is whole
  seated-whole : (bs : List Branch) → AreOwn base bs → AllByRecursion (λ b. is_whole b ≡ true) bs
  seated-whole bs all = each bs (λ i b e. let o = all i b e in whole-is b o.parts o.enough) where
    each : (bs : List Branch) → ((i : ℕ) (b : Branch) → slice_get bs i ≡ Some b → is_whole b ≡ true) → AllByRecursion (λ b. is_whole b ≡ true) bs
    each [] f = tt
    each (b ∷ bs) f = (f 0 b refl, each bs (λ i x e. f (suc i) x e))

  module _ (records : RecordsAt) (small : (at : Address) → IsBelowBase base at → number_of at < own_start) where
    abbrev new : List Branch → RecordsAt
    new bs = with_own bs records

    more : (bs : List Branch) (b : Branch) (n : ℕ) → OnlyMore (new bs) (new (bs ++ b ∷ [])) n
    more bs b n = own-more bs (b ∷ []) records n

    stored : (bs : List Branch) (b : Branch) → is_whole b ≡ true → branch_of (new (bs ++ b ∷ []) (number_of (list_places bs))) ≡ Some b
    stored bs b whole = own-branch (bs ++ b ∷ []) records (list_places bs) b refl (get-end bs b) whole

    kept : (bs : List Branch) (at : Address) → is_saved at ≡ true → IsBelowBase base at → map_at (new bs) (number_of at) ≡ map_at (with_own own records) (number_of at)
    kept bs at e below =
        let lt = small at below in
        map_at-agree (new bs) (with_own own records) (number_of at) (λ n up. own-below bs records n (omega (arith, lt, up)) ∙ sym (own-below own records n (omega (arith, lt, up))))

    before_is : (at : Address) (b : Branch) → at.file ≡ own_file → slice_get own at.at ≡ Some b → branch_of (with_own own records (number_of at)) ≡ Some b
    before_is at b file is = let here = sound at.at b is in own-branch own records at b file is (whole-is b here.parts here.enough)

    low_number : (bs : List Branch) (at : Address) → Low bs at → number_of at < number_of (list_places bs)
    low_number bs at low = elim (is_saved at) as (λ q. IsLowerBy q base (length bs) at → number_of at < number_of (list_places bs)) [
      | true ↦ λ below. let lt = small at below in omega (arith, lt)
      | false ↦ λ before. let lt = before.before in let n = own-number at before.own in omega (arith, lt, n)
    ] low

    pub list-map : (root : Address) → IsRoot base (length own) (Some root) → IsSome (map_at (with_own own records) (number_of root)) → map_at (new (put_root root).branches) (number_of (put_root root).at) ≡ map_at (with_own own records) (number_of root)
    list-map root low some = put-map list_places base own sound Low low_saved low_place low_more (with_own own records) new (λ b. is_whole b ≡ true) more stored kept before_is low_number (suc (length own)) [] root (root-reach base own root low) some (seated-whole (put_root root).branches (list-own root low))

-- ---- a trie as it is seen

pub compacted-sound : (trie : TrieView) → IsSound trie → IsSound (compacted trie)
compacted-sound trie sound = of trie.root sound.root where
  of : (root : Option Address) → IsRoot trie.base (length trie.own) root → IsSound (compacted (record trie { root = root }))
  of None low = record { own = λ i b e. absurd cc; root = tt }
  of (Some root) low = record { own = list-own trie.base trie.own sound.own root low; root = list-root trie.base trie.own sound.own root low }

pub compacted-means : (trie : TrieView) → IsSound trie → IsLowBase trie.base → (records : RecordsAt) → IfSome (mut_map trie records) (λ map. mut_map (compacted trie) records ≡ Some map)
compacted-means trie sound small records = if-some (mut_map trie records) _ (λ map e. of trie.root sound.root (ap is_some e) ∙ e) where
  of : (root : Option Address) → IsRoot trie.base (length trie.own) root → IsSome (mut_map (record trie { root = root }) records) → mut_map (compacted (record trie { root = root })) records ≡ mut_map (record trie { root = root }) records
  of None low some = refl
  of (Some root) low some = ap (option_map (λ (pairs : Pairs). from_entries {R = bytes_cmp} pairs)) (list-map trie.base trie.own sound.own records small root low (has_pairs (with_own trie.own records) root some))

-- the parts that are left are those of the compacted trie
abbrev pub seen : Option Address → List Branch → Option Address → TrieView
seen base own root = record { base = base; own = own; root = root }

pub compacted-of : (own : List Branch) (trie : TrieView) (root : Option Address) (kept : Kept) → own ≡ trie.own → root ≡ trie.root → IsCompacted own root kept → seen trie.base kept.own kept.root ≡ compacted trie
compacted-of own trie root kept e f k =
    let one = subst (λ (l : List Branch). IsCompacted l root kept) e k in
    let two = subst (λ (r : Option Address). IsCompacted trie.own r kept) f one in
    ap (λ (l : List Branch). seen trie.base l kept.root) two.own_is ∙ ap (seen trie.base (compacted trie).own) two.root_is
