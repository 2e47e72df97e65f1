-- What a block and a list have, once branches are put into them.
use mathlib.Core.Path.{fun_ext}
use Rattle.std.proofs.Common.{◌≡◌, ◌<◌, ℕ, ◌+◌, ◌^◌, Bool, List, [], ◌∷◌, ◌++◌, length, take, Option, Some, sym, ◌∙◌, ap, subst, arith, append_assoc, length-append}
use Rattle.std.specs.List.{AllByRecursion}
use Rattle.std.proofs.lemmas.List.{append-nil}
use Rattle.std.proofs.Math.Seq.{take-append_seam}
use Rattle.xod_block.specs.declared.address.Address.{Address}
use Rattle.xod_block.specs.Records.{spelling}
use Rattle.xod_trie.specs.declared.branch.Branch.{Branch}
use Rattle.xod_trie.specs.Branches.{FitsBranch}
use Rattle.xod_trie_mut.specs.declared.block.Block.{Block}
use Rattle.xod_trie_mut.specs.Keeps.{HasPut, IsPutBehind, IsPutUnder, places_of, put_from, with_all}
use Rattle.xod_trie_mut.specs.Own.{is_saved, own_address, record_as}
use Rattle.xod_trie_mut.specs.Saves.{Places, block_places, further, list_places, saved, saved_at, spelled, without_base}
use Rattle.xod_trie_mut.proofs.SavingRecords.{made}

-- ---- blocks

abbrev pub block_place : Block → Address
block_place block = further block.start (length block.bytes)

abbrev pub block_last : Block → Branch → Block
block_last block branch = record block { bytes = block.bytes ++ spelling (record_as branch) }

block-all : (start : Address) (bytes : List ℕ) (small : start.at < 2 ^ 63) (bs : List Branch) → with_all block_last (made start bytes small) bs ≡ made start (bytes ++ spelled bs) small
block-all start bytes small [] = ap (λ (l : List ℕ). made start l small) (sym (append-nil bytes))
block-all start bytes small (b ∷ bs) =
    block-all start (bytes ++ spelling (record_as b)) small bs
    ∙ ap (λ (l : List ℕ). made start l small) (append_assoc bytes (spelling (record_as b)) (spelled bs))

block-place : (start : Address) (bytes : List ℕ) (small : start.at < 2 ^ 63) (bs : List Branch) → block_place (with_all block_last (made start bytes small) bs) ≡ block_places (further start (length bytes)) bs
block-place start bytes small bs =
    let whole : start.at + length (bytes ++ spelled bs) ≡ start.at + length bytes + length (spelled bs) = let both = length-append bytes (spelled bs) in omega (arith, both) in
    ap block_place (block-all start bytes small bs)
    ∙ ap (λ (n : ℕ). record { file = start.file; at = n }) whole

pub block-places : (start : Address) (bytes : List ℕ) (small : start.at < 2 ^ 63) → places_of block_place block_last (made start bytes small) ≡ block_places (further start (length bytes))
block-places start bytes small = fun_ext (block-place start bytes small)

pub block-put : (start : Address) (bytes old : List ℕ) (small : start.at < 2 ^ 63) (own : List Branch) (index : ℕ) (new : Block) (seat root : Address) → IsPutUnder block_place block_last is_saved FitsBranch own index (made start bytes small) new seat → bytes ≡ old → root ≡ seat → IsPutBehind start own index old new.bytes root
block-put start bytes old small own index new seat root p same is =
    let here : (places : Places) → places_of block_place block_last (made start bytes small) ≡ places → (new ≡ made start (bytes ++ spelled (put_from places own index).branches) small) × (seat ≡ (put_from places own index).at) × AllByRecursion FitsBranch (put_from places own index).branches =
    λ places e. (
      p.put ∙ block-all start bytes small (put_from (places_of block_place block_last (made start bytes small)) own index).branches ∙ ap (λ (q : Places). made start (bytes ++ spelled (put_from q own index).branches) small) e,
      p.at_is ∙ ap (λ (q : Places). (put_from q own index).at) e,
      subst (λ (q : Places). AllByRecursion FitsBranch (put_from q own index).branches) e p.taken,
    ) in
    let h = here (block_places (further start (length bytes))) (block-places start bytes small) in
    subst (λ (l : List ℕ). IsPutBehind start own index l new.bytes root) same (record { block = ap (λ (b : Block). b.bytes) h.0; root_is = is ∙ h.1; fit = h.2 })

-- cut back, it is as it was
pub block-cut : (start : Address) (bytes old cut : List ℕ) (small : start.at < 2 ^ 63) (count : ℕ) (new : Block) → HasPut block_last (made start bytes small) new → cut ≡ take count new.bytes → count ≡ length bytes → bytes ≡ old → cut ≡ old
block-cut start bytes old cut small count new p is all same =
    is
    ∙ ap (λ (b : Block). take count b.bytes) (p.is ∙ block-all start bytes small p.branches)
    ∙ ap (λ (n : ℕ). take n (bytes ++ spelled p.branches)) all
    ∙ take-append_seam bytes (spelled p.branches)
    ∙ same

-- ---- lists

abbrev pub list_place : List Branch → Address
list_place list = own_address (length list)

abbrev pub list_last : List Branch → Branch → List Branch
list_last list branch = list ++ branch ∷ []

list-all : (list bs : List Branch) → with_all list_last list bs ≡ list ++ bs
list-all list [] = sym (append-nil list)
list-all list (b ∷ bs) = list-all (list ++ b ∷ []) bs ∙ append_assoc list (b ∷ []) bs

list-places : places_of list_place list_last [] ≡ list_places
list-places = fun_ext (λ bs. ap list_place (list-all [] bs))

pub list-put : (Takes : Branch → Type 0) (names : Address → Bool) (old own : List Branch) (index : ℕ) (new : List Branch) (at : Address) → IsPutUnder list_place list_last names Takes own index old new at → old ≡ [] → (new ≡ (put_from list_places own index).branches) × (at ≡ (put_from list_places own index).at)
list-put Takes names old own index new at p none =
    let here : places_of list_place list_last old ≡ list_places = ap (places_of list_place list_last) none ∙ list-places in (
      p.put ∙ list-all old (put_from (places_of list_place list_last old) own index).branches ∙ ap (λ (l : List Branch). l ++ (put_from (places_of list_place list_last old) own index).branches) none ∙ ap (λ (q : Places). (put_from q own index).branches) here,
      p.at_is ∙ ap (λ (q : Places). (put_from q own index).at) here,
    )

pub list-saved : (own : List Branch) (index : ℕ) (root : Option Address) (seat : Address) → root ≡ Some seat → seat ≡ own_address index → saved list_places (without_base own root) [] ≡ saved_at (put_from list_places own index)
list-saved own index root seat e is = ap (λ (r : Option Address). saved list_places (without_base own r) []) (e ∙ ap (λ (a : Address). Some a) is)
