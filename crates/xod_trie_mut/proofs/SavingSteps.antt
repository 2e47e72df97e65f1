-- What is put out under an address, one step after another.
use Rattle.std.proofs.Common.{◌≡◌, ◌<◌, ◌≤◌, ℕ, zero, suc, Bool, true, false, cond, List, [], ◌∷◌, length, Option, Some, None, slice_get, refl, sym, ◌∙◌, ap, subst, arith}
use Rattle.std.specs.List.{AllByRecursion}
use Rattle.std.proofs.lemmas.Option.{slice_get_within}
use Rattle.xod_block.specs.declared.address.Address.{Address}
use Rattle.xod_block.specs.Records.{Link}
use Rattle.xod_trie.specs.declared.branch.Branch.{Branch}
use Rattle.xod_trie_mut.specs.Own.{AreOwn, IsLower, IsLowerBy, is_saved, own_address}
use Rattle.xod_trie_mut.specs.Saves.{Put, Places, put_child, put_children, put_behind, put_branch, put_within}

abbrev pub Puts : Type 0
Puts = List Branch → Address → Put

-- at a record nothing is put out
pub put-saved : (depth : ℕ) (places : Places) (own before : List Branch) (at : Address) → is_saved at ≡ true → put_within depth places own before at ≡ record { branches = before; at = at }
put-saved zero places own before at e = refl
put-saved (suc depth) places own before at e = ap (λ (q : Bool). cond q (record { branches = before; at = at }) (put_branch places (put_within depth places own) before at (slice_get own at.at))) e

-- at a branch in memory it is put behind its children
pub put-own : (depth : ℕ) (places : Places) (own before : List Branch) (at : Address) → is_saved at ≡ false → put_within (suc depth) places own before at ≡ put_branch places (put_within depth places own) before at (slice_get own at.at)
put-own depth places own before at e = ap (λ (q : Bool). cond q (record { branches = before; at = at }) (put_branch places (put_within depth places own) before at (slice_get own at.at))) e

children-same : (f g : Puts) (cs : List Link) (before : List Branch) → AllByRecursion (λ child. (b : List Branch) → f b child.1 ≡ g b child.1) cs → put_children f before cs ≡ put_children g before cs
children-same f g [] before same = refl
children-same f g (c ∷ cs) before same =
    ap (λ (one : Put). put_child c.0 one (put_children f one.branches cs)) (same.0 before)
    ∙ ap (put_child c.0 (g before c.1)) (children-same f g cs (g before c.1).branches same.1)

-- ---- how many branches may be passed does not matter, if they are enough

-- an address that so many are enough for
abbrev pub IsWithin : ℕ → Address → Type 0
IsWithin depth at = is_saved at ≡ false → at.at < depth

pub lower-within : (base : Option Address) (index : ℕ) (at : Address) → IsLower base index at → IsWithin index at
lower-within base index at low saved =
    let before = subst (λ (q : Bool). IsLowerBy q base index at) saved low in before.before

pub lower-all : (base : Option Address) (index : ℕ) (cs : List Link) → AllByRecursion (λ child. IsLower base index child.1) cs → AllByRecursion (λ child. IsWithin index child.1) cs
lower-all base index [] low = tt
lower-all base index (c ∷ cs) low = (lower-within base index c.1 low.0, lower-all base index cs low.1)

pub within-more : (m n : ℕ) (at : Address) → m ≤ n → IsWithin m at → IsWithin n at
within-more m n at le w saved = let lt = w saved in omega (arith, le, lt)

pub within-all : (m n : ℕ) (cs : List Link) → m ≤ n → AllByRecursion (λ child. IsWithin m child.1) cs → AllByRecursion (λ child. IsWithin n child.1) cs
within-all m n [] le w = tt
within-all m n (c ∷ cs) le w = (within-more m n c.1 le w.0, within-all m n cs le w.1)

module _ (places : Places) (base : Option Address) (own : List Branch) (sound : AreOwn base own) where
  same-all : (m n : ℕ) → ((b : List Branch) (at : Address) → IsWithin m at → IsWithin n at → put_within m places own b at ≡ put_within n places own b at) → (cs : List Link) → AllByRecursion (λ child. IsWithin m child.1) cs → AllByRecursion (λ child. IsWithin n child.1) cs → AllByRecursion (λ child. (b : List Branch) → put_within m places own b child.1 ≡ put_within n places own b child.1) cs
  same-all m n same [] v w = tt
  same-all m n same (c ∷ cs) v w = (λ b. same b c.1 v.0 w.0, same-all m n same cs v.1 w.1)

  branch-same : (m n : ℕ) → ((b : List Branch) (at : Address) → IsWithin m at → IsWithin n at → put_within m places own b at ≡ put_within n places own b at) → (before : List Branch) (at : Address) → at.at < suc m → at.at < suc n → (o : Option Branch) → slice_get own at.at ≡ o → put_branch places (put_within m places own) before at o ≡ put_branch places (put_within n places own) before at o
  branch-same m n same before at lm ln None e = refl
  branch-same m n same before at lm ln (Some branch) e =
      let low = lower-all base at.at branch.children (sound at.at branch e).lower in
      ap (put_behind places branch) (children-same (put_within m places own) (put_within n places own) branch.children before
      (same-all m n same branch.children (within-all at.at m branch.children (omega (arith, lm)) low) (within-all at.at n branch.children (omega (arith, ln)) low)))

  pub depth-same : (m n : ℕ) (before : List Branch) (at : Address) → IsWithin m at → IsWithin n at → put_within m places own before at ≡ put_within n places own before at
  depth-same zero zero before at v w = refl
  depth-same zero (suc n) before at v w = elim (is_saved at) as (λ q. is_saved at ≡ q → put_within zero places own before at ≡ put_within (suc n) places own before at) [
    | true ↦ λ e. sym (put-saved (suc n) places own before at e)
    | false ↦ λ e. absurd (let lt = v e in omega (arith, lt))
  ] refl
  depth-same (suc m) zero before at v w = elim (is_saved at) as (λ q. is_saved at ≡ q → put_within (suc m) places own before at ≡ put_within zero places own before at) [
    | true ↦ λ e. put-saved (suc m) places own before at e
    | false ↦ λ e. absurd (let lt = w e in omega (arith, lt))
  ] refl
  depth-same (suc m) (suc n) before at v w = elim (is_saved at) as (λ q. is_saved at ≡ q → put_within (suc m) places own before at ≡ put_within (suc n) places own before at) [
    | true ↦ λ e. put-saved (suc m) places own before at e ∙ sym (put-saved (suc n) places own before at e)
    | false ↦ λ e.
        put-own m places own before at e
        ∙ branch-same m n (λ b a x y. depth-same m n b a x y) before at (v e) (w e) (slice_get own at.at) refl
        ∙ sym (put-own n places own before at e)
  ] refl

  -- what stands in the list is put behind its children, whatever the depth
  pub put-here : (before : List Branch) (index : ℕ) (branch : Branch) → slice_get own index ≡ Some branch → put_within (suc (length own)) places own before (own_address index) ≡ put_behind places branch (put_children (put_within (suc (length own)) places own) before branch.children)
  put-here before index branch is =
      let inside = slice_get_within own index branch is in
      let low = lower-all base index branch.children (sound index branch is).lower in
      put-own (length own) places own before (own_address index) refl
      ∙ ap (put_branch places (put_within (length own) places own) before (own_address index)) is
      ∙ ap (put_behind places branch) (children-same (put_within (length own) places own) (put_within (suc (length own)) places own) branch.children before
      (same-all (length own) (suc (length own)) (depth-same (length own) (suc (length own))) branch.children (within-all index (length own) branch.children (omega (arith, inside)) low) (within-all index (suc (length own)) branch.children (omega (arith, inside)) low)))
