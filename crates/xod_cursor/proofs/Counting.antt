-- How many children stand under a lesser byte, counted one by one.
use Rattle.std.proofs.Common.{◌≡◌, ◌<◌, ◌≤◌, ℕ, suc, ◌+◌, List, drop, Bool, cond, Some, slice_get, ◌∙◌, ap, arith}
use Rattle.std.proofs.lemmas.Bool.{lt-ltb, le-ltb}
use Rattle.xod_block.specs.Records.{Link}
use Rattle.xod_trie.proofs.CallerLemmas.{drop_at_place}
use Rattle.xod_cursor.specs.Wants.{count_below}

module _ (byte : ℕ) (links : List Link) (i : ℕ) (x : Link) (here : slice_get links i ≡ Some x) where
  -- the link at a place stops the count, or is counted
  pub count-stops : byte ≤ x.0 → count_below byte links ≡ i + count_below byte (drop i links) → i ≡ count_below byte links
  count-stops ge so_far =
      let none : count_below byte (drop i links) ≡ 0 = ap (count_below byte) (drop_at_place links i x here) ∙ ap (λ (b : Bool). cond b (suc (count_below byte (drop (i + 1) links))) 0) (le-ltb x.0 byte ge) in
      omega (arith, so_far, none)

  pub count-goes_on : x.0 < byte → count_below byte links ≡ i + count_below byte (drop i links) → count_below byte links ≡ (i + 1) + count_below byte (drop (i + 1) links)
  count-goes_on lt so_far =
      let one : count_below byte (drop i links) ≡ suc (count_below byte (drop (i + 1) links)) = ap (count_below byte) (drop_at_place links i x here) ∙ ap (λ (b : Bool). cond b (suc (count_below byte (drop (i + 1) links))) 0) (lt-ltb x.0 byte lt) in
      omega (arith, so_far, one)
