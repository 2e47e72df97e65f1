-- Lists of entries that begin with all entries at an address.
use Rattle.std.proofs.Common.{◌≡◌, ℕ, ◌+◌, List, [], ◌∷◌, ◌++◌, drop, length, ◌≤◌, Option, Some, None, slice_get, sym, ◌∙◌, ap}
use Rattle.std.proofs.lemmas.List.{append_assoc, append-nil, drop_all}
use Rattle.xod_base.specs.Views.{Entry}
use Rattle.xod_block.specs.Addresses.{number_of}
use Rattle.xod_block.specs.Maps.{RecordsAt, Pairs, under, own_pair, map_at}
use Rattle.xod_block.specs.Records.{Link}
use Rattle.xod_block.proofs.CallerLemmas.{children-join}
use Rattle.xod_trie.specs.declared.branch.Branch.{Branch}
use Rattle.xod_trie.specs.Branches.{branch_of}
use Rattle.xod_trie.proofs.CallerLemmas.{drop_at_place}
use Rattle.xod_cursor.specs.Entries.{first_pair}
use Rattle.xod_cursor.specs.Walks.{BeginsAt}
use Rattle.xod_cursor.specs.Wants.{entries_under}
use Rattle.xod_cursor.proofs.Children.{no_entries}
use Rattle.xod_cursor.proofs.Kept.{under-append, under-under}
use Rattle.xod_cursor.proofs.Wanting.{opened}

module _ (records : RecordsAt) (at : ℕ) (children : List Link) (place : ℕ) (front : List ℕ) (others later : Pairs) (is : entries_under records at (drop place children) ≡ Some others) where
  -- the entries under the children from a place on begin with those of the child there
  pub begins-child : (child : Link) (more : List ℕ) → slice_get children place ≡ Some child → more ≡ front ++ child.0 ∷ [] → BeginsAt records more (number_of child.1) (under front others ++ later)
  begins-child child more there longer =
      let j = children-join (map_at records) at child (drop (place + 1) children) others (sym (ap (entries_under records at) (drop_at_place children place child there)) ∙ is) in
      record {
        first = j.first;
        first_is = j.first_is;
        others = under front j.others ++ later;
        is = ap (λ (es : Pairs). under front es ++ later) j.whole
            ∙ ap (λ (es : Pairs). es ++ later) (under-append front (under (child.0 ∷ []) j.first) j.others ∙ ap (λ (es : Pairs). es ++ under front j.others) (under-under front (child.0 ∷ []) j.first))
            ∙ append_assoc (under (front ++ child.0 ∷ []) j.first) (under front j.others) later
            ∙ ap (λ (f : List ℕ). under f j.first ++ (under front j.others ++ later)) (sym longer);
      }

  -- and without one there are none
  pub begins-past : length children ≤ place → under front others ++ later ≡ later
  begins-past past = ap (λ (es : Pairs). under front es ++ later) (no_entries others (sym (ap (entries_under records at) (drop_all place children past)) ∙ is))

module _ (records : RecordsAt) (front : List ℕ) (at : ℕ) (entries : List Entry) (begins : BeginsAt records front at entries) (branch : Branch) (here : branch_of (records at) ≡ Some branch) where
  -- the first entry is a branch's own
  pub begins-own : (key value : List ℕ) → branch.value ≡ Some value → key ≡ front ++ branch.key → first_pair entries ≡ Some (record { key = key; value = value })
  begins-own key value own key_is =
      let o = opened records at branch begins.first here begins.first_is in
      ap first_pair begins.is
      ∙ ap (λ (es : Pairs). first_pair (under front es ++ begins.others)) (o.is ∙ ap (λ (v : Option (List ℕ)). under branch.key (own_pair v ++ o.others)) own)
      ∙ ap (λ (k : List ℕ). Some (record { key = k; value = value })) (ap (λ (k : List ℕ). front ++ k) (append-nil branch.key) ∙ sym key_is)

  -- or below its first child
  pub begins-first : (child : Link) (key more : List ℕ) → branch.value ≡ None → slice_get branch.children 0 ≡ Some child → key ≡ front ++ branch.key → more ≡ key ++ child.0 ∷ [] → BeginsAt records more (number_of child.1) entries
  begins-first child key more none there key_is more_is =
      let o = opened records at branch begins.first here begins.first_is in
      let b = begins-child records at branch.children 0 key o.others begins.others o.others_is child more there more_is in
      record {
        first = b.first;
        first_is = b.first_is;
        others = b.others;
        is = begins.is
            ∙ ap (λ (es : Pairs). under front es ++ begins.others) (o.is ∙ ap (λ (v : Option (List ℕ)). under branch.key (own_pair v ++ o.others)) none)
            ∙ ap (λ (es : Pairs). es ++ begins.others) (under-under front branch.key o.others ∙ ap (λ (k : List ℕ). under k o.others) (sym key_is))
            ∙ b.is;
      }
