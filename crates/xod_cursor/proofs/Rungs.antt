-- The entries of a branch, and of what is left of it behind a child.
use Rattle.std.proofs.Common.{◌≡◌, ◌≤◌, ℕ, ◌+◌, List, [], ◌∷◌, ◌++◌, drop, length, Bool, cond, Option, Some, None, slice_get, refl, sym, ◌∙◌, ap, subst}
use Rattle.std.specs.Option.{option_map}
use Rattle.std.proofs.lemmas.Bool.{lt-ltb}
use Rattle.std.proofs.lemmas.List.{append-nil, drop_all}
use Rattle.xod_base.specs.Views.{Entry}
use Rattle.xod_block.specs.declared.address.Address.{Address}
use Rattle.xod_block.specs.Addresses.{number_of}
use Rattle.xod_block.specs.Maps.{RecordsAt, under, own_pair, joined, map_at}
use Rattle.xod_block.specs.Reading.{links_in}
use Rattle.xod_block.specs.Records.{Link}
use Rattle.xod_trie.specs.declared.branch.Branch.{Branch}
use Rattle.xod_trie.specs.Branches.{branch_of}
use Rattle.xod_trie.specs.Damage.{IsReached, Names}
use Rattle.xod_trie.proofs.CallerLemmas.{drop_at_place, map_at-branch}
use Rattle.xod_cursor.specs.declared.rung.Rung.{Rung}
use Rattle.xod_cursor.specs.Cursors.{IsNextChild, IsRung, StandsAt, children_entries, entries_at, rung_entries}
use Rattle.xod_cursor.specs.Wants.{HasChildren, entries_under}
use Rattle.xod_cursor.proofs.Damaging.{child-reached}
use Rattle.xod_cursor.proofs.Kept.{under-append, under-under}
use Rattle.xod_cursor.proofs.Wanting.{child-named}

abbrev Found : Type 0
Found = Option (List Entry)

mapped-joined : (front : List ℕ) (a b : Found) → option_map (under front) (joined a b) ≡ joined (option_map (under front) a) (option_map (under front) b)
mapped-joined front None b = refl
mapped-joined front (Some x) None = refl
mapped-joined front (Some x) (Some y) = ap (λ (l : List Entry). Some l) (under-append front x y)

mapped-mapped : (front more : List ℕ) (a : Found) → option_map (under front) (option_map (under more) a) ≡ option_map (under (front ++ more)) a
mapped-mapped front more None = refl
mapped-mapped front more (Some x) = ap (λ (l : List Entry). Some l) (under-under front more x)

module _ (records : RecordsAt) where
  -- the entries under the next child, and those behind it
  pub rung_entries-next : (rung : Rung) (child : Link) (next : IsNextChild rung child)
      → rung_entries records rung ≡ joined (entries_at records (rung.front ++ child.0 ∷ []) child.1) (children_entries records rung.at rung.front (drop (rung.place + 1) (links_in rung.links)))
  rung_entries-next rung child next =
      let links = links_in rung.links in
      let at = number_of rung.at in
      let here : Found = option_map (under (child.0 ∷ [])) (map_at records (number_of child.1)) in
      let others : Found = entries_under records at (drop (rung.place + 1) links) in
      ap (λ (cs : List Link). option_map (under rung.front) (entries_under records at cs)) (drop_at_place links rung.place child next.there)
      ∙ ap (λ (b : Bool). option_map (under rung.front) (cond b (joined here others) None)) (lt-ltb _ _ next.lower)
      ∙ mapped-joined rung.front here others
      ∙ ap (λ (found : Found). joined found (option_map (under rung.front) others)) (mapped-mapped rung.front (child.0 ∷ []) (map_at records (number_of child.1)))

  -- no child is left from a place on
  pub children_entries-past : (at : Address) (front : List ℕ) (links : List Link) (place : ℕ) → length links ≤ place → children_entries records at front (drop place links) ≡ Some []
  children_entries-past at front links place past = ap (children_entries records at front) (drop_all place links past)

  -- ---- a whole branch
  module _ (at : Address) (front : List ℕ) (branch : Branch) (here : branch_of (records (number_of at)) ≡ Some branch) where
    whole : entries_at records front at ≡ option_map (under front) (option_map (λ es. under branch.key (own_pair branch.value ++ es)) (entries_under records (number_of at) branch.children))
    whole = ap (option_map (under front)) (map_at-branch records (number_of at) branch here)

    valued : (value : List ℕ) (key : List ℕ) → key ≡ front ++ branch.key → (a : Found) → option_map (under front) (option_map (λ es. under branch.key (([], value) ∷ es)) a) ≡ option_map (λ es. (key, value) ∷ es) (option_map (under key) a)
    valued value key key_is None = refl
    valued value key key_is (Some x) =
        ap (λ (l : List Entry). Some l) (under-under front branch.key (([], value) ∷ x)
        ∙ ap (λ (k : List ℕ). (k, value) ∷ under (front ++ branch.key) x) (append-nil (front ++ branch.key))
        ∙ ap (λ (k : List ℕ). (k, value) ∷ under k x) (sym key_is))

    -- its own entry, and those under its children
    pub entries_at-own : (key value : List ℕ) → branch.value ≡ Some value → key ≡ front ++ branch.key
        → option_map (λ es. (key, value) ∷ es) (children_entries records at key branch.children) ≡ entries_at records front at
    entries_at-own key value own key_is =
        sym (whole
        ∙ ap (λ (v : Option (List ℕ)). option_map (under front) (option_map (λ es. under branch.key (own_pair v ++ es)) (entries_under records (number_of at) branch.children))) own
        ∙ valued value key key_is (entries_under records (number_of at) branch.children))

    -- those under its children alone
    pub entries_at-below : (key : List ℕ) → branch.value ≡ None → key ≡ front ++ branch.key → children_entries records at key branch.children ≡ entries_at records front at
    entries_at-below key none key_is =
        sym (whole
        ∙ ap (λ (v : Option (List ℕ)). option_map (under front) (option_map (λ es. under branch.key (own_pair v ++ es)) (entries_under records (number_of at) branch.children))) none
        ∙ mapped-mapped front branch.key (entries_under records (number_of at) branch.children)
        ∙ ap (λ (k : List ℕ). children_entries records at k branch.children) (sym key_is))

-- ---- a branch from a place on

module _ (records : RecordsAt) (at : Address) (front links : List ℕ) (place : ℕ) (rung : Rung) (is : IsRung at front links place rung) where
  pub rung_entries-is : rung_entries records rung ≡ children_entries records at front (drop place (links_in links))
  rung_entries-is = λ i. children_entries records (is.at_is i) (is.front_is i) (drop (is.place_is i) (links_in (is.links_are i)))

  pub rung-stands : (root : Option Address) → IsReached records root at → HasChildren (records (number_of at)) (links_in links) → StandsAt records root rung
  rung-stands root reached has = record {
    reached = subst (IsReached records root) (sym is.at_is) reached;
    children = subst (λ (ls : List ℕ). HasChildren (records (number_of rung.at)) (links_in ls)) (sym is.links_are) (subst (λ (a : Address). HasChildren (records (number_of a)) (links_in links)) (sym is.at_is) has);
  }

-- the child that was read off the links of a branch
pub link-there : (rung : Rung) (links : List ℕ) (child : Link) → links ≡ rung.links → slice_get (links_in links) rung.place ≡ Some child → slice_get (links_in rung.links) rung.place ≡ Some child
link-there rung links child same there = ap (λ (ls : List ℕ). slice_get (links_in ls) rung.place) (sym same) ∙ there

-- where that branch stands, its record names the child
module _ (records : RecordsAt) (root : Option Address) (rung : Rung) (stands : StandsAt records root rung) (links : List ℕ) (child : Link) (same : links ≡ rung.links) (there : slice_get (links_in links) rung.place ≡ Some child) where
  pub standing-names : Names (records (number_of rung.at)) child.1
  standing-names =
      let has = stands.children in
      child-named (records (number_of rung.at)) has.branch child rung.place has.is (ap (λ (cs : List Link). slice_get cs rung.place) has.children_are ∙ link-there rung links child same there)

  pub standing-child : IsReached records root child.1
  standing-child = child-reached records root rung.at child.1 stands.reached standing-names
