-- What is read in a tree of links, where the other ends of an entity's links are known by the links' names.
use Rattle.std.proofs.Common.{◌≡◌, ℕ, zero, suc, ◌<◌, ◌^◌, Bool, true, false, cond, List, [], ◌∷◌, ◌++◌, map, length, Option, Some, refl, sym, ap, subst, ◌∙◌, true≢false, arith}
use Rattle.std.specs.Prelude.{◌&&◌, not, is_some, nat_le}
use Rattle.std.specs.Option.{option_map}
use Rattle.std.specs.List.{AllByRecursion, flat_map, list_all, slice_get}
use Rattle.std.specs.declared.cmp.Ordering.{Ordering}
use Rattle.std.specs.declared.cmp.Ordering.TheVariants.{Less}
use Rattle.std.specs.Ordering.{is_gt, nat_cmp, ordering_then}
use Rattle.std.specs.Cmp.{tied_itself, first_so, second_so}
use Rattle.std.specs.Cmp.Lexicographic.{bytes_decides}
use Rattle.std.specs.FinMap.{get}
use Rattle.xod_base.specs.declared.limits.TheConstants.{MOST_NAMES}
use Rattle.xod_base.specs.declared.value.EntityId.{EntityId}
use Rattle.xod_base.specs.Rows.{id_cmp, are_names, are_distinct, is_listed, is_name, number_of, one_further}
use Rattle.xod_base.specs.Values.{bytes_cmp, same_bytes, is_within}
use Rattle.xod_base.specs.Views.{Entry, Tree}
use Rattle.xod_base.proofs.CallerLemmas.{bytes_cmp-front}
use Rattle.xod_carry.specs.Carry.{numbered}
use Rattle.xod_carry.proofs.CallerLemmas.{numbers_total, numbers_same, each, each_too}
use Rattle.xod_keys.specs.Pieces.{link_read}
use Rattle.xod_keys.specs.Readings.{LAST, first_id, last_id, all_read, ends_at, links_at}
use Rattle.xod_tables.specs.Keys.{IsShort, u32, id_bytes, link_key}
use Rattle.xod_tables.proofs.CallerLemmas.{short, name_of_number, u32_front, id_front, id_alone, id_at-bytes, u32_back, id_total, id_same}
use Rattle.xod_readings.proofs.Ranging.{same_some, not_none, In, in_each, each_in, in_map, each_map, in_flat_map, each_flat_map, each_numbered, in_numbered, Rises, rises_map, rises_flat_map, number_cmp, rises_numbered, IsRange, in_range_is, all_read_back, within_sides, sides_within, first_not_above, then_not_above, next_not_above, nat_not_above, pinned}

-- ---- names and their numbers

-- a name has a number
pub record IsNumbered (names : List (List ℕ)) (number : ℕ) (name : List ℕ) : Type 0 where
  pub is : number_of names name ≡ Some number
  pub at : slice_get names number ≡ Some name
  pub small : number < 2 ^ 32

module _ (names : List (List ℕ)) (all : are_names names ≡ true) (number : ℕ) (name : List ℕ) where
  pub by_number_of : number_of names name ≡ Some number → IsNumbered names number name
  by_number_of is =
      let there = name_of_number names name number is in
      let within : number < length names = there.1 in
      let few = short names all in
      record { is = is; at = there.0; small = omega (arith, within, few) }

  -- the names are distinct, so each has its place as its number
  pub by_place : slice_get names number ≡ Some name → IsNumbered names number name
  by_place at =
      let few = nat_le (length names) MOST_NAMES in
      let distinct = second_so few (are_distinct names) (first_so (few && are_distinct names) (list_all is_name names) all) in
      by_number_of (place_is names distinct number name at)
    where
      unlisted : (b : Bool) → not b ≡ true → b ≡ true → ⊥
      unlisted true h e = true≢false (sym h)
      unlisted false h e = true≢false (sym e)

      later : (first : List ℕ) (more : List (List ℕ)) (n : ℕ) (x : List ℕ) → not (is_listed more first) ≡ true → number_of more x ≡ Some n
          → (b : Bool) → same_bytes first x ≡ b → cond b (Some 0) (one_further (number_of more x)) ≡ Some (suc n)
      later first more n x new rest true e = absurd (unlisted (is_listed more first) new (ap (is_listed more) ((bytes_decides first x).0 e) ∙ ap is_some rest))
      later first more n x new rest false e = ap one_further rest

      place_is : (xs : List (List ℕ)) → are_distinct xs ≡ true → (n : ℕ) (x : List ℕ) → slice_get xs n ≡ Some x → number_of xs x ≡ Some n
      place_is [] d n x is = absurd (not_none x (sym is))
      place_is (first ∷ more) d zero x is = ap (λ b. cond b (Some 0) (one_further (number_of more x))) ((bytes_decides first x).1 (same_some first x is))
      place_is (first ∷ more) d (suc n) x is =
          let new = not (is_listed more first) in
          later first more n x (first_so new (are_distinct more) d) (place_is more (second_so new (are_distinct more) d) n x is) (same_bytes first x) refl

-- ---- keys of links
link_order : (a b : EntityId) (i j : ℕ) (x y : EntityId) → IsShort a → IsShort b → i < 2 ^ 32 → j < 2 ^ 32 → IsShort x → IsShort y
    → bytes_cmp (link_key a i x) (link_key b j y) ≡ ordering_then (id_cmp a b) (ordering_then (nat_cmp i j) (id_cmp x y))
link_order a b i j x y s t p q u w = id_front a b (u32 i ++ id_bytes x) (u32 j ++ id_bytes y) s t
    ∙ ap (ordering_then (id_cmp a b)) (u32_front i j (id_bytes x) (id_bytes y) p q ∙ ap (ordering_then (nat_cmp i j)) (id_alone x y u w))

link_back : (a : EntityId) (i : ℕ) (x : EntityId) → i < 2 ^ 32 → IsShort x → link_read (link_key a i x) ≡ Some (i, x)
link_back a i x p s = λ k. Some (u32_back i p k, id_at-bytes x [] s k)

first_short : IsShort first_id
first_short = record { kind = omega arith; local = omega arith }

last_short : IsShort last_id
last_short = record { kind = omega arith; local = omega arith }

from_first : (x : EntityId) → is_gt (id_cmp first_id x) ≡ false
from_first x = then_not_above (nat_cmp 0 x.kind) _ (nat_not_above 0 x.kind (omega arith))
    (then_not_above (nat_cmp 0 x.local) _ (nat_not_above 0 x.local (omega arith)) refl)

to_last : (x : EntityId) → IsShort x → is_gt (id_cmp x last_id) ≡ false
to_last x s =
    let kind = s.kind in
    let local = s.local in
    then_not_above (nat_cmp x.kind LAST) _ (nat_not_above x.kind LAST (omega (arith, kind)))
    (then_not_above (nat_cmp x.local LAST) _ (nat_not_above x.local LAST (omega (arith, local))) refl)

-- ---- a tree that has an entity's links

-- an entry is that of a link, and where it is one of the entity's its other end is known
pub record IsKnown (names : List (List ℕ)) (this : EntityId) (ends : List ℕ → List EntityId) (entry : Entry) : Type 0 where
  pub owner : EntityId
  pub number : ℕ
  pub end : EntityId
  pub name : List ℕ
  pub key_is : entry.0 ≡ link_key owner number end
  pub value_is : entry.1 ≡ []
  pub owner_short : IsShort owner
  pub end_short : IsShort end
  pub numbered : IsNumbered names number name
  pub near : owner ≡ this → In end (ends name)

-- by each name the other ends rise, and the tree has exactly their links
pub record HasEnds (names : List (List ℕ)) (this : EntityId) (ends : List ℕ → List EntityId) (tree : Tree) : Type 0 where
  pub short : (name : List ℕ) → AllByRecursion IsShort (ends name)
  pub rise : (name : List ℕ) → Rises id_cmp (ends name)
  pub stand : (name : List ℕ) (number : ℕ) (end : EntityId) → number_of names name ≡ Some number → In end (ends name)
      → get tree (link_key this number end) ≡ Some []
  pub known : (key value : List ℕ) → get tree key ≡ Some value → IsKnown names this ends (key, value)

module _ (names : List (List ℕ)) (this : EntityId) (s : IsShort this) (ends : List ℕ → List EntityId) (tree : Tree) where
  -- the keys from an entity's first one with a number to its last one with another number
  abbrev between : ℕ → ℕ → List ℕ → Bool
  between i j = is_within (link_key this i first_id) (link_key this j last_id)

  abbrev entry_of : ℕ × EntityId → Entry
  entry_of link = (link_key this link.0 link.1, [])

  entry_is : (e : Entry) (k : IsKnown names this ends e) → k.owner ≡ this → entry_of (k.number, k.end) ≡ e
  entry_is e k own = let key_is = ap (λ o. link_key o k.number k.end) (sym own) ∙ sym k.key_is in λ i. (key_is i, sym k.value_is i)

  module _ (i j : ℕ) (p : i < 2 ^ 32) (q : j < 2 ^ 32) (e : Entry) (k : IsKnown names this ends e) (inside : between i j e.0 ≡ true) where
    low_side : is_gt (ordering_then (id_cmp this k.owner) (ordering_then (nat_cmp i k.number) (id_cmp first_id k.end))) ≡ false
    low_side = sym (ap is_gt (link_order this k.owner i k.number first_id k.end s k.owner_short p k.numbered.small first_short k.end_short))
        ∙ (within_sides (link_key this i first_id) (link_key this j last_id) (link_key k.owner k.number k.end) (ap (between i j) (sym k.key_is) ∙ inside)).0

    high_side : is_gt (ordering_then (id_cmp k.owner this) (ordering_then (nat_cmp k.number j) (id_cmp k.end last_id))) ≡ false
    high_side = sym (ap is_gt (link_order k.owner this k.number j k.end last_id k.owner_short s k.numbered.small q k.end_short last_short))
        ∙ (within_sides (link_key this i first_id) (link_key this j last_id) (link_key k.owner k.number k.end) (ap (between i j) (sym k.key_is) ∙ inside)).1

    -- what is between two keys of an entity is that entity's
    owner_is : k.owner ≡ this
    owner_is = pinned id_total id_same this k.owner (first_not_above (id_cmp this k.owner) _ low_side) (first_not_above (id_cmp k.owner this) _ high_side)

    low_number : is_gt (nat_cmp i k.number) ≡ false
    low_number = first_not_above (nat_cmp i k.number) _ (next_not_above (id_cmp this k.owner) _ (ap (id_cmp this) owner_is ∙ tied_itself id_total this) low_side)

    high_number : is_gt (nat_cmp k.number j) ≡ false
    high_number = first_not_above (nat_cmp k.number j) _ (next_not_above (id_cmp k.owner this) _ (ap (λ x. id_cmp x this) owner_is ∙ tied_itself id_total this) high_side)

-- ---- the links by one name
module _ (names : List (List ℕ)) (this : EntityId) (s : IsShort this) (ends : List ℕ → List EntityId) (tree : Tree) (h : HasEnds names this ends tree)
    (number : ℕ) (name : List ℕ) (n : IsNumbered names number name) where
  abbrev inside : List ℕ → Bool
  inside = between names this s ends tree number number

  abbrev end_entry : EntityId → Entry
  end_entry end = (link_key this number end, [])

  end_order : (x y : EntityId) → IsShort x → IsShort y → bytes_cmp (link_key this number x) (link_key this number y) ≡ id_cmp x y
  end_order x y p q = bytes_cmp-front (id_bytes this ++ u32 number) (id_bytes x) (id_bytes y) ∙ id_alone x y p q

  end_inside : (x : EntityId) → IsShort x → inside (link_key this number x) ≡ true
  end_inside x p = sides_within (link_key this number first_id) (link_key this number last_id) (link_key this number x)
      (ap is_gt (end_order first_id x first_short p) ∙ from_first x) (ap is_gt (end_order x last_id p last_short) ∙ to_last x p)

  end_met : (e : Entry) (k : IsKnown names this ends e) → inside e.0 ≡ true → In e (map end_entry (ends name))
  end_met e k within =
      let own = owner_is names this s ends tree number number n.small n.small e k within in
      let same = pinned numbers_total numbers_same number k.number
      (low_number names this s ends tree number number n.small n.small e k within) (high_number names this s ends tree number number n.small n.small e k within) in
      let name_is = same_some k.name name (sym k.numbered.at ∙ ap (slice_get names) same ∙ n.at) in
      subst (λ x. In x (map end_entry (ends name))) ((λ i. (link_key this (sym same i) k.end, [])) ∙ entry_is names this s ends tree e k own)
      (in_map end_entry (ends name) k.end (subst (λ x. In k.end (ends x)) name_is (k.near own)))

  ends_range : IsRange (link_key this number first_id) (link_key this number last_id) tree (map end_entry (ends name))
  ends_range = record {
    rises = rises_map id_cmp (λ a b. bytes_cmp a.0 b.0) IsShort end_entry (λ x y p q less. end_order x y p q ∙ less) (ends name) (h.short name) (h.rise name);
    within = each_map (λ e. inside e.0 ≡ true) end_entry (ends name) (each_too end_inside (ends name) (h.short name));
    stand = each_map (λ e. get tree e.0 ≡ Some e.1) end_entry (ends name)
        (each_in (λ x. get tree (link_key this number x) ≡ Some []) (ends name) (λ x i. h.stand name number x n.is i));
    met = λ key value there within. end_met (key, value) (h.known key value there) within;
  }

  abbrev end_read : Entry → Option EntityId
  end_read e = option_map (λ found. found.1) (link_read e.0)

  -- the other ends by one name are read
  pub ends_found : ends_at this number tree ≡ Some (ends name)
  ends_found = ap (all_read end_read) (in_range_is (link_key this number first_id) (link_key this number last_id) tree (map end_entry (ends name)) ends_range)
      ∙ all_read_back end_read end_entry (ends name) (each_too (λ x p. ap (option_map (λ found. found.1)) (link_back this number x n.small p)) (ends name) (h.short name))

-- ---- all links
module _ (names : List (List ℕ)) (all : are_names names ≡ true) (this : EntityId) (s : IsShort this) (ends : List ℕ → List EntityId) (tree : Tree) (h : HasEnds names this ends tree) where
  abbrev inside_all : List ℕ → Bool
  inside_all = between names this s ends tree 0 LAST

  abbrev link_entry : ℕ × EntityId → Entry
  link_entry = entry_of names this s ends tree

  abbrev of_name : ℕ × List ℕ → List (ℕ × EntityId)
  of_name name = map (λ end. (name.0, end)) (ends name.1)

  abbrev pub listed_ends : List (ℕ × EntityId)
  listed_ends = flat_map of_name (numbered 0 names)

  -- by the number, and then by the other end
  abbrev end_cmp : ℕ × EntityId → ℕ × EntityId → Ordering
  end_cmp a b = ordering_then (nat_cmp a.0 b.0) (id_cmp a.1 b.1)

  record IsEnd (link : ℕ × EntityId) : Type 0 where
    name : List ℕ
    numbered : IsNumbered names link.0 name
    end_short : IsShort link.1
    there : In link.1 (ends name)

  each_end : AllByRecursion IsEnd listed_ends
  each_end = each_flat_map IsEnd of_name (numbered 0 names) (each_numbered (λ e. AllByRecursion IsEnd (of_name e)) names
      (λ j name at. each_map IsEnd (λ end. (j, end)) (ends name) (each_in (λ end. IsEnd (j, end)) (ends name) (λ end i. record {
        name = name;
        numbered = by_place names all j name at;
        end_short = in_each IsShort (ends name) end (h.short name) i;
        there = i;
      }))))

  -- the ends by one name rise
  one_rises : (a : ℕ × List ℕ) → Rises end_cmp (of_name a)
  one_rises a = rises_map id_cmp end_cmp (λ _. Unit {0}) (λ end. (a.0, end))
      (λ x y _ _ less. ap (λ r. ordering_then r (id_cmp x y)) (tied_itself numbers_total a.0) ∙ less) (ends a.1) (each (λ _. tt) (ends a.1)) (h.rise a.1)

  -- all of a name are below all of a name with a higher number
  next_rises : (a b : ℕ × List ℕ) → number_cmp a b ≡ Less → AllByRecursion (λ x. AllByRecursion (λ y. end_cmp x y ≡ Less) (of_name b)) (of_name a)
  next_rises a b less = each_map (λ x. AllByRecursion (λ y. end_cmp x y ≡ Less) (of_name b)) (λ end. (a.0, end)) (ends a.1)
      (each (λ x. each_map (λ y. end_cmp (a.0, x) y ≡ Less) (λ end. (b.0, end)) (ends b.1) (each (λ y. ap (λ r. ordering_then r (id_cmp x y)) less) (ends b.1))) (ends a.1))

  ends_rise : Rises end_cmp listed_ends
  ends_rise = rises_flat_map number_cmp end_cmp (λ _. Unit {0}) of_name (λ a b _ _ less. next_rises a b less)
      (numbered 0 names) (each (λ _. tt) (numbered 0 names)) (each one_rises (numbered 0 names)) (rises_numbered 0 names)

  own_order : (a b : ℕ × EntityId) → a.0 < 2 ^ 32 → b.0 < 2 ^ 32 → IsShort a.1 → IsShort b.1
      → bytes_cmp (link_key this a.0 a.1) (link_key this b.0 b.1) ≡ end_cmp a b
  own_order a b p q u w = link_order this this a.0 b.0 a.1 b.1 s s p q u w ∙ ap (λ r. ordering_then r (end_cmp a b)) (tied_itself id_total this)

  link_inside : (a : ℕ × EntityId) → IsEnd a → inside_all (link_key this a.0 a.1) ≡ true
  link_inside a p =
      let small = p.numbered.small in
      sides_within (link_key this 0 first_id) (link_key this LAST last_id) (link_key this a.0 a.1)
      (ap is_gt (own_order (0, first_id) a (omega arith) small first_short p.end_short)
      ∙ then_not_above (nat_cmp 0 a.0) _ (nat_not_above 0 a.0 (omega arith)) (from_first a.1))
      (ap is_gt (own_order a (LAST, last_id) small (omega arith) p.end_short last_short)
      ∙ then_not_above (nat_cmp a.0 LAST) _ (nat_not_above a.0 LAST (omega (arith, small))) (to_last a.1 p.end_short))

  link_met : (e : Entry) (k : IsKnown names this ends e) → inside_all e.0 ≡ true → In e (map link_entry listed_ends)
  link_met e k within =
      let own = owner_is names this s ends tree 0 LAST (omega arith) (omega arith) e k within in
      let there = in_map (λ end. (k.number, end)) (ends k.name) k.end (k.near own) in
      subst (λ x. In x (map link_entry listed_ends)) (entry_is names this s ends tree e k own) (in_map link_entry listed_ends (k.number, k.end)
      (in_flat_map of_name (numbered 0 names) (k.number, k.name) (k.number, k.end) (in_numbered k.number names k.name k.numbered.at) there))

  links_range : IsRange (link_key this 0 first_id) (link_key this LAST last_id) tree (map link_entry listed_ends)
  links_range = record {
    rises = rises_map end_cmp (λ a b. bytes_cmp a.0 b.0) IsEnd link_entry
        (λ a b p q less. own_order a b p.numbered.small q.numbered.small p.end_short q.end_short ∙ less) listed_ends each_end ends_rise;
    within = each_map (λ e. inside_all e.0 ≡ true) link_entry listed_ends (each_too link_inside listed_ends each_end);
    stand = each_map (λ e. get tree e.0 ≡ Some e.1) link_entry listed_ends (each_too (λ a p. h.stand p.name a.0 a.1 p.numbered.is p.there) listed_ends each_end);
    met = λ key value there within. link_met (key, value) (h.known key value there) within;
  }

  -- all links are read
  pub links_found : links_at this tree ≡ Some listed_ends
  links_found = ap (all_read (λ e. link_read e.0)) (in_range_is (link_key this 0 first_id) (link_key this LAST last_id) tree (map link_entry listed_ends) links_range)
      ∙ all_read_back (λ e. link_read e.0) link_entry listed_ends (each_too (λ a p. link_back this a.0 a.1 p.numbered.small p.end_short) listed_ends each_end)
