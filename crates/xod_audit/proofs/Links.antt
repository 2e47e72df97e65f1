-- The trees of links, by their sources and by their targets.
use Rattle.std.proofs.Common.{◌≡◌, ℕ, ◌<◌, ◌≤◌, ◌^◌, true, List, [], ◌++◌, drop, take, length, Option, Some, refl, sym, ap, subst, ◌∙◌}
use Rattle.std.specs.Prelude.{is_some, nat_lt}
use Rattle.std.specs.Cmp.Lexicographic.{bytes_decides}
use Rattle.std.specs.Option.{option_map}
use Rattle.std.specs.List.{AllByRecursion, slice_get}
use Rattle.std.specs.FinMap.{FinMap, from_entries, entries, get, len, len-entries}
use Rattle.xod_base.specs.declared.value.EntityId.{EntityId}
use Rattle.xod_base.specs.Rows.{LinkKey, id_cmp, link_cmp, are_distinct}
use Rattle.xod_base.specs.Values.{bytes_cmp, same_bytes}
use Rattle.xod_base.specs.Views.{Entry, Tree}
use Rattle.xod_carry.specs.Carry.{carried, carry}
use Rattle.xod_carry.specs.Laws.{AreApart, Returns}
use Rattle.xod_carry.proofs.CallerLemmas.{bytes_total, bytes_same, each_too, each_both, carried_apart, entries_apart, same_by_lookups}
use Rattle.xod_tables.specs.Keys.{IsShort, u32, id_bytes, entity_key, link_key, back_key, join_key, join_back_key}
use Rattle.xod_tables.specs.Reading.{of_u32, is_written, id_at, join_in}
use Rattle.xod_tables.proofs.CallerLemmas.{same_some, u32_back, id_at-bytes, join_read, written, was_written, link_total, link_same, HasLinkKey, HaveLinkKeys, back_is}
use Rattle.xod_audit.specs.Tests.{holds, link_in, is_link, is_link_entry}
use Rattle.xod_audit.proofs.General.{parts, len_apart, stand_apart, each_from, each_image, image_each, images_length, comes_back, len_read}
use Rattle.xod_audit.proofs.Entities.{held}
use Rattle.xod_audit.proofs.Properties.{AreThere, is_at, four_parts, was_read, name_by}

pub link_read : (source : EntityId) (number : ℕ) (target : EntityId) → IsShort source → number < 2 ^ 32 → IsShort target → link_in (link_key source number target) ≡ Some (source, (number, target))
unfolding link_in
link_read source number target s small t = written (λ l. Some (link_key l.0 l.1.0 l.1.1)) (link_key source number target)
    (Some (id_at (link_key source number target), (of_u32 (u32 number), id_at (id_bytes target)))) (source, (number, target))
    (λ i. Some (id_at-bytes source (u32 number ++ id_bytes target) s i, (u32_back number small i, id_at-bytes target [] t i))) refl

-- ---- the tree of links by their targets

-- a link by its key there
abbrev from_back : List (List ℕ) → List ℕ → Option LinkKey
from_back links key = option_map (λ link. (link.1.1, (link.1.0, link.0))) (join_in links key)

module _ (links : List (List ℕ)) (joined : FinMap link_cmp (Unit {0})) (keys : HaveLinkKeys links joined) where
  abbrev back_list : List Entry
  back_list = carried (join_back_key links) (λ _. []) (entries joined)

  back_apart : AreApart back_list
  back_apart = carried_apart (join_back_key links) (λ _. []) (from_back links) (entries joined) (entries_apart link_total joined)
      (each_too (λ e k l is.
      let key : back_key e.0.0 k.name.number e.0.1.1 ≡ l = same_some (back_key e.0.0 k.name.number e.0.1.1) l (sym (back_is links e.0 k) ∙ is) in
      ap (from_back links) (sym key)
      ∙ ap (option_map (λ link. (link.1.1, (link.1.0, link.0)))) (join_read links e.0.1.1 e.0.0 e.0.1.0 k.name k.target k.source)) (entries joined) keys)

  back_length : length back_list ≡ length (entries joined)
  back_length = images_length (join_back_key links) (λ _. []) (entries joined) (each_too (λ e k. ap is_some (back_is links e.0 k)) (entries joined) keys)

  -- links that stand in a tree of as many entries make it the tree of links by their targets
  pub back_are : (t : Tree) → AllByRecursion (λ e. (k : HasLinkKey links e.0) → get t (back_key e.0.0 k.name.number e.0.1.1) ≡ Some []) (entries joined) → len t ≡ length (entries joined)
      → t ≡ carry (join_back_key links) (λ _. []) bytes_cmp joined
  back_are t h long = same_by_lookups bytes_total bytes_same back_list t back_apart
      (each_image (join_back_key links) (λ _. []) (λ e. get t e.0 ≡ Some e.1) (entries joined)
      (each_both (λ e k s l is. ap (get t) (same_some l (back_key e.0.0 k.name.number e.0.1.1) (sym is ∙ back_is links e.0 k)) ∙ s k) (entries joined) keys h))
      (long ∙ sym back_length)

  pub back_len : len (from_entries {R = bytes_cmp} back_list) ≡ length (entries joined)
  back_len = len_apart bytes_total bytes_same back_list back_apart ∙ back_length

  pub back_stands : AllByRecursion (λ e. (k : HasLinkKey links e.0) → get (from_entries {R = bytes_cmp} back_list) (back_key e.0.0 k.name.number e.0.1.1) ≡ Some []) (entries joined)
  back_stands = each_too (λ e h k. h (back_key e.0.0 k.name.number e.0.1.1) (back_is links e.0 k)) (entries joined)
      (image_each (join_back_key links) (λ _. []) (λ e. get (from_entries {R = bytes_cmp} back_list) e.0 ≡ Some e.1) (entries joined)
      (stand_apart bytes_total bytes_same back_list back_apart))

-- ---- what is read of an entry

-- a link that stands in the trees
pub record LinkStands (links : List (List ℕ)) (ids : FinMap id_cmp (Unit {0})) (back : Tree) (link : LinkKey) : Type 0 where
  pub keyed : HasLinkKey links link
  pub source : is_some (get ids link.0) ≡ true
  pub target : is_some (get ids link.1.1) ≡ true
  pub turned : get back (back_key link.0 keyed.name.number link.1.1) ≡ Some []

-- an entry of such a link
pub record LinkEntry (links : List (List ℕ)) (ids : FinMap id_cmp (Unit {0})) (back : Tree) (e : Entry) : Type 0 where
  pub link : LinkKey
  pub is : join_in links e.0 ≡ Some link
  pub key : join_key links link ≡ Some e.0
  pub nothing : e.1 ≡ []
  pub stands : LinkStands links ids back link

module _ (links : List (List ℕ)) (apart : are_distinct links ≡ true) (few : length links ≤ 4096) (entities back : Tree) (ids : FinMap id_cmp (Unit {0})) (there : AreThere ids entities) where
  link_entry : (e : Entry) → is_link_entry (length links) entities back e ≡ true → LinkEntry links ids back e
  unfolding link_in
  link_entry e h =
      let both = parts (holds (is_link (length links) entities back) (link_in e.0)) (same_bytes e.1 []) h in
      let read = held (is_link (length links) entities back) (link_in e.0) both.0 in
      let source = read.0.0 in
      let number = read.0.1.0 in
      let target = read.0.1.1 in
      let raw : EntityId × (ℕ × EntityId) = (id_at e.0, (of_u32 (take 4 (drop 8 e.0)), id_at (drop 12 e.0))) in
      let tests = four_parts (nat_lt number (length links)) (is_some (get entities (entity_key source))) (is_some (get entities (entity_key target))) (is_written (get back (back_key source number target)) []) read.2 in
      let name = name_by links apart few number tests.0 in
      let key : link_key source number target ≡ e.0 = same_some (link_key source number target) e.0 (was_written (λ l. Some (link_key l.0 l.1.0 l.1.1)) e.0 (Some raw) (source, (number, target)) read.1) in
      let own = was_read (λ l. Some (link_key l.0 l.1.0 l.1.1)) e.0 raw (source, (number, target)) read.1 in
      let is_source : id_at e.0 ≡ source = ap (λ l. l.0) own in
      let is_number : of_u32 (take 4 (drop 8 e.0)) ≡ number = ap (λ l. l.1.0) own in
      let is_target : id_at (drop 12 e.0) ≡ target = ap (λ l. l.1.1) own in
      let from = there source (ap id_at key ∙ is_source) tests.1 in
      let to = there target (ap (λ k. id_at (drop 12 k)) key ∙ is_target) tests.2 in
      let key_is : join_key links (source, (name.0, target)) ≡ Some e.0 = ap (option_map (λ n. link_key source n target)) name.1.is ∙ ap (λ n. Some (link_key source n target)) name.2 ∙ ap Some key in
      record {
        link = (source, (name.0, target));
        is = written (join_key links) e.0 (option_map (λ n. (id_at e.0, (n, id_at (drop 12 e.0)))) (slice_get links (of_u32 (take 4 (drop 8 e.0))))) (source, (name.0, target))
            ((λ i. option_map (λ n. (is_source i, (n, is_target i))) (slice_get links (is_number i))) ∙ ap (λ k. option_map (λ n. (source, (n, target))) (slice_get links k)) (sym name.2) ∙ ap (option_map (λ n. (source, (n, target)))) name.1.at) key_is;
        key = key_is;
        nothing = (bytes_decides e.1 []).0 both.1;
        stands = record {
          keyed = record { source = from.0; name = name.1; target = to.0 };
          source = from.1;
          target = to.1;
          turned = ap (λ n. get back (back_key source n target)) name.2 ∙ is_at (get back (back_key source number target)) [] tests.3;
        };
      }

  module _ (t : Tree) (all : AllByRecursion (λ e. is_link_entry (length links) entities back e ≡ true) (entries t)) where
    abbrev pub joins : FinMap link_cmp (Unit {0})
    joins = carry (join_in links) (λ _. tt) link_cmp t

    each_entry : AllByRecursion (LinkEntry links ids back) (entries t)
    each_entry = each_too link_entry (entries t) all

    joins_return : AllByRecursion (Returns {Y = Unit {0}} (join_in links) (λ _. tt) (join_key links) (λ _. [])) (entries t)
    joins_return = each_too (λ e r. (r.link, r.is, r.key, sym r.nothing)) (entries t) each_entry

    -- the tree is that of the links that are read from it
    pub links_are : t ≡ carry (join_key links) (λ _. []) bytes_cmp joins
    links_are = sym (comes_back link_total link_same bytes_total bytes_same (join_in links) (λ _. tt) (join_key links) (λ _. []) t joins_return)

    pub joins_stand : AllByRecursion (λ e. LinkStands links ids back e.0) (entries joins)
    joins_stand = each_from link_total link_same (λ e. LinkStands links ids back e.0) (carried (join_in links) (λ _. tt) (entries t))
        (each_image (join_in links) (λ _. tt) (λ e. LinkStands links ids back e.0) (entries t)
        (each_too (λ e r l is. subst (LinkStands links ids back) (same_some r.link l (sym r.is ∙ is)) r.stands) (entries t) each_entry))

    -- and the other tree is that of the same links, where it has as many entries
    pub back_is_theirs : len back ≡ len t → back ≡ carry (join_back_key links) (λ _. []) bytes_cmp joins
    back_is_theirs long =
        back_are links joins (each_too (λ e s. s.keyed) (entries joins) joins_stand) back
        (each_too (λ e s k. ap (λ n. get back (back_key e.0.0 n e.0.1.1)) (same_some k.name.number s.keyed.name.number (sym k.name.is ∙ s.keyed.name.is)) ∙ s.turned) (entries joins) joins_stand)
        (long ∙ sym (len_read link_total link_same bytes_total bytes_same (join_in links) (λ _. tt) (join_key links) (λ _. []) t joins_return) ∙ len-entries joins)
