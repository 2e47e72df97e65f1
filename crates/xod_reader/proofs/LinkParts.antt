-- The links of an entity by their numbers, once they have names and are sorted.
use Rattle.std.proofs.Common.{◌≡◌, ℕ, ◌<◌, Bool, true, IsTrue, List, map, length, Option, Some, None, refl, sym, ap, subst, ◌∙◌, true≢false}
use Rattle.std.specs.Prelude.{◌&&◌, not, is_some}
use Rattle.std.specs.List.{AllByRecursion, filter, flat_map}
use Rattle.std.specs.List.Sorted.{IsPermutation, IsSorted, IsSortedBy}
use Rattle.std.specs.declared.cmp.Ordering.{Ordering}
use Rattle.std.specs.declared.cmp.Ordering.TheVariants.{Less, Equal}
use Rattle.std.specs.Ordering.{is_eq, is_lt, nat_cmp, ordering_then}
use Rattle.std.specs.Cmp.{first_so, second_so, tied_itself}
use Rattle.std.specs.Cmp.Lexicographic.{bytes_decides}
use Rattle.std.specs.FinMap.{entries, get, keys}
use Rattle.xod_base.specs.declared.value.EntityId.{EntityId}
use Rattle.xod_base.specs.Evaluation.{is_link_of, is_linked, targets_of}
use Rattle.xod_base.specs.Rows.{RowsValue, LinkKey, are_names, id_cmp, is_join, is_listed, is_sound, same_id}
use Rattle.xod_base.specs.Values.{same_bytes}
use Rattle.xod_carry.specs.Carry.{numbered}
use Rattle.xod_carry.proofs.CallerLemmas.{each, each_get, each_too, numbers_total}
use Rattle.xod_journal.specs.Changes.{kind_number}
use Rattle.xod_journal.specs.Shows.{name_at}
use Rattle.xod_tables.specs.Keys.{IsShort}
use Rattle.xod_tables.proofs.CallerLemmas.{Facts, LinkFits, links_fit, id_total, id_same, link_total, link_same, is_some_at, sound_answer}
use Rattle.xod_readings.specs.Lists.{numbered_sources, numbered_targets, sources_of}
use Rattle.xod_readings.proofs.Links.{out_ends, back_ends}
use Rattle.xod_readings.proofs.LinksListed.{IsNumbered, by_place}
use Rattle.xod_readings.proofs.Ranging.{In, Rises, each_filter, each_flat_map, each_in, each_map, each_numbered, each_stands, in_each, in_entries, in_filter, in_flat_map, in_map, in_numbered, number_cmp, rises_filter, rises_flat_map, rises_map, rises_numbered}
use Rattle.xod_reader.specs.declared.parts.NamedLink.{NamedLink}
use Rattle.xod_reader.specs.Named.{named_sources, named_targets}
use Rattle.xod_reader.specs.Naming.{named_link}
use Rattle.xod_reader.specs.Orders.{by_end_and_name, by_name_and_end}
use Rattle.xod_reader.proofs.NameLemmas.{filter_map, id_is, is_id, map_map, name_there, number_back, number_within, same_number}
use Rattle.xod_reader.proofs.Orders.{links_by_name, links_by_source}
use Rattle.xod_reader.proofs.SortedParts.{HasParts, entry_of, once, sorted_parts}

-- ---- links by their numbers, where each name has its ends

-- by the number, and then by the other end
abbrev end_cmp : ℕ × EntityId → ℕ × EntityId → Ordering
end_cmp a b = ordering_then (nat_cmp a.0 b.0) (id_cmp a.1 b.1)

module _ (names : List (List ℕ)) (all : are_names names ≡ true) (ends : List ℕ → List EntityId) (rise : (name : List ℕ) → Rises id_cmp (ends name)) where
  abbrev of_name : ℕ × List ℕ → List (ℕ × EntityId)
  of_name name = map (λ end. (name.0, end)) (ends name.1)

  abbrev listed : List (ℕ × EntityId)
  listed = flat_map of_name (numbered 0 names)

  -- a link with its number: the name of the number is listed, and has the other end
  record IsEnd (link : ℕ × EntityId) : Type 0 where
    name : List ℕ
    numbered : IsNumbered names link.0 name
    there : In link.1 (ends name)

  each_end : AllByRecursion IsEnd listed
  each_end = each_flat_map IsEnd of_name (numbered 0 names) (each_numbered (λ e. AllByRecursion IsEnd (of_name e)) names
      (λ j name at. each_map IsEnd (λ end. (j, end)) (ends name)
      (each_in (λ end. IsEnd (j, end)) (ends name) (λ end i. record { name = name; numbered = by_place names all j name at; there = i }))))

  one_rises : (a : ℕ × List ℕ) → Rises end_cmp (of_name a)
  one_rises a = rises_map id_cmp end_cmp (λ _. Unit {0}) (λ end. (a.0, end))
      (λ x y _ _ less. ap (λ r. ordering_then r (id_cmp x y)) (tied_itself numbers_total a.0) ∙ less) (ends a.1) (each (λ _. tt) (ends a.1)) (rise a.1)

  next_rises : (a b : ℕ × List ℕ) → number_cmp a b ≡ Less → AllByRecursion (λ x. AllByRecursion (λ y. end_cmp x y ≡ Less) (of_name b)) (of_name a)
  next_rises a b less = each_map (λ x. AllByRecursion (λ y. end_cmp x y ≡ Less) (of_name b)) (λ end. (a.0, end)) (ends a.1)
      (each (λ x. each_map (λ y. end_cmp (a.0, x) y ≡ Less) (λ end. (b.0, end)) (ends b.1) (each (λ y. ap (λ r. ordering_then r (id_cmp x y)) less) (ends b.1))) (ends a.1))

  ends_rise : Rises end_cmp listed
  ends_rise = rises_flat_map number_cmp end_cmp (λ _. Unit {0}) of_name (λ a b _ _ less. next_rises a b less)
      (numbered 0 names) (each (λ _. tt) (numbered 0 names)) (each one_rises (numbered 0 names)) (rises_numbered 0 names)

  in_listed : (number : ℕ) (name : List ℕ) (end : EntityId) → IsNumbered names number name → In end (ends name) → In (number, end) listed
  in_listed number name end h i = in_flat_map of_name (numbered 0 names) (number, name) (number, end) (in_numbered number names name h.at) (in_map (λ x. (number, x)) (ends name) end i)

  within : (link : ℕ × EntityId) → IsEnd link → link.0 < length names
  within link p = number_within names link.0 p.name p.numbered

  -- two of them differ in their names or in their other ends
  ends_apart : (x y : ℕ × EntityId) → IsEnd x → IsEnd y → end_cmp x y ≡ Less → name_at names x.0 ≡ name_at names y.0 → x.1 ≡ y.1 → ⊥
  ends_apart x y p q less named ended =
      let number = same_number names x.0 y.0 p.name q.name p.numbered q.numbered named in
      let tied : end_cmp x x ≡ Equal = (λ i. ordering_then (tied_itself numbers_total x.0 i) (tied_itself id_total x.1 i)) in
      true≢false (ap is_eq (sym tied ∙ (λ i. ordering_then (nat_cmp x.0 (number i)) (id_cmp x.1 (ended i))) ∙ less))

-- ---- the keys of joined entities, with nothing at each
abbrev nothing : NamedLink → Unit {0}
nothing link = tt

there : (joined : Option (Unit {0})) → is_some joined ≡ true → joined ≡ Some tt
there None h = absurd (true≢false (sym h))
there (Some x) h = refl

module _ (rows : RowsValue) (f : Facts rows) where
  fits_there : (link : LinkKey) (v : Unit {0}) → get rows.joined link ≡ Some v → LinkFits rows link
  fits_there link v is = each_get link_total link_same (λ e. LinkFits rows e.0) rows.joined link v (links_fit rows f) is

  numbered_there : (link : LinkKey) (h : LinkFits rows link) → IsNumbered rows.links h.name.number link.1.0
  numbered_there link h = record { is = h.name.is; at = h.name.at; small = h.name.small }

  abbrev Stands : LinkKey → Type 0
  Stands link = get rows.joined link ≡ Some tt

  each_link : AllByRecursion Stands (keys rows.joined)
  each_link = each_map Stands (λ e. e.0) (entries rows.joined) (each_stands link_total link_same rows.joined)

  -- ---- the links out of an entity
  module _ (sound : IsTrue (is_sound rows)) (source : EntityId) (short : IsShort source) where
    abbrev targets : List ℕ → List EntityId
    targets name = targets_of rows name source

    targets_rise : (name : List ℕ) → Rises id_cmp (targets name)
    targets_rise = (out_ends rows f (sound_answer rows sound) source short).rise

    link_is : (name : List ℕ) (link : LinkKey) → is_link_of source name link ≡ true → link ≡ (source, (name, link.1.1))
    link_is name link h =
        let own = id_is link.0 source (first_so (same_id link.0 source) (same_bytes link.1.0 name) h) in
        let named = (bytes_decides link.1.0 name).0 (second_so (same_id link.0 source) (same_bytes link.1.0 name) h) in
        λ i. (own i, (named i, link.1.1))

    is_link : (link : LinkKey) → same_id link.0 source ≡ true → is_link_of source link.1.0 link ≡ true
    is_link link own = λ i. own i && (bytes_decides link.1.0 link.1.0).1 refl i

    target_stands : (name : List ℕ) → AllByRecursion (λ target. Stands (source, (name, target))) (targets name)
    target_stands name = each_map (λ target. Stands (source, (name, target))) (λ link. link.1.1) (filter (is_link_of source name) (keys rows.joined))
        (each_too (λ link h. ap (get rows.joined) (sym (link_is name link h.1)) ∙ h.0) (filter (is_link_of source name) (keys rows.joined))
        (each_filter Stands (is_link_of source name) (keys rows.joined) each_link))

    abbrev TargetEnd : ℕ × EntityId → Type 0
    TargetEnd = IsEnd rows.links f.links targets targets_rise

    each_target : AllByRecursion TargetEnd (numbered_targets rows source)
    each_target = each_end rows.links f.links targets targets_rise

    -- the numbers of an entity's links have names
    pub target_numbers : AllByRecursion (λ link. link.0 < length rows.links) (numbered_targets rows source)
    target_numbers = each_too (within rows.links f.links targets targets_rise) (numbered_targets rows source) each_target

    abbrev target_key : NamedLink → LinkKey
    target_key link = (source, (link.name, link.end))

    abbrev target_kept : LinkKey → Bool
    target_kept link = same_id link.0 source

    abbrev target_back : LinkKey × Unit {0} → NamedLink
    target_back e = record { number = kind_number rows.links e.0.1.0; name = e.0.1.0; end = e.0.1.1 }

    abbrev target_entry : NamedLink → LinkKey × Unit {0}
    target_entry = entry_of link_total link_same target_key nothing

    abbrev targets_named : List NamedLink
    targets_named = map (named_link rows.links) (numbered_targets rows source)

    target_met : (link : LinkKey) (v : Unit {0}) → get rows.joined link ≡ Some v → target_kept link ≡ true → In (link, v) (map target_entry targets_named)
    target_met link v is own =
        let fits = fits_there link v is in
        let mine : link.0 ≡ source = id_is link.0 source own in
        let number = fits.name.number in
        let has_name = numbered_there link fits in
        let end : In link.1.1 (targets link.1.0) = in_map (λ (l : LinkKey). l.1.1) (filter (is_link_of source link.1.0) (keys rows.joined)) link
        (in_filter (is_link_of source link.1.0) (keys rows.joined) link (in_map (λ (e : LinkKey × Unit {0}). e.0) (entries rows.joined) (link, v) (in_entries link_total link_same rows.joined link v is)) (is_link link own)) in
        let there : In (number, link.1.1) (numbered_targets rows source) = in_listed rows.links f.links targets targets_rise number link.1.0 link.1.1 has_name end in
        let name = name_there rows.links number link.1.0 has_name in
        subst (λ (l : LinkKey). In (l, v) (map target_entry targets_named)) (λ i. (sym mine i, (name i, link.1.1)))
        (in_map target_entry targets_named (named_link rows.links (number, link.1.1)) (in_map (named_link rows.links) (numbered_targets rows source) (number, link.1.1) there))

    target_parts : HasParts link_total link_same target_key nothing rows.joined target_kept targets_named
    target_parts = record {
      stand = each_map (λ a. (get rows.joined (target_key a) ≡ Some tt) × (target_kept (target_key a) ≡ true)) (named_link rows.links) (numbered_targets rows source)
          (each_too (λ link p. (
            ap (λ n. get rows.joined (source, (n, link.1))) (name_there rows.links link.0 p.name p.numbered)
                ∙ in_each (λ t. Stands (source, (p.name, t))) (targets p.name) link.1 (target_stands p.name) p.there,
            is_id source,
          )) (numbered_targets rows source) each_target);
      met = target_met;
      few = once link_total link_same target_key nothing (named_link rows.links) end_cmp TargetEnd
          (λ x y p q less e. ends_apart rows.links f.links targets targets_rise x y p q less (ap (λ (l : LinkKey). l.1.0) e) (ap (λ (l : LinkKey). l.1.1) e))
          (numbered_targets rows source) each_target (ends_rise rows.links f.links targets targets_rise);
    }

    -- sorted by name and target they are what the rows have
    pub sorted_targets : (list : List NamedLink) → IsPermutation targets_named list → IsSorted by_name_and_end list → list ≡ named_targets rows source
    sorted_targets list moved sorted =
        sorted_parts link_total link_same target_key nothing rows.joined target_kept targets_named list target_parts moved
        (subst (λ (c : NamedLink → NamedLink → Ordering). IsSortedBy (λ a b. is_lt (c a b)) list) (λ i a b. sym (links_by_name source a.name b.name a.end b.end) i) sorted)
        target_back
        (each_map (λ a. target_back (target_entry a) ≡ a) (named_link rows.links) (numbered_targets rows source)
        (each_too (λ link p. λ i. record { number = number_back rows.links link.0 p.name p.numbered i; name = name_at rows.links link.0; end = link.1 }) (numbered_targets rows source) each_target))
        ∙ sym (ap (λ l. map with_number (map (λ (l : LinkKey). (l.1.0, l.1.1)) l)) (filter_map target_kept (λ (e : LinkKey × Unit {0}). e.0) (entries rows.joined))
        ∙ ap (map with_number) (map_map (λ (l : LinkKey). (l.1.0, l.1.1)) (λ (e : LinkKey × Unit {0}). e.0) kept_entries)
        ∙ map_map with_number (λ (e : LinkKey × Unit {0}). (e.0.1.0, e.0.1.1)) kept_entries)
      where
        kept_entries : List (LinkKey × Unit {0})
        kept_entries = filter (λ e. target_kept e.0) (entries rows.joined)

        with_number : List ℕ × EntityId → NamedLink
        with_number link = record { number = kind_number rows.links link.0; name = link.0; end = link.1 }

  -- ---- the links to an entity from others
  module _ (sound : IsTrue (is_sound rows)) (target : EntityId) (short : IsShort target) where
    abbrev sources : List ℕ → List EntityId
    sources name = sources_of rows name target

    sources_rise : (name : List ℕ) → Rises id_cmp (sources name)
    sources_rise = (back_ends rows f (sound_answer rows sound) target short).rise

    source_stands : (name : List ℕ) → AllByRecursion (λ source. Stands (source, (name, target))) (sources name)
    source_stands name = each_too (λ source h. there (get rows.joined (source, (name, target))) h.1) (sources name)
        (each_filter (λ _. Unit {0}) (is_linked rows name target) (keys rows.ids) (each (λ _. tt) (keys rows.ids)))

    abbrev is_other : ℕ × EntityId → Bool
    is_other link = not (same_id link.1 target)

    abbrev others : List (ℕ × EntityId)
    others = filter is_other (numbered_sources rows target)

    abbrev SourceEnd : ℕ × EntityId → Type 0
    SourceEnd link = IsEnd rows.links f.links sources sources_rise link × (is_other link ≡ true)

    each_source : AllByRecursion SourceEnd others
    each_source = each_filter (IsEnd rows.links f.links sources sources_rise) is_other (numbered_sources rows target) (each_end rows.links f.links sources sources_rise)

    pub source_numbers : AllByRecursion (λ link. link.0 < length rows.links) others
    source_numbers = each_too (λ link p. within rows.links f.links sources sources_rise link p.0) others each_source

    abbrev source_key : NamedLink → LinkKey
    source_key link = (link.end, (link.name, target))

    abbrev source_kept : LinkKey → Bool
    source_kept link = same_id link.1.1 target && not (same_id link.0 target)

    abbrev source_back : LinkKey × Unit {0} → NamedLink
    source_back e = record { number = kind_number rows.links e.0.1.0; name = e.0.1.0; end = e.0.0 }

    abbrev source_entry : NamedLink → LinkKey × Unit {0}
    source_entry = entry_of link_total link_same source_key nothing

    abbrev sources_named : List NamedLink
    sources_named = map (named_link rows.links) others

    source_there : (link : LinkKey) (v : Unit {0}) → get rows.joined link ≡ Some v → is_some (get rows.ids link.0) ≡ true
    source_there link v is =
        let sound = each_get link_total link_same (λ e. is_join rows e.0 ≡ true) rows.joined link v f.joins is in
        let from = is_some (get rows.ids link.0) in
        let to = is_some (get rows.ids link.1.1) in
        first_so from to (first_so (from && to) (is_listed rows.links link.1.0) sound)

    source_met : (link : LinkKey) (v : Unit {0}) → get rows.joined link ≡ Some v → source_kept link ≡ true → In (link, v) (map source_entry sources_named)
    source_met link v is kept =
        let fits = fits_there link v is in
        let mine : link.1.1 ≡ target = id_is link.1.1 target (first_so (same_id link.1.1 target) (not (same_id link.0 target)) kept) in
        let other : not (same_id link.0 target) ≡ true = second_so (same_id link.1.1 target) (not (same_id link.0 target)) kept in
        let number = fits.name.number in
        let has_name = numbered_there link fits in
        let there = is_some_at (get rows.ids link.0) (source_there link v is) in
        let end : In link.0 (sources link.1.0) = in_filter (is_linked rows link.1.0 target) (keys rows.ids) link.0
        (in_map (λ (e : EntityId × Unit {0}). e.0) (entries rows.ids) (link.0, there.0) (in_entries id_total id_same rows.ids link.0 there.0 there.1))
        (ap is_some (ap (λ t. get rows.joined (link.0, (link.1.0, t))) (sym mine) ∙ is)) in
        let listed_there : In (number, link.0) others = in_filter is_other (numbered_sources rows target) (number, link.0)
        (in_listed rows.links f.links sources sources_rise number link.1.0 link.0 has_name end) other in
        let name = name_there rows.links number link.1.0 has_name in
        subst (λ (l : LinkKey). In (l, v) (map source_entry sources_named)) (λ i. (link.0, (name i, sym mine i)))
        (in_map source_entry sources_named (named_link rows.links (number, link.0)) (in_map (named_link rows.links) others (number, link.0) listed_there))

    source_parts : HasParts link_total link_same source_key nothing rows.joined source_kept sources_named
    source_parts = record {
      stand = each_map (λ a. (get rows.joined (source_key a) ≡ Some tt) × (source_kept (source_key a) ≡ true)) (named_link rows.links) others
          (each_too (λ link p. (
            ap (λ n. get rows.joined (link.1, (n, target))) (name_there rows.links link.0 p.0.name p.0.numbered)
                ∙ in_each (λ s. Stands (s, (p.0.name, target))) (sources p.0.name) link.1 (source_stands p.0.name) p.0.there,
            λ i. is_id target i && p.1 i,
          )) others each_source);
      met = source_met;
      few = once link_total link_same source_key nothing (named_link rows.links) end_cmp SourceEnd
          (λ x y p q less e. ends_apart rows.links f.links sources sources_rise x y p.0 q.0 less (ap (λ (l : LinkKey). l.1.0) e) (ap (λ (l : LinkKey). l.0) e))
          others each_source (rises_filter end_cmp is_other (numbered_sources rows target) (ends_rise rows.links f.links sources sources_rise));
    }

    -- sorted by source and name they are what the rows have
    pub sorted_sources : (list : List NamedLink) → IsPermutation sources_named list → IsSorted by_end_and_name list → list ≡ named_sources rows target
    sorted_sources list moved sorted =
        sorted_parts link_total link_same source_key nothing rows.joined source_kept sources_named list source_parts moved
        (subst (λ (c : NamedLink → NamedLink → Ordering). IsSortedBy (λ a b. is_lt (c a b)) list) (λ i a b. sym (links_by_source target a.name b.name a.end b.end) i) sorted)
        source_back
        (each_map (λ a. source_back (source_entry a) ≡ a) (named_link rows.links) others
        (each_too (λ link p. λ i. record { number = number_back rows.links link.0 p.0.name p.0.numbered i; name = name_at rows.links link.0; end = link.1 }) others each_source))
        ∙ sym (ap (map of_link) (filter_map source_kept (λ (e : LinkKey × Unit {0}). e.0) (entries rows.joined))
        ∙ map_map of_link (λ (e : LinkKey × Unit {0}). e.0) (filter (λ e. source_kept e.0) (entries rows.joined)))
      where
        of_link : LinkKey → NamedLink
        of_link link = record { number = kind_number rows.links link.1.0; name = link.1.0; end = link.0 }
