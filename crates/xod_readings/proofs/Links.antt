-- Links are read as the rows have them, from both ends.
use Rattle.std.proofs.Common.{◌≡◌, ℕ, suc, true, List, [], ◌∷◌, map, Some, refl, sym, ap, ◌∙◌, eqb-true, eq-eqb}
use Rattle.std.specs.Prelude.{◌&&◌, ◌==◌, is_some}
use Rattle.std.specs.Option.{option_map}
use Rattle.std.specs.List.{AllByRecursion, filter}
use Rattle.std.specs.Cmp.{first_so, second_so}
use Rattle.std.specs.Cmp.Lexicographic.{bytes_decides}
use Rattle.std.specs.FinMap.{entries, get, keys}
use Rattle.xod_base.specs.declared.value.EntityId.{EntityId}
use Rattle.xod_base.specs.Evaluation.{is_link_of, is_linked, targets_of}
use Rattle.xod_base.specs.Rows.{RowsValue, LinkKey, id_cmp, link_cmp, numbers_of_id, is_listed, number_of, same_id}
use Rattle.xod_base.specs.Values.{same_bytes}
use Rattle.xod_base.proofs.CallerLemmas.{bytes_cmp-front}
use Rattle.xod_carry.specs.Carry.{carried}
use Rattle.xod_carry.proofs.CallerLemmas.{bytes_total, bytes_same, each_too}
use Rattle.xod_tables.specs.Keys.{IsShort, link_key, back_key, join_key, join_back_key}
use Rattle.xod_tables.specs.LookUps.{TreesAnswer}
use Rattle.xod_tables.specs.Tables.{links_tree, back_tree}
use Rattle.xod_tables.proofs.CallerLemmas.{Facts, facts, LinkFits, link_fits, ids_short, is_some_at, HasLinkKey, out_is, back_is, id_total, id_same, link_total, link_same, sound_answer}
use Rattle.xod_readings.specs.Laws.{LinksAreRead, LinksOfRowsAreRead}
use Rattle.xod_readings.specs.Lists.{sources_of}
use Rattle.xod_readings.proofs.Entities.{some_map}
use Rattle.xod_readings.proofs.LinksListed.{IsKnown, HasEnds, by_number_of, ends_found, links_found}
use Rattle.xod_readings.proofs.Ranging.{same_some, In, in_each, each_in, in_filter, each_filter, in_map, each_map, each_carried, in_entries, each_stands, known_each, rises_filter, rises_map, rises_keys}

-- ---- the test for a link of an entity
pub id_is : (a b : EntityId) → same_id a b ≡ true → a ≡ b
id_is a b h =
    let kind = eqb-true a.kind b.kind (first_so (a.kind == b.kind) (a.local == b.local) h) in
    let local = eqb-true a.local b.local (second_so (a.kind == b.kind) (a.local == b.local) h) in
    λ i. record { kind = kind i; local = local i }

pub is_id : (a : EntityId) → same_id a a ≡ true
is_id a = λ i. eq-eqb a.kind a.kind refl i && eq-eqb a.local a.local refl i

link_is : (source : EntityId) (name : List ℕ) (link : LinkKey) → is_link_of source name link ≡ true → link ≡ (source, (name, link.1.1))
link_is source name link h =
    let own = id_is link.0 source (first_so (same_id link.0 source) (same_bytes link.1.0 name) h) in
    let named = (bytes_decides link.1.0 name).0 (second_so (same_id link.0 source) (same_bytes link.1.0 name) h) in
    λ i. (own i, (named i, link.1.1))

is_link : (source : EntityId) (link : LinkKey) → link.0 ≡ source → is_link_of source link.1.0 link ≡ true
is_link source link own = ap (λ s. is_link_of s link.1.0 link) (sym own) ∙ (λ i. is_id link.0 i && (bytes_decides link.1.0 link.1.0).1 refl i)

-- links of one entity by one name are in the order of their targets
target_order : (source : EntityId) (name : List ℕ) (a b : EntityId) → link_cmp (source, (name, a)) (source, (name, b)) ≡ id_cmp a b
target_order source name a b = bytes_cmp-front (source.kind ∷ source.local ∷ map (λ byte. suc byte) name) (0 ∷ numbers_of_id a) (0 ∷ numbers_of_id b)
    ∙ bytes_cmp-front (0 ∷ []) (numbers_of_id a) (numbers_of_id b)

module _ (rows : RowsValue) (f : Facts rows) (answers : TreesAnswer rows) where
  -- a link of the rows
  record IsLink (link : LinkKey) : Type 0 where
    fits : LinkFits rows link
    stands : get rows.joined link ≡ Some tt
    source_there : is_some (get rows.ids link.0) ≡ true

  -- ---- each link of the rows
  link_there : (e : LinkKey × Unit {0}) → In e (entries rows.joined) → IsLink e.0
  link_there e i =
      let sound = in_each _ (entries rows.joined) e f.joins i in
      let source = is_some (get rows.ids e.0.0) in
      let target = is_some (get rows.ids e.0.1.1) in
      record {
        fits = link_fits rows f e.0 sound;
        stands = in_each (λ x. get rows.joined x.0 ≡ Some x.1) (entries rows.joined) e (each_stands link_total link_same rows.joined) i;
        source_there = first_so source target (first_so (source && target) (is_listed rows.links e.0.1.0) sound);
      }

  each_link : AllByRecursion IsLink (keys rows.joined)
  each_link = each_map IsLink (λ e. e.0) (entries rows.joined) (each_in (λ e. IsLink e.0) (entries rows.joined) link_there)

  has_key : (link : LinkKey) → IsLink link → HasLinkKey rows.links link
  has_key link l = record { source = l.fits.source; name = l.fits.name; target = l.fits.target }

  module _ (this : EntityId) (s : IsShort this) where
    -- ---- by the source
    abbrev targets : List ℕ → List EntityId
    targets name = targets_of rows name this

    -- the links of an entity by a name
    abbrev own : List ℕ → List LinkKey
    own name = filter (is_link_of this name) (keys rows.joined)

    each_own : (name : List ℕ) → AllByRecursion (λ link. IsLink link × (is_link_of this name link ≡ true)) (own name)
    each_own name = each_filter IsLink (is_link_of this name) (keys rows.joined) each_link

    -- the tree has a link of the entity with a number
    abbrev OutStands : ℕ → EntityId → Type 0
    OutStands number end = get (links_tree rows) (link_key this number end) ≡ Some []

    own_stands : (name : List ℕ) (number : ℕ) → number_of rows.links name ≡ Some number
        → (link : LinkKey) → IsLink link × (is_link_of this name link ≡ true) → OutStands number link.1.1
    own_stands name number is link h = answers.linked this name number link.1.1 s h.0.fits.target is
        ∙ ap (option_map (λ _. [])) (ap (get rows.joined) (sym (link_is this name link h.1)) ∙ h.0.stands)

    out_stand : (name : List ℕ) (number : ℕ) (end : EntityId) → number_of rows.links name ≡ Some number → In end (targets name) → OutStands number end
    out_stand name number end is i = in_each (OutStands number) (targets name) end
        (each_map (OutStands number) (λ link. link.1.1) (own name) (each_too (own_stands name number is) (own name) (each_own name))) i

    out_known : (e : LinkKey × Unit {0}) → In e (entries rows.joined) → (key : List ℕ) → join_key rows.links e.0 ≡ Some key
        → IsKnown rows.links this targets (key, [])
    out_known e i key is =
        let l = link_there e i in
        let k = has_key e.0 l in
        record {
          owner = e.0.0;
          number = k.name.number;
          end = e.0.1.1;
          name = e.0.1.0;
          key_is = same_some key (link_key e.0.0 k.name.number e.0.1.1) (sym is ∙ out_is rows.links e.0 k);
          value_is = refl;
          owner_short = k.source;
          end_short = k.target;
          numbered = record { is = k.name.is; at = k.name.at; small = k.name.small };
          near = λ mine. in_map (λ link. link.1.1) (own e.0.1.0) e.0
              (in_filter (is_link_of this e.0.1.0) (keys rows.joined) e.0 (in_map (λ x. x.0) (entries rows.joined) e i) (is_link this e.0 mine));
        }

    out_order : (name : List ℕ) (a b : LinkKey) → is_link_of this name a ≡ true → is_link_of this name b ≡ true → link_cmp a b ≡ id_cmp a.1.1 b.1.1
    out_order name a b p q = (λ i. link_cmp (link_is this name a p i) (link_is this name b q i)) ∙ target_order this name a.1.1 b.1.1

    pub out_ends : HasEnds rows.links this targets (links_tree rows)
    out_ends = record {
      short = λ name. each_map IsShort (λ link. link.1.1) (own name) (each_too (λ link h. h.0.fits.target) (own name) (each_own name));
      rise = λ name. rises_map link_cmp id_cmp (λ link. IsLink link × (is_link_of this name link ≡ true)) (λ link. link.1.1)
          (λ a b p q less. sym (out_order name a b p.1 q.1) ∙ less) (own name) (each_own name)
          (rises_filter link_cmp (is_link_of this name) (keys rows.joined) (rises_keys link_cmp rows.joined));
      stand = out_stand;
      known = λ key value. known_each bytes_total bytes_same (IsKnown rows.links this targets) (carried (join_key rows.links) (λ _. []) (entries rows.joined)) key value
          (each_carried (join_key rows.links) (λ _. []) (IsKnown rows.links this targets) (entries rows.joined) (each_in _ (entries rows.joined) out_known));
    }

    -- ---- by the target
    abbrev sources : List ℕ → List EntityId
    sources name = sources_of rows name this

    each_source : (name : List ℕ) → AllByRecursion (λ id. IsShort id × (is_linked rows name this id ≡ true)) (sources name)
    each_source name = each_filter IsShort (is_linked rows name this) (keys rows.ids) (each_map IsShort (λ e. e.0) (entries rows.ids) (ids_short rows f))

    back_stand : (name : List ℕ) (number : ℕ) (end : EntityId) → number_of rows.links name ≡ Some number → In end (sources name)
        → get (back_tree rows) (link_key this number end) ≡ Some []
    back_stand name number end is i =
        let h = in_each (λ id. IsShort id × (is_linked rows name this id ≡ true)) (sources name) end (each_source name) i in
        answers.linked_back end name number this h.0 s is ∙ ap (option_map (λ _. [])) ((is_some_at (get rows.joined (end, (name, this))) h.1).1)

    back_known : (e : LinkKey × Unit {0}) → In e (entries rows.joined) → (key : List ℕ) → join_back_key rows.links e.0 ≡ Some key
        → IsKnown rows.links this sources (key, [])
    back_known e i key is =
        let l = link_there e i in
        let k = has_key e.0 l in
        let there = is_some_at (get rows.ids e.0.0) l.source_there in
        record {
          owner = e.0.1.1;
          number = k.name.number;
          end = e.0.0;
          name = e.0.1.0;
          key_is = same_some key (back_key e.0.0 k.name.number e.0.1.1) (sym is ∙ back_is rows.links e.0 k);
          value_is = refl;
          owner_short = k.target;
          end_short = k.source;
          numbered = record { is = k.name.is; at = k.name.at; small = k.name.small };
          near = λ mine. in_filter (is_linked rows e.0.1.0 this) (keys rows.ids) e.0.0
              (in_map (λ x. x.0) (entries rows.ids) (e.0.0, there.0) (in_entries id_total id_same rows.ids e.0.0 there.0 there.1))
              (ap is_some (ap (λ t. get rows.joined (e.0.0, (e.0.1.0, t))) (sym mine) ∙ l.stands));
        }

    pub back_ends : HasEnds rows.links this sources (back_tree rows)
    back_ends = record {
      short = λ name. each_too (λ id h. h.0) (sources name) (each_source name);
      rise = λ name. rises_filter id_cmp (is_linked rows name this) (keys rows.ids) (rises_keys id_cmp rows.ids);
      stand = back_stand;
      known = λ key value. known_each bytes_total bytes_same (IsKnown rows.links this sources) (carried (join_back_key rows.links) (λ _. []) (entries rows.joined)) key value
          (each_carried (join_back_key rows.links) (λ _. []) (IsKnown rows.links this sources) (entries rows.joined) (each_in _ (entries rows.joined) back_known));
    }

  links : LinksAreRead rows
  links = record {
    linked = λ source name link target s t is.
        ap is_some (answers.linked source name link target s t is) ∙ some_map (λ _. []) (get rows.joined (source, (name, target)));
    targets = λ source name link s is.
        ends_found rows.links source s (targets source s) (links_tree rows) (out_ends source s) link name (by_number_of rows.links f.links link name is);
    sources = λ target name link s is.
        ends_found rows.links target s (sources target s) (back_tree rows) (back_ends target s) link name (by_number_of rows.links f.links link name is);
    out = λ source s. links_found rows.links f.links source s (targets source s) (links_tree rows) (out_ends source s);
    into = λ target s. links_found rows.links f.links target s (sources target s) (back_tree rows) (back_ends target s);
  }

pub links_read : LinksOfRowsAreRead
links_read rows h = links rows (facts rows h) (sound_answer rows h)
