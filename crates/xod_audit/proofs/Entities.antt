-- The trees of next numbers and of entities.
use Rattle.std.proofs.Common.{◌≡◌, ℕ, zero, suc, ◌+◌, ◌<◌, ◌≤◌, ◌^◌, Bool, true, false, cond, ◌&&◌, List, [], ◌∷◌, length, Option, Some, None, refl, sym, ap, subst, ◌∙◌, true≢false, arith, ltb-true, leb-true}
use Rattle.std.specs.Prelude.{is_some, nat_le}
use Rattle.std.specs.Cmp.Lexicographic.{bytes_decides}
use Rattle.std.specs.Option.{option_map}
use Rattle.std.specs.List.{AllByRecursion, slice_get}
use Rattle.std.specs.FinMap.{FinMap, entries, get, len}
use Rattle.xod_base.specs.declared.limits.TheConstants.{MOST_LOCALS}
use Rattle.xod_base.specs.declared.value.EntityId.{EntityId}
use Rattle.xod_base.specs.Rows.{RowsValue, id_cmp, is_drawn, next_of}
use Rattle.xod_base.specs.Values.{bytes_cmp, same_bytes}
use Rattle.xod_base.specs.Views.{Entry, Tree}
use Rattle.xod_carry.specs.Carry.{carried, carry, numbered}
use Rattle.xod_carry.specs.Laws.{AreApart}
use Rattle.xod_carry.proofs.CallerLemmas.{bytes_total, bytes_same, each, each_too, each_both, each_get, carried_apart, same_by_lookups, get-carry}
use Rattle.xod_tables.specs.Keys.{IsShort, u64, id_bytes, next_key, entity_key}
use Rattle.xod_tables.specs.Reading.{of_u64, is_written, id_at, kind_in, id_in}
use Rattle.xod_tables.specs.Tables.{next_tree, entities_tree}
use Rattle.xod_tables.proofs.CallerLemmas.{same_some, not_none, u64_back, next_read, id_read, id_at-bytes, id_total, id_same, was_written, one_writing}
use Rattle.xod_keys.specs.Readings.{read_behind}
use Rattle.xod_audit.specs.Tests.{holds, next_in, next_there, nexts_from, entity_in, is_entity}
use Rattle.xod_audit.proofs.General.{parts, and_so, len_apart, each_from, each_image, images_length, numbered_small, numbered_apart, comes_back}
use Rattle.xod_audit.proofs.Names.{numbered_length}

-- ---- next numbers

-- next numbers are listed: as many as types, each within its limit, and each stands at its type
pub record NextsStand (t : Tree) (left kind : ℕ) (xs : List ℕ) : Type 0 where
  pub as_many : length xs ≡ left
  pub low : AllByRecursion (λ n. nat_le n MOST_LOCALS ≡ true) xs
  pub stand : AllByRecursion (λ e. get t (next_key e.0) ≡ Some (u64 e.1)) (numbered kind xs)

nexts_step : (t : Tree) (left kind : ℕ) (o : Option (List ℕ)) (rest : Option (List ℕ)) (xs : List ℕ) → get t (next_key kind) ≡ o
    → ((ys : List ℕ) → rest ≡ Some ys → NextsStand t left (suc kind) ys) → read_behind (next_there o) rest ≡ Some xs → NextsStand t (suc left) kind xs
unfolding next_in
nexts_step t left kind None rest xs is more e = absurd (not_none xs (sym e))
nexts_step t left kind (Some bytes) rest xs is more e = at (is_written (Some (u64 (of_u64 bytes))) bytes && nat_le (of_u64 bytes) MOST_LOCALS) refl rest more e
  where
    at : (b : Bool) → (is_written (Some (u64 (of_u64 bytes))) bytes && nat_le (of_u64 bytes) MOST_LOCALS) ≡ b → (rest : Option (List ℕ)) → ((ys : List ℕ) → rest ≡ Some ys → NextsStand t left (suc kind) ys)
        → read_behind (cond b (Some (of_u64 bytes)) None) rest ≡ Some xs → NextsStand t (suc left) kind xs
    at false h rest more e = absurd (not_none xs (sym e))
    at true h None more e = absurd (not_none xs (sym e))
    at true h (Some ys) more e =
        let both = parts (same_bytes (u64 (of_u64 bytes)) bytes) (nat_le (of_u64 bytes) MOST_LOCALS) h in
        let r = more ys refl in
        subst (NextsStand t (suc left) kind) (same_some (of_u64 bytes ∷ ys) xs e) (record {
          as_many = ap suc r.as_many;
          low = (both.1, r.low);
          stand = (is ∙ ap Some (sym ((bytes_decides (u64 (of_u64 bytes)) bytes).0 both.0)), r.stand);
        })

pub nexts_stand : (t : Tree) (left kind : ℕ) (xs : List ℕ) → nexts_from t left kind ≡ Some xs → NextsStand t left kind xs
unfolding nexts_from
nexts_stand t zero kind xs e = subst (NextsStand t 0 kind) (same_some [] xs e) (record { as_many = refl; low = tt; stand = tt })
nexts_stand t (suc left) kind xs e = nexts_step t left kind (get t (next_key kind)) (nexts_from t left (suc kind)) xs refl (λ ys is. nexts_stand t left (suc kind) ys is) e

next_back : (n : ℕ) → nat_le n MOST_LOCALS ≡ true → next_in (u64 n) ≡ Some n
unfolding next_in
next_back n h =
    let le : n ≤ MOST_LOCALS = leb-true n MOST_LOCALS h in
    ap (λ m. cond (same_bytes (u64 m) (u64 n) && nat_le m MOST_LOCALS) (Some m) None) (u64_back n (omega (arith, le)))
    ∙ ap (λ b. cond (b && nat_le n MOST_LOCALS) (Some n) None) ((bytes_decides (u64 n) (u64 n)).1 refl)
    ∙ ap (λ b. cond b (Some n) None) h

-- next numbers that stand at their types are those that are listed
pub nexts_is : (t : Tree) (left kind : ℕ) (xs : List ℕ) → length xs ≡ left → kind + left ≤ 2 ^ 32 → AllByRecursion (λ n. nat_le n MOST_LOCALS ≡ true) xs
    → ((j : ℕ) → kind + j < 2 ^ 32 → get t (next_key (kind + j)) ≡ option_map u64 (slice_get xs j)) → nexts_from t left kind ≡ Some xs
unfolding nexts_from
nexts_is t zero kind [] many small low at = refl
nexts_is t zero kind (x ∷ xs) many small low at = absurd (omega (arith, many))
nexts_is t (suc left) kind [] many small low at = absurd (omega (arith, many))
nexts_is t (suc left) kind (x ∷ xs) many small low at =
    let here : kind + 0 ≡ kind = omega arith in
    ap (λ o. read_behind (next_there o) (nexts_from t left (suc kind))) (ap (λ n. get t (next_key n)) (sym here) ∙ at 0 (omega (arith, small)))
    ∙ ap (λ o. read_behind o (nexts_from t left (suc kind))) (next_back x low.0)
    ∙ ap (option_map (λ l. x ∷ l)) (nexts_is t left (suc kind) xs (omega (arith, many)) (omega (arith, small)) low.1
    (λ j h. let next : suc kind + j ≡ kind + suc j = omega arith in ap (λ n. get t (next_key n)) next ∙ at (suc j) (omega (arith, h))))

module _ (rows : RowsValue) (few : length rows.nexts ≤ 4096) where
  abbrev nexts_list : List Entry
  nexts_list = carried (λ n. Some (next_key n)) u64 (numbered 0 rows.nexts)

  nexts_apart : AreApart nexts_list
  nexts_apart = carried_apart (λ n. Some (next_key n)) u64 kind_in (numbered 0 rows.nexts) (numbered_apart 0 rows.nexts)
      (each_too (λ e small l is. subst (λ k. kind_in k ≡ Some e.0) (same_some (next_key e.0) l is) (next_read e.0 small)) (numbered 0 rows.nexts) (numbered_small 0 rows.nexts (omega (arith, few))))

  nexts_length : length nexts_list ≡ length rows.nexts
  nexts_length = images_length (λ n. Some (next_key n)) u64 (numbered 0 rows.nexts) (each (λ e. refl) (numbered 0 rows.nexts)) ∙ numbered_length 0 rows.nexts

  -- next numbers that stand in a tree of as many entries make it the tree of next numbers
  pub nexts_are : (t : Tree) → AllByRecursion (λ e. get t (next_key e.0) ≡ Some (u64 e.1)) (numbered 0 rows.nexts) → len t ≡ length rows.nexts → t ≡ next_tree rows
  nexts_are t h long = same_by_lookups bytes_total bytes_same nexts_list t nexts_apart
      (each_image (λ n. Some (next_key n)) u64 (λ e. get t e.0 ≡ Some e.1) (numbered 0 rows.nexts)
      (each_too (λ e is l k. subst (λ q. get t q ≡ Some (u64 e.1)) (same_some (next_key e.0) l k) is) (numbered 0 rows.nexts) h))
      (long ∙ sym nexts_length)

  pub nexts_len : len (next_tree rows) ≡ length rows.nexts
  nexts_len = len_apart bytes_total bytes_same nexts_list nexts_apart ∙ nexts_length

-- ---- entities

-- what passes a test is there
pub held : {A : Type 0} (test : A → Bool) (o : Option A) → holds test o ≡ true → (x : A) × (o ≡ Some x) × (test x ≡ true)
held test None h = absurd (true≢false (sym h))
held test (Some x) h = (x, refl, h)

next_bound : (nexts : List ℕ) (kind local : ℕ) → AllByRecursion (λ next. nat_le next MOST_LOCALS ≡ true) nexts → local < next_of nexts kind → (kind < length nexts) × (local < 2 ^ 32)
next_bound [] kind local h lt = absurd (omega (arith, lt))
next_bound (first ∷ more) zero local h lt = let le : first ≤ MOST_LOCALS = leb-true first MOST_LOCALS h.0 in (omega arith, omega (arith, lt, le))
next_bound (first ∷ more) (suc kind) local h lt = let r = next_bound more kind local h.1 lt in let a : kind < length more = r.0 in (omega (arith, a), r.1)

-- an entry of an entity
pub record IsEntity (nexts : List ℕ) (e : Entry) : Type 0 where
  pub id : EntityId
  pub is : id_in e.0 ≡ Some id
  pub drawn : is_drawn nexts id ≡ true
  pub short : IsShort id
  pub nothing : e.1 ≡ []

module _ (nexts : List ℕ) (few : length nexts ≤ 4096) (low : AllByRecursion (λ n. nat_le n MOST_LOCALS ≡ true) nexts) where
  drawn_is_short : (id : EntityId) → is_drawn nexts id ≡ true → IsShort id
  drawn_is_short id h =
      let b = next_bound nexts id.kind id.local low (ltb-true id.local (next_of nexts id.kind) h) in
      let within : id.kind < length nexts = b.0 in
      record { kind = omega (arith, few, within); local = b.1 }

  entity_is : (e : Entry) → is_entity nexts e ≡ true → IsEntity nexts e
  unfolding entity_in
  entity_is e h =
      let both = parts (holds (is_drawn nexts) (id_in e.0)) (same_bytes e.1 []) h in
      let read = held (is_drawn nexts) (id_in e.0) both.0 in
      record { id = read.0; is = read.1; drawn = read.2; short = drawn_is_short read.0 read.2; nothing = (bytes_decides e.1 []).0 both.1 }

  module _ (t : Tree) (all : AllByRecursion (λ e. is_entity nexts e ≡ true) (entries t)) where
    abbrev pub ids : FinMap id_cmp (Unit {0})
    ids = carry id_in (λ _. tt) id_cmp t

    each_entity : AllByRecursion (IsEntity nexts) (entries t)
    each_entity = each_too entity_is (entries t) all

    -- the tree is that of the entities that are read from it
    pub entities_are : t ≡ carry (λ id. Some (entity_key id)) (λ _. []) bytes_cmp ids
    entities_are = sym (comes_back id_total id_same bytes_total bytes_same id_in (λ _. tt) (λ id. Some (entity_key id)) (λ _. []) t
        (each_too (λ e r. (r.id, r.is, was_written (λ id. Some (entity_key id)) e.0 (Some (id_at e.0)) r.id r.is, sym r.nothing)) (entries t) each_entity))

    pub ids_drawn : AllByRecursion (λ e. is_drawn nexts e.0 ≡ true) (entries ids)
    ids_drawn = each_from id_total id_same (λ e. is_drawn nexts e.0 ≡ true) (carried id_in (λ _. tt) (entries t))
        (each_image id_in (λ _. tt) (λ e. is_drawn nexts e.0 ≡ true) (entries t)
        (each_too (λ e r l is. subst (λ id. is_drawn nexts id ≡ true) (same_some r.id l (sym r.is ∙ is)) r.drawn) (entries t) each_entity))

    -- an id that was read from a key of the tree is that of an entity
    pub is_there : (id : EntityId) → id_at (id_bytes id) ≡ id → is_some (get t (entity_key id)) ≡ true → IsShort id × (is_some (get ids id) ≡ true)
    is_there id back h = at (get t (entity_key id)) refl h
      where
        own : (l : EntityId) → IsShort l → Some (entity_key l) ≡ Some (entity_key id) → l ≡ id
        own l s e = sym (id_at-bytes l [] s) ∙ ap id_at (same_some (entity_key l) (entity_key id) e) ∙ back

        found : (v : List ℕ) → get t (entity_key id) ≡ Some v → (r : IsEntity nexts (entity_key id, v)) → r.id ≡ id → IsShort id × (is_some (get ids id) ≡ true)
        found v is r same = (
          subst IsShort same r.short,
          ap is_some (get-carry bytes_total bytes_same id_total id_same id_in (λ _. tt) t (entity_key id) id (r.is ∙ ap Some same)
              (each (λ e. one_writing (λ x. Some (entity_key x)) (λ q. Some (id_at q)) e.0 (entity_key id)) (entries t))
              ∙ ap (option_map (λ _. tt)) is),
        )

        at : (o : Option (List ℕ)) → get t (entity_key id) ≡ o → is_some o ≡ true → IsShort id × (is_some (get ids id) ≡ true)
        at None is h = absurd (true≢false (sym h))
        at (Some v) is h =
            let r = each_get bytes_total bytes_same (IsEntity nexts) t (entity_key id) v each_entity is in
            found v is r (own r.id r.short (was_written (λ x. Some (entity_key x)) (entity_key id) (Some (id_at (entity_key id))) r.id r.is))

-- the entries of the tree of drawn entities are those of entities
pub entities_pass : (rows : RowsValue) → AllByRecursion (λ e. is_drawn rows.nexts e.0 ≡ true) (entries rows.ids) → AllByRecursion (λ e. IsShort e.0) (entries rows.ids)
    → AllByRecursion (λ e. is_entity rows.nexts e ≡ true) (entries (entities_tree rows))
unfolding entity_in
entities_pass rows drawn short = each_from bytes_total bytes_same (λ e. is_entity rows.nexts e ≡ true) (carried (λ id. Some (entity_key id)) (λ _. []) (entries rows.ids))
    (each_image (λ id. Some (entity_key id)) (λ _. []) (λ e. is_entity rows.nexts e ≡ true) (entries rows.ids)
    (each_both (λ e d s l is. subst (λ k. is_entity rows.nexts (k, []) ≡ true) (same_some (entity_key e.0) l is)
    (and_so (holds (is_drawn rows.nexts) (id_in (entity_key e.0))) true (ap (holds (is_drawn rows.nexts)) (id_read e.0 s) ∙ d) refl)) (entries rows.ids) drawn short))
