-- Names that are listed, and names of which rows have nothing.
use Rattle.std.proofs.Common.{◌≡◌, ℕ, Bool, true, false, cond, IsTrue, List, [], ◌∷◌, map, length, Option, Some, None, refl, sym, ap, ◌∙◌, true≢false}
use Rattle.std.specs.Prelude.{nat_lt, is_some, ◌==◌}
use Rattle.std.specs.Cmp.{both_ways, second_so, tied_itself}
use Rattle.std.specs.Ordering.{is_gt}
use Rattle.std.specs.Cmp.Lexicographic.{bytes_decides}
use Rattle.std.specs.FinMap.{entries, get, keys}
use Rattle.std.specs.List.{AllByRecursion, filter, list_any}
use Rattle.xod_base.specs.declared.limits.TheConstants.{MOST_NAMES}
use Rattle.xod_base.specs.declared.value.EntityId.{EntityId}
use Rattle.xod_base.specs.declared.value.Value.{Value}
use Rattle.xod_base.specs.Evaluation.{has_value, ids_of, ids_with, ids_with_number, is_link_of, is_linked, passes, targets_of}
use Rattle.xod_base.specs.Rows.{RowsValue, LinkKey, is_sound, number_of, same_id}
use Rattle.xod_base.specs.Values.{has_key, has_key_within, is_within, keys_of, same_bytes}
use Rattle.xod_carry.proofs.CallerLemmas.{bytes_same, bytes_total, each_get, each_too}
use Rattle.xod_tables.proofs.CallerLemmas.{CellFits, LinkFits, cells_fit, facts, links_fit, cell_total, cell_same, link_total, link_same, not_none}
use Rattle.xod_readings.specs.Lists.{sources_of}
use Rattle.xod_readings.proofs.Ranging.{pinned, sides_within, within_sides}
use Rattle.xod_reader.specs.declared.slot.Slot.{Slot}
use Rattle.xod_reader.specs.declared.slot.Slot.TheVariants.{Listed, Free, Full}
use Rattle.xod_reader.specs.Slots.{end_slot, slot_by, slot_of}

-- ---- where a name stands

at_end : (b : Bool) (count number : ℕ) → Listed number ≡ cond b (Free count) Full → ⊥
at_end true count number e = cc e
at_end false count number e = cc e

found_listed : (found : Option ℕ) (count number : ℕ) → Listed number ≡ slot_by found count → found ≡ Some number
found_listed None count number e = absurd (at_end (nat_lt count MOST_NAMES) count number e)
found_listed (Some other) count number e = cc e

-- a name that stands at a number has it
pub listed_number : (names : List (List ℕ)) (name : List ℕ) (number : ℕ) → Listed number ≡ slot_of names name → number_of names name ≡ Some number
listed_number names name number e = found_listed (number_of names name) (length names) number e

-- where a name stands that has a number, and where one that has none
pub number_slot : (names : List (List ℕ)) (name : List ℕ) (number : ℕ) → Some number ≡ number_of names name → Listed number ≡ slot_of names name
number_slot names name number is = ap (λ found. slot_by found (length names)) is

pub free_slot : (names : List (List ℕ)) (name : List ℕ) (count : ℕ) (slot : Slot) → None ≡ number_of names name → count ≡ length names
    → slot ≡ end_slot count → slot ≡ slot_of names name
free_slot names name count slot none counted is = is ∙ ap end_slot counted ∙ ap (λ found. slot_by found (length names)) none

-- a slot where no name stands
abbrev pub is_listed_slot : Slot → Bool
is_listed_slot (Listed number) = true
is_listed_slot (Free number) = false
is_listed_slot Full = false

pub not_listed : (slot : Slot) → ((number : ℕ) → slot ≡ Listed number → ⊥) → is_listed_slot slot ≡ false
not_listed (Listed number) h = absurd (h number refl)
not_listed (Free number) h = refl
not_listed Full h = refl

found_unlisted : (found : Option ℕ) (count : ℕ) (slot : Slot) → slot ≡ slot_by found count → is_listed_slot slot ≡ false → found ≡ None
found_unlisted None count slot e free = refl
found_unlisted (Some number) count slot e free = absurd (true≢false (sym (ap is_listed_slot e) ∙ free))

-- a name that stands nowhere has no number
pub unlisted_number : (names : List (List ℕ)) (name : List ℕ) (slot : Slot) → slot ≡ slot_of names name → is_listed_slot slot ≡ false
    → number_of names name ≡ None
unlisted_number names name slot e free = found_unlisted (number_of names name) (length names) slot e free

-- ---- rows have nothing by names that are not listed

pub absent : {A : Type 0} (o : Option A) → ((x : A) → o ≡ Some x → ⊥) → o ≡ None
absent None h = refl
absent (Some x) h = absurd (h x refl)

unlike : (b : Bool) → (b ≡ true → ⊥) → b ≡ false
unlike true h = absurd (h refl)
unlike false h = refl

pub none_kept : {A : Type 0} (p : A → Bool) → ((x : A) → p x ≡ false) → (xs : List A) → filter p xs ≡ []
none_kept p fails [] = refl
none_kept p fails (x ∷ xs) = ap (λ b. cond b (x ∷ filter p xs) (filter p xs)) (fails x) ∙ none_kept p fails xs

none_pass : {K X : Type 0} (p : K → Bool) (es : List (K × X)) → AllByRecursion (λ e. p e.0 ≡ false) es → filter p (map (λ e. e.0) es) ≡ []
none_pass p [] h = refl
none_pass p (e ∷ es) h = ap (λ b. cond b (e.0 ∷ filter p (map (λ x. x.0) es)) (filter p (map (λ x. x.0) es))) h.0 ∙ none_pass p es h.1

module _ (rows : RowsValue) (sound : IsTrue (is_sound rows)) (name : List ℕ) where
  pub no_value : number_of rows.props name ≡ None → (id : EntityId) → get rows.values (id, name) ≡ None
  no_value none id = absent (get rows.values (id, name)) (λ value is.
      let fits : CellFits rows ((id, name), value) = each_get cell_total cell_same (CellFits rows) rows.values (id, name) value (cells_fit rows (facts rows sound)) is in
      not_none fits.name.number (sym fits.name.is ∙ none))

  pub none_with : number_of rows.props name ≡ None → (kind : List ℕ) (test : Value → Bool) → ids_with rows kind name test ≡ []
  none_with none kind test = none_kept (has_value rows name test) (λ id. ap (passes test) (no_value none id)) (ids_of rows kind)

  pub no_link : number_of rows.links name ≡ None → (source target : EntityId) → get rows.joined (source, (name, target)) ≡ None
  no_link none source target = absent (get rows.joined (source, (name, target))) (λ joined is.
      let fits : LinkFits rows (source, (name, target)) = each_get link_total link_same (λ e. LinkFits rows e.0) rows.joined (source, (name, target)) joined (links_fit rows (facts rows sound)) is in
      not_none fits.name.number (sym fits.name.is ∙ none))

  pub none_linked : number_of rows.links name ≡ None → (kind : List ℕ) (target : EntityId) → filter (is_linked rows name target) (ids_of rows kind) ≡ []
  none_linked none kind target = none_kept (is_linked rows name target) (λ id. ap is_some (no_link none id target)) (ids_of rows kind)

  pub no_targets : number_of rows.links name ≡ None → (source : EntityId) → targets_of rows name source ≡ []
  no_targets none source = ap (map (λ link. link.1.1)) (none_pass (is_link_of source name) (entries rows.joined)
      (each_too (λ e fits. unlike (is_link_of source name e.0) (λ is. other e.0 fits is)) (entries rows.joined) (links_fit rows (facts rows sound))))
    where
      other : (link : LinkKey) → LinkFits rows link → is_link_of source name link ≡ true → ⊥
      other link fits is =
          let same : link.1.0 ≡ name = (bytes_decides link.1.0 name).0 (second_so (same_id link.0 source) (same_bytes link.1.0 name) is) in
          not_none fits.name.number (sym fits.name.is ∙ ap (number_of rows.links) same ∙ none)

-- ---- a key alone
one_key : (key other : List ℕ) → is_within key key other ≡ same_bytes key other
one_key key other = both_ways (is_within key key other) (same_bytes key other)
    (λ h. let sides = within_sides key key other h in (bytes_decides key other).1 (sym (pinned bytes_total bytes_same key other sides.0 sides.1)))
    (λ h. let same = (bytes_decides key other).0 h in ap (is_within key key) (sym same)
    ∙ sides_within key key key (ap is_gt (tied_itself bytes_total key)) (ap is_gt (tied_itself bytes_total key)))

-- the entities with a key are those with one from it to itself
pub key_alone : (rows : RowsValue) (kind name key : List ℕ) → ids_with rows kind name (has_key_within key key) ≡ ids_with rows kind name (has_key key)
key_alone rows kind name key = λ i. ids_with rows kind name (λ value. list_any (λ other. one_key key other i) (keys_of value))

-- ---- two tests, either of them first

pushed : {A : Type 0} (p : A → Bool) (x : A) (b : Bool) (xs : List A)
    → filter p (cond b (x ∷ xs) xs) ≡ cond b (cond (p x) (x ∷ filter p xs) (filter p xs)) (filter p xs)
pushed p x true xs = refl
pushed p x false xs = refl

exchanged : {A : Type 0} (b c : Bool) (u v : A) → cond b (cond c u v) v ≡ cond c (cond b u v) v
exchanged true true u v = refl
exchanged true false u v = refl
exchanged false true u v = refl
exchanged false false u v = refl

filter_filter : {A : Type 0} (p q : A → Bool) (xs : List A) → filter p (filter q xs) ≡ filter q (filter p xs)
filter_filter p q [] = refl
filter_filter p q (x ∷ xs) =
    pushed p x (q x) (filter q xs)
    ∙ (λ i. cond (q x) (cond (p x) (x ∷ filter_filter p q xs i) (filter_filter p q xs i)) (filter_filter p q xs i))
    ∙ exchanged (q x) (p x) (x ∷ filter q (filter p xs)) (filter q (filter p xs))
    ∙ sym (pushed q x (p x) (filter p xs))

-- the sources that are of a type are the entities of the type that are linked
pub sources_of_kind : (rows : RowsValue) (name : List ℕ) (target : EntityId) (number : ℕ)
    → filter (λ id. id.kind == number) (sources_of rows name target) ≡ filter (is_linked rows name target) (ids_with_number rows (Some number))
sources_of_kind rows name target number = filter_filter (λ id. id.kind == number) (is_linked rows name target) (keys rows.ids)
