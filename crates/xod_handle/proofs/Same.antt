-- A query and its normal form have the same answer.
use Rattle.std.proofs.Common.{◌≡◌, ℕ, ◌<◌, ◌^◌, Bool, true, false, not, ◌&&◌, ◌||◌, List, [], ◌∷◌, ◌++◌, length, refl, sym, ap, ◌∙◌, subst, arith, IsTrue, nat_lt, take, drop, Less, Equal, Greater}
use Rattle.std.specs.Cmp.{first_so, second_so}
use Rattle.std.specs.Cmp.Derive.{both_true}
use Rattle.std.specs.List.{AllByRecursion as Each}
use Rattle.std.specs.List.{filter, flat_map, list_all, list_any}
use Rattle.std.proofs.lemmas.List.Folds.{list_any-append, list_all-append}
use Rattle.xod_base.specs.declared.value.EntityId.{EntityId}
use Rattle.xod_base.specs.declared.value.Value.{Value}
use Rattle.xod_base.specs.declared.value.Value.TheVariants.{Flag, Int, Text}
use Rattle.xod_base.specs.declared.query.Query.{Query, roll-Query}
use Rattle.xod_base.specs.declared.query.Query.TheOpen.{Query-F}
use Rattle.xod_base.specs.declared.query.Query.TheOpen.{All, Find, Range, Prefix, With, WithLink, Linked, LinksOf, Union, Intersect, Minus, Targets, Sort, Skip, Take}
use Rattle.xod_base.specs.declared.query.Query.TheFolds.{map-Query, fold-roll-Query}
use Rattle.xod_base.specs.Evaluation.{answer_at, answer_of, has_id, ids_with, rising, sort_cmp, sorted_by, targets_of}
use Rattle.xod_base.specs.Names.{is_name_word}
use Rattle.xod_base.specs.Queries.{is_named, named_at}
use Rattle.xod_base.specs.Rows.{RowsValue, no_rows}
use Rattle.xod_base.specs.Text.{is_text}
use Rattle.xod_base.specs.Values.{folded, has_front, has_key, has_key_within, is_value, key_of}
use Rattle.xod_sets.specs.Rising.{rises}
use Rattle.xod_sets.proofs.CallerLemmas.{has_append, has_filter, has_rising, rises_rising, same_rising}
use Rattle.xod_handle.specs.declared.join.Join.{Join}
use Rattle.xod_handle.specs.declared.join.Join.TheVariants.{Either, Both}
use Rattle.xod_handle.specs.Forms.{Form, single, joined, put_by, put_part, arranged, nested, written, joined_whole, joined_form, same_join, parts_or, form_at, form_of, normal_of, folded_value}
use Rattle.xod_handle.specs.Laws.{NormalAnswersTheSame, NormalStaysNamed}
use Rattle.xod_handle.proofs.Arranging.{same_texts, text_cmp}
use Rattle.xod_handle.proofs.FoldedTexts.{folded_text, folded_twice}
use Rattle.xod_handle.proofs.Inductions.{Parts, by_parts}
use Rattle.xod_handle.proofs.Joining.{arranged_some, each_append, each_arranged, joins_are, some_append}
use Rattle.xod_handle.proofs.Telling.{texts_tell}

abbrev Named : Query → Type 0
Named q = IsTrue (is_named q)

-- ---- two answers joined

abbrev of_two : Join → Bool → Bool → Bool
of_two Either a b = a || b
of_two Both a b = a && b

abbrev answers : Join → List EntityId → List EntityId → List EntityId
answers Either xs ys = rising (xs ++ ys)
answers Both xs ys = rising (filter (has_id ys) xs)

has_answers : (join : Join) (xs ys : List EntityId) (id : EntityId) → has_id (answers join xs ys) id ≡ of_two join (has_id xs id) (has_id ys id)
has_answers Either xs ys id = has_rising (xs ++ ys) id ∙ has_append xs ys id
has_answers Both xs ys id = has_rising (filter (has_id ys) xs) id ∙ has_filter (has_id ys) xs id

answers_rise : (join : Join) (xs ys : List EntityId) → IsTrue (rises (answers join xs ys))
answers_rise Either xs ys = rises_rising (xs ++ ys)
answers_rise Both xs ys = rises_rising (filter (has_id ys) xs)

two_swap : (join : Join) (a b c : Bool) → of_two join a (of_two join b c) ≡ of_two join b (of_two join a c)
two_swap Either true true c = refl
two_swap Either true false c = refl
two_swap Either false true c = refl
two_swap Either false false c = refl
two_swap Both true true c = refl
two_swap Both true false c = refl
two_swap Both false true c = refl
two_swap Both false false c = refl

two_twice : (join : Join) (a c : Bool) → of_two join a (of_two join a c) ≡ of_two join a c
two_twice Either true c = refl
two_twice Either false c = refl
two_twice Both true c = refl
two_twice Both false c = refl

two_self : (join : Join) (a : Bool) → of_two join a a ≡ a
two_self Either true = refl
two_self Either false = refl
two_self Both true = refl
two_self Both false = refl

named_joined : (join : Join) (l r : Query) → is_named (joined join l r) ≡ (is_named l && is_named r)
named_joined Either l r = fold-roll-Query Bool named_at (Union l r)
named_joined Both l r = fold-roll-Query Bool named_at (Intersect l r)

-- ---- parts joined

module _ (rows : RowsValue) where
  abbrev answer : Query → List EntityId
  answer q = answer_of q rows

  answer_joined : (join : Join) (l r : Query) → answer (joined join l r) ≡ answers join (answer l) (answer r)
  answer_joined Either l r = fold-roll-Query (List EntityId) (answer_at rows) (Union l r)
  answer_joined Both l r = fold-roll-Query (List EntityId) (answer_at rows) (Intersect l r)

  -- whether an id is in the answer of one part at least, or of all
  abbrev within : Join → List Query → EntityId → Bool
  within Either ps id = list_any (λ p. has_id (answer p) id) ps
  within Both ps id = list_all (λ p. has_id (answer p) id) ps

  within_more : (join : Join) (p : Query) (ps : List Query) (id : EntityId) → within join (p ∷ ps) id ≡ of_two join (has_id (answer p) id) (within join ps id)
  within_more Either p ps id = refl
  within_more Both p ps id = refl

  within_none : (join : Join) (id : EntityId) (a : Bool) → of_two join a (within join [] id) ≡ a
  within_none Either id true = refl
  within_none Either id false = refl
  within_none Both id true = refl
  within_none Both id false = refl

  within_append : (join : Join) (ps qs : List Query) (id : EntityId) → within join (ps ++ qs) id ≡ of_two join (within join ps id) (within join qs id)
  within_append Either ps qs id = list_any-append (λ p. has_id (answer p) id) ps qs
  within_append Both ps qs id = list_all-append (λ p. has_id (answer p) id) ps qs

  within_put : (join : Join) (p : Query) (ps : List Query) (id : EntityId) → Named p → Each Named ps
      → within join (put_part p ps) id ≡ of_two join (has_id (answer p) id) (within join ps id)
  within_put join p [] id n ns = within_more join p [] id
  within_put join p (f ∷ fs) id n ns =
      elim (text_cmp p f) as (λ o. text_cmp p f ≡ o → within join (put_by o p f fs (put_part p fs)) id ≡ of_two join (has_id (answer p) id) (within join (f ∷ fs) id)) [
        | Less ↦ λ e. within_more join p (f ∷ fs) id
        | Equal ↦ λ e. let same : p ≡ f = texts_tell p f n ns.0 (same_texts p f e) in
            within_more join p fs id
            ∙ sym (two_twice join (has_id (answer p) id) (within join fs id))
            ∙ ap (λ q. of_two join (has_id (answer p) id) (of_two join (has_id (answer q) id) (within join fs id))) same
            ∙ ap (of_two join (has_id (answer p) id)) (sym (within_more join f fs id))
        | Greater ↦ λ e. within_more join f (put_part p fs) id
            ∙ ap (of_two join (has_id (answer f) id)) (within_put join p fs id n ns.1)
            ∙ two_swap join (has_id (answer f) id) (has_id (answer p) id) (within join fs id)
            ∙ ap (of_two join (has_id (answer p) id)) (sym (within_more join f fs id))
      ] refl

  within_arranged : (join : Join) (ps : List Query) (id : EntityId) → Each Named ps → within join (arranged ps) id ≡ within join ps id
  within_arranged join [] id ns = refl
  within_arranged join (p ∷ ps) id ns = within_put join p (arranged ps) id ns.0 (each_arranged Named ps ns.1)
      ∙ ap (of_two join (has_id (answer p) id)) (within_arranged join ps id ns.1) ∙ sym (within_more join p ps id)

  -- ---- the query of arranged parts

  has_joined : (join : Join) (l r : Query) (id : EntityId) → has_id (answer (joined join l r)) id ≡ of_two join (has_id (answer l) id) (has_id (answer r) id)
  has_joined join l r id = ap (λ xs. has_id xs id) (answer_joined join l r) ∙ has_answers join (answer l) (answer r) id

  has_nested : (join : Join) (p : Query) (ps : List Query) (id : EntityId) → has_id (answer (nested join p ps)) id ≡ within join (p ∷ ps) id
  has_nested join p [] id = sym (within_none join id (has_id (answer p) id)) ∙ sym (within_more join p [] id)
  has_nested join p (q ∷ qs) id = has_joined join p (nested join q qs) id ∙ ap (of_two join (has_id (answer p) id)) (has_nested join q qs id) ∙ sym (within_more join p (q ∷ qs) id)

  has_written : (join : Join) (o : Query) (ps : List Query) (id : EntityId) → 0 < length ps → has_id (answer (written join o ps)) id ≡ within join ps id
  has_written join o [] id some = absurd (omega arith)
  has_written join o (p ∷ []) id some = has_joined join p p id ∙ two_self join (has_id (answer p) id) ∙ has_nested join p [] id
  has_written join o (p ∷ q ∷ qs) id some = has_nested join p (q ∷ qs) id

  joined_rises : (join : Join) (l r : Query) → IsTrue (rises (answer (joined join l r)))
  joined_rises join l r = ap rises (answer_joined join l r) ∙ answers_rise join (answer l) (answer r)

  written_rises : (join : Join) (o : Query) (ps : List Query) → 0 < length ps → IsTrue (rises (answer (written join o ps)))
  written_rises join o [] some = absurd (omega arith)
  written_rises join o (p ∷ []) some = joined_rises join p p
  written_rises join o (p ∷ q ∷ qs) some = joined_rises join p (nested join q qs)

-- ---- the query of arranged parts can be written down

joined_named : (join : Join) (l r : Query) → Named l → Named r → Named (joined join l r)
joined_named join l r n m = named_joined join l r ∙ both_true n m

nested_named : (join : Join) (p : Query) (ps : List Query) → Named p → Each Named ps → Named (nested join p ps)
nested_named join p [] n ns = n
nested_named join p (q ∷ qs) n ns = joined_named join p (nested join q qs) n (nested_named join q qs ns.0 ns.1)

written_named : (join : Join) (o : Query) (ps : List Query) → 0 < length ps → Each Named ps → Named (written join o ps)
written_named join o [] some ns = absurd (omega arith)
written_named join o (p ∷ []) some ns = joined_named join p p ns.0 ns.0
written_named join o (p ∷ q ∷ qs) some ns = nested_named join p (q ∷ qs) ns.0 ns.1

-- ---- forms

-- what the form of a query with an answer has
record Fits (rows : RowsValue) (f : Form) (xs : List EntityId) : Type 0 where
  same : answer rows f.whole ≡ xs
  named : Named f.whole
  some : (join : Join) → 0 < length (f.parts join)
  each : (join : Join) → Each Named (f.parts join)
  in_parts : (join : Join) (id : EntityId) → within rows join (f.parts join) id ≡ has_id xs id

fits_single : (rows : RowsValue) (q : Query) (xs : List EntityId) → answer rows q ≡ xs → Named q → Fits rows (single q) xs
fits_single rows q xs e n = record {
  same = e;
  named = n;
  some = λ join. omega arith;
  each = λ join. (n, tt);
  in_parts = λ join id. within_more rows join q [] id ∙ within_none rows join id (has_id (answer rows q) id) ∙ ap (λ ys. has_id ys id) e;
}

in_two : (rows : RowsValue) (join : Join) (f g : Form) (xs ys : List EntityId) → Fits rows f xs → Fits rows g ys → (id : EntityId)
    → within rows join (f.parts join ++ g.parts join) id ≡ has_id (answers join xs ys) id
in_two rows join f g xs ys h k id = within_append rows join (f.parts join) (g.parts join) id
    ∙ (λ i. of_two join (h.in_parts join id i) (k.in_parts join id i))
    ∙ sym (has_answers join xs ys id)

fits_joined : (rows : RowsValue) (join : Join) (f g : Form) (xs ys : List EntityId) → Fits rows f xs → Fits rows g ys → Fits rows (joined_form join f g) (answers join xs ys)
fits_joined rows join f g xs ys h k =
    let ps : List Query = f.parts join ++ g.parts join in
    let some : 0 < length ps = some_append (f.parts join) (g.parts join) (h.some join) in
    let each : Each Named ps = each_append Named (f.parts join) (g.parts join) (h.each join) (k.each join) in
    let here : 0 < length (arranged ps) = arranged_some ps some in
    let whole : Query = joined_whole join f g in
    let same : answer rows whole ≡ answers join xs ys =
    same_rising (answer rows whole) (answers join xs ys) (written_rises rows join f.whole (arranged ps) here) (answers_rise join xs ys)
    (λ id. has_written rows join f.whole (arranged ps) id here ∙ within_arranged rows join ps id each ∙ in_two rows join f g xs ys h k id) in
    let named : Named whole = written_named join f.whole (arranged ps) here (each_arranged Named ps each) in
    let alone : Fits rows (single whole) (answers join xs ys) = fits_single rows whole (answers join xs ys) same named in
    record {
      same = same;
      named = named;
      some = λ other. elim (same_join other join) as (λ b. 0 < length (parts_or b ps whole)) [ true ↦ some | false ↦ omega arith ];
      each = λ other. elim (same_join other join) as (λ b. Each Named (parts_or b ps whole)) [ true ↦ each | false ↦ (named, tt) ];
      in_parts = λ other id. elim (same_join other join) as (λ b. same_join other join ≡ b → within rows other (parts_or b ps whole) id ≡ has_id (answers join xs ys) id) [
        | true ↦ λ e. subst (λ (j : Join). within rows j ps id ≡ has_id (answers join xs ys) id) (sym (joins_are other join e)) (in_two rows join f g xs ys h k id)
        | false ↦ λ e. alone.in_parts other id
      ] refl;
    }

-- ---- by induction

same_key : (value : Value) → key_of (folded_value value) ≡ key_of value
same_key (Flag flag) = refl
same_key (Int number) = refl
same_key (Text text) = ap (λ t. (3 ∷ t) ++ 0 ∷ []) (folded_twice text)

still_value : (value : Value) → IsTrue (is_value value) → IsTrue (is_value (folded_value value))
still_value (Flag flag) h = h
still_value (Int number) h = h
still_value (Text text) h = folded_text text h

-- two tests, of which the second is passed by what takes its place
second_kept : (a b c : Bool) → (IsTrue b → IsTrue c) → IsTrue (a && b) → IsTrue (a && c)
second_kept a b c h n = both_true (first_so a b n) (h (second_so a b n))

abbrev Kept : RowsValue → Query → Type 0
Kept rows q = Named q → Fits rows (form_of q) (answer rows q)

-- a level that is one part wherever it stands
one : (rows : RowsValue) (z : Query-F Query) (xs : List EntityId) → answer_at rows (map-Query Query (List EntityId) (answer rows) z) ≡ xs
    → IsTrue (named_at (map-Query Query Bool is_named z)) → Fits rows (single (roll-Query z)) xs
one rows z xs e n = fits_single rows (roll-Query z) xs (fold-roll-Query (List EntityId) (answer_at rows) z ∙ e) (fold-roll-Query Bool named_at z ∙ n)

at_level : (rows : RowsValue) (z : Query-F Query) → Parts (Kept rows) z → IsTrue (named_at (map-Query Query Bool is_named z))
    → Fits rows (form_at (map-Query Query Form form_of z)) (answer_at rows (map-Query Query (List EntityId) (answer rows) z))
at_level rows (All k) parts n = one rows (All k) _ refl n
at_level rows (Find k p v) parts n = one rows (Find k p (folded_value v)) _ (ap (λ key. ids_with rows k p (has_key key)) (same_key v))
    (second_kept (is_name_word k) (is_name_word p && is_value v) (is_name_word p && is_value (folded_value v))
    (second_kept (is_name_word p) (is_value v) (is_value (folded_value v)) (still_value v)) n)
at_level rows (Range k p u v) parts n = one rows (Range k p (folded_value u) (folded_value v)) _ (λ i. ids_with rows k p (has_key_within (same_key u i) (same_key v i)))
    (second_kept (is_name_word k) (is_name_word p && (is_value u && is_value v)) (is_name_word p && (is_value (folded_value u) && is_value (folded_value v)))
    (second_kept (is_name_word p) (is_value u && is_value v) (is_value (folded_value u) && is_value (folded_value v))
    (λ m. both_true (still_value u (first_so (is_value u) (is_value v) m)) (still_value v (second_so (is_value u) (is_value v) m)))) n)
at_level rows (Prefix k p x) parts n = one rows (Prefix k p (folded x)) _ (ap (λ t. ids_with rows k p (has_front t)) (folded_twice x))
    (second_kept (is_name_word k) (is_name_word p && is_text x) (is_name_word p && is_text (folded x))
    (second_kept (is_name_word p) (is_text x) (is_text (folded x)) (folded_text x)) n)
at_level rows (With k p) parts n = one rows (With k p) _ refl n
at_level rows (WithLink k l) parts n = one rows (WithLink k l) _ refl n
at_level rows (Linked k l a) parts n = one rows (Linked k l a) _ refl n
at_level rows (LinksOf a l) parts n = one rows (LinksOf a l) _ refl n
at_level rows (Union q r) parts n = fits_joined rows Either (form_of q) (form_of r) (answer rows q) (answer rows r) (parts.0 (first_so (is_named q) (is_named r) n)) (parts.1 (second_so (is_named q) (is_named r) n))
at_level rows (Intersect q r) parts n = fits_joined rows Both (form_of q) (form_of r) (answer rows q) (answer rows r) (parts.0 (first_so (is_named q) (is_named r) n)) (parts.1 (second_so (is_named q) (is_named r) n))
at_level rows (Minus q r) parts n =
    let f = parts.0 (first_so (is_named q) (is_named r) n) in
    let g = parts.1 (second_so (is_named q) (is_named r) n) in
    one rows (Minus (normal_of q) (normal_of r)) _ (λ i. rising (filter (λ id. not (has_id (g.same i) id)) (f.same i))) (both_true f.named g.named)
at_level rows (Targets l q) parts n =
    let f = parts (second_so (is_name_word l) (is_named q) n) in
    one rows (Targets l (normal_of q)) _ (ap (λ ids. rising (flat_map (targets_of rows l) ids)) f.same) (both_true (first_so (is_name_word l) (is_named q) n) f.named)
at_level rows (Sort p d q) parts n =
    let f = parts (second_so (is_name_word p) (is_named q) n) in
    one rows (Sort p d (normal_of q)) _ (ap (sorted_by (sort_cmp rows p d)) f.same) (both_true (first_so (is_name_word p) (is_named q) n) f.named)
at_level rows (Skip c q) parts n =
    let f = parts (second_so (nat_lt c (2 ^ 32)) (is_named q) n) in
    one rows (Skip c (normal_of q)) _ (ap (drop c) f.same) (both_true (first_so (nat_lt c (2 ^ 32)) (is_named q) n) f.named)
at_level rows (Take c q) parts n =
    let f = parts (second_so (nat_lt c (2 ^ 32)) (is_named q) n) in
    one rows (Take c (normal_of q)) _ (ap (take c) f.same) (both_true (first_so (nat_lt c (2 ^ 32)) (is_named q) n) f.named)

kept : (rows : RowsValue) (q : Query) → Kept rows q
kept rows q = by_parts (Kept rows) (λ z parts n. subst (λ (t : Form × List EntityId). Fits rows t.0 t.1)
    (λ i. (sym (fold-roll-Query Form form_at z) i, sym (fold-roll-Query (List EntityId) (answer_at rows) z) i))
    (at_level rows z parts (sym (fold-roll-Query Bool named_at z) ∙ n))) q

pub same_answers : NormalAnswersTheSame
same_answers rows q n = (kept rows q n).same

-- how names are written is no matter of the rows
pub stays_named : NormalStaysNamed
stays_named q n = (kept no_rows q n).named
