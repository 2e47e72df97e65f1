-- Two queries with one text are the same query.
use Rattle.std.proofs.Common.{◌≡◌, ℕ, ◌+◌, ◌*◌, ◌^◌, Bool, true, ◌&&◌, List, [], ◌∷◌, ◌++◌, refl, sym, ap, ◌∙◌, arith, subst, IsTrue, nat_lt, append_assoc, codes}
use Rattle.std.specs.Cmp.{first_so, second_so}
use Rattle.std.specs.List.{list_all}
use Rattle.std.specs.Fmt.{decimal}
use Rattle.xod_base.specs.declared.value.EntityId.{EntityId}
use Rattle.xod_base.specs.declared.value.Value.{Value}
use Rattle.xod_base.specs.declared.query.Direction.{Direction}
use Rattle.xod_base.specs.declared.query.Query.{Query, roll-Query}
use Rattle.xod_base.specs.declared.query.Query.TheOpen.{Query-F}
use Rattle.xod_base.specs.declared.query.Query.TheOpen.{All, Find, Range, Prefix, With, WithLink, Linked, LinksOf, Union, Intersect, Minus, Targets, Sort, Skip, Take}
use Rattle.xod_base.specs.declared.query.Query.TheFolds.{map-Query, fold-roll-Query}
use Rattle.xod_base.specs.Names.{is_name_word}
use Rattle.xod_base.specs.Queries.{is_id, is_named, named_at}
use Rattle.xod_base.specs.QueryTexts.{direction_text, id_text, query_text, quoted, text_at, value_text}
use Rattle.xod_base.specs.Text.{is_text}
use Rattle.xod_base.specs.Values.{is_value}
use Rattle.xod_handle.specs.Laws.{TextsTell}
use Rattle.xod_handle.proofs.Inductions.{Parts, by_parts}
use Rattle.xod_handle.proofs.WordEnds.{Ends, bytes_above, word_ends, name_ends, count_ends, id_ends, direction_ends, quoted_ends, value_ends}

-- ---- the first word of a text

abbrev keyword : Query-F (List ℕ) → List ℕ
keyword (All k) = codes "all"
keyword (Find k p v) = codes "find"
keyword (Range k p u v) = codes "range"
keyword (Prefix k p x) = codes "prefix"
keyword (With k p) = codes "with"
keyword (WithLink k l) = codes "withlink"
keyword (Linked k l a) = codes "linked"
keyword (LinksOf a l) = codes "from"
keyword (Union q r) = codes "union"
keyword (Intersect q r) = codes "intersect"
keyword (Minus q r) = codes "minus"
keyword (Targets l q) = codes "targets"
keyword (Sort p d q) = codes "sort"
keyword (Skip c q) = codes "skip"
keyword (Take c q) = codes "take"

-- what stands behind it and a space
abbrev behind : Query-F (List ℕ) → List ℕ
behind (All k) = k
behind (Find k p v) = k ++ 32 ∷ (p ++ 32 ∷ (value_text v))
behind (Range k p u v) = k ++ 32 ∷ (p ++ 32 ∷ (value_text u ++ 32 ∷ (value_text v)))
behind (Prefix k p x) = k ++ 32 ∷ (p ++ 32 ∷ (quoted x))
behind (With k p) = k ++ 32 ∷ p
behind (WithLink k l) = k ++ 32 ∷ l
behind (Linked k l a) = k ++ 32 ∷ (l ++ 32 ∷ (id_text a))
behind (LinksOf a l) = id_text a ++ 32 ∷ l
behind (Union q r) = q ++ 32 ∷ r
behind (Intersect q r) = q ++ 32 ∷ r
behind (Minus q r) = q ++ 32 ∷ r
behind (Targets l q) = l ++ 32 ∷ q
behind (Sort p d q) = p ++ 32 ∷ (direction_text d ++ 32 ∷ q)
behind (Skip c q) = decimal c ++ 32 ∷ q
behind (Take c q) = decimal c ++ 32 ∷ q

text_is : (level : Query-F (List ℕ)) → text_at level ≡ keyword level ++ 32 ∷ behind level
text_is (All k) = refl
text_is (Find k p v) = refl
text_is (Range k p u v) = refl
text_is (Prefix k p x) = refl
text_is (With k p) = refl
text_is (WithLink k l) = refl
text_is (Linked k l a) = refl
text_is (LinksOf a l) = refl
text_is (Union q r) = refl
text_is (Intersect q r) = refl
text_is (Minus q r) = refl
text_is (Targets l q) = refl
text_is (Sort p d q) = refl
text_is (Skip c q) = refl
text_is (Take c q) = refl

no_space : (level : Query-F (List ℕ)) → IsTrue (list_all (nat_lt 32) (keyword level))
no_space (All k) = refl
no_space (Find k p v) = refl
no_space (Range k p u v) = refl
no_space (Prefix k p x) = refl
no_space (With k p) = refl
no_space (WithLink k l) = refl
no_space (Linked k l a) = refl
no_space (LinksOf a l) = refl
no_space (Union q r) = refl
no_space (Intersect q r) = refl
no_space (Minus q r) = refl
no_space (Targets l q) = refl
no_space (Sort p d q) = refl
no_space (Skip c q) = refl
no_space (Take c q) = refl

-- a number for each word, by which two words are told apart
abbrev number : List ℕ → ℕ
number [] = 0
number (byte ∷ bytes) = byte + 256 * number bytes

-- ---- fields

-- what is written of a field, and whether it can be written
record Field (A : Type 0) : Type 0 where
  test : A → Bool
  text : A → List ℕ

-- a field is told by its text, whatever stands behind a space after it
record IsTold {A : Type 0} (field : Field A) (x : A) : Type 0 where
  ends : (y : A) → IsTrue (field.test x) → IsTrue (field.test y) → (s t : List ℕ) → field.text x ++ 32 ∷ s ≡ field.text y ++ 32 ∷ t → Ends x y s t

abbrev name : Field (List ℕ)
name = record { test = is_name_word; text = λ x. x }

abbrev value : Field Value
value = record { test = is_value; text = value_text }

abbrev prefix : Field (List ℕ)
prefix = record { test = is_text; text = quoted }

abbrev id : Field EntityId
id = record { test = is_id; text = id_text }

abbrev count : Field ℕ
count = record { test = λ n. nat_lt n (2 ^ 32); text = decimal }

abbrev direction : Field Direction
direction = record { test = λ d. true; text = direction_text }

abbrev part : Field Query
part = record { test = is_named; text = query_text }

-- one field behind another
abbrev pair : {A B : Type 0} → Field A → Field B → Field (A × B)
pair f g = record { test = λ p. f.test p.0 && g.test p.1; text = λ p. f.text p.0 ++ 32 ∷ g.text p.1 }

name_told : (x : List ℕ) → IsTold name x
name_told x = record { ends = λ y n m s t e. name_ends x y s t n m e }

value_told : (x : Value) → IsTold value x
value_told x = record { ends = λ y n m s t e. value_ends x y s t n m e }

prefix_told : (x : List ℕ) → IsTold prefix x
prefix_told x = record { ends = λ y n m s t e. quoted_ends x y s t e }

id_told : (x : EntityId) → IsTold id x
id_told x = record { ends = λ y n m s t e. id_ends x y s t n m e }

count_told : (x : ℕ) → IsTold count x
count_told x = record { ends = λ y n m s t e. count_ends x y s t n m e }

direction_told : (x : Direction) → IsTold direction x
direction_told x = record { ends = λ y n m s t e. direction_ends x y s t e }

both : {A B : Type 0} {f : Field A} {g : Field B} {x : A} {y : B} → IsTold f x → IsTold g y → IsTold (pair f g) (x, y)
both {f = f} {g = g} {x = x} {y = y} h k = record {
  ends = λ z n m s t e.
      let one = h.ends z.0 (first_so (f.test x) (g.test y) n) (first_so (f.test z.0) (g.test z.1) m) (g.text y ++ 32 ∷ s) (g.text z.1 ++ 32 ∷ t)
      (sym (append_assoc (f.text x) (32 ∷ g.text y) (32 ∷ s)) ∙ e ∙ append_assoc (f.text z.0) (32 ∷ g.text z.1) (32 ∷ t)) in
      let other = k.ends z.1 (second_so (f.test x) (g.test y) n) (second_so (f.test z.0) (g.test z.1) m) s t one.1 in
      ((λ i. (one.0 i, other.0 i)), other.1);
}

-- ---- one level

abbrev texts : Query-F Query → Query-F (List ℕ)
texts level = map-Query Query (List ℕ) query_text level

abbrev names : Query-F Query → Query-F Bool
names level = map-Query Query Bool is_named level

-- a query of fields that are told is told by them
by_fields : {A : Type 0} {f : Field A} {x : A} (make : A → Query-F Query) → IsTold f x → (y : A) → IsTrue (f.test x) → IsTrue (f.test y) → (s t : List ℕ)
    → f.text x ++ 32 ∷ s ≡ f.text y ++ 32 ∷ t → Ends (roll-Query (make x)) (roll-Query (make y)) s t
by_fields make h y n m s t e = let told = h.ends y n m s t e in (ap (λ z. roll-Query (make z)) told.0, told.1)

-- two levels with one first word have one form, and their fields tell them
level : (y z : Query-F Query) → Parts (IsTold part) y → IsTrue (named_at (names y)) → IsTrue (named_at (names z)) → number (keyword (texts y)) ≡ number (keyword (texts z)) → (s t : List ℕ)
    → behind (texts y) ++ 32 ∷ s ≡ behind (texts z) ++ 32 ∷ t → Ends (roll-Query y) (roll-Query z) s t
level (All k) (All k2) parts n m same s t e = by_fields All (name_told k) k2 n m s t e
level (Find k p v) (Find k2 p2 v2) parts n m same s t e =
    by_fields (λ f. Find f.0 f.1.0 f.1.1) (both (name_told k) (both (name_told p) (value_told v))) (k2, (p2, v2)) n m s t e
level (Range k p u v) (Range k2 p2 u2 v2) parts n m same s t e =
    by_fields (λ f. Range f.0 f.1.0 f.1.1.0 f.1.1.1) (both (name_told k) (both (name_told p) (both (value_told u) (value_told v)))) (k2, (p2, (u2, v2))) n m s t e
level (Prefix k p x) (Prefix k2 p2 x2) parts n m same s t e =
    by_fields (λ f. Prefix f.0 f.1.0 f.1.1) (both (name_told k) (both (name_told p) (prefix_told x))) (k2, (p2, x2)) n m s t e
level (With k p) (With k2 p2) parts n m same s t e = by_fields (λ f. With f.0 f.1) (both (name_told k) (name_told p)) (k2, p2) n m s t e
level (WithLink k l) (WithLink k2 l2) parts n m same s t e = by_fields (λ f. WithLink f.0 f.1) (both (name_told k) (name_told l)) (k2, l2) n m s t e
level (Linked k l a) (Linked k2 l2 a2) parts n m same s t e =
    by_fields (λ f. Linked f.0 f.1.0 f.1.1) (both (name_told k) (both (name_told l) (id_told a))) (k2, (l2, a2)) n m s t e
level (LinksOf a l) (LinksOf a2 l2) parts n m same s t e = by_fields (λ f. LinksOf f.0 f.1) (both (id_told a) (name_told l)) (a2, l2) n m s t e
level (Union q r) (Union q2 r2) parts n m same s t e = by_fields (λ f. Union f.0 f.1) (both parts.0 parts.1) (q2, r2) n m s t e
level (Intersect q r) (Intersect q2 r2) parts n m same s t e = by_fields (λ f. Intersect f.0 f.1) (both parts.0 parts.1) (q2, r2) n m s t e
level (Minus q r) (Minus q2 r2) parts n m same s t e = by_fields (λ f. Minus f.0 f.1) (both parts.0 parts.1) (q2, r2) n m s t e
level (Targets l q) (Targets l2 q2) parts n m same s t e = by_fields (λ f. Targets f.0 f.1) (both (name_told l) parts) (l2, q2) n m s t e
level (Sort p d q) (Sort p2 d2 q2) parts n m same s t e =
    by_fields (λ f. Sort f.0 f.1.0 f.1.1) (both (name_told p) (both (direction_told d) parts)) (p2, (d2, q2)) n m s t e
level (Skip c q) (Skip c2 q2) parts n m same s t e = by_fields (λ f. Skip f.0 f.1) (both (count_told c) parts) (c2, q2) n m s t e
level (Take c q) (Take c2 q2) parts n m same s t e = by_fields (λ f. Take f.0 f.1) (both (count_told c) parts) (c2, q2) n m s t e
level y z parts n m same s t e = absurd (omega (arith, same))

-- ---- all queries

told : (y z : Query-F Query) → Parts (IsTold part) y → IsTrue (is_named (roll-Query y)) → IsTrue (is_named (roll-Query z)) → (s t : List ℕ)
    → query_text (roll-Query y) ++ 32 ∷ s ≡ query_text (roll-Query z) ++ 32 ∷ t → Ends (roll-Query y) (roll-Query z) s t
told y z parts n m s t e =
    let this = fold-roll-Query (List ℕ) text_at y ∙ text_is (texts y) in
    let that = fold-roll-Query (List ℕ) text_at z ∙ text_is (texts z) in
    let words = word_ends 32 (keyword (texts y)) (keyword (texts z)) (behind (texts y) ++ 32 ∷ s) (behind (texts z) ++ 32 ∷ t)
    (bytes_above (keyword (texts y)) (no_space (texts y))) (bytes_above (keyword (texts z)) (no_space (texts z)))
    (sym (append_assoc (keyword (texts y)) (32 ∷ behind (texts y)) (32 ∷ s)) ∙ (λ i. sym this i ++ 32 ∷ s) ∙ e
    ∙ (λ i. that i ++ 32 ∷ t) ∙ append_assoc (keyword (texts z)) (32 ∷ behind (texts z)) (32 ∷ t)) in
    level y z parts (subst IsTrue (fold-roll-Query Bool named_at y) n) (subst IsTrue (fold-roll-Query Bool named_at z) m) (ap number words.0) s t words.1

tells : (q : Query) → IsTold part q
tells q = by_parts (IsTold part) (λ y parts. record {
  ends = λ r n m s t e. by_parts (λ r. IsTrue (is_named r)
      → query_text (roll-Query y) ++ 32 ∷ s ≡ query_text r ++ 32 ∷ t → Ends (roll-Query y) r s t) (λ z _ m e. told y z parts n m s t e) r m e;
}) q

pub texts_tell : TextsTell
texts_tell q r n m e = ((tells q).ends r n m [] [] (ap (λ l. l ++ 32 ∷ []) e)).0
