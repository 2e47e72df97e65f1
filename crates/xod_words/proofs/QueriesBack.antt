-- The text of a query is read as that query.
use Rattle.std.proofs.Common.{◌≡◌, ℕ, zero, suc, ◌+◌, ◌≤◌, ◌<◌, Bool, true, ◌&&◌, codes, List, [], ◌∷◌, ◌++◌, nat_le, max, Some, refl, ap, sym, ◌∙◌, subst, arith, append_assoc}
use Rattle.std.proofs.lemmas.Bool.{and_parts, le-leb, leb-true}
use Rattle.std.proofs.lemmas.List.{append-nil}
use Rattle.std.specs.Fmt.{decimal}
use Rattle.xod_base.specs.declared.limits.TheConstants.{DEEPEST_QUERY, MOST_PARTS}
use Rattle.xod_base.specs.declared.value.EntityId.{EntityId}
use Rattle.xod_base.specs.declared.value.Value.{Value}
use Rattle.xod_base.specs.declared.query.Direction.{Direction}
use Rattle.xod_base.specs.declared.query.Query.{Query, roll-Query}
use Rattle.xod_base.specs.declared.query.Query.TheVariants as query
use Rattle.xod_base.specs.declared.query.Query.TheVariants.{rolls-All, rolls-Find, rolls-Range, rolls-Prefix, rolls-With, rolls-WithLink, rolls-Linked, rolls-LinksOf, rolls-Union, rolls-Intersect, rolls-Minus, rolls-Targets, rolls-Sort, rolls-Skip, rolls-Take}
use Rattle.xod_base.specs.declared.query.Query.TheOpen.{Query-F}
use Rattle.xod_base.specs.declared.query.Query.TheOpen as level
use Rattle.xod_base.specs.declared.query.Query.TheFolds.{ind-Query, map-Query, fold-roll-Query}
use Rattle.xod_base.specs.Queries.{named_at, is_named, nesting_at, nesting_of, leaves_at, leaves_of}
use Rattle.xod_base.specs.QueryTexts.{id_text, quoted, value_text, direction_text, text_at, query_text}
use Rattle.xod_words.specs.Words.{Word, words_of, no_word}
use Rattle.xod_words.specs.Fronts.{names_at, leaf, all_front, find_front, range_front, prefix_front, with_front, withlink_front, linked_front, from_front, targets_front, sort_front, skip_front, take_front, keyword_front, front_of}
use Rattle.xod_words.specs.Queries.{joined_query, joined, query_above, part_at, vars_from, draft_of, query_of}
use Rattle.xod_words.specs.Laws.{PrintedIsReadBack}
use Rattle.xod_words.specs.declared.draft.Ent.{Ent}
use Rattle.xod_words.specs.declared.draft.Ent.TheVariants.{Id, Var}
use Rattle.xod_words.specs.declared.part.Part.{Part}
use Rattle.xod_words.specs.declared.part.Join.{Join}
use Rattle.xod_words.specs.declared.part.Join.TheVariants as join
use Rattle.xod_words.specs.declared.part.Above.{Above}
use Rattle.xod_words.specs.declared.part.Above.TheVariants as above
use Rattle.xod_words.specs.declared.part.Front.TheVariants.{Leaf, Joining, Over}
use Rattle.xod_words.proofs.NumbersBack.{count_back}
use Rattle.xod_words.proofs.WordsBack.{ends_word, OneWord, blank_first, word_then, plain_word, name_word, count_word, id_word, ent_back, quoted_word, text_back, value_back, value_word, direction_back, direction_word}

-- ---- entity words that are all ids

abbrev IsIds : List Ent → Type 0
IsIds [] = Unit {0}
IsIds (Id id ∷ ents) = IsIds ents
IsIds (Var name ∷ ents) = ⊥

ids_append : (xs ys : List Ent) → IsIds xs → IsIds ys → IsIds (xs ++ ys)
ids_append [] ys p q = q
ids_append (Id id ∷ xs) ys p q = ids_append xs ys p q
ids_append (Var name ∷ xs) ys p q = absurd p

no_vars : (ents : List Ent) (place : ℕ) → IsIds ents → vars_from place ents ≡ []
no_vars [] place ids = refl
no_vars (Id id ∷ ents) place ids = no_vars ents (place + 1) ids
no_vars (Var name ∷ ents) place ids = absurd ids

-- ---- one level

record ReadsBack (query : Query) : Type 0 where
  ents : List Ent
  ids : IsIds ents
  back : (depth : ℕ) (rest : List ℕ) → ends_word rest ≡ true → nesting_of query ≤ depth → leaves_of query ≤ MOST_PARTS → is_named query ≡ true
      → part_at depth (words_of (query_text query ++ rest)) ≡ Some (record { query = query; ents = ents; leaves = leaves_of query }, words_of rest)

-- the same of a query by its form
abbrev LevelBack : Query-F Query → List Ent → Query → Type 0
LevelBack z ents query = (depth : ℕ) (rest : List ℕ) → ends_word rest ≡ true → nesting_at (map-Query Query ℕ nesting_of z) ≤ suc depth
    → leaves_at (map-Query Query ℕ leaves_of z) ≤ MOST_PARTS → named_at (map-Query Query Bool is_named z) ≡ true
    → part_at (suc depth) (words_of (text_at (map-Query Query (List ℕ) query_text z) ++ rest))
    ≡ Some (record { query = query; ents = ents; leaves = leaves_at (map-Query Query ℕ leaves_of z) }, words_of rest)

nesting_pos : (z : Query-F ℕ) → 0 < nesting_at z
nesting_pos (level.Union l r) = omega arith
nesting_pos (level.Intersect l r) = omega arith
nesting_pos (level.Minus l r) = omega arith
nesting_pos (level.Targets link of) = omega arith
nesting_pos (level.Sort prop direction of) = omega arith
nesting_pos (level.Skip count of) = omega arith
nesting_pos (level.Take count of) = omega arith
nesting_pos leaf = omega arith

deep : (z : Query-F Query) (query : Query) (ents : List Ent) → roll-Query z ≡ query → LevelBack z ents query
    → (depth : ℕ) (rest : List ℕ) → ends_word rest ≡ true → nesting_at (map-Query Query ℕ nesting_of z) ≤ depth
    → leaves_at (map-Query Query ℕ leaves_of z) ≤ MOST_PARTS → named_at (map-Query Query Bool is_named z) ≡ true
    → part_at depth (words_of (text_at (map-Query Query (List ℕ) query_text z) ++ rest))
    ≡ Some (record { query = roll-Query z; ents = ents; leaves = leaves_at (map-Query Query ℕ leaves_of z) }, words_of rest)
deep z query ents is h zero rest ends nested few named = absurd (omega (arith, nested, nesting_pos (map-Query Query ℕ nesting_of z)))
deep z query ents is h (suc depth) rest ends nested few named =
    h depth rest ends nested few named
    ∙ ap (λ q. Some (record { query = q; ents = ents; leaves = leaves_at (map-Query Query ℕ leaves_of z) }, words_of rest)) (sym is)

of_level : (z : Query-F Query) (query : Query) (ents : List Ent) → IsIds ents → roll-Query z ≡ query → LevelBack z ents query → ReadsBack (roll-Query z)
of_level z query ents ids is h = record {
  ents = ents;
  ids = ids;
  back = λ depth rest ends nested few named.
      ap (λ text. part_at depth (words_of (text ++ rest))) (fold-roll-Query (List ℕ) text_at z)
      ∙ deep z query ents is h depth rest ends
      (subst (λ (n : ℕ). n ≤ depth) (fold-roll-Query ℕ nesting_at z) nested)
      (subst (λ (n : ℕ). n ≤ MOST_PARTS) (fold-roll-Query ℕ leaves_at z) few)
      (sym (fold-roll-Query Bool named_at z) ∙ named)
      ∙ ap (λ n. Some (record { query = roll-Query z; ents = ents; leaves = n }, words_of rest)) (sym (fold-roll-Query ℕ leaves_at z));
}

-- a word, a space and more, before what follows the query
first_word : (word : Word) → OneWord word → (more rest : List ℕ) → words_of ((word ++ 32 ∷ more) ++ rest) ≡ word ∷ words_of (more ++ rest)
first_word word one more rest = ap words_of (append_assoc word (32 ∷ more) rest) ∙ word_then word one (more ++ rest)

-- ---- queries without parts

leaf_back : (depth : ℕ) (words rest : List Word) (query : Query) (ents : List Ent)
    → front_of words ≡ Some (Leaf (record { query = query; ents = ents; leaves = 1 }), rest)
    → part_at (suc depth) words ≡ Some (record { query = query; ents = ents; leaves = 1 }, rest)
unfolding part_at
leaf_back depth words rest query ents h = rw h refl

all_back : (kind : List ℕ) → LevelBack (level.All kind) [] (query.All kind)
unfolding front_of keyword_front all_front
all_back kind depth rest ends nested few named =
    let words = word_then (codes "all") (plain_word (codes "all") (omega arith) refl) (kind ++ rest)
    ∙ ap (λ more. codes "all" ∷ more) ((name_word kind named).cut rest ends) in
    leaf_back depth _ (words_of rest) (query.All kind) [] (ap front_of words ∙ rw named refl)

find_back : (kind prop : List ℕ) (value : Value) → LevelBack (level.Find kind prop value) [] (query.Find kind prop value)
unfolding front_of keyword_front find_front names_at
find_back kind prop value depth rest ends nested few named =
    let k = and_parts _ _ named in
    let p = and_parts _ _ k.1 in
    let words = word_then (codes "find") (plain_word (codes "find") (omega arith) refl) ((kind ++ 32 ∷ (prop ++ 32 ∷ value_text value)) ++ rest)
    ∙ ap (λ more. codes "find" ∷ more) (first_word kind (name_word kind k.0) (prop ++ 32 ∷ value_text value) rest
    ∙ ap (λ more. kind ∷ more) (first_word prop (name_word prop p.0) (value_text value) rest
    ∙ ap (λ more. prop ∷ more) ((value_word value p.1).cut rest ends))) in
    leaf_back depth _ (words_of rest) (query.Find kind prop value) [] (ap front_of words ∙ rw (k.0, p.0, value_back value p.1) refl)

range_back : (kind prop : List ℕ) (low high : Value) → LevelBack (level.Range kind prop low high) [] (query.Range kind prop low high)
unfolding front_of keyword_front range_front names_at
range_back kind prop low high depth rest ends nested few named =
    let k = and_parts _ _ named in
    let p = and_parts _ _ k.1 in
    let v = and_parts _ _ p.1 in
    let words = word_then (codes "range") (plain_word (codes "range") (omega arith) refl) ((kind ++ 32 ∷ (prop ++ 32 ∷ (value_text low ++ 32 ∷ value_text high))) ++ rest)
    ∙ ap (λ more. codes "range" ∷ more) (first_word kind (name_word kind k.0) (prop ++ 32 ∷ (value_text low ++ 32 ∷ value_text high)) rest
    ∙ ap (λ more. kind ∷ more) (first_word prop (name_word prop p.0) (value_text low ++ 32 ∷ value_text high) rest
    ∙ ap (λ more. prop ∷ more) (first_word (value_text low) (value_word low v.0) (value_text high) rest
    ∙ ap (λ more. value_text low ∷ more) ((value_word high v.1).cut rest ends)))) in
    leaf_back depth _ (words_of rest) (query.Range kind prop low high) [] (ap front_of words ∙ rw (k.0, p.0, value_back low v.0, value_back high v.1) refl)

prefix_back : (kind prop text : List ℕ) → LevelBack (level.Prefix kind prop text) [] (query.Prefix kind prop text)
unfolding front_of keyword_front prefix_front names_at
prefix_back kind prop text depth rest ends nested few named =
    let k = and_parts _ _ named in
    let p = and_parts _ _ k.1 in
    let words = word_then (codes "prefix") (plain_word (codes "prefix") (omega arith) refl) ((kind ++ 32 ∷ (prop ++ 32 ∷ quoted text)) ++ rest)
    ∙ ap (λ more. codes "prefix" ∷ more) (first_word kind (name_word kind k.0) (prop ++ 32 ∷ quoted text) rest
    ∙ ap (λ more. kind ∷ more) (first_word prop (name_word prop p.0) (quoted text) rest
    ∙ ap (λ more. prop ∷ more) ((quoted_word text).cut rest ends))) in
    leaf_back depth _ (words_of rest) (query.Prefix kind prop text) [] (ap front_of words ∙ rw (k.0, p.0, text_back text p.1) refl)

with_back : (kind prop : List ℕ) → LevelBack (level.With kind prop) [] (query.With kind prop)
unfolding front_of keyword_front with_front names_at
with_back kind prop depth rest ends nested few named =
    let k = and_parts _ _ named in
    let words = word_then (codes "with") (plain_word (codes "with") (omega arith) refl) ((kind ++ 32 ∷ prop) ++ rest)
    ∙ ap (λ more. codes "with" ∷ more) (first_word kind (name_word kind k.0) prop rest
    ∙ ap (λ more. kind ∷ more) ((name_word prop k.1).cut rest ends)) in
    leaf_back depth _ (words_of rest) (query.With kind prop) [] (ap front_of words ∙ rw (k.0, k.1) refl)

withlink_back : (kind link : List ℕ) → LevelBack (level.WithLink kind link) [] (query.WithLink kind link)
unfolding front_of keyword_front withlink_front names_at
withlink_back kind link depth rest ends nested few named =
    let k = and_parts _ _ named in
    let words = word_then (codes "withlink") (plain_word (codes "withlink") (omega arith) refl) ((kind ++ 32 ∷ link) ++ rest)
    ∙ ap (λ more. codes "withlink" ∷ more) (first_word kind (name_word kind k.0) link rest
    ∙ ap (λ more. kind ∷ more) ((name_word link k.1).cut rest ends)) in
    leaf_back depth _ (words_of rest) (query.WithLink kind link) [] (ap front_of words ∙ rw (k.0, k.1) refl)

linked_back : (kind link : List ℕ) (target : EntityId) → LevelBack (level.Linked kind link target) (Id target ∷ []) (query.Linked kind link target)
unfolding front_of keyword_front linked_front names_at
linked_back kind link target depth rest ends nested few named =
    let k = and_parts _ _ named in
    let l = and_parts _ _ k.1 in
    let words = word_then (codes "linked") (plain_word (codes "linked") (omega arith) refl) ((kind ++ 32 ∷ (link ++ 32 ∷ id_text target)) ++ rest)
    ∙ ap (λ more. codes "linked" ∷ more) (first_word kind (name_word kind k.0) (link ++ 32 ∷ id_text target) rest
    ∙ ap (λ more. kind ∷ more) (first_word link (name_word link l.0) (id_text target) rest
    ∙ ap (λ more. link ∷ more) ((id_word target l.1).cut rest ends))) in
    leaf_back depth _ (words_of rest) (query.Linked kind link target) (Id target ∷ []) (ap front_of words ∙ rw (k.0, l.0, ent_back target l.1) refl)

from_back : (source : EntityId) (link : List ℕ) → LevelBack (level.LinksOf source link) (Id source ∷ []) (query.LinksOf source link)
unfolding front_of keyword_front from_front
from_back source link depth rest ends nested few named =
    let k = and_parts _ _ named in
    let words = word_then (codes "from") (plain_word (codes "from") (omega arith) refl) ((id_text source ++ 32 ∷ link) ++ rest)
    ∙ ap (λ more. codes "from" ∷ more) (first_word (id_text source) (id_word source k.0) link rest
    ∙ ap (λ more. id_text source ∷ more) ((name_word link k.1).cut rest ends)) in
    leaf_back depth _ (words_of rest) (query.LinksOf source link) (Id source ∷ []) (ap front_of words ∙ rw (ent_back source k.0, k.1) refl)

-- ---- queries with one part

over_back : (depth : ℕ) (words more rest : List Word) (front : Above) (of : Part)
    → front_of words ≡ Some (Over front, more) → part_at depth more ≡ Some (of, rest)
    → part_at (suc depth) words ≡ Some (record of { query = query_above front of.query }, rest)
unfolding part_at
over_back depth words more rest front of h part = rw (h, part) refl

targets_back : (link : List ℕ) (of : Query) (good : ReadsBack of) → LevelBack (level.Targets link of) good.ents (query.Targets link of)
unfolding front_of keyword_front targets_front
targets_back link of good depth rest ends nested few named =
    let k = and_parts _ _ named in
    let words = word_then (codes "targets") (plain_word (codes "targets") (omega arith) refl) ((link ++ 32 ∷ query_text of) ++ rest)
    ∙ ap (λ more. codes "targets" ∷ more) (first_word link (name_word link k.0) (query_text of) rest) in
    over_back depth _ _ (words_of rest) (above.Targets link) _ (ap front_of words ∙ rw k.0 refl)
    (good.back depth rest ends (omega (arith, nested)) few k.1)

sort_back : (prop : List ℕ) (direction : Direction) (of : Query) (good : ReadsBack of) → LevelBack (level.Sort prop direction of) good.ents (query.Sort prop direction of)
unfolding front_of keyword_front sort_front
sort_back prop direction of good depth rest ends nested few named =
    let k = and_parts _ _ named in
    let words = word_then (codes "sort") (plain_word (codes "sort") (omega arith) refl) ((prop ++ 32 ∷ (direction_text direction ++ 32 ∷ query_text of)) ++ rest)
    ∙ ap (λ more. codes "sort" ∷ more) (first_word prop (name_word prop k.0) (direction_text direction ++ 32 ∷ query_text of) rest
    ∙ ap (λ more. prop ∷ more) (first_word (direction_text direction) (direction_word direction) (query_text of) rest)) in
    over_back depth _ _ (words_of rest) (above.Sort prop direction) _ (ap front_of words ∙ rw (k.0, direction_back direction) refl)
    (good.back depth rest ends (omega (arith, nested)) few k.1)

skip_back : (count : ℕ) (of : Query) (good : ReadsBack of) → LevelBack (level.Skip count of) good.ents (query.Skip count of)
unfolding front_of keyword_front skip_front
skip_back count of good depth rest ends nested few named =
    let k = and_parts _ _ named in
    let words = word_then (codes "skip") (plain_word (codes "skip") (omega arith) refl) ((decimal count ++ 32 ∷ query_text of) ++ rest)
    ∙ ap (λ more. codes "skip" ∷ more) (first_word (decimal count) (count_word count k.0) (query_text of) rest) in
    over_back depth _ _ (words_of rest) (above.Skip count) _ (ap front_of words ∙ rw (count_back count k.0) refl)
    (good.back depth rest ends (omega (arith, nested)) few k.1)

take_back : (count : ℕ) (of : Query) (good : ReadsBack of) → LevelBack (level.Take count of) good.ents (query.Take count of)
unfolding front_of keyword_front take_front
take_back count of good depth rest ends nested few named =
    let k = and_parts _ _ named in
    let words = word_then (codes "take") (plain_word (codes "take") (omega arith) refl) ((decimal count ++ 32 ∷ query_text of) ++ rest)
    ∙ ap (λ more. codes "take" ∷ more) (first_word (decimal count) (count_word count k.0) (query_text of) rest) in
    over_back depth _ _ (words_of rest) (above.Take count) _ (ap front_of words ∙ rw (count_back count k.0) refl)
    (good.back depth rest ends (omega (arith, nested)) few k.1)

-- ---- queries with two parts

both_back : (depth : ℕ) (words more behind rest : List Word) (kind : Join) (left right : Part)
    → front_of words ≡ Some (Joining kind, more) → part_at depth more ≡ Some (left, behind) → part_at depth behind ≡ Some (right, rest)
    → left.leaves + right.leaves ≤ MOST_PARTS
    → part_at (suc depth) words ≡ Some (record { query = joined_query kind left.query right.query; ents = left.ents ++ right.ents; leaves = left.leaves + right.leaves }, rest)
unfolding part_at joined
both_back depth words more behind rest kind left right h l r few = rw (h, l, r, le-leb (left.leaves + right.leaves) MOST_PARTS few) refl

-- the parts of a text of two
parts_back : (keyword : Word) (kind : Join) (front : (words : List Word) → front_of (keyword ∷ words) ≡ Some (Joining kind, words)) → OneWord keyword
    → (l r : Query) (left : ReadsBack l) (right : ReadsBack r) (depth : ℕ) (rest : List ℕ) → ends_word rest ≡ true
    → suc (max (nesting_of l) (nesting_of r)) ≤ suc depth → leaves_of l + leaves_of r ≤ MOST_PARTS → (is_named l && is_named r) ≡ true
    → part_at (suc depth) (words_of (keyword ++ 32 ∷ ((query_text l ++ 32 ∷ query_text r) ++ rest)))
    ≡ Some (record { query = joined_query kind l r; ents = left.ents ++ right.ents; leaves = leaves_of l + leaves_of r }, words_of rest)
parts_back keyword kind front one l r left right depth rest ends nested few named =
    let k = and_parts (is_named l) _ named in
    let words = word_then keyword one ((query_text l ++ 32 ∷ query_text r) ++ rest) in
    let first = ap (λ bytes. part_at depth (words_of bytes)) (append_assoc (query_text l) (32 ∷ query_text r) rest)
    ∙ left.back depth (32 ∷ (query_text r ++ rest)) refl (omega (arith, nested)) (omega (arith, few)) k.0 in
    let second = ap (part_at depth) (blank_first (query_text r ++ rest)) ∙ right.back depth rest ends (omega (arith, nested)) (omega (arith, few)) k.1 in
    both_back depth _ _ _ (words_of rest) kind _ _ (ap front_of words ∙ front _) first second few

union_back : (l r : Query) (left : ReadsBack l) (right : ReadsBack r) → LevelBack (level.Union l r) (left.ents ++ right.ents) (query.Union l r)
unfolding front_of keyword_front
union_back l r left right = parts_back (codes "union") join.Union (λ words. refl) (plain_word (codes "union") (omega arith) refl) l r left right

intersect_back : (l r : Query) (left : ReadsBack l) (right : ReadsBack r) → LevelBack (level.Intersect l r) (left.ents ++ right.ents) (query.Intersect l r)
unfolding front_of keyword_front
intersect_back l r left right = parts_back (codes "intersect") join.Intersect (λ words. refl) (plain_word (codes "intersect") (omega arith) refl) l r left right

minus_back : (l r : Query) (left : ReadsBack l) (right : ReadsBack r) → LevelBack (level.Minus l r) (left.ents ++ right.ents) (query.Minus l r)
unfolding front_of keyword_front
minus_back l r left right = parts_back (codes "minus") join.Minus (λ words. refl) (plain_word (codes "minus") (omega arith) refl) l r left right

-- ---- all queries

abbrev Good : Type 0
Good = (query : Query) × ReadsBack query

at_level : (y : Query-F Good) → ReadsBack (roll-Query (map-Query Good Query (λ e. e.0) y))
at_level (level.All kind) = of_level _ _ [] tt (rolls-All kind) (all_back kind)
at_level (level.Find kind prop value) = of_level _ _ [] tt (rolls-Find kind prop value) (find_back kind prop value)
at_level (level.Range kind prop low high) = of_level _ _ [] tt (rolls-Range kind prop low high) (range_back kind prop low high)
at_level (level.Prefix kind prop text) = of_level _ _ [] tt (rolls-Prefix kind prop text) (prefix_back kind prop text)
at_level (level.With kind prop) = of_level _ _ [] tt (rolls-With kind prop) (with_back kind prop)
at_level (level.WithLink kind link) = of_level _ _ [] tt (rolls-WithLink kind link) (withlink_back kind link)
at_level (level.Linked kind link target) = of_level _ _ (Id target ∷ []) tt (rolls-Linked kind link target) (linked_back kind link target)
at_level (level.LinksOf source link) = of_level _ _ (Id source ∷ []) tt (rolls-LinksOf source link) (from_back source link)
at_level (level.Union l r) = of_level _ _ (l.1.ents ++ r.1.ents) (ids_append l.1.ents r.1.ents l.1.ids r.1.ids) (rolls-Union l.0 r.0) (union_back l.0 r.0 l.1 r.1)
at_level (level.Intersect l r) = of_level _ _ (l.1.ents ++ r.1.ents) (ids_append l.1.ents r.1.ents l.1.ids r.1.ids) (rolls-Intersect l.0 r.0) (intersect_back l.0 r.0 l.1 r.1)
at_level (level.Minus l r) = of_level _ _ (l.1.ents ++ r.1.ents) (ids_append l.1.ents r.1.ents l.1.ids r.1.ids) (rolls-Minus l.0 r.0) (minus_back l.0 r.0 l.1 r.1)
at_level (level.Targets link of) = of_level _ _ of.1.ents of.1.ids (rolls-Targets link of.0) (targets_back link of.0 of.1)
at_level (level.Sort prop direction of) = of_level _ _ of.1.ents of.1.ids (rolls-Sort prop direction of.0) (sort_back prop direction of.0 of.1)
at_level (level.Skip count of) = of_level _ _ of.1.ents of.1.ids (rolls-Skip count of.0) (skip_back count of.0 of.1)
at_level (level.Take count of) = of_level _ _ of.1.ents of.1.ids (rolls-Take count of.0) (take_back count of.0 of.1)

reads_back : (query : Query) → ReadsBack query
reads_back query = ind-Query (λ q. ReadsBack q) (λ x y e. subst (λ (z : Query-F Query). ReadsBack (roll-Query z)) e (at_level y)) query

pub printed_is_read_back : PrintedIsReadBack
unfolding query_of draft_of no_word words_of
printed_is_read_back query named limits =
    let good = reads_back query in
    let within = and_parts (nat_le (nesting_of query) DEEPEST_QUERY) _ limits in
    let part = ap (λ bytes. part_at DEEPEST_QUERY (words_of bytes)) (sym (append-nil (query_text query)))
    ∙ good.back DEEPEST_QUERY [] refl (leb-true (nesting_of query) DEEPEST_QUERY within.0) (leb-true (leaves_of query) MOST_PARTS within.1) named in
    rw (part, no_vars good.ents 0 good.ids) refl
