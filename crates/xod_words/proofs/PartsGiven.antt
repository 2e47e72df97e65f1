-- What holds of each query that is read, and of its parts.
use Rattle.std.proofs.Common.{◌≡◌, ℕ, zero, suc, ◌+◌, ◌^◌, ◌≤◌, lit≤, Bool, true, codes, List, [], ◌∷◌, ◌++◌, length, Option, Some, refl, ap, sym, ◌∙◌, subst, arith, nat_le, nat_lt, max, length-append}
use Rattle.std.specs.List.{list_all}
use Rattle.std.proofs.lemmas.Bool.{and_from, and_parts, le-leb, lt-ltb}
use Rattle.std.proofs.lemmas.Bool.Decides.{nat_tests}
use Rattle.std.proofs.lemmas.List.Folds.{list_all-append}
use Rattle.xod_base.specs.declared.limits.TheConstants.{DEEPEST_QUERY, MOST_PARTS}
use Rattle.xod_base.specs.declared.query.Query.{Query, roll-Query}
use Rattle.xod_base.specs.declared.query.Query.TheVariants.{rolls-All, rolls-Find, rolls-Range, rolls-Prefix, rolls-With, rolls-WithLink, rolls-Linked, rolls-LinksOf, rolls-Union, rolls-Intersect, rolls-Minus, rolls-Targets, rolls-Sort, rolls-Skip, rolls-Take}
use Rattle.xod_base.specs.declared.query.Query.TheOpen.{Query-F}
use Rattle.xod_base.specs.declared.query.Query.TheOpen as level
use Rattle.xod_base.specs.declared.query.Query.TheFolds.{fold-Query, map-Query, fold-roll-Query}
use Rattle.xod_base.specs.Names.{is_name_word}
use Rattle.xod_base.specs.Queries.{named_at, is_named, nesting_at, nesting_of, leaves_at, leaves_of, is_within_limits}
use Rattle.xod_words.specs.Words.{Word, is_word, first_of, no_word}
use Rattle.xod_words.specs.Names.{name_of}
use Rattle.xod_words.specs.Numbers.{count_of}
use Rattle.xod_words.specs.Values.{ent_of, text_of, value_of}
use Rattle.xod_words.specs.Fronts.{names_at, leaf, leaf_with, placed, all_front, find_front, range_front, prefix_front, with_front, withlink_front, linked_front, from_front, targets_front, direction_of, sort_front, skip_front, take_front, keyword_front, front_of}
use Rattle.xod_words.specs.Queries.{joined_query, joined, query_above, behind_front, part_at, vars_from, draft_from, draft_of}
use Rattle.xod_words.specs.Drafts.{is_ent, entities_at, entities_of, rise_from, is_var_use, is_draft}
use Rattle.xod_words.specs.declared.draft.Ent.{Ent}
use Rattle.xod_words.specs.declared.draft.Ent.TheVariants.{Id, Var}
use Rattle.xod_words.specs.declared.draft.VarUse.{VarUse}
use Rattle.xod_words.specs.declared.draft.Draft.{Draft}
use Rattle.xod_words.specs.declared.part.Part.{Part}
use Rattle.xod_words.specs.declared.part.Join.{Join}
use Rattle.xod_words.specs.declared.part.Join.TheVariants as join
use Rattle.xod_words.specs.declared.part.Above.{Above}
use Rattle.xod_words.specs.declared.part.Above.TheVariants as above
use Rattle.xod_words.specs.declared.part.Front.{Front}
use Rattle.xod_words.specs.declared.part.Front.TheVariants.{Leaf, Joining, Over}
use Rattle.xod_words.proofs.Gives.{Gives, none_gives, some_gives, choice_gives, when_gives, then_gives, after, first_gives}
use Rattle.xod_words.proofs.WordsGiven.{Named, name_gives, Counted, count_gives, IsText, text_gives, Valued, value_gives, IsEnt, ent_gives}

-- a part that is nested no deeper than this
pub record GoodPart (depth : ℕ) (part : Part) : Type 0 where
  pub named : is_named part.query ≡ true
  pub nested : nesting_of part.query ≤ depth
  pub counted : part.leaves ≡ leaves_of part.query
  pub few : part.leaves ≤ MOST_PARTS
  pub placed : length part.ents ≡ entities_of part.query
  pub fits : length part.ents ≤ part.leaves
  pub ents : list_all is_ent part.ents ≡ true

-- a part, from one level of its query
of_level : (depth : ℕ) (z : Query-F Query) (part : Part) → roll-Query z ≡ part.query
    → named_at (map-Query Query Bool is_named z) ≡ true
    → nesting_at (map-Query Query ℕ nesting_of z) ≤ depth
    → part.leaves ≡ leaves_at (map-Query Query ℕ leaves_of z)
    → part.leaves ≤ MOST_PARTS
    → length part.ents ≡ entities_at (map-Query Query ℕ entities_of z)
    → length part.ents ≤ part.leaves
    → list_all is_ent part.ents ≡ true
    → GoodPart depth part
of_level depth z part is named nested counted few placed fits ents =
    let one : (B : Type 0) (f : Query-F B → B) → fold-Query B f part.query ≡ f (map-Query Query B (fold-Query B f) z) = λ B f. ap (fold-Query B f) (sym is) ∙ fold-roll-Query B f z in
    record {
      named = one Bool named_at ∙ named;
      nested = subst (λ (n : ℕ). n ≤ depth) (sym (one ℕ nesting_at)) nested;
      counted = counted ∙ sym (one ℕ leaves_at);
      few = few;
      placed = placed ∙ sym (one ℕ entities_at);
      fits = fits;
      ents = ents;
    }

-- ---- fronts

abbrev is_above : Above → Bool
is_above (above.Targets link) = is_name_word link
is_above (above.Sort prop direction) = is_name_word prop
is_above (above.Skip count) = nat_lt count (2 ^ 32)
is_above (above.Take count) = nat_lt count (2 ^ 32)

abbrev GoodFront : Front → Type 0
GoodFront (Leaf part) = GoodPart 1 part
GoodFront (Joining join) = Unit {0}
GoodFront (Over above) = is_above above ≡ true

abbrev GoodFound : (Front × List Word) → Type 0
GoodFound found = GoodFront found.0

-- a query without parts
leaf_good : (z : Query-F Query) (query : Query) → roll-Query z ≡ query → named_at (map-Query Query Bool is_named z) ≡ true
    → nesting_at (map-Query Query ℕ nesting_of z) ≡ 1 → leaves_at (map-Query Query ℕ leaves_of z) ≡ 1
    → entities_at (map-Query Query ℕ entities_of z) ≡ 0 → (rest : List Word) → Gives GoodFound (Some (leaf query, rest))
leaf_good z query is named nested counted placed rest =
    some_gives GoodFound (leaf query, rest)
    (of_level 1 z (record { query = query; ents = []; leaves = 1 }) is named (omega (arith, nested)) (sym counted) (lit≤ tt) (sym placed) (lit≤ tt) refl)

leaf_with_good : (z : Query-F Query) (query : Query) (ent : Ent) → roll-Query z ≡ query → named_at (map-Query Query Bool is_named z) ≡ true
    → nesting_at (map-Query Query ℕ nesting_of z) ≡ 1 → leaves_at (map-Query Query ℕ leaves_of z) ≡ 1
    → entities_at (map-Query Query ℕ entities_of z) ≡ 1 → is_ent ent ≡ true → (rest : List Word) → Gives GoodFound (Some (leaf_with query ent, rest))
leaf_with_good z query ent is named nested counted placed h rest =
    some_gives GoodFound (leaf_with query ent, rest)
    (of_level 1 z (record { query = query; ents = ent ∷ []; leaves = 1 }) is named (omega (arith, nested)) (sym counted) (lit≤ tt) (sym placed) (lit≤ tt) (and_from _ _ h refl))

-- two names, and the words behind them
abbrev BothNamed : ((List ℕ × List ℕ) × List Word) → Type 0
BothNamed found = (is_name_word found.0.0 ≡ true) × (is_name_word found.0.1 ≡ true)

names_give : (words : List Word) → Gives BothNamed (names_at words)
unfolding names_at
names_give words =
    then_gives (λ found. Named found.0) BothNamed (first_of name_of words) _ (first_gives Named name_of name_gives words) (λ first f.
    then_gives (λ found. Named found.0) BothNamed (first_of name_of first.1) _ (first_gives Named name_of name_gives first.1) (λ second s.
    some_gives BothNamed _ (f, s)))

all_gives : (words : List Word) → Gives GoodFound (all_front words)
unfolding all_front
all_gives words =
    then_gives (λ found. Named found.0) GoodFound (first_of name_of words) _ (first_gives Named name_of name_gives words) (λ kind k.
    leaf_good (level.All kind.0) _ (rolls-All kind.0) k refl refl refl kind.1)

find_gives : (words : List Word) → Gives GoodFound (find_front words)
unfolding find_front
find_gives words =
    then_gives BothNamed GoodFound (names_at words) _ (names_give words) (λ names n.
    then_gives (λ found. Valued found.0) GoodFound (first_of value_of names.1) _ (first_gives Valued value_of value_gives names.1) (λ value v.
    leaf_good (level.Find names.0.0 names.0.1 value.0) _ (rolls-Find names.0.0 names.0.1 value.0) (and_from _ _ n.0 (and_from _ _ n.1 v)) refl refl refl value.1))

range_gives : (words : List Word) → Gives GoodFound (range_front words)
unfolding range_front
range_gives words =
    then_gives BothNamed GoodFound (names_at words) _ (names_give words) (λ names n.
    then_gives (λ found. Valued found.0) GoodFound (first_of value_of names.1) _ (first_gives Valued value_of value_gives names.1) (λ low v.
    then_gives (λ found. Valued found.0) GoodFound (first_of value_of low.1) _ (first_gives Valued value_of value_gives low.1) (λ high w.
    leaf_good (level.Range names.0.0 names.0.1 low.0 high.0) _ (rolls-Range names.0.0 names.0.1 low.0 high.0) (and_from _ _ n.0 (and_from _ _ n.1 (and_from _ _ v w))) refl refl refl high.1)))

prefix_gives : (words : List Word) → Gives GoodFound (prefix_front words)
unfolding prefix_front
prefix_gives words =
    then_gives BothNamed GoodFound (names_at words) _ (names_give words) (λ names n.
    then_gives (λ found. IsText found.0) GoodFound (first_of text_of names.1) _ (first_gives IsText text_of text_gives names.1) (λ text t.
    leaf_good (level.Prefix names.0.0 names.0.1 text.0) _ (rolls-Prefix names.0.0 names.0.1 text.0) (and_from _ _ n.0 (and_from _ _ n.1 t)) refl refl refl text.1))

with_gives : (words : List Word) → Gives GoodFound (with_front words)
unfolding with_front
with_gives words =
    then_gives BothNamed GoodFound (names_at words) _ (names_give words) (λ names n.
    leaf_good (level.With names.0.0 names.0.1) _ (rolls-With names.0.0 names.0.1) (and_from _ _ n.0 n.1) refl refl refl names.1)

withlink_gives : (words : List Word) → Gives GoodFound (withlink_front words)
unfolding withlink_front
withlink_gives words =
    then_gives BothNamed GoodFound (names_at words) _ (names_give words) (λ names n.
    leaf_good (level.WithLink names.0.0 names.0.1) _ (rolls-WithLink names.0.0 names.0.1) (and_from _ _ n.0 n.1) refl refl refl names.1)

linked_gives : (words : List Word) → Gives GoodFound (linked_front words)
unfolding linked_front
linked_gives words =
    then_gives BothNamed GoodFound (names_at words) _ (names_give words) (λ names n.
    then_gives (λ found. IsEnt found.0) GoodFound (first_of ent_of names.1) _ (first_gives IsEnt ent_of ent_gives names.1) (λ ent e.
    leaf_with_good (level.Linked names.0.0 names.0.1 (placed ent.0)) _ ent.0 (rolls-Linked names.0.0 names.0.1 (placed ent.0)) (and_from _ _ n.0 (and_from _ _ n.1 e.place)) refl refl refl e.is ent.1))

from_gives : (words : List Word) → Gives GoodFound (from_front words)
unfolding from_front
from_gives words =
    then_gives (λ found. IsEnt found.0) GoodFound (first_of ent_of words) _ (first_gives IsEnt ent_of ent_gives words) (λ ent e.
    then_gives (λ found. Named found.0) GoodFound (first_of name_of ent.1) _ (first_gives Named name_of name_gives ent.1) (λ link l.
    leaf_with_good (level.LinksOf (placed ent.0) link.0) _ ent.0 (rolls-LinksOf (placed ent.0) link.0) (and_from _ _ e.place l) refl refl refl e.is link.1))

targets_gives : (words : List Word) → Gives GoodFound (targets_front words)
unfolding targets_front
targets_gives words =
    then_gives (λ found. Named found.0) GoodFound (first_of name_of words) _ (first_gives Named name_of name_gives words) (λ link l.
    some_gives GoodFound _ l)

sort_gives : (words : List Word) → Gives GoodFound (sort_front words)
unfolding sort_front
sort_gives words =
    then_gives (λ found. Named found.0) GoodFound (first_of name_of words) _ (first_gives Named name_of name_gives words) (λ prop p.
    after GoodFound (first_of direction_of prop.1) _ (λ direction. some_gives GoodFound _ p))

skip_gives : (words : List Word) → Gives GoodFound (skip_front words)
unfolding skip_front
skip_gives words =
    then_gives (λ found. Counted found.0) GoodFound (first_of count_of words) _ (first_gives Counted count_of count_gives words) (λ count n.
    some_gives GoodFound _ n)

take_gives : (words : List Word) → Gives GoodFound (take_front words)
unfolding take_front
take_gives words =
    then_gives (λ found. Counted found.0) GoodFound (first_of count_of words) _ (first_gives Counted count_of count_gives words) (λ count n.
    some_gives GoodFound _ n)

keyword_gives : (word : Word) (words : List Word) → Gives GoodFound (keyword_front word words)
unfolding keyword_front
keyword_gives word words =
    choice_gives GoodFound (is_word word (codes "all")) _ _ (all_gives words)
    (choice_gives GoodFound (is_word word (codes "find")) _ _ (find_gives words)
    (choice_gives GoodFound (is_word word (codes "range")) _ _ (range_gives words)
    (choice_gives GoodFound (is_word word (codes "prefix")) _ _ (prefix_gives words)
    (choice_gives GoodFound (is_word word (codes "with")) _ _ (with_gives words)
    (choice_gives GoodFound (is_word word (codes "withlink")) _ _ (withlink_gives words)
    (choice_gives GoodFound (is_word word (codes "linked")) _ _ (linked_gives words)
    (choice_gives GoodFound (is_word word (codes "from")) _ _ (from_gives words)
    (choice_gives GoodFound (is_word word (codes "union")) _ _ (some_gives GoodFound _ tt)
    (choice_gives GoodFound (is_word word (codes "intersect")) _ _ (some_gives GoodFound _ tt)
    (choice_gives GoodFound (is_word word (codes "minus")) _ _ (some_gives GoodFound _ tt)
    (choice_gives GoodFound (is_word word (codes "targets")) _ _ (targets_gives words)
    (choice_gives GoodFound (is_word word (codes "sort")) _ _ (sort_gives words)
    (choice_gives GoodFound (is_word word (codes "skip")) _ _ (skip_gives words)
    (choice_gives GoodFound (is_word word (codes "take")) _ _ (take_gives words)
    (none_gives GoodFound)))))))))))))))

front_gives : (words : List Word) → Gives GoodFound (front_of words)
unfolding front_of
front_gives [] = none_gives GoodFound
front_gives (word ∷ words) = keyword_gives word words

-- ---- parts

deeper : (depth : ℕ) (part : Part) → GoodPart 1 part → GoodPart (suc depth) part
deeper depth part good = record {
  named = good.named;
  nested = omega (arith, good.nested);
  counted = good.counted;
  few = good.few;
  placed = good.placed;
  fits = good.fits;
  ents = good.ents;
}

joined_good : (depth : ℕ) (kind : Join) (left right : Part) → GoodPart depth left → GoodPart depth right
    → Gives (GoodPart (suc depth)) (joined kind left right)
unfolding joined
joined_good depth kind left right l r =
    when_gives (GoodPart (suc depth)) (nat_le (left.leaves + right.leaves) MOST_PARTS) _ (λ few.
    let both = list_all-append is_ent left.ents right.ents ∙ and_from _ _ l.ents r.ents in
    let placed : length (left.ents ++ right.ents) ≡ entities_of left.query + entities_of right.query = omega (arith, length-append left.ents right.ents, l.placed, r.placed) in
    let nested : suc (max (nesting_of left.query) (nesting_of right.query)) ≤ suc depth = omega (arith, l.nested, r.nested) in
    let fits : length (left.ents ++ right.ents) ≤ left.leaves + right.leaves = omega (arith, length-append left.ents right.ents, l.fits, r.fits) in
    let counted : left.leaves + right.leaves ≡ leaves_of left.query + leaves_of right.query = omega (arith, l.counted, r.counted) in
    let small : left.leaves + right.leaves ≤ MOST_PARTS = grind (arith, nat_tests, few) in
    elim kind as (λ (k : Join). GoodPart (suc depth) (record { query = joined_query k left.query right.query; ents = left.ents ++ right.ents; leaves = left.leaves + right.leaves })) [
      | join.Union ↦ of_level (suc depth) (level.Union left.query right.query) _ (rolls-Union left.query right.query) (and_from _ _ l.named r.named) nested counted small placed fits both
      | join.Intersect ↦ of_level (suc depth) (level.Intersect left.query right.query) _ (rolls-Intersect left.query right.query) (and_from _ _ l.named r.named) nested counted small placed fits both
      | join.Minus ↦ of_level (suc depth) (level.Minus left.query right.query) _ (rolls-Minus left.query right.query) (and_from _ _ l.named r.named) nested counted small placed fits both
    ])

above_good : (depth : ℕ) (front : Above) (of : Part) → is_above front ≡ true → GoodPart depth of
    → GoodPart (suc depth) (record of { query = query_above front of.query })
above_good depth (above.Targets link) of h o = of_level (suc depth) (level.Targets link of.query) _ (rolls-Targets link of.query) (and_from _ _ h o.named) (omega (arith, o.nested)) o.counted o.few o.placed o.fits o.ents
above_good depth (above.Sort prop direction) of h o = of_level (suc depth) (level.Sort prop direction of.query) _ (rolls-Sort prop direction of.query) (and_from _ _ h o.named) (omega (arith, o.nested)) o.counted o.few o.placed o.fits o.ents
above_good depth (above.Skip count) of h o = of_level (suc depth) (level.Skip count of.query) _ (rolls-Skip count of.query) (and_from _ _ h o.named) (omega (arith, o.nested)) o.counted o.few o.placed o.fits o.ents
above_good depth (above.Take count) of h o = of_level (suc depth) (level.Take count of.query) _ (rolls-Take count of.query) (and_from _ _ h o.named) (omega (arith, o.nested)) o.counted o.few o.placed o.fits o.ents

abbrev GoodOn : ℕ → (Part × List Word) → Type 0
GoodOn depth found = GoodPart depth found.0

behind_gives : (depth : ℕ) (more : List Word → Option (Part × List Word)) → ((words : List Word) → Gives (GoodOn depth) (more words))
    → (front : Front) → GoodFront front → (words : List Word) → Gives (GoodOn (suc depth)) (behind_front more front words)
behind_gives depth more h (Leaf part) good words = some_gives (GoodOn (suc depth)) (part, words) (deeper depth part good)
behind_gives depth more h (Joining kind) good words =
    then_gives (GoodOn depth) (GoodOn (suc depth)) (more words) _ (h words) (λ left l.
    then_gives (GoodOn depth) (GoodOn (suc depth)) (more left.1) _ (h left.1) (λ right r.
    then_gives (GoodPart (suc depth)) (GoodOn (suc depth)) (joined kind left.0 right.0) _ (joined_good depth kind left.0 right.0 l r) (λ part p.
    some_gives (GoodOn (suc depth)) (part, right.1) p)))
behind_gives depth more h (Over front) good words =
    then_gives (GoodOn depth) (GoodOn (suc depth)) (more words) _ (h words) (λ of o.
    some_gives (GoodOn (suc depth)) _ (above_good depth front of.0 good o))

pub part_gives : (depth : ℕ) (words : List Word) → Gives (GoodOn depth) (part_at depth words)
unfolding part_at
part_gives zero words = none_gives (GoodOn 0)
part_gives (suc depth) words =
    then_gives GoodFound (GoodOn (suc depth)) (front_of words) _ (front_gives words) (λ front f.
    behind_gives depth (part_at depth) (part_gives depth) front.0 f front.1)

-- ---- drafts

vars_rise : (ents : List Ent) (low place : ℕ) → low ≤ place → rise_from low (vars_from place ents) ≡ true
vars_rise [] low place le = refl
vars_rise (Id id ∷ ents) low place le = vars_rise ents low (place + 1) (omega (arith, le))
vars_rise (Var name ∷ ents) low place le = and_from _ _ (le-leb low place le) (vars_rise ents (place + 1) (place + 1) (omega arith))

vars_placed : (ents : List Ent) (entities place : ℕ) → list_all is_ent ents ≡ true → place + length ents ≤ entities → list_all (is_var_use entities) (vars_from place ents) ≡ true
vars_placed [] entities place all le = refl
vars_placed (Id id ∷ ents) entities place all le = vars_placed ents entities (place + 1) (and_parts _ _ all).1 (omega (arith, le))
vars_placed (Var name ∷ ents) entities place all le =
    let parts = and_parts _ _ all in
    and_from _ _ (and_from _ _ (lt-ltb place entities (omega (arith, le))) parts.0) (vars_placed ents entities (place + 1) parts.1 (omega (arith, le)))

abbrev pub GoodDraft : Draft → Type 0
GoodDraft draft = is_draft draft ≡ true

draft_good : (part : Part) → GoodPart DEEPEST_QUERY part → GoodDraft (draft_from part)
unfolding is_draft
draft_good part good =
    let nested = le-leb (nesting_of part.query) DEEPEST_QUERY good.nested in
    let few = le-leb (leaves_of part.query) MOST_PARTS (subst (λ (n : ℕ). n ≤ MOST_PARTS) good.counted good.few) in
    and_from _ _ good.named (and_from _ _ (and_from _ _ nested few) (and_from _ _ (vars_rise part.ents 0 0 (lit≤ tt)) (vars_placed part.ents (entities_of part.query) 0 good.ents (omega (arith, good.placed)))))

pub draft_gives : (words : List Word) → Gives GoodDraft (draft_of words)
unfolding draft_of
draft_gives words =
    then_gives (GoodOn DEEPEST_QUERY) GoodDraft (part_at DEEPEST_QUERY words) _ (part_gives DEEPEST_QUERY words) (λ part p.
    after GoodDraft (no_word part.1) _ (λ none. some_gives GoodDraft _ (draft_good part.0 p)))

part_read : (words : List Word) (part : Part) (rest : List Word) → part_at DEEPEST_QUERY words ≡ Some (part, rest) → GoodPart DEEPEST_QUERY part
part_read words part rest is =
    let good : Gives (GoodOn DEEPEST_QUERY) (Some (part, rest)) = subst (λ (o : Option (Part × List Word)). Gives (GoodOn DEEPEST_QUERY) o) is (part_gives DEEPEST_QUERY words) in
    good.holds

-- a part that was read has so few entity words, and is a draft with its variables
pub few_ents : (words : List Word) (part : Part) (rest : List Word) → part_at DEEPEST_QUERY words ≡ Some (part, rest) → length part.ents ≤ MOST_PARTS
few_ents words part rest is = let good = part_read words part rest is in omega (arith, good.fits, good.few)

pub draft_is : (words : List Word) (part : Part) (rest : List Word) (vars : List VarUse) → part_at DEEPEST_QUERY words ≡ Some (part, rest) → vars ≡ vars_from 0 part.ents
    → is_draft (record { query = part.query; vars = vars }) ≡ true
draft_is words part rest vars is numbered = rw numbered (draft_good part (part_read words part rest is))

-- what a draft is, taken apart
pub draft_query : (draft : Draft) → is_draft draft ≡ true → (is_named draft.query ≡ true) × (is_within_limits draft.query ≡ true)
unfolding is_draft
draft_query draft h =
    let parts = and_parts _ _ h in
    (parts.0, (and_parts _ _ parts.1).0)
