-- The normal form of a query.
use Rattle.std.specs.Prelude.{◌≡◌, ℕ, codes, Bool, true, false, IsTrue, List, [], ◌∷◌, ◌++◌}
use Rattle.std.specs.declared.cmp.Ordering.{Ordering}
use Rattle.std.specs.declared.cmp.Ordering.TheVariants.{Less, Equal, Greater}
use Rattle.xod_base.specs.declared.value.Value.{Value}
use Rattle.xod_base.specs.declared.value.Value.TheVariants.{Flag, Int, Text}
use Rattle.xod_base.specs.declared.query.Query.{Query, roll-Query}
use Rattle.xod_base.specs.declared.query.Query.TheOpen.{Query-F}
use Rattle.xod_base.specs.declared.query.Query.TheOpen.{All, Find, Range, Prefix, With, WithLink, Linked, LinksOf, Union, Intersect, Minus, Targets, Sort, Skip, Take}
use Rattle.xod_base.specs.declared.query.Query.TheFolds.{fold-Query}
use Rattle.xod_base.specs.Queries.{is_named}
use Rattle.xod_base.specs.QueryTexts.{query_text}
use Rattle.xod_base.specs.Values.{bytes_cmp, folded}
use Rattle.xod_handle.specs.declared.join.Join.{Join}
use Rattle.xod_handle.specs.declared.join.Join.TheVariants.{Either, Both}

-- a text folded, and any other value as it is
abbrev pub folded_value : Value → Value
folded_value (Flag flag) = Flag flag
folded_value (Int number) = Int number
folded_value (Text text) = Text (folded text)

-- the union or the intersection of two queries
abbrev pub joined : Join → Query → Query → Query
joined Either left right = roll-Query (Union left right)
joined Both left right = roll-Query (Intersect left right)

-- the word before the parts, and a space
abbrev pub join_word : Join → List ℕ
join_word Either = codes "union "
join_word Both = codes "intersect "

-- the text of a part that is not the last
abbrev pub front_text : Join → Query → List ℕ
front_text join part = join_word join ++ (query_text part ++ 32 ∷ [])

abbrev pub same_join : Join → Join → Bool
same_join Either Either = true
same_join Either Both = false
same_join Both Either = false
same_join Both Both = true

-- ---- the parts of a union or an intersection

-- a part put before the first whose text is greater, and in the place of one that has its text
abbrev pub put_by : Ordering → Query → Query → List Query → List Query → List Query
put_by Less part first more later = part ∷ first ∷ more
put_by Equal part first more later = part ∷ more
put_by Greater part first more later = first ∷ later

abbrev pub put_part : Query → List Query → List Query
put_part part [] = part ∷ []
put_part part (first ∷ more) = put_by (bytes_cmp (query_text part) (query_text first)) part first more (put_part part more)

-- parts in rising order of the bytes of their texts, repeats left out
abbrev pub arranged : List Query → List Query
arranged [] = []
arranged (part ∷ parts) = put_part part (arranged parts)

-- h1 to hk as `union h1 union h2 .. union h(k-1) hk`
abbrev pub nested : Join → Query → List Query → Query
nested join first [] = first
nested join first (second ∷ more) = joined join first (nested join second more)

-- the parts before a last one, and that one, nested in the same way
abbrev pub onto : Join → List Query → Query → Query
onto join [] last = last
onto join (first ∷ more) last = joined join first (onto join more last)

-- as `nested`, where a single part h is `union h h`
abbrev pub written_from : Join → Query → List Query → Query
written_from join first [] = joined join first first
written_from join first (second ∷ more) = nested join first (second ∷ more)

-- the union or the intersection of parts, of which there is one at least
abbrev pub written : Join → Query → List Query → Query
written join otherwise [] = otherwise
written join otherwise (first ∷ more) = written_from join first more

-- ---- all forms

-- A query in normal form, and the parts that it is where it stands in a union or in an intersection: those of the same
-- kind of query, not arranged yet, and of any other query the query itself.
pub record Form : Type 0 where
  pub whole : Query
  pub parts : Join → List Query

-- a form that is one part wherever it stands
abbrev pub single : Query → Form
single query = record { whole = query; parts = λ join. query ∷ [] }

abbrev pub parts_or : Bool → List Query → Query → List Query
parts_or true parts whole = parts
parts_or false parts whole = whole ∷ []

-- the parts of both, arranged
abbrev pub joined_whole : Join → Form → Form → Query
joined_whole join left right = written join left.whole (arranged (left.parts join ++ right.parts join))

abbrev pub joined_form : Join → Form → Form → Form
joined_form join left right = record {
  whole = joined_whole join left right;
  parts = λ other. parts_or (same_join other join) (left.parts join ++ right.parts join) (joined_whole join left right);
}

-- one level, with the forms of the parts: values and prefixes are folded, and nothing else changes but a union or an
-- intersection
abbrev pub form_at : Query-F Form → Form
form_at (All kind) = single (roll-Query (All kind))
form_at (Find kind prop value) = single (roll-Query (Find kind prop (folded_value value)))
form_at (Range kind prop low high) = single (roll-Query (Range kind prop (folded_value low) (folded_value high)))
form_at (Prefix kind prop text) = single (roll-Query (Prefix kind prop (folded text)))
form_at (With kind prop) = single (roll-Query (With kind prop))
form_at (WithLink kind link) = single (roll-Query (WithLink kind link))
form_at (Linked kind link target) = single (roll-Query (Linked kind link target))
form_at (LinksOf source link) = single (roll-Query (LinksOf source link))
form_at (Union left right) = joined_form Either left right
form_at (Intersect left right) = joined_form Both left right
form_at (Minus left right) = single (roll-Query (Minus left.whole right.whole))
form_at (Targets link of) = single (roll-Query (Targets link of.whole))
form_at (Sort prop direction of) = single (roll-Query (Sort prop direction of.whole))
form_at (Skip count of) = single (roll-Query (Skip count of.whole))
form_at (Take count of) = single (roll-Query (Take count of.whole))

abbrev pub form_of : Query → Form
form_of query = fold-Query Form form_at query

-- The normal form of a query.
abbrev pub normal_of : Query → Query
normal_of query = (form_of query).whole

-- the parts of a query that stands in a union or in an intersection, not arranged yet
abbrev pub parts_of : Join → Query → List Query
parts_of join query = (form_of query).parts join

-- A query is a handle: it can be written down, and it is its own normal form.
pub record IsHandle (query : Query) : Type 0 where
  pub named : IsTrue (is_named query)
  pub normal : normal_of query ≡ query

-- A query is the one that was asked for, and the text of that one was put behind old bytes.
pub record IsPut (whole : Query) (old new : List ℕ) (query : Query) : Type 0 where
  pub query_is : query ≡ whole
  pub text_is : new ≡ old ++ query_text whole
