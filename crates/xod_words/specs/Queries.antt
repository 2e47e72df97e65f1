-- The queries that are read, and which of their entity words are variables.
use Rattle.std.specs.Prelude.{ℕ, zero, suc, ◌+◌, List, [], ◌∷◌, ◌++◌, Option, Some, None, nat_le, if◌then◌else◌}
use Rattle.xod_base.specs.declared.limits.TheConstants.{DEEPEST_QUERY, MOST_PARTS}
use Rattle.xod_base.specs.declared.query.Query.{Query}
use Rattle.xod_base.specs.declared.query.Query.TheVariants as query
use Rattle.xod_words.specs.Words.{Word, ◌>>=◌, words_of, no_word}
use Rattle.xod_words.specs.Fronts.{front_of}
use Rattle.xod_words.specs.declared.draft.Ent.{Ent}
use Rattle.xod_words.specs.declared.draft.Ent.TheVariants.{Id, Var}
use Rattle.xod_words.specs.declared.draft.VarUse.{VarUse}
use Rattle.xod_words.specs.declared.draft.Draft.{Draft}
use Rattle.xod_words.specs.declared.part.Part.{Part}
use Rattle.xod_words.specs.declared.part.Join.{Join}
use Rattle.xod_words.specs.declared.part.Join.TheVariants.{Union, Intersect, Minus}
use Rattle.xod_words.specs.declared.part.Above.{Above}
use Rattle.xod_words.specs.declared.part.Above.TheVariants.{Targets, Sort, Skip, Take}
use Rattle.xod_words.specs.declared.part.Front.{Front}
use Rattle.xod_words.specs.declared.part.Front.TheVariants.{Leaf, Joining, Over}

abbrev pub joined_query : Join → Query → Query → Query
joined_query Union left right = query.Union left right
joined_query Intersect left right = query.Intersect left right
joined_query Minus left right = query.Minus left right

-- two parts as one, where they are not too many
unfoldable pub joined : Join → Part → Part → Option Part
joined join left right =
    if nat_le (left.leaves + right.leaves) MOST_PARTS
    then Some (record {
      query = joined_query join left.query right.query;
      ents = left.ents ++ right.ents;
      leaves = left.leaves + right.leaves;
    })
    else None

abbrev pub query_above : Above → Query → Query
query_above (Targets link) of = query.Targets link of
query_above (Sort prop direction) of = query.Sort prop direction of
query_above (Skip count) of = query.Skip count of
query_above (Take count) of = query.Take count of

-- a query whose front was read, where `more` reads each of its parts
abbrev pub behind_front : (List Word → Option (Part × List Word)) → Front → List Word → Option (Part × List Word)
behind_front more (Leaf part) words = Some (part, words)
behind_front more (Joining join) words = do
  left ← more words
  right ← more left.1
  part ← joined join left.0 right.0
  Some (part, right.1)
behind_front more (Over above) words = do
  of ← more words
  Some (record of.0 { query = query_above above of.0.query }, of.1)

-- A query that is nested no deeper than this, and the words behind it.
unfoldable pub part_at : ℕ → List Word → Option (Part × List Word)
part_at zero words = None
part_at (suc depth) words = front_of words >>= λ front. behind_front (part_at depth) front.0 front.1

-- The variables among entity words, with the numbers of these words from `place` on.
abbrev pub vars_from : ℕ → List Ent → List VarUse
vars_from place [] = []
vars_from place (Id id ∷ ents) = vars_from (place + 1) ents
vars_from place (Var name ∷ ents) = record { place = place; var = name } ∷ vars_from (place + 1) ents

abbrev pub draft_from : Part → Draft
draft_from part = record { query = part.query; vars = vars_from 0 part.ents }

-- A query whose entity words may be variables: all of the words.
unfoldable pub draft_of : List Word → Option Draft
draft_of words = do
  part ← part_at DEEPEST_QUERY words
  ended ← no_word part.1
  Some (draft_from part.0)

abbrev pub when_plain : Query → List VarUse → Option Query
when_plain query [] = Some query
when_plain query (var ∷ vars) = None

-- A query with ids alone.
unfoldable pub query_of : List ℕ → Option Query
query_of bytes = draft_of (words_of bytes) >>= λ draft. when_plain draft.query draft.vars
