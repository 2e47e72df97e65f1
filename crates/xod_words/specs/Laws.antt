-- What is printed of a query is read as that query.
use Rattle.std.specs.Prelude.{◌≡◌, IsTrue, Some}
use Rattle.xod_base.specs.declared.query.Query.{Query}
use Rattle.xod_base.specs.Queries.{is_named, is_within_limits}
use Rattle.xod_base.specs.QueryTexts.{query_text}
use Rattle.xod_words.specs.Queries.{query_of}

-- The text of a query that can be written down, within the limits, is read as that query.
abbrev pub PrintedIsReadBack : Type 0
PrintedIsReadBack = (query : Query) → IsTrue (is_named query) → IsTrue (is_within_limits query)
    → query_of (query_text query) ≡ Some query
