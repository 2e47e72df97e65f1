-- What the normal form is good for.
use Rattle.std.specs.Prelude.{◌≡◌, IsTrue}
use Rattle.xod_base.specs.declared.query.Query.{Query}
use Rattle.xod_base.specs.Evaluation.{answer_of}
use Rattle.xod_base.specs.Queries.{is_named}
use Rattle.xod_base.specs.QueryTexts.{query_text}
use Rattle.xod_base.specs.Rows.{RowsValue}
use Rattle.xod_handle.specs.Forms.{normal_of}

-- two queries with one text are the same query, where both can be written down
abbrev pub TextsTell : Type 0
TextsTell = (query other : Query) → IsTrue (is_named query) → IsTrue (is_named other)
    → query_text query ≡ query_text other → query ≡ other

-- a query that can be written down and its normal form have the same answer, whatever the rows are
abbrev pub NormalAnswersTheSame : Type 0
NormalAnswersTheSame = (rows : RowsValue) (query : Query) → IsTrue (is_named query)
    → answer_of (normal_of query) rows ≡ answer_of query rows

-- the normal form of a query that can be written down can be written down
abbrev pub NormalStaysNamed : Type 0
NormalStaysNamed = (query : Query) → IsTrue (is_named query) → IsTrue (is_named (normal_of query))

-- a normal form is its own normal form
abbrev pub NormalIsItsOwn : Type 0
NormalIsItsOwn = (query : Query) → normal_of (normal_of query) ≡ normal_of query
