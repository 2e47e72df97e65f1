-- What holds of a query where it holds of its parts holds of all queries.
use Rattle.std.proofs.Common.{subst}
use Rattle.xod_base.specs.declared.query.Query.{Query, roll-Query}
use Rattle.xod_base.specs.declared.query.Query.TheOpen.{Query-F}
use Rattle.xod_base.specs.declared.query.Query.TheOpen.{All, Find, Range, Prefix, With, WithLink, Linked, LinksOf, Union, Intersect, Minus, Targets, Sort, Skip, Take}
use Rattle.xod_base.specs.declared.query.Query.TheFolds.{ind-Query, map-Query}

-- it holds of each part of one level
abbrev pub Parts : (Query → Type 0) → Query-F Query → Type 0
Parts P (Union left right) = P left × P right
Parts P (Intersect left right) = P left × P right
Parts P (Minus left right) = P left × P right
Parts P (Targets link of) = P of
Parts P (Sort prop direction of) = P of
Parts P (Skip count of) = P of
Parts P (Take count of) = P of
Parts P leaf = Unit {0}

module _ (P : Query → Type 0) where
  -- a part with what holds of it
  abbrev With_it : Type 0
  With_it = (query : Query) × P query

  abbrev parts : Query-F With_it → Query-F Query
  parts level = map-Query With_it Query (λ part. part.0) level

  each : (level : Query-F With_it) → Parts P (parts level)
  each (Union left right) = (left.1, right.1)
  each (Intersect left right) = (left.1, right.1)
  each (Minus left right) = (left.1, right.1)
  each (Targets link of) = of.1
  each (Sort prop direction of) = of.1
  each (Skip count of) = of.1
  each (Take count of) = of.1
  each leaf = tt

  pub by_parts : ((level : Query-F Query) → Parts P level → P (roll-Query level)) → (query : Query) → P query
  by_parts step query = ind-Query P (λ x level is. subst (λ (z : Query-F Query). P (roll-Query z)) is (step (parts level) (each level))) query
