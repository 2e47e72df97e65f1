-- Which queries can be written down, and how large they are.
use Rattle.std.specs.Prelude.{ℕ, suc, ◌+◌, ◌^◌, Bool, ◌&&◌, nat_lt, nat_le, max}
use Rattle.xod_base.specs.declared.value.EntityId.{EntityId}
use Rattle.xod_base.specs.declared.query.Query.{Query}
use Rattle.xod_base.specs.declared.query.Query.TheOpen.{Query-F}
use Rattle.xod_base.specs.declared.query.Query.TheOpen.{All, Find, Range, Prefix, With, WithLink, Linked, LinksOf, Union, Intersect, Minus, Targets, Sort, Skip, Take}
use Rattle.xod_base.specs.declared.query.Query.TheFolds.{fold-Query}
use Rattle.xod_base.specs.declared.limits.TheConstants.{DEEPEST_QUERY, MOST_PARTS}
use Rattle.xod_base.specs.Names.{is_name_word}
use Rattle.xod_base.specs.Text.{is_text}
use Rattle.xod_base.specs.Values.{is_value}

-- both numbers of an id have 32 bits
abbrev pub is_id : EntityId → Bool
is_id id = nat_lt id.kind (2 ^ 32) && nat_lt id.local (2 ^ 32)

-- one level, with whether the parts can be written down
abbrev pub named_at : Query-F Bool → Bool
named_at (All kind) = is_name_word kind
named_at (Find kind prop value) = is_name_word kind && (is_name_word prop && is_value value)
named_at (Range kind prop low high) = is_name_word kind && (is_name_word prop && (is_value low && is_value high))
named_at (Prefix kind prop text) = is_name_word kind && (is_name_word prop && is_text text)
named_at (With kind prop) = is_name_word kind && is_name_word prop
named_at (WithLink kind link) = is_name_word kind && is_name_word link
named_at (Linked kind link target) = is_name_word kind && (is_name_word link && is_id target)
named_at (LinksOf source link) = is_id source && is_name_word link
named_at (Union left right) = left && right
named_at (Intersect left right) = left && right
named_at (Minus left right) = left && right
named_at (Targets link of) = is_name_word link && of
named_at (Sort prop direction of) = is_name_word prop && of
named_at (Skip count of) = nat_lt count (2 ^ 32) && of
named_at (Take count of) = nat_lt count (2 ^ 32) && of

-- A query that can be written down: its names are words, and its values, ids and counts are the program's.
abbrev pub is_named : Query → Bool
is_named query = fold-Query Bool named_at query

-- one level, with the nesting of the parts
abbrev pub nesting_at : Query-F ℕ → ℕ
nesting_at (Union left right) = suc (max left right)
nesting_at (Intersect left right) = suc (max left right)
nesting_at (Minus left right) = suc (max left right)
nesting_at (Targets link of) = suc of
nesting_at (Sort prop direction of) = suc of
nesting_at (Skip count of) = suc of
nesting_at (Take count of) = suc of
nesting_at leaf = 1

-- how deep a query is nested: 1 where it has no parts, and else one more than its deepest part
abbrev pub nesting_of : Query → ℕ
nesting_of query = fold-Query ℕ nesting_at query

-- one level, with how many parts without parts the parts have
abbrev pub leaves_at : Query-F ℕ → ℕ
leaves_at (Union left right) = left + right
leaves_at (Intersect left right) = left + right
leaves_at (Minus left right) = left + right
leaves_at (Targets link of) = of
leaves_at (Sort prop direction of) = of
leaves_at (Skip count of) = of
leaves_at (Take count of) = of
leaves_at leaf = 1

-- how many parts a query has that have no parts themselves, repeats counted
abbrev pub leaves_of : Query → ℕ
leaves_of query = fold-Query ℕ leaves_at query

-- a query within the limits of a text that is read
abbrev pub is_within_limits : Query → Bool
is_within_limits query = nat_le (nesting_of query) DEEPEST_QUERY && nat_le (leaves_of query) MOST_PARTS
