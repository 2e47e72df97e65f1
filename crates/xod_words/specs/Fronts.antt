-- The words of a query before its first part, which say what it is.
use Rattle.std.specs.Prelude.{ℕ, List, [], ◌∷◌, Option, Some, None, if◌then◌else◌, codes}
use Rattle.xod_base.specs.declared.value.EntityId.{EntityId}
use Rattle.xod_base.specs.declared.query.Direction.{Direction}
use Rattle.xod_base.specs.declared.query.Direction.TheVariants.{Up, Down}
use Rattle.xod_base.specs.declared.query.Query.{Query}
use Rattle.xod_base.specs.declared.query.Query.TheVariants as query
use Rattle.xod_words.specs.Words.{Word, ◌>>=◌, is_word, first_of}
use Rattle.xod_words.specs.Names.{name_of}
use Rattle.xod_words.specs.Numbers.{count_of}
use Rattle.xod_words.specs.Values.{ent_of, text_of, value_of}
use Rattle.xod_words.specs.declared.draft.Ent.{Ent}
use Rattle.xod_words.specs.declared.draft.Ent.TheVariants.{Id, Var}
use Rattle.xod_words.specs.declared.part.Join.TheVariants as join
use Rattle.xod_words.specs.declared.part.Above.TheVariants as above
use Rattle.xod_words.specs.declared.part.Front.{Front}
use Rattle.xod_words.specs.declared.part.Front.TheVariants.{Leaf, Joining, Over}

-- two names, and the words behind them
unfoldable pub names_at : List Word → Option ((List ℕ × List ℕ) × List Word)
names_at words = do
  first ← first_of name_of words
  second ← first_of name_of first.1
  Some ((first.0, second.0), second.1)

-- a query without parts that names no entity
abbrev pub leaf : Query → Front
leaf query = Leaf (record { query = query; ents = []; leaves = 1 })

-- a query without parts that names an entity
abbrev pub leaf_with : Query → Ent → Front
leaf_with query ent = Leaf (record { query = query; ents = ent ∷ []; leaves = 1 })

-- the id that stands in a query for an entity word: its own, and 0-0 for a variable
abbrev pub placed : Ent → EntityId
placed (Id id) = id
placed (Var name) = record { kind = 0; local = 0 }

abbrev pub Fronted : Type 0
Fronted = Option (Front × List Word)

-- `all NAME`
unfoldable pub all_front : List Word → Fronted
all_front words = do
  kind ← first_of name_of words
  Some (leaf (query.All kind.0), kind.1)

-- `find NAME NAME VALUE`
unfoldable pub find_front : List Word → Fronted
find_front words = do
  names ← names_at words
  value ← first_of value_of names.1
  Some (leaf (query.Find names.0.0 names.0.1 value.0), value.1)

-- `range NAME NAME VALUE VALUE`
unfoldable pub range_front : List Word → Fronted
range_front words = do
  names ← names_at words
  low ← first_of value_of names.1
  high ← first_of value_of low.1
  Some (leaf (query.Range names.0.0 names.0.1 low.0 high.0), high.1)

-- `prefix NAME NAME TEXT`
unfoldable pub prefix_front : List Word → Fronted
prefix_front words = do
  names ← names_at words
  text ← first_of text_of names.1
  Some (leaf (query.Prefix names.0.0 names.0.1 text.0), text.1)

-- `with NAME NAME`
unfoldable pub with_front : List Word → Fronted
with_front words = do
  names ← names_at words
  Some (leaf (query.With names.0.0 names.0.1), names.1)

-- `withlink NAME NAME`
unfoldable pub withlink_front : List Word → Fronted
withlink_front words = do
  names ← names_at words
  Some (leaf (query.WithLink names.0.0 names.0.1), names.1)

-- `linked NAME NAME ENT`
unfoldable pub linked_front : List Word → Fronted
linked_front words = do
  names ← names_at words
  ent ← first_of ent_of names.1
  Some (leaf_with (query.Linked names.0.0 names.0.1 (placed ent.0)) ent.0, ent.1)

-- `from ENT NAME`
unfoldable pub from_front : List Word → Fronted
from_front words = do
  ent ← first_of ent_of words
  link ← first_of name_of ent.1
  Some (leaf_with (query.LinksOf (placed ent.0) link.0) ent.0, link.1)

-- `targets NAME` before a query
unfoldable pub targets_front : List Word → Fronted
targets_front words = do
  link ← first_of name_of words
  Some (Over (above.Targets link.0), link.1)

unfoldable pub direction_of : Word → Option Direction
direction_of word =
    if is_word word (codes "up") then Some Up
    else if is_word word (codes "down") then Some Down
    else None

-- `sort NAME up` or `sort NAME down` before a query
unfoldable pub sort_front : List Word → Fronted
sort_front words = do
  prop ← first_of name_of words
  direction ← first_of direction_of prop.1
  Some (Over (above.Sort prop.0 direction.0), direction.1)

-- `skip COUNT` before a query
unfoldable pub skip_front : List Word → Fronted
skip_front words = do
  count ← first_of count_of words
  Some (Over (above.Skip count.0), count.1)

-- `take COUNT` before a query
unfoldable pub take_front : List Word → Fronted
take_front words = do
  count ← first_of count_of words
  Some (Over (above.Take count.0), count.1)

-- what a query is whose first word is this one
unfoldable pub keyword_front : Word → List Word → Fronted
keyword_front word words =
    if is_word word (codes "all") then all_front words
    else if is_word word (codes "find") then find_front words
    else if is_word word (codes "range") then range_front words
    else if is_word word (codes "prefix") then prefix_front words
    else if is_word word (codes "with") then with_front words
    else if is_word word (codes "withlink") then withlink_front words
    else if is_word word (codes "linked") then linked_front words
    else if is_word word (codes "from") then from_front words
    else if is_word word (codes "union") then Some (Joining join.Union, words)
    else if is_word word (codes "intersect") then Some (Joining join.Intersect, words)
    else if is_word word (codes "minus") then Some (Joining join.Minus, words)
    else if is_word word (codes "targets") then targets_front words
    else if is_word word (codes "sort") then sort_front words
    else if is_word word (codes "skip") then skip_front words
    else if is_word word (codes "take") then take_front words
    else None

-- What the first of words say that a query is, and the words behind them.
unfoldable pub front_of : List Word → Fronted
front_of [] = None
front_of (word ∷ words) = keyword_front word words
