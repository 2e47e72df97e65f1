-- The text of a query, and of the words in it.
use Rattle.std.specs.Prelude.{ℕ, ◌||◌, ◌==◌, List, [], ◌∷◌, ◌++◌, codes, if◌then◌else◌}
use Rattle.std.specs.List.{flat_map}
use Rattle.std.specs.Fmt.{decimal, signed_decimal}
use Rattle.xod_base.specs.declared.value.EntityId.{EntityId}
use Rattle.xod_base.specs.declared.value.Value.{Value}
use Rattle.xod_base.specs.declared.value.Value.TheVariants.{Flag, Int, Text}
use Rattle.xod_base.specs.declared.query.Direction.{Direction}
use Rattle.xod_base.specs.declared.query.Direction.TheVariants.{Up, Down}
use Rattle.xod_base.specs.declared.query.Query.{Query}
use Rattle.xod_base.specs.declared.query.Query.TheOpen.{Query-F}
use Rattle.xod_base.specs.declared.query.Query.TheOpen.{All, Find, Range, Prefix, With, WithLink, Linked, LinksOf, Union, Intersect, Minus, Targets, Sort, Skip, Take}
use Rattle.xod_base.specs.declared.query.Query.TheFolds.{fold-Query}

-- an id as `kind-local`
abbrev pub id_text : EntityId → List ℕ
id_text id = decimal id.kind ++ (45 ∷ decimal id.local)

-- a byte between quotes: `"` and `\` stand behind a `\`
abbrev pub escaped_byte : ℕ → List ℕ
escaped_byte byte = if (byte == 34) || (byte == 92) then 92 ∷ byte ∷ [] else byte ∷ []

-- a text between quotes
abbrev pub quoted : List ℕ → List ℕ
quoted text = 34 ∷ (flat_map escaped_byte text ++ 34 ∷ [])

-- a value: `true` or `false`, a decimal integer, or a text between quotes
abbrev pub value_text : Value → List ℕ
value_text (Flag flag) = if flag then codes "true" else codes "false"
value_text (Int number) = signed_decimal number
value_text (Text text) = quoted text

abbrev pub direction_text : Direction → List ℕ
direction_text Up = codes "up"
direction_text Down = codes "down"

-- one level, with the texts of the parts
abbrev pub text_at : Query-F (List ℕ) → List ℕ
text_at (All kind) = codes "all " ++ kind
text_at (Find kind prop value) = codes "find " ++ (kind ++ (32 ∷ (prop ++ (32 ∷ value_text value))))
text_at (Range kind prop low high) = codes "range " ++ (kind ++ (32 ∷ (prop ++ (32 ∷ (value_text low ++ (32 ∷ value_text high))))))
text_at (Prefix kind prop text) = codes "prefix " ++ (kind ++ (32 ∷ (prop ++ (32 ∷ quoted text))))
text_at (With kind prop) = codes "with " ++ (kind ++ (32 ∷ prop))
text_at (WithLink kind link) = codes "withlink " ++ (kind ++ (32 ∷ link))
text_at (Linked kind link target) = codes "linked " ++ (kind ++ (32 ∷ (link ++ (32 ∷ id_text target))))
text_at (LinksOf source link) = codes "from " ++ (id_text source ++ (32 ∷ link))
text_at (Union left right) = codes "union " ++ (left ++ (32 ∷ right))
text_at (Intersect left right) = codes "intersect " ++ (left ++ (32 ∷ right))
text_at (Minus left right) = codes "minus " ++ (left ++ (32 ∷ right))
text_at (Targets link of) = codes "targets " ++ (link ++ (32 ∷ of))
text_at (Sort prop direction of) = codes "sort " ++ (prop ++ (32 ∷ (direction_text direction ++ (32 ∷ of))))
text_at (Skip count of) = codes "skip " ++ (decimal count ++ (32 ∷ of))
text_at (Take count of) = codes "take " ++ (decimal count ++ (32 ∷ of))

-- The text of a query: its words, with one space between them.
abbrev pub query_text : Query → List ℕ
query_text query = fold-Query (List ℕ) text_at query
