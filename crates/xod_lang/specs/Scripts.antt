-- What a line says, and which lists of lines are a script.
use Rattle.std.specs.Prelude.{ℕ, ◌+◌, Bool, not, ◌&&◌, List, [], ◌∷◌, ◌++◌, length, Option, Some, None, Result, Ok, Err, is_some, nat_lt, if◌then◌else◌, codes}
use Rattle.std.specs.List.{list_any}
use Rattle.std.specs.Option.{option_to_list}
use Rattle.std.specs.Str.{is_utf8}
use Rattle.xod_base.specs.declared.limits.TheConstants.{MOST_SESSIONS}
use Rattle.xod_base.specs.Values.{same_bytes}
use Rattle.xod_words.specs.Words.{Word, ◌>>=◌, words_of, is_word, begins_with, no_word, one_word}
use Rattle.xod_words.specs.Names.{session_name_of}
use Rattle.xod_lang.specs.Lines.{lines_of}
use Rattle.xod_lang.specs.Statements.{form_of}
use Rattle.xod_lang.specs.Items.{item_of}
use Rattle.xod_lang.specs.Standings.{is_outside, stands_after}
use Rattle.xod_lang.specs.declared.script.Form.{Form}
use Rattle.xod_lang.specs.declared.script.SessionScript.{SessionScript}
use Rattle.xod_lang.specs.declared.script.Item.{Item}
use Rattle.xod_lang.specs.declared.script.Script.{Script}
use Rattle.xod_lang.specs.declared.standing.Standing.{Standing}
use Rattle.xod_lang.specs.declared.standing.Standing.TheVariants.{Outside}
use Rattle.xod_lang.specs.declared.line.Line.{Line}
use Rattle.xod_lang.specs.declared.line.Line.TheVariants.{Nothing, Session, Order, Statement as StatementLine, Item as ItemLine}
use Rattle.xod_lang.specs.declared.reading.Reading.{Reading}

-- ---- one line

-- `session SESSION`, without its first word
unfoldable pub session_line : List Word → Option Line
session_line words = do
  word ← one_word words
  name ← session_name_of word
  Some (Session name)

unfoldable pub order_line : List Word → Option Line
order_line words = no_word words >>= λ none. Some Order

unfoldable pub item_line : Word → List Word → Option Line
item_line word words = do
  item ← item_of word words
  Some (ItemLine item)

unfoldable pub statement_line : Word → List Word → Option Line
statement_line word words = do
  form ← form_of word words
  Some (StatementLine form)

-- what a line says that begins with this word
unfoldable pub keyword_line : Word → List Word → Option Line
keyword_line word words =
    if is_word word (codes "session") then session_line words
    else if is_word word (codes "order") then order_line words
    else if is_word word (codes "turn") then item_line word words
    else statement_line word words

-- a line of words, which is a comment where the first begins with `#`
unfoldable pub said_by : List Word → Option Line
said_by [] = Some Nothing
said_by (word ∷ words) = if begins_with 35 word then Some Nothing else keyword_line word words

-- What a line says; none where it is bad, as one that is not UTF-8 is.
unfoldable pub line_of : List ℕ → Option Line
line_of bytes = if is_utf8 bytes then said_by (words_of bytes) else None

-- ---- the lines in their order

abbrev pub nothing_read : Reading
nothing_read = record { before = []; last = None; standing = Outside; order_line = None; order = [] }

-- the sessions that began
abbrev pub sessions_of : Reading → List SessionScript
sessions_of reading = reading.before ++ option_to_list reading.last

-- whether a session or the order may begin: no transaction and no block is open, and no order began
abbrev pub is_between_parts : Reading → Bool
is_between_parts reading = is_outside reading.standing && not (is_some reading.order_line)

abbrev pub has_name : List ℕ → SessionScript → Bool
has_name name session = same_bytes session.name name

-- the sessions are not too many, and none has the name
abbrev pub has_room_for : List ℕ → List SessionScript → Bool
has_room_for name sessions = nat_lt (length sessions) MOST_SESSIONS && not (list_any (has_name name) sessions)

-- a session begins
unfoldable pub with_session : Reading → List ℕ → Option Reading
with_session reading name =
    if is_between_parts reading && has_room_for name (sessions_of reading)
    then Some (record reading { before = sessions_of reading; last = Some (record { name = name; statements = [] }) })
    else None

-- a session with one statement more
abbrev pub longer : SessionScript → ℕ → Form → SessionScript
longer session line form = record session { statements = session.statements ++ (record { line = line; form = form }) ∷ [] }

-- a statement of the last session, which stands there afterwards
abbrev pub with_form : Reading → ℕ → Form → Option SessionScript → Standing → Option Reading
with_form reading line form None standing = None
with_form reading line form (Some session) standing =
    if is_some reading.order_line then None
    else Some (record reading { last = Some (longer session line form); standing = standing })

unfoldable pub with_statement : Reading → ℕ → Form → Option Reading
with_statement reading line form = stands_after reading.standing form >>= with_form reading line form reading.last

-- the order begins
unfoldable pub with_order : Reading → ℕ → Option Reading
with_order reading line = if is_between_parts reading then Some (record reading { order_line = Some line }) else None

unfoldable pub with_item : Reading → ℕ → Item → Option Reading
with_item reading line item =
    if is_some reading.order_line
    then Some (record reading { order = reading.order ++ (record { line = line; item = item }) ∷ [] })
    else None

-- what was read after one line more; none where the line is bad at that place
unfoldable pub with_line : Reading → ℕ → Line → Option Reading
with_line reading line Nothing = Some reading
with_line reading line (Session name) = with_session reading name
with_line reading line Order = with_order reading line
with_line reading line (StatementLine form) = with_statement reading line form
with_line reading line (ItemLine item) = with_item reading line item

-- what was read after lines with numbers from `line` on, or the number of the first bad one
abbrev pub go_on : ℕ → Option Reading → (Reading → Result Reading ℕ) → Result Reading ℕ
go_on line None more = Err line
go_on line (Some reading) more = more reading

abbrev pub reading_of : Reading → ℕ → List (List ℕ) → Result Reading ℕ
reading_of reading line [] = Ok reading
reading_of reading line (bytes ∷ more) =
    go_on line (line_of bytes >>= with_line reading line) (λ now. reading_of now (line + 1) more)

-- the script that was read, where nothing is left open; else the line past the last one is bad
abbrev pub script_read : ℕ → Reading → Result Script ℕ
script_read past reading =
    if is_outside reading.standing
    then Ok (record { sessions = sessions_of reading; order_line = reading.order_line; order = reading.order })
    else Err past

abbrev pub script_from : ℕ → Result Reading ℕ → Result Script ℕ
script_from past (Err line) = Err line
script_from past (Ok reading) = script_read past reading

-- The script that an input is, or the number of its first bad line, from 1.
unfoldable pub script_of : List ℕ → Result Script ℕ
script_of bytes = script_from (length (lines_of bytes) + 1) (reading_of nothing_read 1 (lines_of bytes))
