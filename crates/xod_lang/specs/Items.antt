-- What an item of the order says.
use Rattle.std.specs.Prelude.{List, [], ◌∷◌, Option, Some, None, if◌then◌else◌, codes}
use Rattle.xod_base.specs.declared.causes.Cause.{Cause}
use Rattle.xod_base.specs.declared.causes.Cause.TheVariants as cause
use Rattle.xod_words.specs.Words.{Word, ◌>>=◌, is_word, no_word, two_words}
use Rattle.xod_words.specs.Names.{session_name_of}
use Rattle.xod_words.specs.Numbers.{count_of}
use Rattle.xod_lang.specs.declared.script.Item.{Item}
use Rattle.xod_lang.specs.declared.script.Item.TheVariants.{Turn}
use Rattle.xod_lang.specs.declared.script.Turned.{Turned}
use Rattle.xod_lang.specs.declared.script.Turned.TheVariants as turned

unfoldable pub cause_of : Word → Option Cause
cause_of word =
    if is_word word (codes "device") then Some cause.Device
    else if is_word word (codes "broken") then Some cause.Broken
    else if is_word word (codes "damaged") then Some cause.Damaged
    else if is_word word (codes "spent") then Some cause.Spent
    else if is_word word (codes "memory") then Some cause.Memory
    else None

-- `stop LINE CAUSE`, without its first word
unfoldable pub stop_of : List Word → Option Turned
stop_of words = do
  two ← two_words words
  line ← count_of two.0
  cause ← cause_of two.1
  Some (turned.Stop line cause)

-- the shared step that a word names
unfoldable pub step_of : Word → Option Turned
step_of word =
    if is_word word (codes "begin") then Some turned.Begin
    else if is_word word (codes "flush") then Some turned.Flush
    else if is_word word (codes "revert") then Some turned.Revert
    else if is_word word (codes "end") then Some turned.End
    else if is_word word (codes "sync") then Some turned.Sync
    else None

-- what a turn takes: a shared step, or the stop
unfoldable pub turned_of : List Word → Option Turned
turned_of [] = None
turned_of (word ∷ words) =
    if is_word word (codes "stop") then stop_of words
    else (no_word words >>= λ none. step_of word)

-- `turn SESSION STEP`, without its first word
unfoldable pub turn_of : List Word → Option Item
turn_of [] = None
turn_of (word ∷ words) = do
  session ← session_name_of word
  step ← turned_of words
  Some (Turn session step)

-- What an item says that begins with this word.
unfoldable pub item_of : Word → List Word → Option Item
item_of word words = if is_word word (codes "turn") then turn_of words else None
