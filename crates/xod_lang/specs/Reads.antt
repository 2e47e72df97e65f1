-- What the readers of lines answer, by what the grammar says of the same bytes.
use Rattle.std.specs.Prelude.{◌≡◌, ℕ, Option, Some, None, Result, Ok, Err}
use Rattle.xod_words.specs.declared.words.Unread.{Unread}
use Rattle.xod_words.specs.declared.words.Unread.TheVariants as unread
use Rattle.xod_lang.specs.declared.reading.Reading.{Reading}
use Rattle.xod_lang.specs.declared.script.Script.{Script}
use Rattle.xod_lang.specs.declared.script.ScriptError.{ScriptError}
use Rattle.xod_lang.specs.declared.script.ScriptError.TheVariants as script_error

-- What was read goes on as the grammar says, `Bad` exactly where that gives none; want of memory says nothing.
abbrev pub GoesOn : Result (Unit {0}) Unread → Reading → Option Reading → Type 0
GoesOn (Ok done) now expected = expected ≡ Some now
GoesOn (Err unread.Bad) now expected = expected ≡ None
GoesOn (Err unread.Memory) now expected = Unit {0}

-- the same with the number of the line, which is the bad one
abbrev pub GoesOnAt : ℕ → Result (Unit {0}) ScriptError → Reading → Option Reading → Type 0
GoesOnAt here (Ok done) now expected = expected ≡ Some now
GoesOnAt here (Err (script_error.Line line)) now expected = (line ≡ here) × (expected ≡ None)
GoesOnAt here (Err script_error.Memory) now expected = Unit {0}

-- A script exactly as the grammar gives it, a line exactly where that is the first bad one; want of memory says nothing.
abbrev pub ReadsScript : Result Script ScriptError → Result Script ℕ → Type 0
ReadsScript (Ok script) expected = expected ≡ Ok script
ReadsScript (Err (script_error.Line line)) expected = expected ≡ Err line
ReadsScript (Err script_error.Memory) expected = Unit {0}
