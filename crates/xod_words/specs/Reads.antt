-- What a reader answers, by what the grammar says of the same bytes.
use Rattle.std.specs.Prelude.{◌≡◌, ℕ, List, Option, Some, None, Result, Ok, Err}
use Rattle.std.specs.Borrow.{Bor}
use Rattle.xod_words.specs.Words.{Word, words_of}
use Rattle.xod_words.specs.declared.words.Unread.{Unread}
use Rattle.xod_words.specs.declared.words.Unread.TheVariants as unread

-- A value exactly as the grammar gives it, `Bad` exactly where it gives none; want of memory says nothing.
abbrev pub Reads : {A : Type 0} → Result A Unread → Option A → Type 0
Reads (Ok value) expected = expected ≡ Some value
Reads (Err unread.Bad) expected = expected ≡ None
Reads (Err unread.Memory) expected = Unit {0}

-- the same of a value and the words behind it, which are still in the line
abbrev pub ReadsOn : {A : Type 0} → Result (A × Bor (List ℕ)) Unread → Option (A × List Word) → Type 0
ReadsOn (Ok found) expected = expected ≡ Some (found.0, words_of found.1.now)
ReadsOn (Err unread.Bad) expected = expected ≡ None
ReadsOn (Err unread.Memory) expected = Unit {0}
