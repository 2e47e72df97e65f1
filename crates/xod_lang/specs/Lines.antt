-- The lines of an input.
use Rattle.std.specs.Prelude.{ℕ, ◌-◌, List, [], ◌∷◌, ◌++◌, take, length, ◌==◌, if◌then◌else◌, slice_index}

-- a line less the one carriage return at its end, where it has one
abbrev pub without_return : List ℕ → List ℕ
without_return line = if slice_index line (length line - 1) == 13 then take (length line - 1) line else line

-- a last piece without a line feed is a line where it is not empty
abbrev pub last_line : List ℕ → List (List ℕ)
last_line [] = []
last_line (byte ∷ bytes) = (byte ∷ bytes) ∷ []

-- the lines of bytes that go on after the front of a line
abbrev pub lines_after : List ℕ → List ℕ → List (List ℕ)
lines_after front [] = last_line front
lines_after front (byte ∷ bytes) =
    if byte == 10 then without_return front ∷ lines_after [] bytes else lines_after (front ++ byte ∷ []) bytes

-- The lines of an input: each ends at a line feed, or at the end.
abbrev pub lines_of : List ℕ → List (List ℕ)
lines_of bytes = lines_after [] bytes
