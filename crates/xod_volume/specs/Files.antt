-- What a volume's files hold, and how the calls change what reads give.
use Rattle.std.specs.Prelude.{ℕ, ◌+◌, ◌-◌, List, [], ◌++◌, length, take, drop, Option, Some, None}
use Rattle.std.specs.Ordering.{nat_cmp}
use Rattle.std.specs.FinMap.{FinMap, empty, get, insert, remove, from_entries}

-- files by number, each with its bytes
abbrev pub Files : Type 0
Files = FinMap nat_cmp (List ℕ)

-- what stands under one number: nothing, or the bytes of a file
abbrev pub Content : Type 0
Content = Option (List ℕ)

-- the files of a list of numbers with bytes
abbrev pub files_from : List (ℕ × List ℕ) → Files
files_from entries = from_entries entries

-- no file at all
abbrev pub no_files : Files
no_files = empty

-- the bytes that stand there, none where there is no file
abbrev pub bytes_in : Content → List ℕ
bytes_in None = []
bytes_in (Some bytes) = bytes

-- the bytes of a file, none where it is absent
abbrev pub bytes_of : Files → ℕ → List ℕ
bytes_of files file = bytes_in (get files file)

-- how many bytes a file has
abbrev pub size_of : Files → ℕ → ℕ
size_of files file = length (bytes_of files file)

-- the bytes with others written over them at a place, as far as they go
abbrev pub overwritten : List ℕ → ℕ → List ℕ → List ℕ
overwritten old at bytes = take at old ++ take (length old - at) bytes ++ drop (at + length bytes) old

-- the files with this one as given
abbrev pub with_file : Files → ℕ → Content → Files
with_file files file None = remove files file
with_file files file (Some bytes) = insert files file bytes
