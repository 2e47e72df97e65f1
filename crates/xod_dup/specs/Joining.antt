-- The joined key of a tree that keeps several values under one key.
use Rattle.std.specs.Prelude.{◌≡◌, ℕ, List, [], ◌++◌}

-- the key, and right behind it the value
abbrev pub joined : List ℕ → List ℕ → List ℕ
joined key value = key ++ value

-- a key at which another one begins is that one, with nothing after it
abbrev pub BeginsOnlyItself : List ℕ → List ℕ → Type 0
BeginsOnlyItself key other = (more : List ℕ) → key ++ more ≡ other → more ≡ []

-- neither of two keys is a proper prefix of the other, so each shows where it ends
abbrev pub ShowTheirEnds : List ℕ → List ℕ → Type 0
ShowTheirEnds key other = BeginsOnlyItself key other × BeginsOnlyItself other key
