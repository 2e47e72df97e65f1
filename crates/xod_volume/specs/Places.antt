-- Where a byte stands in a list of pieces.
use Rattle.std.specs.Prelude.{◌≡◌, ◌<◌, ℕ, ◌+◌, List, [], ◌∷◌, length, map, take, get_or}
use Rattle.std.specs.List.{concat}

-- The byte at a place of all the pieces is in the piece with this index, and so many bytes of that piece come before it.
pub record IsPlace (pieces : List (List ℕ)) (at index within : ℕ) : Type 0 where
  pub index_in : index < length pieces
  pub place : at ≡ length (concat (take index pieces)) + within
  pub before_its_end : within < length (get_or pieces index [])

-- Where pieces of these sizes begin, of which the first begins here.
abbrev pub starts_from : ℕ → List ℕ → List ℕ
starts_from here [] = []
starts_from here (size ∷ sizes) = here ∷ starts_from (here + size) sizes

-- Where each of the pieces begins among the bytes of all.
abbrev pub starts_of : List (List ℕ) → List ℕ
starts_of pieces = starts_from 0 (map length pieces)
