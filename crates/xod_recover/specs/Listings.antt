-- Which volume files are bodies.
use Rattle.std.specs.Prelude.{ℕ, ◌%◌, ◌==◌, Bool}

-- the number of a body is even
abbrev pub is_body : ℕ → Bool
is_body number = number % 2 == 0
