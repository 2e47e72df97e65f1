-- What a call does that prints into room which was made before.
use Rattle.std.specs.Prelude.{◌≡◌, ◌+◌, ◌≤◌, ℕ, List, ◌++◌, Vec, vec_len, vec_capacity}
use Rattle.std.specs.declared.alloc.Global.{Global}

-- there is room for this many bytes more
abbrev pub HasRoomFor : ℕ → Vec ℕ Global → Type 0
HasRoomFor most out = vec_len out + most ≤ vec_capacity out

-- A text was put at the end, no longer than this; no room was given back.
pub record PrintsWithin (most : ℕ) (text : List ℕ) (old new : Vec ℕ Global) : Type 0 where
  pub printed : new.items ≡ old.items ++ text
  pub length : vec_len new ≤ vec_len old + most
  pub room : vec_capacity old ≤ vec_capacity new
