-- Which volume files are bodies that the newest roots may reach.
use Rattle.std.specs.Prelude.{ℕ, ◌/◌, ◌%◌, ◌==◌, ◌&&◌, Bool, nat_le}

-- A volume file is the body of a log file up to this one: the body of log file f is volume file 2 * f.
abbrev pub is_body_up_to : ℕ → ℕ → Bool
is_body_up_to current number = (number % 2 == 0) && nat_le (number / 2) current
