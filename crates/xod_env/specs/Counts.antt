-- How many log files a volume has, by the numbers of its files.
use Rattle.std.specs.Prelude.{ℕ, ◌+◌, ◌==◌, Bool, false, if◌then◌else◌, List, [], ◌∷◌, Option, Some, None}
use Rattle.xod_log.specs.Standing.{last_file}
use Rattle.xod_env.specs.Bodies.{is_body_up_to}

-- the ends of a body stand behind it; a volume file that is no log file's body has none
abbrev pub ends_behind : ℕ → Option ℕ
ends_behind number = if is_body_up_to last_file number then Some (number + 1) else None

-- a volume file is the one that was looked for
abbrev pub is_wanted : Option ℕ → ℕ → Bool
is_wanted None number = false
is_wanted (Some wanted) number = number == wanted

-- How many ends come right behind their bodies in a list, of which the first may be ends that are looked for.
abbrev pub pairs_from : Option ℕ → List ℕ → ℕ
pairs_from wanted [] = 0
pairs_from wanted (number ∷ numbers) = (if is_wanted wanted number then 1 else 0) + pairs_from (ends_behind number) numbers

-- how many bodies have their ends right behind them
abbrev pub pairs_among : List ℕ → ℕ
pairs_among numbers = pairs_from None numbers
