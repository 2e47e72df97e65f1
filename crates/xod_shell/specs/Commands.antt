-- The words of a command line. A word is given by its bytes.
use Rattle.std.specs.Prelude.{ℕ, Bool, ◌&&◌, List, [], ◌∷◌, codes, take, drop, length, Option, Some, None, option_and_then, nat_le, if◌then◌else◌}
use Rattle.xod_base.specs.Values.{same_bytes}
use Rattle.xod_words.specs.Numbers.{count_of}
use Rattle.xod_shell.specs.declared.command.TheConstants.{DEFAULT_TARGET, LEAST_TARGET, MOST_TARGET}

-- the one command
abbrev pub is_replay : List ℕ → Bool
is_replay word = same_bytes word (codes "replay")

-- the option that takes the next word
abbrev pub is_target : List ℕ → Bool
is_target word = same_bytes word (codes "--target")

abbrev pub when_allowed : ℕ → Option ℕ
when_allowed target = if nat_le LEAST_TARGET target && nat_le target MOST_TARGET then Some target else None

-- the length that a word is: a decimal number within the bounds
abbrev pub target_in : List ℕ → Option ℕ
target_in word = option_and_then when_allowed (count_of word)

-- the length behind the option's name and `=` in one word
abbrev pub target_behind : List ℕ → Option ℕ
target_behind word =
    if same_bytes (take (length (codes "--target=")) word) (codes "--target=") then target_in (drop (length (codes "--target=")) word) else None

-- The length at which the words ask log files to be rolled: the command alone asks for the usual one, and its option for
-- another, in one word or in two. All other words are no command.
abbrev pub target_asked : List (List ℕ) → Option ℕ
target_asked [] = None
target_asked (command ∷ []) = if is_replay command then Some DEFAULT_TARGET else None
target_asked (command ∷ option ∷ []) = if is_replay command then target_behind option else None
target_asked (command ∷ option ∷ value ∷ []) = if is_replay command && is_target option then target_in value else None
target_asked (command ∷ option ∷ value ∷ next ∷ more) = None
