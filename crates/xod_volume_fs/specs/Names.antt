-- What a file is called in its folder, and how it is reached from outside.
use Rattle.std.specs.Prelude.{ℕ, List, ◌++◌, codes}
use Rattle.std.specs.Fmt.{decimal}

-- the number in decimal digits, without zeros before it, and then the ending
abbrev pub file_name : ℕ → List ℕ
file_name file = decimal file ++ codes ".log"

-- what the lock is called
abbrev pub lock_name : List ℕ
lock_name = codes "lock"

-- the path of a name in a folder
abbrev pub path_in : List ℕ → List ℕ → List ℕ
path_in folder name = folder ++ codes "/" ++ name
