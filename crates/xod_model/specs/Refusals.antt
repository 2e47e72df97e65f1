-- What a call says of what it is to answer.
use Rattle.std.specs.Prelude.{◌≡◌, Result, Ok, Err}
use Rattle.xod_base.specs.declared.answer.StmtError.{StmtError}
use Rattle.xod_base.specs.declared.answer.StmtError.TheVariants.{Memory}

-- An error is the refusal that is expected, and want of memory says nothing.
abbrev pub Refuses : {A : Type 0} → Result A StmtError → StmtError → Type 0
Refuses expected Memory = Unit {0}
Refuses expected error = expected ≡ Err error

-- An answer is what is expected, and so is a refusal.
abbrev pub Tells : {A : Type 0} → Result A StmtError → Result A StmtError → Type 0
Tells expected (Ok answer) = expected ≡ Ok answer
Tells expected (Err error) = Refuses expected error
