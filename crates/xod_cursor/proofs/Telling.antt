-- What a call says after other calls of the same fetch, said of the fetch as it was first; and which error goes through a `?`.
use base.Fml.{GName}
use Rattle.std.proofs.Common.{◌≡◌, ℕ, List, Bool, Err, Result, ◌∙◌, subst}
use Rattle.std.specs.Prelude.{IsTrue}
use Rattle.std.specs.Result.{IsErrAnd}
use Rattle.std.proofs.lemmas.Result.{err_from_is_err_and}
use Rattle.xod_base.specs.declared.causes.Place.{Place}
use Rattle.xod_base.specs.declared.causes.ReadError.{ReadError}
use Rattle.xod_base.specs.declared.causes.ReadError.TheVariants.{Damaged}
use Rattle.xod_block.specs.Fetches.{Stays}
use Rattle.xod_block.specs.Maps.{RecordsAt}

pub told-first : {F : Type 0} {tells : F → Bool} {records : F → RecordsAt} {refs : F → List GName} {faults : F → ℕ} {first now : F} (P : RecordsAt → Type 0) → Stays tells records refs faults first now → (IsTrue (tells now) → P (records now)) → IsTrue (tells first) → P (records first)
told-first P stays says told = subst P stays.records_same (says (stays.tells_same ∙ told))

pub same_error : {A : Type 0} (result : Result A ReadError) (error : ReadError) (place : Place) → IsErrAnd result (λ y. y ≡ error) → result ≡ Err (Damaged place) → error ≡ Damaged place
same_error result error place is e = let p = err_from_is_err_and result is in let was = p.1 in let same = p.2 in cc
