-- Which error stands behind one that is answered.
use Rattle.std.proofs.Common.{◌≡◌, Result, Ok, Err, sym, ◌∙◌}
use Rattle.std.specs.Result.{IsErrAnd}
use Rattle.xod_base.specs.declared.causes.Place.{Place}
use Rattle.xod_base.specs.declared.causes.ReadError.{ReadError}
use Rattle.xod_base.specs.declared.causes.ReadError.TheVariants as read
use Rattle.xod_recover.specs.declared.error.OpenError.{OpenError}
use Rattle.xod_recover.specs.declared.error.OpenError.TheVariants.{Damaged}
use Rattle.xod_recover.specs.Errors.{read_as}

damaged-read : (error : ReadError) (place : Place) → read_as error ≡ Damaged place → error ≡ read.Damaged place
damaged-read read.Device place e = absurd cc
damaged-read (read.Damaged other) place e = let same : other ≡ place = cc e in cc
damaged-read read.Memory place e = absurd cc

pub damaged-from : {B : Type 0} (error : ReadError) (result : Result B OpenError) (place : Place) → IsErrAnd result (λ given. given ≡ read_as error) → result ≡ Err (Damaged place) → error ≡ read.Damaged place
damaged-from error (Ok value) place is e = absurd is
damaged-from error (Err given) place is e = let same : given ≡ Damaged place = cc e in damaged-read error place (sym is ∙ same)
