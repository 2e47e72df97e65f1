-- What a test of two parts, or of each item of a list, says of them.
use Rattle.std.proofs.Common.{◌≡◌, ◌≢◌, Bool, true, false, T, refl, subst, sym}
use Rattle.std.specs.Prelude.{◌&&◌}
use Rattle.std.proofs.lemmas.Bool.{false≢true}

pub two : (a b : Bool) → (a && b) ≡ true → (a ≡ true) × (b ≡ true)
two true b h = (refl, h)
two false b h = absurd (false≢true h)

pub unlike : (b : Bool) → (b ≢ true) → b ≡ false
unlike true h = absurd (h refl)
unlike false h = refl

pub holds : (b : Bool) → b ≡ true → T b
holds b h = subst T (sym h) tt

pub is_true : (b : Bool) → T b → b ≡ true
is_true true h = refl
is_true false h = absurd h

pub first : (a b : Bool) → T (a && b) → T a
first true b h = tt
first false b h = absurd h

pub second : (a b : Bool) → T (a && b) → T b
second true b h = h
second false b h = absurd h
