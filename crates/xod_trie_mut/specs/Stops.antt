-- What it says that a change stopped.
use Rattle.std.specs.Prelude.{◌≡◌, ℕ, Bool, IsTrue, Result, Ok, Err}
use Rattle.xod_base.specs.declared.causes.ReadError.{ReadError}
use Rattle.xod_base.specs.declared.causes.ReadError.TheVariants.{Device, Damaged, Memory}
use Rattle.xod_base.specs.Views.{CountsFaults}
use Rattle.xod_block.specs.Maps.{RecordsAt}
use Rattle.xod_trie_mut.specs.declared.stop.Stop.{Stop}
use Rattle.xod_trie_mut.specs.declared.stop.Stop.TheVariants as stop
use Rattle.xod_trie_mut.specs.Damaged.{IsBadPlace}

-- a damaged place is bad, and does not come over what is whole
abbrev pub Breaks : Bool → RecordsAt → Type 0 → ReadError → Type 0
Breaks tells records Whole Device = Unit {0}
Breaks tells records Whole (Damaged place) = IsTrue tells → IsBadPlace records place × (Whole → ⊥)
Breaks tells records Whole Memory = Unit {0}

-- the same, and a part that is too long does not come over what is whole and has keys that fit
abbrev pub StopsBy : Bool → RecordsAt → Type 0 → Type 0 → Stop → Type 0
StopsBy tells records Whole Fits (stop.Read error) = Breaks tells records Whole error
StopsBy tells records Whole Fits stop.TooLong = IsTrue tells → Whole → Fits → ⊥

-- how the count of faults goes: it stands where nothing failed
abbrev pub CountsStops : {A : Type 0} → ℕ → ℕ → Result A Stop → Type 0
CountsStops before now (Ok value) = now ≡ before
CountsStops before now (Err (stop.Read error)) = CountsFaults {A = Unit {0}} before now (Err error)
CountsStops before now (Err stop.TooLong) = now ≡ before

-- it was a read that stopped
abbrev pub IsRead : Stop → Type 0
IsRead (stop.Read error) = Unit {0}
IsRead stop.TooLong = ⊥

-- it was memory that was refused
abbrev pub IsWanting : ReadError → Type 0
IsWanting Device = ⊥
IsWanting (Damaged place) = ⊥
IsWanting Memory = Unit {0}
