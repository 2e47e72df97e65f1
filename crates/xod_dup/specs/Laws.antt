-- What joined keys are good for, and which keys they may be made of.
use Rattle.std.specs.Prelude.{◌≡◌, ℕ, IsTrue, List, ◌++◌, length}
use Rattle.std.specs.Ordering.{ordering_then}
use Rattle.xod_base.specs.declared.value.Value.{Value}
use Rattle.xod_base.specs.Values.{bytes_cmp, is_value, key_of}
use Rattle.xod_dup.specs.Joining.{joined, ShowTheirEnds}

-- equal joined keys are made of the same pair
abbrev pub PairsComeBack : Type 0
PairsComeBack = (key other value more : List ℕ) → ShowTheirEnds key other
    → joined key value ≡ joined other more → (key ≡ other) × (value ≡ more)

-- joined keys stand in the order of their pairs: the keys decide and, where they are equal, the values
abbrev pub JoinedKeysRiseAsPairs : Type 0
JoinedKeysRiseAsPairs = (key other value more : List ℕ) → ShowTheirEnds key other
    → bytes_cmp (joined key value) (joined other more) ≡ ordering_then (bytes_cmp key other) (bytes_cmp value more)

-- keys of one length show their ends
abbrev pub EqualLengthsSuffice : Type 0
EqualLengthsSuffice = (key other : List ℕ) → length key ≡ length other → ShowTheirEnds key other

-- so do keys that show their ends behind fronts of one length
abbrev pub FrontsOfOneLengthKeepEnds : Type 0
FrontsOfOneLengthKeepEnds = (front before key other : List ℕ) → length front ≡ length before → ShowTheirEnds key other
    → ShowTheirEnds (front ++ key) (before ++ other)

-- and so do the keys of values
abbrev pub KeysOfValuesShowTheirEnds : Type 0
KeysOfValuesShowTheirEnds = (v w : Value) → IsTrue (is_value v) → IsTrue (is_value w)
    → ShowTheirEnds (key_of v) (key_of w)
