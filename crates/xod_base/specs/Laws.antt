-- What the keys of values are good for.
use Rattle.std.specs.Prelude.{◌≡◌, ℕ, IsTrue, List, [], ◌++◌, length}
use Rattle.xod_base.specs.declared.value.Value.{Value}
use Rattle.xod_base.specs.KeyTexts.{ReadsKey, folded_value}
use Rattle.xod_base.specs.Values.{bytes_cmp, is_value, key_of, value_cmp}

-- the keys of two values stand in the order of the values
abbrev pub KeysRiseAsValues : Type 0
KeysRiseAsValues = (v w : Value) → IsTrue (is_value v) → IsTrue (is_value w)
    → bytes_cmp (key_of v) (key_of w) ≡ value_cmp v w

-- a key at which another one begins is that one, with nothing after it
abbrev pub EachKeyShowsItsEnd : Type 0
EachKeyShowsItsEnd = (v w : Value) (more : List ℕ) → IsTrue (is_value v) → IsTrue (is_value w)
    → key_of v ++ more ≡ key_of w → more ≡ []

-- the key of a value is read back as the folded value, whatever bytes follow it
abbrev pub KeysAreReadBack : Type 0
KeysAreReadBack = (value : Value) (rest : List ℕ) → IsTrue (is_value value)
    → ReadsKey (key_of value ++ rest) (folded_value value) (length (key_of value))

-- at the front of the same bytes only one folded value is read, with one size
abbrev pub OneKeyIsRead : Type 0
OneKeyIsRead = (bytes : List ℕ) (v w : Value) (n m : ℕ) → ReadsKey bytes v n → ReadsKey bytes w m → (v ≡ w) × (n ≡ m)
