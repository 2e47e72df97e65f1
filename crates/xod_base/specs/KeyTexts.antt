-- Which value's key stands at the front of bytes.
use Rattle.std.specs.Prelude.{◌≡◌, ℕ, IsTrue, List, ◌++◌, take, length, Option}
use Rattle.std.specs.Option.{MatchOption}
use Rattle.xod_base.specs.declared.value.Value.{Value}
use Rattle.xod_base.specs.declared.value.Value.TheVariants.{Flag, Int, Text}
use Rattle.xod_base.specs.Values.{folded, is_value, key_of}

-- a value with the bytes of its text folded; flags and integers stay as they are
abbrev pub folded_value : Value → Value
folded_value (Flag flag) = Flag flag
folded_value (Int number) = Int number
folded_value (Text text) = Text (folded text)

-- Bytes begin with the key of a folded value, and the key has so many bytes.
pub record ReadsKey (bytes : List ℕ) (value : Value) (size : ℕ) : Type 0 where
  pub valid : IsTrue (is_value value)
  pub is_folded : folded_value value ≡ value
  pub front : take size bytes ≡ key_of value
  pub whole : length (key_of value) ≡ size

-- no value's key stands at the front of bytes
abbrev pub HasNoKey : List ℕ → Type 0
HasNoKey bytes = (value : Value) (rest : List ℕ) → IsTrue (is_value value) → bytes ≡ key_of value ++ rest → ⊥

-- the value that was read with the size of its key, or none where there is no key
abbrev pub FindsKey : List ℕ → Option (Value × ℕ) → Type 0
FindsKey bytes found = MatchOption found (HasNoKey bytes) (λ read. ReadsKey bytes read.0 read.1)
