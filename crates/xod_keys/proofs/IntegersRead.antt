-- Eight bytes are an integer, and are what is stored for it.
use Rattle.std.proofs.Common.{◌≡◌, ℕ, ◌<◌, ◌^◌, slice_index, FitsSigned, Bool, true, false, cond, ℤ, pos, negsuc, List, ◌∷◌, length, Some, None, refl, sym, ap, ◌∙◌, arith, w64}
use Rattle.std.specs.Prelude.{◌==◌}
use Rattle.std.specs.Int.{cast_signed, cast_unsigned}
use Rattle.std.proofs.lemmas.Bool.Decides.{nat_tests}
use Rattle.std.proofs.lemmas.Int.{of_z-to_z}
use Rattle.std.proofs.lemmas.Nat.{be_bytes_8}
use Rattle.std.proofs.Math.Facts.{sfits_to_z}
use Rattle.xod_base.specs.declared.value.Value.{Value}
use Rattle.xod_base.specs.declared.value.Value.TheVariants.{Int}
use Rattle.xod_base.specs.Values.{is_int}
use Rattle.xod_tables.specs.Keys.{u64, stored}
use Rattle.xod_tables.specs.Reading.{of_u64, only_written, value_in}
use Rattle.xod_tables.proofs.CallerLemmas.{written}
use Rattle.xod_keys.specs.Pieces.{next_read, value_read}

-- bytes
abbrev pub AreBytes : List ℕ → Type 0
AreBytes bytes = (i : ℕ) → slice_index bytes i < 256

below : (bytes : List ℕ) → AreBytes bytes → of_u64 bytes < 2 ^ 64
below bytes fits = omega (arith, fits 0, fits 1, fits 2, fits 3, fits 4, fits 5, fits 6, fits 7)

signed : (n : ℕ) → n < 2 ^ 64 → is_int (cast_signed w64 n) ≡ true
signed n h = int (cast_signed w64 n) (sfits_to_z (record { fits = h }))
  where
    int : (z : ℤ) → FitsSigned w64 z → is_int z ≡ true
    int (pos k) fits = let small : k < 2 ^ 63 = fits.sfits in grind (arith, nat_tests)
    int (negsuc k) fits = let small : k < 2 ^ 63 = fits.sfits in grind (arith, nat_tests)

back : (bytes : List ℕ) → length bytes ≡ 8 → AreBytes bytes → u64 (cast_unsigned w64 (cast_signed w64 (of_u64 bytes))) ≡ bytes
back bytes len fits = ap u64 (of_z-to_z w64 (of_u64 bytes) (below bytes fits)) ∙ be_bytes_8 bytes _ len fits refl

eight : (bytes : List ℕ) → length bytes ≡ 8 → AreBytes bytes → value_read (2 ∷ bytes) ≡ Some (Int (cast_signed w64 (of_u64 bytes)))
eight bytes len fits =
    ap (λ (b : Bool). cond b (only_written (λ (value : Value). Some (stored value)) (2 ∷ bytes) (Some (value_in (2 ∷ bytes)))) None) (signed (of_u64 bytes) (below bytes fits))
    ∙ written (λ (value : Value). Some (stored value)) (2 ∷ bytes) (Some (value_in (2 ∷ bytes))) (value_in (2 ∷ bytes)) refl (ap (λ (l : List ℕ). Some (2 ∷ l)) (back bytes len fits))

pub int_read : (bytes : List ℕ) (number : ℕ) → AreBytes bytes → next_read bytes ≡ Some number → Some (Int (cast_signed w64 number)) ≡ value_read (2 ∷ bytes)
int_read bytes number fits is = elim (length bytes == 8) as (λ b. length bytes == 8 ≡ b → cond b (Some (of_u64 bytes)) None ≡ Some number → Some (Int (cast_signed w64 number)) ≡ value_read (2 ∷ bytes)) [
  | true ↦ λ h e.
      let len : length bytes ≡ 8 = grind (arith, nat_tests) in
      let same : of_u64 bytes ≡ number = cc e in
      ap (λ (n : ℕ). Some (Int (cast_signed w64 n))) (sym same) ∙ sym (eight bytes len fits)
  | false ↦ λ h e. cc e
] refl is
