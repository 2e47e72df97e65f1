-- A mark comes back from its bytes, and 13 bytes from their mark.
use Rattle.std.proofs.Common.{◌≡◌, ℕ, ◌^◌, ◌<◌, List, [], ◌∷◌, ◌++◌, length, get_or, take, drop, sym, ap, ◌∙◌, arith}
use Rattle.std.specs.Int.{w32, w64, from_be_bytes, to_be_bytes}
use Rattle.std.proofs.lemmas.List.{take-append-drop, length-take, length-drop, drop-drop, drop_all, drop_more, append_assoc}
use Rattle.xod_block.specs.Bytes.{IsBytes}
use Rattle.xod_block.specs.Marks.{mark_bytes, mark_of}
use Rattle.xod_block.specs.declared.end_mark.EndMark.{EndMark}
use Rattle.xod_block.proofs.Numbers.{IsBytes-drop, IsBytes-take, wide32, wide64}

-- 13 bytes are eight, four and one
parts : (bytes : List ℕ) → length bytes ≡ 13 → take 8 bytes ++ take 4 (drop 8 bytes) ++ get_or bytes 12 0 ∷ [] ≡ bytes
parts bytes len =
    let last : drop 12 bytes ≡ get_or bytes 12 0 ∷ [] = drop_more bytes 12 0 (omega arith) ∙ ap (λ (l : List ℕ). get_or bytes 12 0 ∷ l) (drop_all 13 bytes (omega arith)) in
    let later : take 4 (drop 8 bytes) ++ get_or bytes 12 0 ∷ [] ≡ drop 8 bytes = ap (λ (l : List ℕ). take 4 (drop 8 bytes) ++ l) (sym last ∙ sym (drop-drop 4 8 bytes)) ∙ take-append-drop 4 (drop 8 bytes) in
    simp append_assoc (ap (λ (l : List ℕ). take 8 bytes ++ l) later ∙ take-append-drop 8 bytes)

pub mark_bytes-mark_of : (bytes : List ℕ) → length bytes ≡ 13 → IsBytes bytes → mark_bytes (mark_of bytes) ≡ bytes
mark_bytes-mark_of bytes len fits =
    let front : to_be_bytes w64 (from_be_bytes w64 (take 8 bytes)) ≡ take 8 bytes = wide64.back (take 8 bytes) (omega (arith, length-take 8 bytes)) (IsBytes-take 8 bytes fits) in
    let middle : to_be_bytes w32 (from_be_bytes w32 (take 4 (drop 8 bytes))) ≡ take 4 (drop 8 bytes) = wide32.back (take 4 (drop 8 bytes)) (omega (arith, length-take 4 (drop 8 bytes), length-drop 8 bytes)) (IsBytes-take 4 (drop 8 bytes) (IsBytes-drop 8 bytes fits)) in
    ap (λ (l : List ℕ). l ++ to_be_bytes w32 (from_be_bytes w32 (take 4 (drop 8 bytes))) ++ get_or bytes 12 0 ∷ []) front
    ∙ ap (λ (l : List ℕ). take 8 bytes ++ l ++ get_or bytes 12 0 ∷ []) middle
    ∙ parts bytes len

-- 13 bytes come back from the mark that was read out of them
pub mark_bytes-read : (bytes : List ℕ) (end back : ℕ) → end ≡ from_be_bytes w64 (take 8 bytes) → back ≡ from_be_bytes w32 (take 4 (drop 8 bytes)) → length bytes ≡ 13 → IsBytes bytes → mark_bytes (record { end = end; back = back; gate = get_or bytes 12 0 }) ≡ bytes
mark_bytes-read bytes end back end_is back_is len fits =
    let make : ℕ → ℕ → List ℕ = λ e b. mark_bytes (record { end = e; back = b; gate = get_or bytes 12 0 }) in
    ap (λ (e : ℕ). make e back) end_is ∙ ap (make (from_be_bytes w64 (take 8 bytes))) back_is ∙ mark_bytes-mark_of bytes len fits

pub mark_of-mark_bytes : (mark : EndMark) → mark.end < 2 ^ 64 → mark.back < 2 ^ 32 → mark_of (mark_bytes mark) ≡ mark
mark_of-mark_bytes mark end back =
    let make : ℕ → ℕ → EndMark = λ e b. record { end = e; back = b; gate = mark.gate } in
    ap (λ (e : ℕ). make e (from_be_bytes w32 (to_be_bytes w32 mark.back))) (wide64.again mark.end end) ∙ ap (make mark.end) (wide32.again mark.back back)
