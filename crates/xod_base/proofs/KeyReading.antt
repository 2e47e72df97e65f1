-- A key at the front of bytes is read as one folded value, and where none is read there is none.
use Rattle.std.proofs.Common.{◌≡◌, ℕ, ◌+◌, ◌<◌, Bool, true, false, IsTrue, ℤ, pos, negsuc, List, [], ◌∷◌, ◌++◌, length, get_or, take, drop, refl, sym, ap, subst, ◌∙◌, true≢false, append_assoc, arith, w64, take_at, take-append-drop, length-append, eqb-true}
use Rattle.std.specs.Prelude.{if◌then◌else◌, ◌==◌}
use Rattle.std.specs.Int.{from_be_bytes, to_be_bytes}
use Rattle.std.specs.List.{position_or_len}
use Rattle.std.proofs.Math.Seq.{get_or-append_seam}
use Rattle.std.proofs.lemmas.Bool.Decides.{nat_tests}
use Rattle.std.proofs.lemmas.List.Sums.{passes_at_first}
use Rattle.std.proofs.lemmas.Nat.{from_be_bytes-to_be_bytes_8}
use Rattle.xod_base.specs.declared.value.Value.{Value}
use Rattle.xod_base.specs.declared.value.Value.TheVariants.{Flag, Int, Text}
use Rattle.xod_base.specs.KeyTexts.{HasNoKey, ReadsKey, folded_value}
use Rattle.xod_base.specs.Laws.{KeysAreReadBack, OneKeyIsRead}
use Rattle.xod_base.specs.Text.{is_text}
use Rattle.xod_base.specs.Values.{biased, folded, is_int, is_value, key_of}
use Rattle.xod_base.proofs.ByteOrder.{NoZero}
use Rattle.xod_base.proofs.Folding.{folded_valid, folded_value_again, key_of_folded}
use Rattle.xod_base.proofs.KeyEnds.{first, rest}
use Rattle.xod_base.proofs.KeyOrder.{biased_lt, text_no_zero}

-- ---- a key is read back

pub read_back : KeysAreReadBack
read_back value rest h = record {
  valid = folded_valid value h;
  is_folded = folded_value_again value;
  front = take_at (key_of value) rest (length (key_of value)) refl ∙ sym (key_of_folded value);
  whole = ap length (key_of_folded value);
}

-- ---- as one value only

abbrev flag_byte : Bool → ℕ
flag_byte flag = if flag then 1 else 0

same_flag : (a b : Bool) → flag_byte a ≡ flag_byte b → a ≡ b
same_flag true true h = refl
same_flag true false h = absurd (omega (arith, h))
same_flag false true h = absurd (omega (arith, h))
same_flag false false h = refl

same_long : (xs ys a b : List ℕ) → length xs ≡ length ys → xs ++ a ≡ ys ++ b → xs ≡ ys
same_long [] [] a b e h = refl
same_long [] (y ∷ ys) a b e h = absurd (omega arith)
same_long (x ∷ xs) [] a b e h = absurd (omega arith)
same_long (x ∷ xs) (y ∷ ys) a b e h = λ i. ap first h i ∷ same_long xs ys a b (omega arith) (ap rest h) i

same_ended : (xs ys a b : List ℕ) → NoZero xs → NoZero ys → (xs ++ 0 ∷ []) ++ a ≡ (ys ++ 0 ∷ []) ++ b → xs ≡ ys
same_ended [] [] a b p q h = refl
same_ended [] (y ∷ ys) a b p q h = let zero_is : 0 ≡ y = ap first h in absurd (omega arith)
same_ended (x ∷ xs) [] a b p q h = let is_zero : x ≡ 0 = ap first h in absurd (omega arith)
same_ended (x ∷ xs) (y ∷ ys) a b p q h = λ i. ap first h i ∷ same_ended xs ys a b p.1 q.1 (ap rest h) i

same_biased : (a b : ℤ) → IsTrue (is_int a) → IsTrue (is_int b) → biased a ≡ biased b → a ≡ b
same_biased (pos a) (pos b) p q h = let same : a ≡ b = grind (arith, nat_tests) in ap pos same
same_biased (pos a) (negsuc b) p q h = absurd (grind (arith, nat_tests))
same_biased (negsuc a) (pos b) p q h = absurd (grind (arith, nat_tests))
same_biased (negsuc a) (negsuc b) p q h = let same : a ≡ b = grind (arith, nat_tests) in ap negsuc same

same_int : (a b : ℤ) → IsTrue (is_int a) → IsTrue (is_int b) → to_be_bytes w64 (biased a) ≡ to_be_bytes w64 (biased b) → a ≡ b
same_int a b p q h = same_biased a b p q
    (sym (from_be_bytes-to_be_bytes_8 (biased a) (biased_lt a p)) ∙ ap (from_be_bytes w64) h ∙ from_be_bytes-to_be_bytes_8 (biased b) (biased_lt b q))

-- values with keys at the front of the same bytes are the same but for the case of texts
same_key : (v w : Value) (a b : List ℕ) → IsTrue (is_value v) → IsTrue (is_value w) → key_of v ++ a ≡ key_of w ++ b → folded_value v ≡ folded_value w
same_key (Flag x) (Flag y) a b p q h = ap Flag (same_flag x y (ap (λ l. first (rest l)) h))
same_key (Flag x) (Int y) a b p q h = absurd (omega (arith, ap first h))
same_key (Flag x) (Text y) a b p q h = absurd (omega (arith, ap first h))
same_key (Int x) (Flag y) a b p q h = absurd (omega (arith, ap first h))
same_key (Int x) (Int y) a b p q h = ap Int (same_int x y p q (same_long (to_be_bytes w64 (biased x)) (to_be_bytes w64 (biased y)) a b refl (ap rest h)))
same_key (Int x) (Text y) a b p q h = absurd (omega (arith, ap first h))
same_key (Text x) (Flag y) a b p q h = absurd (omega (arith, ap first h))
same_key (Text x) (Int y) a b p q h = absurd (omega (arith, ap first h))
same_key (Text x) (Text y) a b p q h = ap Text (same_ended (folded x) (folded y) a b (text_no_zero x p) (text_no_zero y q) (ap rest h))

pub one_key : OneKeyIsRead
one_key bytes v w n m p q =
    let whole : key_of v ++ drop n bytes ≡ key_of w ++ drop m bytes =
    ap (λ (l : List ℕ). l ++ drop n bytes) (sym p.front) ∙ take-append-drop n bytes
    ∙ sym (take-append-drop m bytes) ∙ ap (λ (l : List ℕ). l ++ drop m bytes) q.front in
    let same : v ≡ w = sym p.is_folded ∙ same_key v w (drop n bytes) (drop m bytes) p.valid q.valid whole ∙ q.is_folded in
    (same, sym p.whole ∙ ap (λ (x : Value). length (key_of x)) same ∙ q.whole)

-- ---- a text before the first 0

same_behind : (xs ys a b : List ℕ) → length xs ≡ length ys → xs ++ a ≡ ys ++ b → a ≡ b
same_behind [] [] a b e h = h
same_behind [] (y ∷ ys) a b e h = absurd (omega arith)
same_behind (x ∷ xs) [] a b e h = absurd (omega arith)
same_behind (x ∷ xs) (y ∷ ys) a b e h = same_behind xs ys a b (omega arith) (ap rest h)

not_zero : (byte : ℕ) → 0 < byte → (byte == 0) ≡ false
not_zero byte h = grind (arith, nat_tests)

-- bytes that are empty by the test, and bytes that are not
pub not_empty : (xs more : List ℕ) → xs ≡ 0 ∷ more → true ≡ (length xs == 0) → ⊥
not_empty xs more h e = absurd (omega (arith, eqb-true (length xs) 0 (sym e), ap length h))

pub not_none : (xs : List ℕ) → false ≡ (length xs == 0) → xs ≡ [] → ⊥
not_none xs e h = true≢false (sym (e ∙ ap (λ (l : List ℕ). length l == 0) h))

zero_ends : (xs more : List ℕ) → NoZero xs → position_or_len (λ byte. byte == 0) (xs ++ 0 ∷ more) ≡ length xs
zero_ends [] more p = refl
zero_ends (x ∷ xs) more p = let here = zero_ends xs more p.1 in rw (not_zero x p.0) (omega (arith, here))

-- only a text's key begins with a 3, and its text and its 0 stand where the bytes are cut
pub no_text : (behind_3 bytes behind : List ℕ) → length bytes ≡ position_or_len (λ byte. byte == 0) behind_3 → behind_3 ≡ bytes ++ behind
    → ((text more : List ℕ) → IsTrue (is_text text) → bytes ≡ folded text → behind ≡ 0 ∷ more → ⊥) → HasNoKey (3 ∷ behind_3)
no_text behind_3 bytes behind at parts none (Flag flag) more valid h = absurd (omega (arith, ap first h))
no_text behind_3 bytes behind at parts none (Int number) more valid h = absurd (omega (arith, ap first h))
no_text behind_3 bytes behind at parts none (Text text) more valid h =
    let stands : behind_3 ≡ folded text ++ 0 ∷ more = ap rest h ∙ append_assoc (folded text) (0 ∷ []) more in
    let same_size : length bytes ≡ length (folded text) =
    at ∙ ap (position_or_len (λ byte. byte == 0)) stands ∙ zero_ends (folded text) more (text_no_zero text valid) in
    let both : bytes ++ behind ≡ folded text ++ 0 ∷ more = sym parts ∙ stands in
    none text more valid (same_long bytes (folded text) behind (0 ∷ more) same_size both)
    (same_behind bytes (folded text) behind (0 ∷ more) same_size both)

-- what stands behind all bytes before the first 0 is 0
first_zero : (xs ys : List ℕ) (y : ℕ) → length xs ≡ position_or_len (λ byte. byte == 0) (xs ++ y ∷ ys) → y ≡ 0
first_zero xs ys y e =
    let at = position_or_len (λ byte. byte == 0) (xs ++ y ∷ ys) in
    let within : at < length (xs ++ y ∷ ys) = omega (arith, length-append xs (y ∷ ys), e) in
    let passes = passes_at_first (λ byte. byte == 0) (xs ++ y ∷ ys) 0 within in
    sym (get_or-append_seam xs y ys 0) ∙ ap (λ k. get_or (xs ++ y ∷ ys) k 0) e ∙ eqb-true (get_or (xs ++ y ∷ ys) at 0) 0 passes

-- a text behind a 3, before the first 0 and folded
pub reads_text : (behind_3 bytes behind text : List ℕ) → length bytes ≡ position_or_len (λ byte. byte == 0) behind_3
    → behind_3 ≡ bytes ++ behind → (behind ≡ [] → ⊥) → folded bytes ≡ bytes → text ≡ bytes → IsTrue (is_text bytes)
    → ReadsKey (3 ∷ behind_3) (Text text) (length bytes + 2)
reads_text behind_3 bytes [] text at parts more folds same is = absurd (more refl)
reads_text behind_3 bytes (y ∷ ys) text at parts more folds same is =
    let zero_is : y ≡ 0 = first_zero bytes ys y (at ∙ ap (position_or_len (λ byte. byte == 0)) parts) in
    let all : 3 ∷ behind_3 ≡ ((3 ∷ bytes) ++ 0 ∷ []) ++ ys =
    ap (λ (l : List ℕ). 3 ∷ l) (parts ∙ ap (λ k. bytes ++ k ∷ ys) zero_is ∙ sym (append_assoc bytes (0 ∷ []) ys)) in
    let size : length ((3 ∷ bytes) ++ 0 ∷ []) ≡ length bytes + 2 = omega (arith, length-append bytes (0 ∷ [])) in
    let folds_text : folded text ≡ bytes = ap folded same ∙ folds in
    record {
      valid = subst (λ (l : List ℕ). IsTrue (is_text l)) (sym same) is;
      is_folded = ap Text (folds_text ∙ sym same);
      front = ap (take (length bytes + 2)) all ∙ take_at ((3 ∷ bytes) ++ 0 ∷ []) ys (length bytes + 2) size
          ∙ ap (λ (l : List ℕ). (3 ∷ l) ++ 0 ∷ []) (sym folds_text);
      whole = ap (λ (l : List ℕ). length ((3 ∷ l) ++ 0 ∷ [])) folds_text ∙ size;
    }
