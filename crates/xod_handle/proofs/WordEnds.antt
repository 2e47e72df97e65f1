-- Where a word, a number or a text in quotes ends, and that it is told by its text.
use Rattle.std.proofs.Common.{◌≡◌, ℕ, suc, ◌+◌, ◌<◌, ◌≤◌, ◌^◌, ◌%◌, ℤ, pos, negsuc, Bool, true, false, ◌&&◌, ◌||◌, ◌==◌, List, [], ◌∷◌, ◌++◌, refl, sym, ap, ◌∙◌, arith, subst, IsTrue, nat_lt, append_assoc, if◌then◌else◌, codes, ◌⊎◌, inl, inr}
use Rattle.std.specs.Cmp.{first_so, second_so}
use Rattle.std.specs.List.{flat_map, list_all}
use Rattle.std.specs.Fmt.{decimal, signed_decimal}
use Rattle.std.proofs.lemmas.Fmt.{decimal_by_steps, decimal_injective, signed_decimal_injective}
use Rattle.std.proofs.lemmas.Bool.Decides.{nat_tests}
use Rattle.xod_base.specs.declared.value.EntityId.{EntityId}
use Rattle.xod_base.specs.declared.value.Value.{Value}
use Rattle.xod_base.specs.declared.value.Value.TheVariants.{Flag, Int, Text}
use Rattle.xod_base.specs.declared.query.Direction.{Direction}
use Rattle.xod_base.specs.declared.query.Direction.TheVariants.{Up, Down}
use Rattle.xod_base.specs.Names.{is_name_byte, is_name_word, starts_name}
use Rattle.xod_base.specs.Queries.{is_id}
use Rattle.xod_base.specs.QueryTexts.{direction_text, escaped_byte, id_text, quoted, value_text}
use Rattle.xod_base.specs.Values.{is_int, is_value}
use Rattle.xod_base.specs.declared.limits.TheConstants.{LONGEST_NAME}

abbrev pub first : List ℕ → ℕ
first [] = 0
first (x ∷ xs) = x

abbrev pub rest : List ℕ → List ℕ
rest [] = []
rest (x ∷ xs) = xs

-- the same front, and the same behind it
abbrev pub Ends : {A : Type 0} → A → A → List ℕ → List ℕ → Type 0
Ends a b s t = (a ≡ b) × (s ≡ t)

-- ---- words, which end at a byte that is lower than each of theirs

abbrev pub Above : ℕ → List ℕ → Type 0
Above low [] = Unit {0}
Above low (x ∷ xs) = (low < x) × Above low xs

above_append : (low : ℕ) (xs ys : List ℕ) → Above low xs → Above low ys → Above low (xs ++ ys)
above_append low [] ys a b = b
above_append low (x ∷ xs) ys a b = (a.0, above_append low xs ys a.1 b)

above_lower : (low high : ℕ) → low ≤ high → (xs : List ℕ) → Above high xs → Above low xs
above_lower low high le [] a = tt
above_lower low high le (x ∷ xs) a = let over : high < x = a.0 in (omega arith, above_lower low high le xs a.1)

pub word_ends : (end : ℕ) (xs ys s t : List ℕ) → Above end xs → Above end ys → xs ++ end ∷ s ≡ ys ++ end ∷ t → Ends xs ys s t
word_ends end [] [] s t a b e = (refl, ap rest e)
word_ends end [] (y ∷ ys) s t a b e = let is : end ≡ y = ap first e in let lt : end < y = b.0 in absurd (omega arith)
word_ends end (x ∷ xs) [] s t a b e = let is : x ≡ end = ap first e in let lt : end < x = a.0 in absurd (omega arith)
word_ends end (x ∷ xs) (y ∷ ys) s t a b e = let more = word_ends end xs ys s t a.1 b.1 (ap rest e) in ((λ i. ap first e i ∷ more.0 i), more.1)

over_space : (x : ℕ) → IsTrue (nat_lt 32 x) → 32 < x
over_space x e = grind (arith, nat_tests)

pub bytes_above : (xs : List ℕ) → IsTrue (list_all (nat_lt 32) xs) → Above 32 xs
bytes_above [] e = tt
bytes_above (x ∷ xs) e = (over_space x (first_so _ _ e), bytes_above xs (second_so _ _ e))

name_byte : (x : ℕ) → IsTrue (is_name_byte x) → 32 < x
name_byte x e = grind (arith, nat_tests)

name_bytes : (xs : List ℕ) → IsTrue (list_all is_name_byte xs) → Above 32 xs
name_bytes [] e = tt
name_bytes (x ∷ xs) e = (name_byte x (first_so _ _ e), name_bytes xs (second_so _ _ e))

name_above : (xs : List ℕ) → IsTrue (is_name_word xs) → Above 32 xs
unfolding is_name_word
name_above xs e = name_bytes xs (second_so _ _ (first_so _ _ e))

pub name_ends : (xs ys s t : List ℕ) → IsTrue (is_name_word xs) → IsTrue (is_name_word ys) → xs ++ 32 ∷ s ≡ ys ++ 32 ∷ t → Ends xs ys s t
name_ends xs ys s t n m e = word_ends 32 xs ys s t (name_above xs n) (name_above ys m) e

-- ---- numbers

abbrev Between : ℕ → ℕ → List ℕ → Type 0
Between low high [] = Unit {0}
Between low high (x ∷ xs) = ((low < x) × (x < high)) × Between low high xs

between_above : (low high end : ℕ) → end ≤ low → (xs : List ℕ) → Between low high xs → Above end xs
between_above low high end le [] b = tt
between_above low high end le (x ∷ xs) b = let over : low < x = b.0.0 in (omega arith, between_above low high end le xs b.1)

between_push : (low high : ℕ) (xs : List ℕ) (x : ℕ) → Between low high xs → low < x → x < high → Between low high (xs ++ x ∷ [])
between_push low high [] x b p q = ((p, q), tt)
between_push low high (y ∷ ys) x b p q = (b.0, between_push low high ys x b.1 p q)

decimal_between : (low : ℕ) → low < 48 → (n : ℕ) → n < 2 ^ 64 → Between low 64 (decimal n)
decimal_between low under n lt = decimal_by_steps (λ m ds. Between low 64 ds) (λ m small. ((omega arith, omega arith), tt))
    (λ m ds big b. let digit : m % 10 < 10 = omega arith in between_push low 64 ds (48 + m % 10) b (omega arith) (omega arith)) n lt

decimal_ends : (end n m : ℕ) (s t : List ℕ) → end < 48 → n < 2 ^ 64 → m < 2 ^ 64 → decimal n ++ end ∷ s ≡ decimal m ++ end ∷ t → Ends n m s t
decimal_ends end n m s t under p q e =
    let both = word_ends end (decimal n) (decimal m) s t (between_above end 64 end (omega arith) _ (decimal_between end under n p)) (between_above end 64 end (omega arith) _ (decimal_between end under m q)) e in
    (decimal_injective n m p q both.0, both.1)

below : (n : ℕ) → IsTrue (nat_lt n (2 ^ 32)) → n < 2 ^ 64
below n e = grind (arith, nat_tests)

pub count_ends : (n m : ℕ) (s t : List ℕ) → IsTrue (nat_lt n (2 ^ 32)) → IsTrue (nat_lt m (2 ^ 32)) → decimal n ++ 32 ∷ s ≡ decimal m ++ 32 ∷ t → Ends n m s t
count_ends n m s t p q e = decimal_ends 32 n m s t (omega arith) (below n p) (below m q) e

pub id_ends : (a b : EntityId) (s t : List ℕ) → IsTrue (is_id a) → IsTrue (is_id b) → id_text a ++ 32 ∷ s ≡ id_text b ++ 32 ∷ t → Ends a b s t
id_ends a b s t p q e =
    let kinds = decimal_ends 45 a.kind b.kind (decimal a.local ++ 32 ∷ s) (decimal b.local ++ 32 ∷ t) (omega arith) (below a.kind (first_so _ _ p)) (below b.kind (first_so _ _ q))
    (sym (append_assoc (decimal a.kind) (45 ∷ decimal a.local) (32 ∷ s)) ∙ e ∙ append_assoc (decimal b.kind) (45 ∷ decimal b.local) (32 ∷ t)) in
    let locals = count_ends a.local b.local s t (second_so _ _ p) (second_so _ _ q) kinds.1 in
    ((λ i. record { kind = kinds.0 i; local = locals.0 i }), locals.1)

pub direction_ends : (a b : Direction) (s t : List ℕ) → direction_text a ++ 32 ∷ s ≡ direction_text b ++ 32 ∷ t → Ends a b s t
direction_ends Up Up s t e = (refl, ap (λ l. rest (rest (rest l))) e)
direction_ends Up Down s t e = absurd (omega (arith, ap first e))
direction_ends Down Up s t e = absurd (omega (arith, ap first e))
direction_ends Down Down s t e = (refl, ap (λ l. rest (rest (rest (rest (rest l))))) e)

signed_between : (z : ℤ) → IsTrue (is_int z) → Between 44 64 (signed_decimal z)
signed_between (pos n) e = let lt : n < 2 ^ 63 = grind (arith, nat_tests) in decimal_between 44 (omega arith) n (omega arith)
signed_between (negsuc n) e = let lt : n < 2 ^ 63 = grind (arith, nat_tests) in ((omega arith, omega arith), decimal_between 44 (omega arith) (suc n) (omega arith))

signed_above : (z : ℤ) → IsTrue (is_int z) → Above 32 (signed_decimal z)
signed_above z e = between_above 44 64 32 (omega arith) (signed_decimal z) (signed_between z e)

signed_same : (y z : ℤ) → IsTrue (is_int y) → IsTrue (is_int z) → signed_decimal y ≡ signed_decimal z → y ≡ z
signed_same (pos n) (pos m) e f g = signed_decimal_injective (pos n) (pos m) (grind (arith, nat_tests)) (grind (arith, nat_tests)) g
signed_same (pos n) (negsuc m) e f g = signed_decimal_injective (pos n) (negsuc m) (grind (arith, nat_tests)) (grind (arith, nat_tests)) g
signed_same (negsuc n) (pos m) e f g = signed_decimal_injective (negsuc n) (pos m) (grind (arith, nat_tests)) (grind (arith, nat_tests)) g
signed_same (negsuc n) (negsuc m) e f g = signed_decimal_injective (negsuc n) (negsuc m) (grind (arith, nat_tests)) (grind (arith, nat_tests)) g

int_ends : (y z : ℤ) (s t : List ℕ) → IsTrue (is_int y) → IsTrue (is_int z) → signed_decimal y ++ 32 ∷ s ≡ signed_decimal z ++ 32 ∷ t → Ends y z s t
int_ends y z s t p q e =
    let both = word_ends 32 (signed_decimal y) (signed_decimal z) s t (signed_above y p) (signed_above z q) e in
    (signed_same y z p q both.0, both.1)

-- an integer's text begins with none but `-` and figures, and where it is empty, with the space behind it
begins : (xs s : List ℕ) (c : ℕ) (more : List ℕ) → Between 44 64 xs → xs ++ 32 ∷ s ≡ c ∷ more → (c ≡ 32) ⊎ ((44 < c) × (c < 64))
begins [] s c more b e = inl (sym (ap first e))
begins (x ∷ xs) s c more b e = let is : x ≡ c = ap first e in let low : 44 < x = b.0.0 in let high : x < 64 = b.0.1 in inr (omega arith, omega arith)

no_letter : (z : ℤ) (s : List ℕ) (c : ℕ) (more : List ℕ) → IsTrue (is_int z) → 64 < c → signed_decimal z ++ 32 ∷ s ≡ c ∷ more → ⊥
no_letter z s c more p lt e = elim (begins (signed_decimal z) s c more (signed_between z p) e) [ inl is ↦ omega arith | inr h ↦ let under : c < 64 = h.1 in omega arith ]

no_quote : (z : ℤ) (s more : List ℕ) → IsTrue (is_int z) → signed_decimal z ++ 32 ∷ s ≡ 34 ∷ more → ⊥
no_quote z s more p e = elim (begins (signed_decimal z) s 34 more (signed_between z p) e) [ inl is ↦ omega arith | inr h ↦ omega (arith, h.0) ]

-- ---- texts in quotes

abbrev marked : ℕ → Bool
marked byte = (byte == 34) || (byte == 92)

quote_not : (byte : ℕ) → marked byte ≡ false → 34 ≡ byte → ⊥
quote_not byte e is = grind (arith, nat_tests)

slash_not : (byte : ℕ) → marked byte ≡ false → 92 ≡ byte → ⊥
slash_not byte e is = grind (arith, nat_tests)

no_end : (byte : ℕ) (s t : List ℕ) → 34 ∷ s ≡ escaped_byte byte ++ t → ⊥
no_end byte s t e = (elim (marked byte) as (λ m. marked byte ≡ m → 34 ∷ s ≡ (if m then 92 ∷ byte ∷ [] else byte ∷ []) ++ t → ⊥) [
  | true ↦ λ f g. omega (arith, ap first g)
  | false ↦ λ f g. quote_not byte f (ap first g)
]) refl e

same_byte : (a b : ℕ) (s t : List ℕ) → escaped_byte a ++ s ≡ escaped_byte b ++ t → Ends a b s t
same_byte a b s t e = (elim (marked a) as (λ m. marked a ≡ m → (if m then 92 ∷ a ∷ [] else a ∷ []) ++ s ≡ escaped_byte b ++ t → Ends a b s t) [
  | true ↦ λ f. elim (marked b) as (λ n. marked b ≡ n → 92 ∷ a ∷ s ≡ (if n then 92 ∷ b ∷ [] else b ∷ []) ++ t → Ends a b s t) [
    | true ↦ λ g h. (ap (λ l. first (rest l)) h, ap (λ l. rest (rest l)) h)
    | false ↦ λ g h. absurd (slash_not b g (ap first h))
  ] refl
  | false ↦ λ f. elim (marked b) as (λ n. marked b ≡ n → a ∷ s ≡ (if n then 92 ∷ b ∷ [] else b ∷ []) ++ t → Ends a b s t) [
    | true ↦ λ g h. absurd (slash_not a f (sym (ap first h)))
    | false ↦ λ g h. (ap first h, ap rest h)
  ] refl
]) refl e

escaped_ends : (xs ys s t : List ℕ) → flat_map escaped_byte xs ++ 34 ∷ s ≡ flat_map escaped_byte ys ++ 34 ∷ t → Ends xs ys s t
escaped_ends [] [] s t e = (refl, ap rest e)
escaped_ends [] (y ∷ ys) s t e = absurd (no_end y s (flat_map escaped_byte ys ++ 34 ∷ t) (e ∙ append_assoc (escaped_byte y) (flat_map escaped_byte ys) (34 ∷ t)))
escaped_ends (x ∷ xs) [] s t e = absurd (no_end x t (flat_map escaped_byte xs ++ 34 ∷ s) (sym e ∙ append_assoc (escaped_byte x) (flat_map escaped_byte xs) (34 ∷ s)))
escaped_ends (x ∷ xs) (y ∷ ys) s t e =
    let one = same_byte x y (flat_map escaped_byte xs ++ 34 ∷ s) (flat_map escaped_byte ys ++ 34 ∷ t)
    (sym (append_assoc (escaped_byte x) (flat_map escaped_byte xs) (34 ∷ s)) ∙ e ∙ append_assoc (escaped_byte y) (flat_map escaped_byte ys) (34 ∷ t)) in
    let more = escaped_ends xs ys s t one.1 in ((λ i. one.0 i ∷ more.0 i), more.1)

pub quoted_ends : (xs ys s t : List ℕ) → quoted xs ++ 32 ∷ s ≡ quoted ys ++ 32 ∷ t → Ends xs ys s t
quoted_ends xs ys s t e =
    let both = escaped_ends xs ys (32 ∷ s) (32 ∷ t) (sym (append_assoc (flat_map escaped_byte xs) (34 ∷ []) (32 ∷ s)) ∙ ap rest e ∙ append_assoc (flat_map escaped_byte ys) (34 ∷ []) (32 ∷ t)) in
    (both.0, ap rest both.1)

-- ---- values

pub value_ends : (v w : Value) (s t : List ℕ) → IsTrue (is_value v) → IsTrue (is_value w) → value_text v ++ 32 ∷ s ≡ value_text w ++ 32 ∷ t → Ends v w s t
value_ends (Flag true) (Flag true) s t p q e = (refl, ap (λ l. rest (rest (rest (rest (rest l))))) e)
value_ends (Flag false) (Flag false) s t p q e = (refl, ap (λ l. rest (rest (rest (rest (rest (rest l)))))) e)
value_ends (Flag true) (Flag false) s t p q e = absurd (omega (arith, ap first e))
value_ends (Flag false) (Flag true) s t p q e = absurd (omega (arith, ap first e))
value_ends (Flag true) (Int n) s t p q e = absurd (no_letter n t 116 (codes "rue" ++ 32 ∷ s) q (omega arith) (sym e))
value_ends (Flag false) (Int n) s t p q e = absurd (no_letter n t 102 (codes "alse" ++ 32 ∷ s) q (omega arith) (sym e))
value_ends (Flag true) (Text y) s t p q e = absurd (omega (arith, ap first e))
value_ends (Flag false) (Text y) s t p q e = absurd (omega (arith, ap first e))
value_ends (Int n) (Flag true) s t p q e = absurd (no_letter n s 116 (codes "rue" ++ 32 ∷ t) p (omega arith) e)
value_ends (Int n) (Flag false) s t p q e = absurd (no_letter n s 102 (codes "alse" ++ 32 ∷ t) p (omega arith) e)
value_ends (Int n) (Int m) s t p q e = let both = int_ends n m s t p q e in (ap Int both.0, both.1)
value_ends (Int n) (Text y) s t p q e = absurd (no_quote n s ((flat_map escaped_byte y ++ 34 ∷ []) ++ 32 ∷ t) p e)
value_ends (Text x) (Flag true) s t p q e = absurd (omega (arith, ap first e))
value_ends (Text x) (Flag false) s t p q e = absurd (omega (arith, ap first e))
value_ends (Text x) (Int m) s t p q e = absurd (no_quote m t ((flat_map escaped_byte x ++ 34 ∷ []) ++ 32 ∷ s) q (sym e))
value_ends (Text x) (Text y) s t p q e = let both = quoted_ends x y s t e in (ap Text both.0, both.1)
