-- Bounds of keys: those that begin alike, and all of them.
use Rattle.std.proofs.Common.{◌≡◌, ℕ, ◌+◌, ◌/◌, ◌%◌, ◌<◌, ◌≤◌, Bool, true, false, cond, not, ◌&&◌, IsTrue, List, [], ◌∷◌, ◌++◌, Option, Some, None, refl, ap, subst, ◌∙◌, arith, inl, inr, nat_cmp, Less, lt-ltb, le-ltb}
use Rattle.std.specs.Prelude.{nat_eq, ◌||◌}
use Rattle.std.specs.Char.{IsScalar}
use Rattle.std.specs.Cmp.{first_so, second_so}
use Rattle.std.specs.FinMap.{get}
use Rattle.std.specs.List.{filter, list_all, starts_with}
use Rattle.std.specs.Ordering.{is_eq, is_gt, ordering_then}
use Rattle.std.specs.Str.{is_utf8}
use Rattle.std.proofs.Math.Utf8.{encode, encodes, scalars, scalar_cases}
use Rattle.std.proofs.lemmas.Bool.{cases_lt, cond-true, cond-false}
use Rattle.std.proofs.lemmas.Bool.Decides.{nat_tests}
use Rattle.std.proofs.lemmas.Str.{encode_ascii, IsUtf8-from_is_utf8}
use Rattle.xod_base.specs.declared.value.EntityId.{EntityId}
use Rattle.xod_base.specs.declared.value.Value.{Value}
use Rattle.xod_base.specs.declared.value.Value.TheVariants.{Flag, Int, Text}
use Rattle.xod_base.specs.Evaluation.{has_value, ids_of, ids_with, passes}
use Rattle.xod_base.specs.Rows.{RowsValue, is_sound}
use Rattle.xod_base.specs.Text.{is_control, is_text}
use Rattle.xod_base.specs.Values.{bytes_cmp, folded, folded_byte, has_front, has_key_within, is_value, is_within, key_of}
use Rattle.xod_base.proofs.ByteOrder.{NoZero}
use Rattle.xod_base.proofs.KeyOrder.{text_no_zero}
use Rattle.xod_carry.proofs.CallerLemmas.{each_get}
use Rattle.xod_tables.proofs.CallerLemmas.{CellFits, cells_fit, facts, cell_total, cell_same}
use Rattle.xod_readings.specs.Laws.{IsBound, IsHighBound}
use Rattle.xod_readings.proofs.Bounds.{within_byte}

-- ---- bytes of texts

-- each byte is below 255
abbrev pub Low : List ℕ → Type 0
Low [] = Unit {0}
Low (x ∷ xs) = (x < 255) × Low xs

low_append : (xs ys : List ℕ) → Low xs → Low ys → Low (xs ++ ys)
low_append [] ys g h = h
low_append (x ∷ xs) ys g h = (g.0, low_append xs ys g.1 h)

two_bytes : (c : ℕ) → 128 ≤ c → c < 2048 → encode c ≡ (192 + c / 64) ∷ (128 + c % 64) ∷ []
unfolding encode
two_bytes c low high = cond-false _ _ _ (le-ltb c 128 low) ∙ cond-true _ _ _ (lt-ltb c 2048 high)

three_bytes : (c : ℕ) → 2048 ≤ c → c < 65536 → encode c ≡ (224 + c / 4096) ∷ (128 + (c / 64) % 64) ∷ (128 + c % 64) ∷ []
unfolding encode
three_bytes c low high = cond-false _ _ _ (le-ltb c 128 (omega arith)) ∙ cond-false _ _ _ (le-ltb c 2048 low) ∙ cond-true _ _ _ (lt-ltb c 65536 high)

four_bytes : (c : ℕ) → 65536 ≤ c → encode c ≡ (240 + c / 262144) ∷ (128 + (c / 4096) % 64) ∷ (128 + (c / 64) % 64) ∷ (128 + c % 64) ∷ []
unfolding encode
four_bytes c low = cond-false _ _ _ (le-ltb c 128 (omega arith)) ∙ cond-false _ _ _ (le-ltb c 2048 (omega arith)) ∙ cond-false _ _ _ (le-ltb c 65536 low)

last_char : (c : ℕ) → IsScalar c → c < 1114112
last_char c is = elim (scalar_cases c is) [
  | inl low ↦ omega (arith, low)
  | inr high ↦ high.1
]

low_char : (c : ℕ) → IsScalar c → Low (encode c)
low_char c is = elim (cases_lt c 128) [
  | inl a ↦ rw (encode_ascii c a) (omega (arith, a), tt)
  | inr a ↦ elim (cases_lt c 2048) [
    | inl b ↦ rw (two_bytes c a b) (omega (arith, b), (omega arith, tt))
    | inr b ↦ elim (cases_lt c 65536) [
      | inl d ↦ rw (three_bytes c b d) (omega (arith, d), (omega arith, (omega arith, tt)))
      | inr d ↦ let last = last_char c is in rw (four_bytes c d) (omega (arith, last), (omega arith, (omega arith, (omega arith, tt))))
    ]
  ]
]

low_chars : (cs : List ℕ) → scalars cs ≡ true → Low (encodes cs)
low_chars [] h = tt
low_chars (c ∷ cs) h = low_append (encode c) (encodes cs) (low_char c (first_so _ _ h)) (low_chars cs (second_so _ _ h))

low_folded_byte : (byte : ℕ) → byte < 255 → folded_byte byte < 255
low_folded_byte byte h = grind (arith, nat_tests)

low_folded : (bytes : List ℕ) → Low bytes → Low (folded bytes)
low_folded [] h = tt
low_folded (x ∷ xs) h = (low_folded_byte x h.0, low_folded xs h.1)

-- no byte of a text is 255
low_text : (bytes : List ℕ) → IsTrue (is_text bytes) → Low (folded bytes)
low_text bytes h =
    let is = IsUtf8-from_is_utf8 bytes (first_so (is_utf8 bytes) (list_all (λ byte. not (is_control byte)) bytes) h) in
    low_folded bytes (subst Low is.1.1 (low_chars is.0 is.1.0))

-- ---- bounds

abbrev first : List ℕ → ℕ
first [] = 0
first (x ∷ xs) = x

abbrev rest : List ℕ → List ℕ
rest [] = []
rest (x ∷ xs) = xs

no_zero_append : (xs ys : List ℕ) → NoZero xs → NoZero ys → NoZero (xs ++ ys)
no_zero_append [] ys g h = h
no_zero_append (x ∷ xs) ys g h = (g.0, no_zero_append xs ys g.1 h)

-- bytes without a 0 have no front that ends with one
no_end : (xs ys more : List ℕ) → NoZero xs → xs ≡ (ys ++ 0 ∷ []) ++ more → ⊥
no_end [] [] more z e = cc e
no_end [] (y ∷ ys) more z e = cc e
no_end (x ∷ xs) [] more z e = let zero_is : x ≡ 0 = ap first e in let above = z.0 in omega (arith, zero_is, above)
no_end (x ∷ xs) (y ∷ ys) more z e = no_end xs ys more z.1 (ap rest e)

nothing_ends : (ys more : List ℕ) → [] ≡ (ys ++ 255 ∷ []) ++ more → ⊥
nothing_ends [] more e = cc e
nothing_ends (y ∷ ys) more e = cc e

-- bytes below 255 that end with 0 have no front that ends with 255
no_top : (xs ys more : List ℕ) → Low xs → xs ++ 0 ∷ [] ≡ (ys ++ 255 ∷ []) ++ more → ⊥
no_top [] [] more b e = let zero_is : 0 ≡ 255 = ap first e in omega (arith, zero_is)
no_top [] (y ∷ ys) more b e = nothing_ends ys more (ap rest e)
no_top (x ∷ xs) [] more b e = let top_is : x ≡ 255 = ap first e in let below = b.0 in omega (arith, top_is, below)
no_top (x ∷ xs) (y ∷ ys) more b e = no_top xs ys more b.1 (ap rest e)

front_bound : (front : List ℕ) → NoZero front → IsBound (3 ∷ front)
front_bound front z (Flag flag) more is e = absurd (omega (arith, ap first e))
front_bound front z (Int number) more is e = absurd (omega (arith, ap first e))
front_bound front z (Text text) more is e = absurd (no_end front (folded text) more z (ap rest e))

none_begins : (front : List ℕ) (value : Value) (more : List ℕ) → IsTrue (is_value value) → key_of value ≡ (3 ∷ front ++ 255 ∷ []) ++ more → more ≡ []
none_begins front (Flag flag) more is e = absurd (omega (arith, ap first e))
none_begins front (Int number) more is e = absurd (omega (arith, ap first e))
none_begins front (Text text) more is e = absurd (no_top (folded text) front more (low_text text is) (ap rest e))

-- the keys of texts that begin alike have two bounds
pub front_low : (text : List ℕ) → IsTrue (is_text text) → IsBound (3 ∷ folded text)
front_low text is = front_bound (folded text) (text_no_zero text is)

pub front_high : (text : List ℕ) → IsTrue (is_text text) → IsHighBound (3 ∷ folded text ++ 255 ∷ [])
front_high text is = record {
  is_bound = front_bound (folded text ++ 255 ∷ []) (no_zero_append (folded text) (255 ∷ []) (text_no_zero text is) (omega arith, tt));
  fronts_none = none_begins (folded text);
}

-- and so have the keys of all values
pub all_low : IsBound []
all_low (Flag flag) more is e = cc e
all_low (Int number) more is e = cc e
all_low (Text text) more is e = cc e

above_all : (value : Value) (more : List ℕ) → 4 ∷ [] ≡ key_of value ++ more → ⊥
above_all (Flag flag) more e = omega (arith, ap first e)
above_all (Int number) more e = omega (arith, ap first e)
above_all (Text text) more e = omega (arith, ap first e)

none_above : (value : Value) (more : List ℕ) → key_of value ≡ (4 ∷ []) ++ more → ⊥
none_above (Flag flag) more e = omega (arith, ap first e)
none_above (Int number) more e = omega (arith, ap first e)
none_above (Text text) more e = omega (arith, ap first e)

pub all_high : IsHighBound (4 ∷ [])
all_high = record {
  is_bound = λ value more is e. absurd (above_all value more e);
  fronts_none = λ value more is e. absurd (none_above value more e);
}

-- ---- what lies between the bounds

less_top : (x : ℕ) → x < 255 → nat_cmp x 255 ≡ Less
less_top x h = grind (arith, nat_tests)

above_zero : (x : ℕ) → 0 < x → is_eq (nat_cmp x 0) ≡ false
above_zero x h = grind (arith, nat_tests)

same_byte : (x y : ℕ) → is_eq (nat_cmp x y) ≡ nat_eq x y
same_byte x y = grind (arith, nat_tests)

front_within : (front text : List ℕ) → NoZero front → Low text → is_within front (front ++ 255 ∷ []) (text ++ 0 ∷ []) ≡ starts_with nat_eq text front
front_within [] [] z b = refl
front_within [] (x ∷ text) z b = ap (λ r. not (is_gt (ordering_then r (bytes_cmp (text ++ 0 ∷ []) [])))) (less_top x b.0)
front_within (a ∷ front) [] z b = within_byte a 0 front (front ++ 255 ∷ []) [] ∙ ap (λ e. e && is_within front (front ++ 255 ∷ []) []) (above_zero a z.0)
front_within (a ∷ front) (x ∷ text) z b =
    within_byte a x front (front ++ 255 ∷ []) (text ++ 0 ∷ []) ∙ (λ i. same_byte a x i && front_within front text z.1 b.1 i)

alone : (b : Bool) → (b || false) ≡ b
alone true = refl
alone false = refl

key_front : (text : List ℕ) → IsTrue (is_text text) → (value : Value) → IsTrue (is_value value)
    → has_key_within (3 ∷ folded text) (3 ∷ folded text ++ 255 ∷ []) value ≡ has_front (folded text) value
key_front text t (Flag flag) is = ap (λ b. b || false) (within_byte 3 1 (folded text) (folded text ++ 255 ∷ []) (cond flag 1 0 ∷ []))
key_front text t (Int number) is = ap (λ b. b || false) (within_byte 3 2 (folded text) (folded text ++ 255 ∷ []) (rest (key_of (Int number))))
key_front text t (Text other) is =
    alone (is_within (3 ∷ folded text) (3 ∷ folded text ++ 255 ∷ []) (key_of (Text other)))
    ∙ within_byte 3 3 (folded text) (folded text ++ 255 ∷ []) (folded other ++ 0 ∷ [])
    ∙ front_within (folded text) (folded other) (text_no_zero text t) (low_text other is)

key_any : (value : Value) → has_key_within [] (4 ∷ []) value ≡ true
key_any (Flag flag) = refl
key_any (Int number) = refl
key_any (Text text) = refl

-- the entities that have a value
pub any_with : (rows : RowsValue) (kind prop : List ℕ) → ids_with rows kind prop (has_key_within [] (4 ∷ [])) ≡ ids_with rows kind prop (λ value. true)
any_with rows kind prop = λ i. ids_with rows kind prop (λ value. key_any value i)

-- those that have a text which begins so
pub front_with : (rows : RowsValue) → IsTrue (is_sound rows) → (kind prop text : List ℕ) → IsTrue (is_text text)
    → ids_with rows kind prop (has_key_within (3 ∷ folded text) (3 ∷ folded text ++ 255 ∷ [])) ≡ ids_with rows kind prop (has_front (folded text))
front_with rows sound kind prop text t = λ i. filter (λ id. same id i) (ids_of rows kind)
  where
    tested : (id : EntityId) (value : Option Value) → get rows.values (id, prop) ≡ value
        → passes (has_key_within (3 ∷ folded text) (3 ∷ folded text ++ 255 ∷ [])) value ≡ passes (has_front (folded text)) value
    tested id None e = refl
    tested id (Some value) e =
        let fits : CellFits rows ((id, prop), value) = each_get cell_total cell_same (CellFits rows) rows.values (id, prop) value (cells_fit rows (facts rows sound)) e in
        key_front text t value fits.value

    same : (id : EntityId) → has_value rows prop (has_key_within (3 ∷ folded text) (3 ∷ folded text ++ 255 ∷ [])) id ≡ has_value rows prop (has_front (folded text)) id
    same id = tested id (get rows.values (id, prop)) refl
