-- What is read off the front is spelled there, and what is spelled there is read.
use Rattle.std.proofs.Common.{◌⊎◌, ◌≡◌, ℕ, ◌*◌, ◌/◌, ◌^◌, ◌<◌, ◌≤◌, Bool, true, false, cond, ltb, eqb, List, [], ◌∷◌, ◌++◌, length, take, drop, Option, Some, None, refl, sym, ap, subst, ◌∙◌, append_assoc, arith, inl, inr}
use Rattle.std.specs.Int.{Width, w16, byte_len, from_be_bytes, to_be_bytes}
use Rattle.std.specs.List.{AllByRecursion}
use Rattle.std.proofs.lemmas.Bool.{ltb-false, le-ltb, eqb-true}
use Rattle.std.proofs.lemmas.List.{take_at, drop_at, take-append-drop, length-append, length-take}
use Rattle.xod_block.specs.Bytes.{IsBytes}
use Rattle.xod_block.specs.Records.{Link, FitsLink, FitsPart, FitsOwn, part_bytes, own_bytes, links_bytes}
use Rattle.xod_block.specs.Reading.{◌>>=◌, byte_at, number_at, part_at, own_at, links_in, links_at}
use Rattle.xod_block.proofs.Numbers.{IsBytes-drop, IsBytes-take, IsBytes-rest, IsWide, wide16}
use Rattle.xod_block.proofs.Links.{links_bytes-links_in, length-first_links, first_links-fit, links_in-links_bytes, length-links_bytes, whole_links-count}

-- ---- steps

-- a step that gave something, and what the next one made of it
pub bind_some : {A B : Type 0} (r : Option A) (f : A → Option B) (y : B) → (r >>= f) ≡ Some y → (x : A) × (r ≡ Some x) × (f x ≡ Some y)
bind_some None f y e = absurd cc
bind_some (Some x) f y e = (x, refl, e)

-- a test that was passed
pub passes_not : {A : Type 0} (b : Bool) (x y : A) → cond b None (Some x) ≡ Some y → (b ≡ false) × (x ≡ y)
passes_not true x y e = absurd cc
passes_not false x y e = (refl, cc)

-- which way a choice went
pub chosen : {A : Type 0} (b : Bool) (x y z : A) → cond b x y ≡ z → ((b ≡ true) × (x ≡ z)) ⊎ ((b ≡ false) × (y ≡ z))
chosen true x y z e = inl (refl, e)
chosen false x y z e = inr (refl, e)

abbrev given : {A : Type 0} → A → Option A
given x = Some x

pub some_is : {A : Type 0} (x y : A) → given x ≡ given y → x ≡ y
some_is x y e = cc

-- bytes are a text and then a rest of bytes
pub record Splits (bytes text rest : List ℕ) : Type 0 where
  pub parts : bytes ≡ text ++ rest
  pub rest_fits : IsBytes rest

pub Splits-then : (a x b y c : List ℕ) → Splits a x b → Splits b y c → Splits a (x ++ y) c
Splits-then a x b y c p q = record { parts = p.parts ∙ ap (λ (t : List ℕ). x ++ t) q.parts ∙ sym (append_assoc x y c); rest_fits = q.rest_fits }

-- ---- bytes and numbers

pub byte_splits : (bytes : List ℕ) (x : ℕ × List ℕ) → IsBytes bytes → byte_at bytes ≡ Some x → Splits bytes (x.0 ∷ []) x.1 × (x.0 < 256)
byte_splits [] x fits e = absurd cc
byte_splits (b ∷ bytes) x fits e =
    subst (λ (y : ℕ × List ℕ). Splits (b ∷ bytes) (y.0 ∷ []) y.1 × (y.0 < 256)) (some_is (b, bytes) x e) (record { parts = refl; rest_fits = IsBytes-rest b bytes fits }, fits 0)

pub number_splits : (w : Width) (limit : ℕ) (wide : IsWide w limit) (bytes : List ℕ) (x : ℕ × List ℕ) → IsBytes bytes → number_at w bytes ≡ Some x → Splits bytes (to_be_bytes w x.0) x.1 × (x.0 < limit)
number_splits w limit wide bytes x fits e =
    let n = byte_len w in
    let front = take n bytes in
    let g = passes_not (ltb (length bytes) n) (from_be_bytes w front, drop n bytes) x e in
    let long : n ≤ length bytes = ltb-false _ _ g.0 in
    let spelled : to_be_bytes w (from_be_bytes w front) ≡ front = wide.back front (omega (arith, length-take n bytes)) (IsBytes-take n bytes fits) in
    let here : Splits bytes (to_be_bytes w (from_be_bytes w front)) (drop n bytes) = record { parts = sym (ap (λ (l : List ℕ). l ++ drop n bytes) spelled ∙ take-append-drop n bytes); rest_fits = IsBytes-drop n bytes fits } in
    subst (λ (y : ℕ × List ℕ). Splits bytes (to_be_bytes w y.0) y.1 × (y.0 < limit)) g.1 (here, wide.below front (IsBytes-take n bytes fits))

pub number_again : (w : Width) (limit : ℕ) (wide : IsWide w limit) (n : ℕ) (rest : List ℕ) → n < limit → number_at w (to_be_bytes w n ++ rest) ≡ Some (n, rest)
number_again w limit wide n rest lt =
    let len = wide.len n in
    let long : ltb (length (to_be_bytes w n ++ rest)) (byte_len w) ≡ false = le-ltb _ _ (omega (arith, length-append (to_be_bytes w n) rest)) in
    rw (long, take_at (to_be_bytes w n) rest (byte_len w) len, drop_at (to_be_bytes w n) rest (byte_len w) len, wide.again n lt) refl

-- ---- a part and a value

pub part_splits : (bytes : List ℕ) (x : List ℕ × List ℕ) → IsBytes bytes → part_at bytes ≡ Some x → Splits bytes (part_bytes x.0) x.1 × FitsPart x.0
unfolding part_at
part_splits bytes x fits e =
    let b = bind_some (number_at w16 bytes) (λ n. cond (ltb (length n.1) n.0) None (Some (take n.0 n.1, drop n.0 n.1))) x e in
    let n = b.0 in
    let s = number_splits w16 (2 ^ 16) wide16 bytes n fits b.1 in
    let g = passes_not (ltb (length n.1) n.0) (take n.0 n.1, drop n.0 n.1) x b.2 in
    let long : n.0 ≤ length n.1 = ltb-false _ _ g.0 in
    let len : length (take n.0 n.1) ≡ n.0 = omega (arith, length-take n.0 n.1) in
    let second : Splits n.1 (take n.0 n.1) (drop n.0 n.1) = record { parts = sym (take-append-drop n.0 n.1); rest_fits = IsBytes-drop n.0 n.1 s.0.rest_fits } in
    let both = Splits-then bytes (to_be_bytes w16 n.0) n.1 (take n.0 n.1) (drop n.0 n.1) s.0 second in
    let here : Splits bytes (part_bytes (take n.0 n.1)) (drop n.0 n.1) = subst (λ (k : ℕ). Splits bytes (to_be_bytes w16 k ++ take n.0 n.1) (drop n.0 n.1)) (sym len) both in
    subst (λ (y : List ℕ × List ℕ). Splits bytes (part_bytes y.0) y.1 × FitsPart y.0) g.1 (here, omega (arith, s.1))

pub part_again : (text rest : List ℕ) → FitsPart text → part_at (part_bytes text ++ rest) ≡ Some (text, rest)
unfolding part_at
part_again text rest lt =
    let long : ltb (length (text ++ rest)) (length text) ≡ false = le-ltb _ _ (omega (arith, length-append text rest)) in
    rw (number_again w16 (2 ^ 16) wide16 (length text) (text ++ rest) lt, long, take_at text rest (length text) refl, drop_at text rest (length text) refl) refl

-- what a flag and the bytes behind it are
own_cases : (flag : ℕ) (bytes : List ℕ) (x : Option (List ℕ) × List ℕ) → IsBytes bytes
    → cond (eqb flag 0) (Some (None, bytes)) (cond (eqb flag 1) (part_at bytes >>= (λ value. Some (Some value.0, value.1))) None) ≡ Some x
    → Splits (flag ∷ bytes) (own_bytes x.0) x.1 × FitsOwn x.0
own_cases flag bytes x fits e = elim (chosen (eqb flag 0) (Some (None, bytes)) (cond (eqb flag 1) (part_at bytes >>= (λ value. Some (Some value.0, value.1))) None) (Some x) e) [
  | inl none ↦
      let made : Option (List ℕ) × List ℕ = (None, bytes) in
      let is : flag ≡ 0 = eqb-true _ _ none.0 in
      subst (λ (y : Option (List ℕ) × List ℕ). Splits (flag ∷ bytes) (own_bytes y.0) y.1 × FitsOwn y.0) (some_is made x none.1) (record { parts = ap (λ (k : ℕ). k ∷ bytes) is; rest_fits = fits }, tt)
  | inr more ↦ elim (chosen (eqb flag 1) (part_at bytes >>= (λ value. Some (Some value.0, value.1))) None (Some x) more.1) [
    | inl some ↦
        let b = bind_some (part_at bytes) (λ value. Some (Some value.0, value.1)) x some.1 in
        let s = part_splits bytes b.0 fits b.1 in
        let made : Option (List ℕ) × List ℕ = (Some b.0.0, b.0.1) in
        let is : flag ≡ 1 = eqb-true _ _ some.0 in
        subst (λ (y : Option (List ℕ) × List ℕ). Splits (flag ∷ bytes) (own_bytes y.0) y.1 × FitsOwn y.0) (some_is made x b.2) (record { parts = ap (λ (k : ℕ). k ∷ bytes) is ∙ ap (λ (l : List ℕ). 1 ∷ l) s.0.parts; rest_fits = s.0.rest_fits }, s.1)
    | inr neither ↦ absurd cc
  ]
]

pub own_splits : (bytes : List ℕ) (x : Option (List ℕ) × List ℕ) → IsBytes bytes → own_at bytes ≡ Some x → Splits bytes (own_bytes x.0) x.1 × FitsOwn x.0
unfolding own_at
own_splits [] x fits e = absurd cc
own_splits (flag ∷ bytes) x fits e = own_cases flag bytes x (IsBytes-rest flag bytes fits) e

pub own_again : (value : Option (List ℕ)) (rest : List ℕ) → FitsOwn value → own_at (own_bytes value ++ rest) ≡ Some (value, rest)
unfolding own_at
own_again None rest fits = refl
own_again (Some value) rest fits = ap (λ (r : Option (List ℕ × List ℕ)). r >>= (λ v. Some (Some v.0, v.1))) (part_again value rest fits)

-- ---- links

pub links_splits : (count : ℕ) (bytes : List ℕ) (x : List Link × List ℕ) → IsBytes bytes → links_at count bytes ≡ Some x → Splits bytes (links_bytes x.0) x.1 × (length x.0 ≡ count) × AllByRecursion FitsLink x.0
unfolding links_at
links_splits count bytes x fits e =
    let raw = take (13 * count) bytes in
    let g = passes_not (ltb (length bytes) (13 * count)) (links_in raw, drop (13 * count) bytes) x e in
    let long : 13 * count ≤ length bytes = ltb-false _ _ g.0 in
    let whole : length raw ≡ 13 * count = omega (arith, length-take (13 * count) bytes) in
    let raw_fits = IsBytes-take (13 * count) bytes fits in
    let here : Splits bytes (links_bytes (links_in raw)) (drop (13 * count) bytes) = record { parts = sym (ap (λ (l : List ℕ). l ++ drop (13 * count) bytes) (links_bytes-links_in raw count whole raw_fits) ∙ take-append-drop (13 * count) bytes); rest_fits = IsBytes-drop (13 * count) bytes fits } in
    let many : length (links_in raw) ≡ count = length-first_links (length raw / 13) raw ∙ whole_links-count raw count whole in
    subst (λ (y : List Link × List ℕ). Splits bytes (links_bytes y.0) y.1 × (length y.0 ≡ count) × AllByRecursion FitsLink y.0) g.1 (here, many, first_links-fit (length raw / 13) raw raw_fits)

pub links_again : (links : List Link) (rest : List ℕ) → AllByRecursion FitsLink links → links_at (length links) (links_bytes links ++ rest) ≡ Some (links, rest)
unfolding links_at
links_again links rest fits =
    let len : length (links_bytes links) ≡ 13 * length links = length-links_bytes links in
    let long : ltb (length (links_bytes links ++ rest)) (13 * length links) ≡ false = le-ltb _ _ (omega (arith, length-append (links_bytes links) rest)) in
    rw (long, take_at (links_bytes links) rest (13 * length links) len, drop_at (links_bytes links) rest (13 * length links) len, links_in-links_bytes links fits) refl
