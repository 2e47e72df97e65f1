-- Bytes of a key's length are what is read of them, written.
use Rattle.std.proofs.Common.{◌≡◌, ◌≢◌, ℕ, zero, suc, ◌<◌, ◌≤◌, slice_index, Bool, true, false, cond, ◌&&◌, List, [], ◌∷◌, ◌++◌, length, take, drop, Some, None, refl, sym, ap, ◌∙◌, true≢false, arith, eqb-true, eq-eqb, le-leb}
use Rattle.std.specs.Prelude.{◌==◌, is_some, nat_le}
use Rattle.std.specs.Cmp.Lexicographic.{bytes_decides}
use Rattle.std.proofs.lemmas.Bool.{lt-leb}
use Rattle.std.proofs.lemmas.Nat.{be_bytes_4, be_bytes_8}
use Rattle.xod_base.specs.declared.limits.TheConstants.{MOST_LOCALS}
use Rattle.xod_base.specs.declared.value.EntityId.{EntityId}
use Rattle.xod_base.specs.Rows.{next_of}
use Rattle.xod_base.specs.Values.{same_bytes}
use Rattle.xod_tables.specs.Keys.{u32, u64, id_bytes, entity_key, property_key, link_key}
use Rattle.xod_tables.specs.Reading.{of_u32, of_u64, id_at, only_written}
use Rattle.xod_tables.proofs.CallerLemmas.{written}
use Rattle.xod_keys.specs.Pieces.{next_read}
use Rattle.xod_audit.specs.Tests.{entity_in, next_in, prop_in, link_in}

-- bytes
abbrev pub AreBytes : List ℕ → Type 0
AreBytes bytes = (i : ℕ) → slice_index bytes i < 256

fits_four : (a b c d : ℕ) → a < 256 → b < 256 → c < 256 → d < 256 → AreBytes (a ∷ b ∷ c ∷ d ∷ [])
fits_four a b c d p q r s zero = p
fits_four a b c d p q r s (suc zero) = q
fits_four a b c d p q r s (suc (suc zero)) = r
fits_four a b c d p q r s (suc (suc (suc zero))) = s
fits_four a b c d p q r s (suc (suc (suc (suc i)))) = omega arith

-- four bytes and what follows
four : (bytes : List ℕ) → 4 ≤ length bytes → AreBytes bytes → u32 (of_u32 (take 4 bytes)) ++ drop 4 bytes ≡ bytes
four [] long fits = absurd (omega (arith, long))
four (a ∷ []) long fits = absurd (omega (arith, long))
four (a ∷ b ∷ []) long fits = absurd (omega (arith, long))
four (a ∷ b ∷ c ∷ []) long fits = absurd (omega (arith, long))
four (a ∷ b ∷ c ∷ d ∷ rest) long fits = ap (λ l. l ++ rest) (be_bytes_4 (a ∷ b ∷ c ∷ d ∷ []) (of_u32 (a ∷ b ∷ c ∷ d ∷ [])) refl (fits_four a b c d (fits 0) (fits 1) (fits 2) (fits 3)) refl)

rest_fits : (bytes : List ℕ) → 4 ≤ length bytes → AreBytes bytes → AreBytes (drop 4 bytes)
rest_fits [] long fits = absurd (omega (arith, long))
rest_fits (a ∷ []) long fits = absurd (omega (arith, long))
rest_fits (a ∷ b ∷ []) long fits = absurd (omega (arith, long))
rest_fits (a ∷ b ∷ c ∷ []) long fits = absurd (omega (arith, long))
rest_fits (a ∷ b ∷ c ∷ d ∷ rest) long fits = λ i. fits (suc (suc (suc (suc i))))

rest_length : (bytes : List ℕ) (n : ℕ) → length bytes ≡ suc (suc (suc (suc n))) → length (drop 4 bytes) ≡ n
rest_length [] n h = absurd (omega (arith, h))
rest_length (a ∷ []) n h = absurd (omega (arith, h))
rest_length (a ∷ b ∷ []) n h = absurd (omega (arith, h))
rest_length (a ∷ b ∷ c ∷ []) n h = absurd (omega (arith, h))
rest_length (a ∷ b ∷ c ∷ d ∷ rest) n h = omega (arith, h)

no_rest : (bytes : List ℕ) → length bytes ≡ 0 → bytes ≡ []
no_rest [] h = refl
no_rest (a ∷ bytes) h = absurd (omega (arith, h))

twice : (bytes : List ℕ) → drop 4 (drop 4 bytes) ≡ drop 8 bytes
twice [] = refl
twice (a ∷ []) = refl
twice (a ∷ b ∷ []) = refl
twice (a ∷ b ∷ c ∷ []) = refl
twice (a ∷ b ∷ c ∷ d ∷ rest) = refl

thrice : (bytes : List ℕ) → drop 4 (drop 8 bytes) ≡ drop 12 bytes
thrice bytes = ap (drop 4) (sym (twice bytes)) ∙ again bytes
  where
    again : (bytes : List ℕ) → drop 4 (drop 4 (drop 4 bytes)) ≡ drop 12 bytes
    again [] = refl
    again (a ∷ []) = refl
    again (a ∷ b ∷ []) = refl
    again (a ∷ b ∷ c ∷ []) = refl
    again (a ∷ b ∷ c ∷ d ∷ rest) = twice rest

-- an id and what follows
eight : (bytes : List ℕ) (n : ℕ) → length bytes ≡ suc (suc (suc (suc (suc (suc (suc (suc n))))))) → AreBytes bytes
    → (id_bytes (id_at bytes) ++ drop 8 bytes ≡ bytes) × (length (drop 8 bytes) ≡ n) × AreBytes (drop 8 bytes)
eight bytes n long fits =
    let more : length (drop 4 bytes) ≡ suc (suc (suc (suc n))) = rest_length bytes (suc (suc (suc (suc n)))) long in
    let first = four bytes (omega (arith, long)) fits in
    let fits_rest = rest_fits bytes (omega (arith, long)) fits in
    let second = four (drop 4 bytes) (omega (arith, more)) fits_rest in
    let same = twice bytes in (
      ap (λ l. id_bytes (id_at bytes) ++ l) (sym same) ∙ ap (λ l. u32 (of_u32 (take 4 bytes)) ++ l) second ∙ first,
      ap length (sym same) ∙ rest_length (drop 4 bytes) n more,
      λ i. let fit = rest_fits (drop 4 bytes) (omega (arith, more)) fits_rest i in let is = ap (λ l. slice_index l i) same in omega (arith, fit, is),
    )

-- of bytes the first four count
taken : (bytes : List ℕ) → of_u32 (take 4 bytes) ≡ of_u32 bytes
taken [] = refl
taken (a ∷ []) = refl
taken (a ∷ b ∷ []) = refl
taken (a ∷ b ∷ c ∷ []) = refl
taken (a ∷ b ∷ c ∷ d ∷ rest) = refl

-- a number that is all that is left
last_four : (bytes : List ℕ) → length bytes ≡ 4 → AreBytes bytes → u32 (of_u32 bytes) ≡ bytes
last_four bytes long fits = be_bytes_4 bytes (of_u32 bytes) long fits refl

unwritten : {K : Type 0} (f : K → List ℕ) (n : ℕ) → ((k : K) → length (f k) ≡ n) → (q : List ℕ) (k : K) → length q ≢ n → only_written (λ x. Some (f x)) q (Some k) ≡ None
unwritten f n many q k other = at (same_bytes (f k) q) refl
  where
    at : (b : Bool) → same_bytes (f k) q ≡ b → cond b (Some k) None ≡ None
    at true h = absurd (other (sym (ap length ((bytes_decides (f k) q).0 h)) ∙ many k))
    at false h = refl

-- ---- each key
pub entity_written : (key : List ℕ) → length key ≡ 8 → AreBytes key → Some (id_at key) ≡ entity_in key
unfolding entity_in
entity_written key long fits =
    let all = eight key 0 long fits in
    sym (written (λ x. Some (entity_key x)) key (Some (id_at key)) (id_at key) refl (ap Some (sym (ap (λ l. id_bytes (id_at key) ++ l) (no_rest (drop 8 key) all.1)) ∙ all.0)))

pub entity_unwritten : (key : List ℕ) → length key ≢ 8 → None ≡ entity_in key
unfolding entity_in
entity_unwritten key other = sym (unwritten entity_key 8 (λ k. refl) key (id_at key) other)

pub prop_written : (key : List ℕ) (number : ℕ) → length key ≡ 12 → AreBytes key → number ≡ of_u32 (take 4 (drop 8 key)) → Some (id_at key, number) ≡ prop_in key
unfolding prop_in
prop_written key number long fits is =
    let all = eight key 4 long fits in
    let last = last_four (drop 8 key) all.1 all.2 in
    ap (λ n. Some (id_at key, n)) (is ∙ taken (drop 8 key))
    ∙ sym (written (λ p. Some (property_key p.0 p.1)) key (Some (id_at key, of_u32 (drop 8 key))) (id_at key, of_u32 (drop 8 key)) refl
    (ap Some (ap (λ l. id_bytes (id_at key) ++ l) last ∙ all.0)))

pub prop_unwritten : (key : List ℕ) → length key ≢ 12 → None ≡ prop_in key
unfolding prop_in
prop_unwritten key other = sym (unwritten (λ p. property_key p.0 p.1) 12 (λ k. refl) key (id_at key, of_u32 (drop 8 key)) other)

pub link_written : (key : List ℕ) (number : ℕ) (target : EntityId) → length key ≡ 20 → AreBytes key → number ≡ of_u32 (take 4 (drop 8 key)) → target ≡ id_at (drop 12 key)
    → Some (id_at key, (number, target)) ≡ link_in key
unfolding link_in
link_written key number target long fits is to =
    let all = eight key 12 long fits in
    let many = all.1 in
    let middle = four (drop 8 key) (omega (arith, many)) all.2 in
    let same = thrice key in
    let behind : length (drop 12 key) ≡ 8 = ap length (sym same) ∙ rest_length (drop 8 key) 8 all.1 in
    let end = eight (drop 12 key) 0 behind (λ i. let fit = rest_fits (drop 8 key) (omega (arith, many)) all.2 i in let at = ap (λ l. slice_index l i) same in omega (arith, fit, at)) in
    let target_bytes : id_bytes (id_at (drop 12 key)) ≡ drop 12 key = ap (λ l. id_bytes (id_at (drop 12 key)) ++ l) (sym (no_rest (drop 8 (drop 12 key)) end.1)) ∙ end.0 in
    (λ i. Some (id_at key, (is i, to i)))
    ∙ sym (written (λ l. Some (link_key l.0 l.1.0 l.1.1)) key (Some (id_at key, (of_u32 (take 4 (drop 8 key)), id_at (drop 12 key)))) (id_at key, (of_u32 (take 4 (drop 8 key)), id_at (drop 12 key))) refl
    (ap Some (ap (λ l. id_bytes (id_at key) ++ (u32 (of_u32 (take 4 (drop 8 key))) ++ l)) (target_bytes ∙ sym same) ∙ ap (λ l. id_bytes (id_at key) ++ l) middle ∙ all.0)))

pub link_unwritten : (key : List ℕ) → length key ≢ 20 → None ≡ link_in key
unfolding link_in
link_unwritten key other = sym (unwritten (λ l. link_key l.0 l.1.0 l.1.1) 20 (λ k. refl) key (id_at key, (of_u32 (take 4 (drop 8 key)), id_at (drop 12 key))) other)

-- ---- next numbers by type
pub next_above : (nexts : List ℕ) (kind : ℕ) → length nexts ≤ kind → next_of nexts kind ≡ 0
next_above [] kind h = refl
next_above (x ∷ xs) zero h = absurd (omega (arith, h))
next_above (x ∷ xs) (suc kind) h = next_above xs kind (omega (arith, h))

pub next_below : (nexts : List ℕ) (kind : ℕ) → kind < length nexts → next_of nexts kind ≡ slice_index nexts kind
next_below [] kind h = absurd (omega (arith, h))
next_below (x ∷ xs) zero h = refl
next_below (x ∷ xs) (suc kind) h = next_below xs kind (omega (arith, h))

-- ---- next numbers as they stand
pub next_absent : (bytes : List ℕ) → next_read bytes ≡ None → None ≡ next_in bytes
unfolding next_in
next_absent bytes none = at (length bytes == 8) refl none
  where
    no : length bytes ≢ 8 → (b : Bool) → same_bytes (u64 (of_u64 bytes)) bytes ≡ b → None ≡ cond (b && nat_le (of_u64 bytes) MOST_LOCALS) (Some (of_u64 bytes)) None
    no other true h = absurd (other (sym (ap length ((bytes_decides (u64 (of_u64 bytes)) bytes).0 h))))
    no other false h = refl

    at : (b : Bool) → (length bytes == 8) ≡ b → cond b (Some (of_u64 bytes)) None ≡ None → None ≡ cond (same_bytes (u64 (of_u64 bytes)) bytes && nat_le (of_u64 bytes) MOST_LOCALS) (Some (of_u64 bytes)) None
    at true h e = absurd (true≢false (ap is_some e))
    at false h e = no (λ is. true≢false (sym (eq-eqb (length bytes) 8 is) ∙ h)) (same_bytes (u64 (of_u64 bytes)) bytes) refl

next_there_is : (bytes : List ℕ) (n : ℕ) → AreBytes bytes → next_read bytes ≡ Some n → (b : Bool) → nat_le n MOST_LOCALS ≡ b → cond b (Some n) None ≡ next_in bytes
unfolding next_in
next_there_is bytes n fits some b low = at (length bytes == 8) refl some
  where
    at : (c : Bool) → (length bytes == 8) ≡ c → cond c (Some (of_u64 bytes)) None ≡ Some n → cond b (Some n) None ≡ cond (same_bytes (u64 (of_u64 bytes)) bytes && nat_le (of_u64 bytes) MOST_LOCALS) (Some (of_u64 bytes)) None
    at false h e = absurd (true≢false (sym (ap is_some e)))
    at true h e =
        let same : of_u64 bytes ≡ n = cc e in
        let back : u64 (of_u64 bytes) ≡ bytes = be_bytes_8 bytes (of_u64 bytes) (eqb-true (length bytes) 8 h) fits refl in
        sym (ap (λ c. cond (c && nat_le (of_u64 bytes) MOST_LOCALS) (Some (of_u64 bytes)) None) ((bytes_decides (u64 (of_u64 bytes)) bytes).1 back)
        ∙ ap (λ m. cond (nat_le m MOST_LOCALS) (Some m) None) same ∙ ap (λ c. cond c (Some n) None) low)

pub next_written : (bytes : List ℕ) (n : ℕ) → AreBytes bytes → next_read bytes ≡ Some n → n ≤ MOST_LOCALS → Some n ≡ next_in bytes
next_written bytes n fits some low = next_there_is bytes n fits some true (le-leb n MOST_LOCALS low)

pub next_large : (bytes : List ℕ) (n : ℕ) → AreBytes bytes → next_read bytes ≡ Some n → MOST_LOCALS < n → None ≡ next_in bytes
next_large bytes n fits some high = next_there_is bytes n fits some false (lt-leb n MOST_LOCALS high)
