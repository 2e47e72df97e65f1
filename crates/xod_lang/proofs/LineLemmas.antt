-- Where an input is cut into lines.
use Rattle.std.proofs.Common.{◌≡◌, ℕ, zero, suc, ◌+◌, ◌<◌, ◌≤◌, ◌==◌, true, false, not, cond, List, [], ◌∷◌, ◌++◌, length, take, drop, refl, ap, sym, ◌∙◌, arith, append_assoc, length-drop}
use Rattle.std.specs.List.{position_or_len}
use Rattle.std.proofs.lemmas.List.{append-nil, take_all}
use Rattle.xod_lang.specs.Lines.{without_return, last_line, lines_after, lines_of}

abbrev feed_at : List ℕ → ℕ
feed_at bytes = position_or_len (λ byte. byte == 10) bytes

-- the first line and the others, where the bytes behind its front have a line feed at a place
abbrev cut_at : List ℕ → List ℕ → ℕ → List (List ℕ)
cut_at front bytes n = without_return (front ++ take n bytes) ∷ lines_of (drop (suc n) bytes)

cut_at-cons : (front bytes : List ℕ) (byte n : ℕ) → cut_at front (byte ∷ bytes) (1 + n) ≡ cut_at (front ++ byte ∷ []) bytes n
cut_at-cons front bytes byte n =
    let next : 1 + n ≡ suc n = omega arith in
    ap (cut_at front (byte ∷ bytes)) next
    ∙ ap (λ line. without_return line ∷ lines_of (drop (suc n) bytes)) (sym (append_assoc front (byte ∷ []) (take n bytes)))

lines_after-feed : (bytes front : List ℕ) → feed_at bytes < length bytes → lines_after front bytes ≡ cut_at front bytes (feed_at bytes)
lines_after-feed [] front lt = absurd (omega (arith, lt))
lines_after-feed (byte ∷ bytes) front lt =
    (elim (byte == 10) as (λ b. cond (not b) (1 + feed_at bytes) 0 < length (byte ∷ bytes)
    → cond b (without_return front ∷ lines_after [] bytes) (lines_after (front ++ byte ∷ []) bytes)
    ≡ cut_at front (byte ∷ bytes) (cond (not b) (1 + feed_at bytes) 0)) [
      | true ↦ λ _. ap (λ line. without_return line ∷ lines_after [] bytes) (sym (append-nil front))
      | false ↦ λ lt. lines_after-feed bytes (front ++ byte ∷ []) (omega (arith, lt)) ∙ sym (cut_at-cons front bytes byte (feed_at bytes))
    ]) lt

lines_after-last : (bytes front : List ℕ) → length bytes ≤ feed_at bytes → lines_after front bytes ≡ last_line (front ++ bytes)
lines_after-last [] front le = ap last_line (sym (append-nil front))
lines_after-last (byte ∷ bytes) front le =
    (elim (byte == 10) as (λ b. length (byte ∷ bytes) ≤ cond (not b) (1 + feed_at bytes) 0
    → cond b (without_return front ∷ lines_after [] bytes) (lines_after (front ++ byte ∷ []) bytes)
    ≡ last_line (front ++ byte ∷ bytes)) [
      | true ↦ λ le. absurd (omega (arith, le))
      | false ↦ λ le. lines_after-last bytes (front ++ byte ∷ []) (omega (arith, le)) ∙ ap last_line (append_assoc front (byte ∷ []) bytes)
    ]) le

one_line : (bytes : List ℕ) → 0 < length bytes → last_line bytes ≡ bytes ∷ []
one_line [] lt = absurd (omega (arith, lt))
one_line (byte ∷ bytes) lt = refl

empty : (bytes : List ℕ) → length bytes ≡ 0 → bytes ≡ []
empty [] none = refl
empty (byte ∷ bytes) none = absurd (omega (arith, none))

-- where bytes are left behind n, the first of them is at n
drop_next : (bytes : List ℕ) (n byte : ℕ) (more : List ℕ) → drop n bytes ≡ byte ∷ more → (n < length bytes) × (drop (suc n) bytes ≡ more)
drop_next [] zero byte more is = absurd (cc)
drop_next [] (suc n) byte more is = absurd (cc)
drop_next (first ∷ bytes) zero byte more is = (omega arith, cc)
drop_next (first ∷ bytes) (suc n) byte more is =
    let next = drop_next bytes n byte more is in (omega (arith, next.0), next.1)

drop_none : (bytes : List ℕ) (n : ℕ) → length (drop n bytes) ≡ 0 → length bytes ≤ n
drop_none bytes n none = omega (arith, length-drop n bytes)

-- bytes with a line feed: the first line, and the lines behind it
pub lines_of-feed : (bytes back more : List ℕ) (n byte : ℕ) → n ≡ feed_at bytes → back ≡ drop n bytes → back ≡ byte ∷ more
    → lines_of bytes ≡ without_return (take n bytes) ∷ lines_of more
lines_of-feed bytes back more n byte at cut is =
    let here : drop (feed_at bytes) bytes ≡ byte ∷ more = cc in
    let next = drop_next bytes (feed_at bytes) byte more here in
    let first = lines_after-feed bytes [] next.0 in
    rw at (first ∙ ap (λ rest. without_return (take (feed_at bytes) bytes) ∷ lines_of rest) next.1)

-- bytes without a line feed are one line
pub lines_of-last : (bytes back : List ℕ) (n : ℕ) → n ≡ feed_at bytes → back ≡ drop n bytes → length back ≡ 0 → 0 < length bytes
    → lines_of bytes ≡ take n bytes ∷ lines_of back
lines_of-last bytes back n at cut none some =
    let here : length (drop n bytes) ≡ 0 = ap length (sym cut) ∙ none in
    let past = drop_none bytes n here in
    let last : length bytes ≤ feed_at bytes = omega (arith, past, at) in
    lines_after-last bytes [] last ∙ one_line bytes some
    ∙ ap (λ line. line ∷ []) (sym (take_all n bytes past)) ∙ ap (λ rest. take n bytes ∷ lines_of rest) (sym (empty back none))
