-- The bytes of a text, one after the other.
use Rattle.std.proofs.Common.{◌≡◌, ℕ, ◌+◌, ◌<◌, ◌==◌, Bool, true, false, not, ◌&&◌, cond, List, [], ◌∷◌, ◌++◌, length, get_or, drop, Option, Some, None, refl, ap, sym, ◌∙◌, arith, append_assoc, length-drop}
use Rattle.std.proofs.lemmas.Bool.Decides.{nat_tests}
use Rattle.std.proofs.lemmas.List.{at_drop_more, append-nil, drop_all}
use Rattle.xod_words.specs.Values.{ahead, closed, unescaped}

ahead-ahead : (front : List ℕ) (byte : ℕ) (more : Option (List ℕ)) → ahead front (ahead (byte ∷ []) more) ≡ ahead (front ++ byte ∷ []) more
ahead-ahead front byte None = refl
ahead-ahead front byte (Some bytes) = ap Some (sym (append_assoc front (byte ∷ []) bytes))

-- a byte without a meaning
pub unescaped-plain : (front back rest : List ℕ) (byte : ℕ) (escaped : Bool) → escaped ≡ false → (byte == 34) ≡ false → (byte == 92) ≡ false → back ≡ front ++ byte ∷ []
    → ahead front (unescaped escaped (byte ∷ rest)) ≡ ahead back (unescaped false rest)
unfolding unescaped
unescaped-plain front back rest byte escaped not_escaped no_quote no_slash is = rw (not_escaped, no_quote, no_slash, is) (ahead-ahead front byte (unescaped false rest))

closed_at_end : (front rest : List ℕ) (left : ℕ) → left ≡ length rest → ahead front (closed rest) ≡ cond (left == 0) (Some front) None
closed_at_end front [] left is = rw is (ap Some (append-nil front))
closed_at_end front (byte ∷ rest) left is = let more : (left == 0) ≡ false = grind (arith, nat_tests) in rw more refl

ended : (front : List ℕ) (escaped : Bool) → ahead front (unescaped escaped []) ≡ None
unfolding unescaped
ended front true = refl
ended front false = refl

-- the closing quote, with so many bytes behind it
pub unescaped-closed : (bytes front : List ℕ) (i left : ℕ) (escaped : Bool) → i < length bytes → left + (i + 1) ≡ length bytes → (not escaped && (get_or bytes i 0 == 34)) ≡ true
    → ahead front (unescaped escaped (drop i bytes)) ≡ cond (left == 0) (Some front) None
unfolding unescaped
unescaped-closed bytes front i left true lt count meant = absurd (cc)
unescaped-closed bytes front i left false lt count meant =
    let rest_is : left ≡ length (drop (i + 1) bytes) = omega (arith, length-drop (i + 1) bytes) in
    at_drop_more (λ rest. ahead front (unescaped false rest)) bytes i 0 lt ∙ rw meant (closed_at_end front (drop (i + 1) bytes) left rest_is)

-- no closing quote
pub unescaped-end : (bytes front : List ℕ) (i : ℕ) (escaped : Bool) → i ≡ length bytes → ahead front (unescaped escaped (drop i bytes)) ≡ None
unfolding unescaped
unescaped-end bytes front i escaped is =
    let none : drop i bytes ≡ [] = drop_all i bytes (omega arith) in
    rw none (ended front escaped)
