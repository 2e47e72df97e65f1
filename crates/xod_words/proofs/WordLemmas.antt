-- Where blanks, words and texts end, by how many bytes they have.
use Rattle.std.proofs.Common.{◌≡◌, ℕ, ◌+◌, ◌<◌, ◌==◌, suc, Bool, true, false, not, ◌&&◌, cond, List, [], ◌∷◌, ◌++◌, length, get_or, take, drop, IfSome, slice_get, refl, ap, sym, ◌∙◌, arith, append_assoc}
use Rattle.std.specs.List.{prefix_len, position_or_len}
use Rattle.std.proofs.lemmas.List.{append-nil, at_drop_more, drop_all, drop-drop, take_more}
use Rattle.std.proofs.lemmas.List.Sums.{prefix_len-le-length}
use Rattle.std.proofs.Math.Seq.{take-add}
use Rattle.xod_words.specs.Words.{Word, is_blank, words_of, word_on, text_on}

drop_one_more : (n : ℕ) (x : ℕ) (xs : List ℕ) → drop (1 + n) (x ∷ xs) ≡ drop n xs
drop_one_more n x xs = let next : 1 + n ≡ suc n = omega arith in ap (λ k. drop k (x ∷ xs)) next

take_one_more : (n : ℕ) (x : ℕ) (xs : List ℕ) → take (1 + n) (x ∷ xs) ≡ x ∷ take n xs
take_one_more n x xs = let next : 1 + n ≡ suc n = omega arith in ap (λ k. take k (x ∷ xs)) next

words_of-blank : (x : ℕ) (xs : List ℕ) → is_blank x ≡ true → words_of (x ∷ xs) ≡ words_of xs
unfolding words_of
words_of-blank x xs e = rw e refl

-- blanks at the front are no words
pub words_of-blanks : (line : List ℕ) → words_of (drop (prefix_len is_blank line) line) ≡ words_of line
words_of-blanks [] = refl
words_of-blanks (x ∷ xs) =
    (elim (is_blank x) as (λ b. is_blank x ≡ b → words_of (drop (cond b (1 + prefix_len is_blank xs) 0) (x ∷ xs)) ≡ words_of (x ∷ xs)) [
      | true ↦ λ e. ap words_of (drop_one_more _ x xs) ∙ words_of-blanks xs ∙ sym (words_of-blank x xs e)
      | false ↦ λ e. refl
    ]) refl

-- a word goes on to the first blank
word_on-cut : (bytes : List ℕ) (front : Word)
    → word_on front bytes ≡ (front ++ take (position_or_len is_blank bytes) bytes) ∷ words_of (drop (position_or_len is_blank bytes) bytes)
unfolding words_of
word_on-cut [] front = ap (λ word. word ∷ []) (sym (append-nil front))
word_on-cut (x ∷ xs) front =
    (elim (is_blank x) as (λ b. is_blank x ≡ b → cond b (front ∷ words_of xs) (word_on (front ++ x ∷ []) xs)
    ≡ (front ++ take (cond (not b) (1 + position_or_len is_blank xs) 0) (x ∷ xs)) ∷ words_of (drop (cond (not b) (1 + position_or_len is_blank xs) 0) (x ∷ xs))) [
      | true ↦ λ e. λ i. sym (append-nil front) i ∷ sym (words_of-blank x xs e) i
      | false ↦ λ e. word_on-cut xs (front ++ x ∷ [])
          ∙ ap (λ word. word ∷ words_of (drop (position_or_len is_blank xs) xs)) (append_assoc front (x ∷ []) _ ∙ ap (λ more. front ++ more) (sym (take_one_more _ x xs)))
          ∙ ap (λ rest. (front ++ take (1 + position_or_len is_blank xs) (x ∷ xs)) ∷ words_of rest) (sym (drop_one_more _ x xs))
    ]) refl

pub word_on-at : (bytes : List ℕ) (front : Word) (n : ℕ) → n ≡ position_or_len is_blank bytes
    → word_on front bytes ≡ (front ++ take n bytes) ∷ words_of (drop n bytes)
word_on-at bytes front n at = rw at (word_on-cut bytes front)

-- one byte more of a text
text_on-more : (bytes : List ℕ) (i : ℕ) (front : Word) (escaped : Bool) → i < length bytes
    → text_on escaped (front ++ take i bytes) (drop i bytes)
    ≡ cond (not escaped && (get_or bytes i 0 == 34)) (word_on (front ++ take (i + 1) bytes) (drop (i + 1) bytes))
    (text_on (not escaped && (get_or bytes i 0 == 92)) (front ++ take (i + 1) bytes) (drop (i + 1) bytes))
unfolding words_of
text_on-more bytes i front escaped lt =
    let longer : (front ++ take i bytes) ++ get_or bytes i 0 ∷ [] ≡ front ++ take (i + 1) bytes =
    append_assoc front (take i bytes) _ ∙ ap (λ more. front ++ more) (sym (take_more bytes i 0 lt)) in
    at_drop_more (text_on escaped (front ++ take i bytes)) bytes i 0 lt
    ∙ ap (λ word. cond (not escaped && (get_or bytes i 0 == 34)) (word_on word (drop (i + 1) bytes)) (text_on (not escaped && (get_or bytes i 0 == 92)) word (drop (i + 1) bytes))) longer

-- the closing quote, and any other byte
pub text_on-closed : (bytes : List ℕ) (i : ℕ) (front : Word) (escaped : Bool) → i < length bytes → (not escaped && (get_or bytes i 0 == 34)) ≡ true
    → text_on escaped (front ++ take i bytes) (drop i bytes) ≡ word_on (front ++ take (i + 1) bytes) (drop (i + 1) bytes)
text_on-closed bytes i front escaped lt e = text_on-more bytes i front escaped lt ∙ rw e refl

pub text_on-goes_on : (bytes : List ℕ) (i : ℕ) (front : Word) (escaped next : Bool) → i < length bytes → (not escaped && (get_or bytes i 0 == 34)) ≡ false
    → next ≡ (not escaped && (get_or bytes i 0 == 92))
    → text_on escaped (front ++ take i bytes) (drop i bytes) ≡ text_on next (front ++ take (i + 1) bytes) (drop (i + 1) bytes)
text_on-goes_on bytes i front escaped next lt e is = text_on-more bytes i front escaped lt ∙ rw (e, is) refl

-- a text without a closing quote goes on to the end
pub text_on-end : (bytes : List ℕ) (i : ℕ) (front : Word) (escaped : Bool) → i ≡ length bytes
    → text_on escaped (front ++ take i bytes) (drop i bytes) ≡ word_on (front ++ take i bytes) (drop i bytes)
unfolding words_of
text_on-end bytes i front escaped is =
    let none : drop i bytes ≡ [] = drop_all i bytes (omega arith) in
    rw none refl

-- the first word of a line that begins with no blank: a text and what stands at it, or another word
pub words_of-text : (first n : ℕ) (rest : List ℕ) → is_blank first ≡ false → (first == 34) ≡ true
    → text_on false (first ∷ []) rest ≡ (first ∷ take n rest) ∷ words_of (drop n rest)
    → words_of (first ∷ rest) ≡ (first ∷ take n rest) ∷ words_of (drop n rest)
unfolding words_of
words_of-text first n rest e is cut = rw (e, is) cut

pub words_of-word : (first n : ℕ) (rest : List ℕ) → is_blank first ≡ false → (first == 34) ≡ false
    → word_on (first ∷ []) rest ≡ (first ∷ take n rest) ∷ words_of (drop n rest)
    → words_of (first ∷ rest) ≡ (first ∷ take n rest) ∷ words_of (drop n rest)
unfolding words_of
words_of-word first n rest e is cut = rw (e, is) cut

-- the same, cut from the line
pub words_of-cut : (line rest front back : List ℕ) (first n : ℕ) → line ≡ first ∷ rest → front ≡ take (1 + n) line → back ≡ drop (1 + n) line
    → words_of (first ∷ rest) ≡ (first ∷ take n rest) ∷ words_of (drop n rest)
    → words_of line ≡ front ∷ words_of back
words_of-cut line rest front back first n is before behind cut =
    let front_is : front ≡ first ∷ take n rest = before ∙ ap (take (1 + n)) is ∙ take_one_more n first rest in
    let back_is : back ≡ drop n rest = behind ∙ ap (drop (1 + n)) is ∙ drop_one_more n first rest in
    ap words_of is ∙ cut ∙ (λ i. sym front_is i ∷ words_of (sym back_is i))

-- a text, and what stands at its closing quote
pub text_on-word : (bytes behind : List ℕ) (front : Word) (n m : ℕ) → behind ≡ drop n bytes → m ≡ position_or_len is_blank behind
    → text_on false front bytes ≡ word_on (front ++ take n bytes) (drop n bytes)
    → text_on false front bytes ≡ (front ++ take (n + m) bytes) ∷ words_of (drop (n + m) bytes)
text_on-word bytes behind front n m is at cut =
    let front_is : (front ++ take n bytes) ++ take m (drop n bytes) ≡ front ++ take (n + m) bytes =
    append_assoc front (take n bytes) _ ∙ ap (λ more. front ++ more) (sym (take-add n m bytes)) in
    let here : m ≡ position_or_len is_blank (drop n bytes) = at ∙ ap (position_or_len is_blank) is in
    cut ∙ word_on-at (drop n bytes) (front ++ take n bytes) m here ∙ (λ i. front_is i ∷ words_of (drop-drop m n bytes i))

pub words_of-nil : (line start : List ℕ) → words_of start ≡ words_of line → length start ≡ 0 → words_of line ≡ []
unfolding words_of
words_of-nil line [] same none = sym same
words_of-nil line (x ∷ xs) same none = absurd (omega (arith, none))

-- no blank is left at the front
pub blanks_end : (line : List ℕ) → IfSome (slice_get (drop (prefix_len is_blank line) line) 0) (λ byte. is_blank byte ≡ false)
blanks_end [] = tt
blanks_end (x ∷ xs) =
    (elim (is_blank x) as (λ b. is_blank x ≡ b → IfSome (slice_get (drop (cond b (1 + prefix_len is_blank xs) 0) (x ∷ xs)) 0) (λ byte. is_blank byte ≡ false)) [
      | true ↦ λ e. rw (drop_one_more (prefix_len is_blank xs) x xs) (blanks_end xs)
      | false ↦ λ e. e
    ]) refl

-- where a line is cut into blanks, a word and the rest
pub ruleset cuts = (words_of-blanks, blanks_end, prefix_len-le-length)
