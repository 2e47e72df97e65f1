-- Lists of marks, and what a torn write leaves of them.
use Rattle.std.proofs.Common.{◌≡◌, ◌<◌, ◌≤◌, ℕ, ◌+◌, ◌-◌, ◌*◌, List, ◌++◌, length, take, drop, get_or, refl, sym, ◌∙◌, ap, subst, arith, append_assoc, length-append}
use Rattle.std.proofs.lemmas.List.{take-take, take_at, drop_at, drop-take, get_or-take, get_or-drop}
use Rattle.xod_log.specs.Ends.{gate_at, numbers_at}

-- lists with one front have one shorter front
pub shorter_front : (n k : ℕ) (a b : List ℕ) → take n a ≡ take n b → k ≤ n → take k a ≡ take k b
shorter_front n k a b same le = sym (take-take k n a le) ∙ ap (λ (l : List ℕ). take k l) same ∙ take-take k n b le

pub same_get : (n k : ℕ) (a b : List ℕ) → take n a ≡ take n b → k < n → get_or a k 0 ≡ get_or b k 0
same_get n k a b same lt = sym (get_or-take n a k 0 lt) ∙ ap (λ (l : List ℕ). get_or l k 0) same ∙ get_or-take n b k 0 lt

pub same_gate : (m i : ℕ) (a b : List ℕ) → take (13 * m) a ≡ take (13 * m) b → i < m → gate_at a i ≡ gate_at b i
same_gate m i a b same lt = same_get (13 * m) (13 * i + 12) a b same (omega arith)

pub same_numbers : (m i : ℕ) (a b : List ℕ) → take (13 * m) a ≡ take (13 * m) b → i < m → numbers_at a i ≡ numbers_at b i
same_numbers m i a b same lt =
    let front : take (13 * i + 12) a ≡ take (13 * i + 12) b = shorter_front (13 * m) (13 * i + 12) a b same (omega arith) in
    sym (drop-take (13 * i) 12 a) ∙ ap (λ (l : List ℕ). drop (13 * i) l) front ∙ drop-take (13 * i) 12 b

-- what stands past a place stays past it
pub get_past : (n k : ℕ) (a b : List ℕ) → drop n a ≡ drop n b → n ≤ k → get_or a k 0 ≡ get_or b k 0
get_past n k a b same le =
    let at : n + (k - n) ≡ k = omega arith in
    subst (λ (j : ℕ). get_or a j 0 ≡ get_or b j 0) at (sym (get_or-drop n a (k - n) 0) ∙ ap (λ (l : List ℕ). get_or l (k - n) 0) same ∙ get_or-drop n b (k - n) 0)

-- ---- bytes in three parts: a front, others, and what follows

module _ (front bytes rest : List ℕ) (at : ℕ) (is : length front ≡ at) where
  pub parts_length : length (front ++ (bytes ++ rest)) ≡ at + length bytes + length rest
  parts_length = omega (arith, length-append front (bytes ++ rest), length-append bytes rest, is)

  pub parts_front : take at (front ++ (bytes ++ rest)) ≡ front
  parts_front = take_at front (bytes ++ rest) at is

  pub parts_there : take (length bytes) (drop at (front ++ (bytes ++ rest))) ≡ bytes
  parts_there = ap (take (length bytes)) (drop_at front (bytes ++ rest) at is) ∙ take_at bytes rest (length bytes) refl

  pub parts_rest : drop (at + length bytes) (front ++ (bytes ++ rest)) ≡ rest
  parts_rest =
      let both : length (front ++ bytes) ≡ at + length bytes = omega (arith, length-append front bytes, is) in
      ap (drop (at + length bytes)) (sym (append_assoc front bytes rest)) ∙ drop_at (front ++ bytes) rest (at + length bytes) both
