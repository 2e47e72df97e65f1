-- Items of lists by their places, and fronts of keys.
use Rattle.std.proofs.Common.{◌≡◌, ℕ, ◌+◌, zero, suc, List, [], ◌∷◌, ◌++◌, take, drop, length, Bool, true, false, ◌&&◌, cond, eqb, Option, Some, None, slice_get, refl, ◌∙◌, ap, arith}
use Rattle.std.specs.List.{starts_with}
use Rattle.std.proofs.lemmas.Bool.{and_parts}
use Rattle.xod_trie.specs.Branches.{behind}

take_suc : {A : Type 0} (xs : List A) (i : ℕ) (x : A) → slice_get xs i ≡ Some x → take (suc i) xs ≡ take i xs ++ x ∷ []
take_suc [] i x e = absurd cc
take_suc (y ∷ xs) zero x e = let is : y ≡ x = cc e in ap (λ z. z ∷ []) is
take_suc (y ∷ xs) (suc i) x e = ap (λ l. y ∷ l) (take_suc xs i x e)

pub take_one_more : {A : Type 0} (xs : List A) (i : ℕ) (x : A) → slice_get xs i ≡ Some x → take (i + 1) xs ≡ take i xs ++ x ∷ []
take_one_more xs i x e = let next : i + 1 ≡ suc i = omega arith in ap (λ (n : ℕ). take n xs) next ∙ take_suc xs i x e

drop_suc : {A : Type 0} (xs : List A) (i : ℕ) (x : A) → slice_get xs i ≡ Some x → drop i xs ≡ x ∷ drop (suc i) xs
drop_suc [] i x e = absurd cc
drop_suc (y ∷ xs) zero x e = let is : y ≡ x = cc e in ap (λ z. z ∷ xs) is
drop_suc (y ∷ xs) (suc i) x e = drop_suc xs i x e

pub drop_at_place : {A : Type 0} (xs : List A) (i : ℕ) (x : A) → slice_get xs i ≡ Some x → drop i xs ≡ x ∷ drop (i + 1) xs
drop_at_place xs i x e = let next : suc i ≡ i + 1 = omega arith in drop_suc xs i x e ∙ ap (λ (n : ℕ). x ∷ drop n xs) next

pub behind-is : (front key : List ℕ) → starts_with eqb key front ≡ true → behind front key ≡ Some (drop (length front) key)
behind-is [] key e = refl
behind-is (x ∷ xs) [] e = absurd (cc e)
behind-is (x ∷ xs) (y ∷ ys) e = let h = and_parts (eqb x y) (starts_with eqb ys xs) e in ap (λ q. cond q (behind xs ys) None) h.0 ∙ behind-is xs ys h.1

no_way : (q r : Bool) (o : Option (List ℕ)) → (q && r) ≡ false → (r ≡ false → o ≡ None) → cond q o None ≡ None
no_way true r o e f = f e
no_way false r o e f = refl

pub behind-none : (front key : List ℕ) → starts_with eqb key front ≡ false → behind front key ≡ None
behind-none [] key e = absurd (cc e)
behind-none (x ∷ xs) [] e = refl
behind-none (x ∷ xs) (y ∷ ys) e = no_way (eqb x y) (starts_with eqb ys xs) (behind xs ys) e (behind-none xs ys)
