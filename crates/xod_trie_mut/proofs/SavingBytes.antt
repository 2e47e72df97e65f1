-- Children with the same bytes.
use Rattle.std.proofs.Common.{◌≡◌, ◌<◌, ◌≤◌, ℕ, ◌+◌, List, [], ◌∷◌, length, Bool, true, ◌&&◌, ltb, refl, sym, ◌∙◌, ap, subst, arith}
use Rattle.std.specs.List.{AllByRecursion}
use Rattle.std.proofs.lemmas.Bool.{and_parts, ltb-true}
use Rattle.xod_block.specs.Records.{Link, rise}
use Rattle.xod_trie_mut.specs.Keeps.{bytes_of}

heads : (x y : ℕ) (xs ys : List ℕ) → x ∷ xs ≡ y ∷ ys → (x ≡ y) × (xs ≡ ys)
heads x y xs ys e = (cc, cc)

pub rise-same : (a b : List Link) → bytes_of a ≡ bytes_of b → rise a ≡ rise b
rise-same [] [] e = refl
rise-same [] (y ∷ b) e = absurd cc
rise-same (x ∷ a) [] e = absurd cc
rise-same (x ∷ []) (y ∷ []) e = refl
rise-same (x ∷ []) (y ∷ v ∷ b) e = absurd cc
rise-same (x ∷ u ∷ a) (y ∷ []) e = absurd cc
rise-same (x ∷ u ∷ a) (y ∷ v ∷ b) e =
    let h = heads x.0 y.0 (bytes_of (u ∷ a)) (bytes_of (v ∷ b)) e in
    let k = heads u.0 v.0 (bytes_of a) (bytes_of b) h.1 in
    ap (λ (q : Bool). ltb x.0 u.0 && q) (rise-same (u ∷ a) (v ∷ b) h.1)
    ∙ ap (λ (n : ℕ). ltb n u.0 && rise (v ∷ b)) h.0
    ∙ ap (λ (n : ℕ). ltb y.0 n && rise (v ∷ b)) k.0

pub length-same : (a b : List Link) → bytes_of a ≡ bytes_of b → length a ≡ length b
length-same [] [] e = refl
length-same [] (y ∷ b) e = absurd cc
length-same (x ∷ a) [] e = absurd cc
length-same (x ∷ a) (y ∷ b) e =
    let h = heads x.0 y.0 (bytes_of a) (bytes_of b) e in
    let rest = length-same a b h.1 in omega arith

abbrev pub AreBytes : List Link → Type 0
AreBytes children = AllByRecursion (λ child. child.0 < 256) children

pub bytes-same : (a b : List Link) → bytes_of a ≡ bytes_of b → AreBytes b → AreBytes a
bytes-same [] b e h = tt
bytes-same (x ∷ a) [] e h = absurd cc
bytes-same (x ∷ a) (y ∷ b) e h =
    let k = heads x.0 y.0 (bytes_of a) (bytes_of b) e in
    (subst (λ (n : ℕ). n < 256) (sym k.0) h.0, bytes-same a b k.1 h.1)

-- rising bytes are few
few-from : (c : Link) (cs : List Link) → AreBytes (c ∷ cs) → rise (c ∷ cs) ≡ true → c.0 + length (c ∷ cs) ≤ 256
few-from c [] h r = let b = h.0 in omega arith
few-from c (d ∷ cs) h r =
    let parts = and_parts (ltb c.0 d.0) (rise (d ∷ cs)) r in
    let lower = ltb-true c.0 d.0 parts.0 in
    let rest = few-from d cs h.1 parts.1 in
    omega arith

pub few : (cs : List Link) → AreBytes cs → rise cs ≡ true → length cs ≤ 256
few [] h r = omega arith
few (c ∷ cs) h r = let all = few-from c cs h r in omega arith
