-- A record stays where more bytes come behind it, whatever numbers they are.
use Rattle.std.proofs.Common.{◌≡◌, ◌≤◌, ℕ, ◌-◌, ◌*◌, List, [], ◌∷◌, ◌++◌, take, drop, length, Bool, true, false, cond, ltb, eqb, Option, Some, None, refl, ◌∙◌, ap, arith}
use Rattle.std.specs.Option.{option_map}
use Rattle.std.specs.Int.{w16, w64, Width, byte_len, from_be_bytes}
use Rattle.std.proofs.lemmas.Bool.Decides.{nat_tests}
use Rattle.std.proofs.lemmas.List.{take-append-le, drop-append-le, length-append}
use Rattle.xod_block.specs.Records.{RecordValue, Leaf, Node, Root}
use Rattle.xod_block.specs.Reading.{◌>>=◌, byte_at, number_at, part_at, own_at, links_in, links_at, leaf_at, node_at, root_at, record_and_rest, record_at, record_in}

-- what was read, with more bytes behind
abbrev with_more : {A : Type 0} → List ℕ → A × List ℕ → Option (A × List ℕ)
with_more more y = Some (y.0, y.1 ++ more)

-- a reader that reads the same where more bytes come behind
abbrev Keeps : {A : Type 0} → (List ℕ → Option (A × List ℕ)) → Type 0
Keeps {A} r = (more bytes : List ℕ) (y : A × List ℕ) → r bytes ≡ Some y → r (bytes ++ more) ≡ with_more more y

keeps-last : {A : Type 0} (x : A) → Keeps (λ bytes. Some (x, bytes))
keeps-last x more bytes y e = let first : x ≡ y.0 = cc e in let rest : bytes ≡ y.1 = cc e in cc

keeps-none : {A : Type 0} → Keeps {A = A} (λ bytes. None)
keeps-none more bytes y e = absurd cc

keeps-then : {A B : Type 0} (r : List ℕ → Option (A × List ℕ)) (f : A × List ℕ → Option (B × List ℕ)) → Keeps r → ((x : A) → Keeps (λ bytes. f (x, bytes))) → Keeps (λ bytes. r bytes >>= f)
keeps-then r f first later more bytes y = elim (r bytes) as (λ o. r bytes ≡ o → (o >>= f) ≡ Some y → (r (bytes ++ more) >>= f) ≡ with_more more y) [
  | None ↦ λ is e. absurd cc
  | Some x ↦ λ is e. ap (λ o. o >>= f) (first more bytes x is) ∙ later x.0 more x.1 y e
] refl

keeps-either : {A : Type 0} (q : Bool) (r s : List ℕ → Option (A × List ℕ)) → Keeps r → Keeps s → Keeps (λ bytes. cond q (r bytes) (s bytes))
keeps-either true r s a b = a
keeps-either false r s a b = b

cond_other : {A : Type 0} (q : Bool) (p y : A) → cond q None (Some p) ≡ Some y → (q ≡ false) × (p ≡ y)
cond_other true p y e = absurd cc
cond_other false p y e = (refl, cc e)

-- so many bytes are taken off
keeps-cut : {A : Type 0} (f : List ℕ → A) (n : ℕ) → Keeps (λ bytes. cond (ltb (length bytes) n) None (Some (f (take n bytes), drop n bytes)))
keeps-cut f n more bytes y e =
    let h = cond_other (ltb (length bytes) n) (f (take n bytes), drop n bytes) y e in
    let t = h.0 in
    let le : n ≤ length bytes = grind (arith, nat_tests) in
    let long = length-append bytes more in
    let no : ltb (length (bytes ++ more)) n ≡ false = grind (arith, nat_tests) in
    ap (λ (q : Bool). cond q None (Some (f (take n (bytes ++ more)), drop n (bytes ++ more)))) no
    ∙ ap (λ (l : List ℕ). Some (f l, drop n (bytes ++ more))) (take-append-le n bytes more le)
    ∙ ap (λ (l : List ℕ). Some (f (take n bytes), l)) (drop-append-le n bytes more le)
    ∙ ap (with_more more) h.1

byte-keeps : Keeps byte_at
byte-keeps more [] y e = absurd cc
byte-keeps more (b ∷ bytes) y e = keeps-last b more bytes y e

number-keeps : (w : Width) → Keeps (number_at w)
number-keeps w = keeps-cut (from_be_bytes w) (byte_len w)

part-keeps : Keeps part_at
unfolding part_at
part-keeps = keeps-then (number_at w16) _ (number-keeps w16) (λ n. keeps-cut (λ (l : List ℕ). l) n)

own-keeps : Keeps own_at
unfolding own_at
own-keeps = keeps-then byte_at _ byte-keeps (λ flag. keeps-either (eqb flag 0) _ _ (keeps-last None) (keeps-either (eqb flag 1) _ _ (keeps-then part_at _ part-keeps (λ value. keeps-last (Some value))) keeps-none))

links-keeps : (count : ℕ) → Keeps (links_at count)
unfolding links_at
links-keeps count = keeps-cut links_in (13 * count)

leaf-keeps : Keeps leaf_at
unfolding leaf_at
leaf-keeps = keeps-then part_at _ part-keeps (λ key. keeps-then part_at _ part-keeps (λ value. keeps-last (Leaf key value)))

node-keeps : Keeps node_at
unfolding node_at
node-keeps = keeps-then part_at _ part-keeps (λ key. keeps-then own_at _ own-keeps (λ value. keeps-then (number_at w16) _ (number-keeps w16) (λ count. keeps-then (links_at count) _ (links-keeps count) (λ children. keeps-either _ _ _ (keeps-last (Node key value children)) keeps-none))))

root-keeps : Keeps root_at
unfolding root_at
root-keeps = keeps-then byte_at _ byte-keeps (λ format. keeps-then (number_at w64) _ (number-keeps w64) (λ commit. keeps-then byte_at _ byte-keeps (λ count. keeps-then (links_at count) _ (links-keeps count) (λ trees. keeps-either _ _ _ (keeps-last (Root commit trees)) keeps-none))))

pub record-keeps : Keeps record_and_rest
unfolding record_and_rest
record-keeps = keeps-then byte_at _ byte-keeps (λ kind. keeps-either (eqb kind 1) _ _ leaf-keeps (keeps-either (eqb kind 2) _ _ node-keeps (keeps-either (eqb kind 3) _ _ root-keeps keeps-none)))

read-more : (f g : List ℕ → ℕ) (more : List ℕ) (o p : Option (RecordValue × List ℕ)) → ((y : RecordValue × List ℕ) → o ≡ Some y → p ≡ with_more more y) → (item : RecordValue) → option_map (λ (x : RecordValue × ℕ). x.0) (option_map (λ (x : RecordValue × List ℕ). (x.0, f x.1)) o) ≡ Some item → option_map (λ (x : RecordValue × ℕ). x.0) (option_map (λ (x : RecordValue × List ℕ). (x.0, g x.1)) p) ≡ Some item
read-more f g more None p h item e = absurd cc
read-more f g more (Some y) p h item e = ap (λ o. option_map (λ (x : RecordValue × ℕ). x.0) (option_map (λ (x : RecordValue × List ℕ). (x.0, g x.1)) o)) (h y refl) ∙ e

pub record_in-more : (more bytes : List ℕ) (item : RecordValue) → record_in bytes ≡ Some item → record_in (bytes ++ more) ≡ Some item
unfolding record_at
record_in-more more bytes item e = read-more (λ rest. length bytes - length rest) (λ rest. length (bytes ++ more) - length rest) more (record_and_rest bytes) (record_and_rest (bytes ++ more)) (record-keeps more bytes) item e
