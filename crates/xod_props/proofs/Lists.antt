-- Lists that are joined.
use Rattle.std.proofs.Common.{◌≡◌, List, [], ◌∷◌, ◌++◌, ap, ◌∙◌, append_assoc}

-- an item, and two lists behind it, put at the end one after the other
pub three_behind : {A : Type 0} {w1 w2 w3 : List A} (w0 : List A) (a : A) (b c : List A)
    → w1 ≡ w0 ++ a ∷ [] → w2 ≡ w1 ++ b → w3 ≡ w2 ++ c → w3 ≡ w0 ++ (a ∷ (b ++ c))
three_behind w0 a b c is1 is2 is3 =
    is3 ∙ ap (λ w. w ++ c) (is2 ∙ ap (λ w. w ++ b) is1 ∙ append_assoc w0 (a ∷ []) b) ∙ append_assoc w0 (a ∷ b) c
