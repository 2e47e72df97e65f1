-- Writes that are put behind others.
use Rattle.std.proofs.Common.{◌≡◌, List, [], ◌∷◌, ◌++◌, ap, ◌∙◌}
use Rattle.std.proofs.lemmas.List.{append_assoc}

-- one that is put behind others, and then one more
pub two_pushed : {A : Type 0} {one two : List A} (old : List A) (first second : A) → one ≡ old ++ first ∷ [] → two ≡ one ++ second ∷ [] → two ≡ old ++ first ∷ second ∷ []
two_pushed {A} old first second a b = b ∙ ap (λ (list : List A). list ++ second ∷ []) a ∙ append_assoc old (first ∷ []) (second ∷ [])
