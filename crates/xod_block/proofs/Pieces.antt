-- Pieces put at the end, one after the other.
use Rattle.std.proofs.Common.{◌≡◌, ℕ, List, ◌++◌, ap, ◌∙◌, append_assoc}

-- three pieces put at the end, one after the other
pub three_put : (a b c d x y z : List ℕ) → b ≡ a ++ x → c ≡ b ++ y → d ≡ c ++ z → d ≡ a ++ (x ++ (y ++ z))
three_put a b c d x y z first second third =
    third ∙ ap (λ (l : List ℕ). l ++ z) (second ∙ ap (λ (l : List ℕ). l ++ y) first) ∙ append_assoc (a ++ x) y z ∙ append_assoc a x (y ++ z)
