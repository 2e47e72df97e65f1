-- A walk ends: what is left grows lighter with each step.
use Rattle.std.proofs.Common.{◌≡◌, ◌<◌, ◌≤◌, ◌+◌, ◌*◌, ◌^◌, ℕ, suc, List, [], ◌∷◌, ◌++◌, length, sym, ap, ◌∙◌, arith, subst}
use Rattle.std.specs.List.{sum_by}
use Rattle.std.proofs.Math.Nat.{mul-le-mul_right}
use Rattle.std.proofs.Math.Pow.{pow_mono}
use Rattle.std.proofs.lemmas.Nat.{pow-add, pow_pos}
use Rattle.std.proofs.lemmas.List.Sums.{sum_by_push}
use Rattle.xod_block.specs.declared.address.Address.{Address}
use Rattle.xod_block.specs.Addresses.{number_of}
use Rattle.xod_recover.specs.declared.walk.Frame.{Frame}
use Rattle.xod_recover.specs.Ways.{Advances, left_of, weight, weight_of}

-- a child with all its children weighs less than its place in its parent
lighter : (m q p : ℕ) → m ≤ 256 → 0 < q → q * 512 ≤ p → (1 + m) * q < p
lighter m q p few positive large =
    let most : (1 + m) * q ≤ 257 * q = mul-le-mul_right q (omega (arith, few)) in
    omega (arith, most, positive, large)

powers : (c n : ℕ) → c < n → 2 ^ (9 * c) * 512 ≤ 2 ^ (9 * n)
powers c n lt =
    let more : 2 ^ (9 * c + 9) ≤ 2 ^ (9 * n) = pow_mono {i = 9 * c + 9} {j = 9 * n} (omega (arith, lt)) in
    subst (λ (k : ℕ). k ≤ 2 ^ (9 * n)) (pow-add 2 (9 * c) 9) more

one_less : (r p : ℕ) → (1 + suc r) * p ≡ (1 + r) * p + p
one_less r p = omega arith

weight-next : (old new : Frame) (child : Address) → Advances old new child → weight old ≡ weight new + 2 ^ (9 * number_of new.at)
weight-next old new child a =
    ap (λ (at : Address). (1 + length (left_of old)) * 2 ^ (9 * number_of at)) (sym a.at_same)
    ∙ ap (λ (n : ℕ). (1 + n) * 2 ^ (9 * number_of new.at)) (ap length a.left)
    ∙ one_less (length (left_of new)) (2 ^ (9 * number_of new.at))

weight_pos : (frame : Frame) → 0 < weight frame
weight_pos frame =
    let least : 1 * 2 ^ (9 * number_of frame.at) ≤ (1 + length (left_of frame)) * 2 ^ (9 * number_of frame.at) = mul-le-mul_right (2 ^ (9 * number_of frame.at)) (omega arith) in
    omega (arith, least, pow_pos (9 * number_of frame.at))

-- to a child
pub weight-down : (old new inner : Frame) (child : Address) (way longer : List Frame) → Advances old new child → number_of inner.at < number_of new.at → length (left_of inner) ≤ 256
    → longer ≡ way ++ new ∷ [] → weight_of inner longer < weight_of old way
weight-down old new inner child way longer a below few is =
    let sum : sum_by weight longer ≡ sum_by weight way + weight new = ap (sum_by weight) is ∙ sum_by_push weight way new in
    let lost = weight-next old new child a in
    let gained : weight inner < 2 ^ (9 * number_of new.at) = lighter (length (left_of inner)) (2 ^ (9 * number_of inner.at)) (2 ^ (9 * number_of new.at)) few (pow_pos (9 * number_of inner.at)) (powers (number_of inner.at) (number_of new.at) below) in
    omega (arith, sum, lost, gained)

-- past a child
pub weight-past : (old new : Frame) (child : Address) (way : List Frame) → Advances old new child → weight_of new way < weight_of old way
weight-past old new child way a = let lost = weight-next old new child a in omega (arith, lost, pow_pos (9 * number_of new.at))

-- back up
pub weight-up : (top frame : Frame) (way shorter : List Frame) → way ≡ shorter ++ frame ∷ [] → weight_of frame shorter < weight_of top way
weight-up top frame way shorter is =
    let sum : sum_by weight way ≡ sum_by weight shorter + weight frame = ap (sum_by weight) is ∙ sum_by_push weight shorter frame in
    omega (arith, sum, weight_pos top)
