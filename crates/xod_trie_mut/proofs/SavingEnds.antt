-- Why the loop over frames ends.
use Rattle.std.proofs.Common.{◌≡◌, ◌<◌, ◌≤◌, ℕ, zero, suc, ◌+◌, ◌-◌, ◌*◌, List, [], ◌∷◌, ◌++◌, length, Option, Some, None, slice_get, refl, sym, ◌∙◌, ap, subst, arith, length-append, inl, inr}
use Rattle.std.specs.Option.{option_and_then}
use Rattle.std.proofs.lemmas.Bool.{cases_lt}
use Rattle.std.proofs.lemmas.Option.{slice_get_within}
use Rattle.xod_block.specs.declared.address.Address.{Address}
use Rattle.xod_block.specs.Records.{Link}
use Rattle.xod_trie.specs.declared.branch.Branch.{Branch}
use Rattle.xod_trie_mut.specs.declared.frames.Frame.{Frame}
use Rattle.xod_trie_mut.specs.Frames.{next_of}
use Rattle.xod_trie_mut.specs.Own.{AreOwn}
use Rattle.xod_trie_mut.proofs.SavingBytes.{few}

-- more than all that one child may take, by the place of its parent
pub weight : ℕ → ℕ
weight zero = 1
weight (suc index) = 258 * weight index

pub weight-above : (index : ℕ) → 1 ≤ weight index
unfolding weight
weight-above zero = omega arith
weight-above (suc index) = let more = weight-above index in omega arith

weight-step : (below index : ℕ) → below < index → 258 * weight below ≤ weight index
unfolding weight
weight-step below zero lt = absurd (omega (arith, lt))
weight-step below (suc index) lt = elim (cases_lt below index) [
  | inl lower ↦ let rest = weight-step below index lower in omega arith
  | inr ge ↦ let same : below ≡ index = omega (arith, lt, ge) in subst (λ (i : ℕ). 258 * weight i ≤ 258 * weight index) (sym same) (omega arith)
]

-- how many children have no new address yet
abbrev pub children_in : Option Branch → List Link
children_in None = []
children_in (Some branch) = branch.children

abbrev pub left : List Branch → Frame → ℕ
left own frame = length (children_in (slice_get own frame.index)) - length frame.list

-- what a frame that waits for a child may take still, and the one that does not
abbrev pub waiting : List Branch → Frame → ℕ
waiting own frame = left own frame * weight frame.index

abbrev pub all_waiting : List Branch → List Frame → ℕ
all_waiting own [] = 0
all_waiting own (frame ∷ frames) = waiting own frame + all_waiting own frames

abbrev pub turn : List Branch → Frame → ℕ
turn own frame = (left own frame + 1) * weight frame.index

abbrev pub to_come : List Branch → Frame → List Frame → ℕ
to_come own top stack = turn own top + all_waiting own stack

all_waiting-append : (own : List Branch) (frames : List Frame) (frame : Frame) → all_waiting own (frames ++ frame ∷ []) ≡ all_waiting own frames + waiting own frame
all_waiting-append own [] frame = omega arith
all_waiting-append own (f ∷ frames) frame = let rest = all_waiting-append own frames frame in omega arith

-- a frame with a next child
next-in : (o : Option Branch) (n : ℕ) (child : Link) → option_and_then (λ branch. slice_get branch.children n) o ≡ Some child → n < length (children_in o)
next-in None n child e = absurd cc
next-in (Some branch) n child e = slice_get_within branch.children n child e

pub left-next : (own : List Branch) (frame : Frame) (child : Link) → next_of own frame ≡ Some child → 1 ≤ left own frame
left-next own frame child e = let lt = next-in (slice_get own frame.index) (length frame.list) child e in omega arith

left-with_child : (own : List Branch) (frame next : Frame) (child link : Link) → next_of own frame ≡ Some child → next ≡ record frame { list = frame.list ++ link ∷ [] } → left own next + 1 ≡ left own frame
left-with_child own frame next child link e is =
    let lt = next-in (slice_get own frame.index) (length frame.list) child e in
    let longer = length-append frame.list (link ∷ []) in
    subst (λ (f : Frame). left own f + 1 ≡ left own frame) (sym is) (omega (arith, lt, longer))

mul-le : (m n w : ℕ) → m ≤ n → m * w ≤ n * w
mul-le m n w le = grind (arith, le)

mul-more : (n w : ℕ) → (n + 1) * w ≡ n * w + w
mul-more n w = grind arith

-- one child less to come
pub less-with_child : (own : List Branch) (top next : Frame) (stack : List Frame) (child link : Link) → next_of own top ≡ Some child → next ≡ record top { list = top.list ++ link ∷ [] } → to_come own next stack < to_come own top stack
less-with_child own top next stack child link e is =
    let fewer = left-with_child own top next child link e is in
    let more = weight-above top.index in
    let same : weight next.index ≡ weight top.index = ap (λ (f : Frame). weight f.index) is in
    let w = weight top.index in
    let l = left own next in
    let a : turn own next ≡ (l + 1) * w = ap (λ (n : ℕ). (l + 1) * n) same in
    let b : turn own top ≡ (l + 1 + 1) * w = ap (λ (n : ℕ). (n + 1) * w) (sym fewer) in
    let c = mul-more (l + 1) w in
    omega (arith, a, b, c, more)

-- a parent goes on
pub less-up : (own : List Branch) (top parent next : Frame) (stack stack2 : List Frame) (child link : Link) → next_of own parent ≡ Some child → next ≡ record parent { list = parent.list ++ link ∷ [] } → stack ≡ stack2 ++ parent ∷ [] → to_come own next stack2 < to_come own top stack
less-up own top parent next stack stack2 child link e is popped =
    let fewer = left-with_child own parent next child link e is in
    let more = weight-above top.index in
    let same : weight next.index ≡ weight parent.index = ap (λ (f : Frame). weight f.index) is in
    let w = weight parent.index in
    let l = left own next in
    let a : turn own next ≡ (l + 1) * w = ap (λ (n : ℕ). (l + 1) * n) same in
    let b : waiting own parent ≡ (l + 1) * w = ap (λ (n : ℕ). n * w) (sym fewer) in
    let c = mul-more (left own top) (weight top.index) in
    let d : all_waiting own stack ≡ all_waiting own stack2 + waiting own parent = ap (all_waiting own) popped ∙ all_waiting-append own stack2 parent in
    omega (arith, a, b, c, d, more)

most-in : (base : Option Address) (own : List Branch) → AreOwn base own → (index : ℕ) (o : Option Branch) → slice_get own index ≡ o → length (children_in o) ≤ 256
most-in base own sound index None e = omega arith
most-in base own sound index (Some branch) e = let parts = (sound index branch e).parts in few branch.children parts.bytes parts.rising

-- a child below is a branch before
pub less-down : (base : Option Address) (own : List Branch) → AreOwn base own → (top below : Frame) (stack stack2 : List Frame) (index : ℕ) → index < top.index → below ≡ record { index = index; list = [] } → stack2 ≡ stack ++ top ∷ [] → to_come own below stack2 < to_come own top stack
less-down base own sound top below stack stack2 index lower is pushed =
    let most = most-in base own sound index (slice_get own index) refl in
    let l = length (children_in (slice_get own index)) in
    let whole : l - 0 ≡ l = omega arith in
    let a : turn own below ≡ (l + 1) * weight index = ap (turn own) is ∙ ap (λ (n : ℕ). (n + 1) * weight index) whole in
    let b : (l + 1) * weight index ≤ 257 * weight index = mul-le (l + 1) 257 (weight index) (omega (arith, most)) in
    let c = weight-step index top.index lower in
    let more = weight-above index in
    let d = mul-more (left own top) (weight top.index) in
    let e : all_waiting own stack2 ≡ all_waiting own stack + waiting own top = ap (all_waiting own) pushed ∙ all_waiting-append own stack top in
    omega (arith, a, b, c, d, e, more)
