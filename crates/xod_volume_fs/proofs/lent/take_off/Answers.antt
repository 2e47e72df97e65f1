use Rattle.std.proofs.Common.{◌≡◌, ◌<◌, ◌≤◌, ℕ, ◌+◌, suc, true, false, cond, List, [], ◌∷◌, ◌++◌, length, take, drop, get_or, nat_eq, sym, ◌∙◌, ap, subst, arith, add-one, append_assoc, append-nil, drop-cons}
use Rattle.std.specs.Cmp.Lexicographic.{pointwise}
use Rattle.std.specs.List.{remove}
use Rattle.std.proofs.lemmas.List.{take_more, take_all, drop_all}
use Rattle.xod_volume.specs.Leases.{without}
use Rattle.xod_volume_fs.proofs.lent.take_off.Goals as goal

-- the rest of the lists from a place on begins with the one there
rest : (lists : List (List ℕ)) (at : ℕ) (here : List ℕ) → at < length lists → here ≡ get_or lists at here → drop at lists ≡ here ∷ drop (at + 1) lists
rest lists at here inside is = drop-cons lists at here inside ∙ ap (λ (l : List ℕ). l ∷ drop (suc at) lists) (sym is) ∙ ap (λ (k : ℕ). here ∷ drop k lists) (sym (add-one at))

-- the list is at this place
here_off : (list : List ℕ) (lists : List (List ℕ)) (at : ℕ) (here : List ℕ) → at < length lists → here ≡ get_or lists at here → pointwise nat_eq here list ≡ true
    → without list lists ≡ take at lists ++ without list (drop at lists) → remove lists at ≡ without list lists
here_off list lists at here inside is same passed = sym (passed
    ∙ ap (λ (l : List (List ℕ)). take at lists ++ without list l) (rest lists at here inside is)
    ∙ ap (λ b. take at lists ++ cond b (drop (at + 1) lists) (here ∷ without list (drop (at + 1) lists))) same
    ∙ ap (λ (k : ℕ). take at lists ++ drop k lists) (add-one at))

-- another list is at this place
next_off : (list : List ℕ) (lists : List (List ℕ)) (at : ℕ) (here : List ℕ) → at < length lists → here ≡ get_or lists at here → pointwise nat_eq here list ≡ false
    → without list lists ≡ take at lists ++ without list (drop at lists) → without list lists ≡ take (at + 1) lists ++ without list (drop (at + 1) lists)
next_off list lists at here inside is other passed = passed
    ∙ ap (λ (l : List (List ℕ)). take at lists ++ without list l) (rest lists at here inside is)
    ∙ ap (λ b. take at lists ++ cond b (drop (at + 1) lists) (here ∷ without list (drop (at + 1) lists))) other
    ∙ sym (append_assoc (take at lists) (here ∷ []) (without list (drop (at + 1) lists)))
    ∙ ap (λ (l : List (List ℕ)). l ++ without list (drop (at + 1) lists)) (ap (λ (x : List ℕ). take at lists ++ x ∷ []) is ∙ sym (take_more lists at here inside))

-- the list is at no place
none_off : (list : List ℕ) (lists : List (List ℕ)) (at : ℕ) → length lists ≤ at
    → without list lists ≡ take at lists ++ without list (drop at lists) → lists ≡ without list lists
none_off list lists at behind passed = sym (passed
    ∙ ap (λ (l : List (List ℕ)). take at lists ++ without list l) (drop_all at lists behind)
    ∙ append-nil (take at lists) ∙ take_all at lists behind)

pub returns-then-eq : goal.returns-then-eq
returns-then-eq c =
    c.remove.ensures.items
    ∙ here_off c.args.list.now c.loop-at.lists.items c.loop-at.at c.as_slice.result.now (omega arith) (subst (λ (l : List ℕ). l ≡ get_or c.loop-at.lists.items c.loop-at.at l) (sym c.as_slice.ensures) c.index.ensures) (sym c.if-eq.ensures) c.loop-at.invariant.1
    ∙ ap (without c.args.list.now) c.loop-at.invariant.0

pub loop-at-preserved : goal.loop-at-preserved
loop-at-preserved c =
    (c.loop-at.invariant.0, next_off c.args.list.now c.loop-at.lists.items c.loop-at.at c.as_slice.result.now (omega arith) (subst (λ (l : List ℕ). l ≡ get_or c.loop-at.lists.items c.loop-at.at l) (sym c.as_slice.ensures) c.index.ensures) (sym c.if-eq.ensures) c.loop-at.invariant.1)

pub returns : goal.returns
returns c = none_off c.args.list.now c.loop-at.lists.items c.loop-at.at (omega arith) c.loop-at.invariant.1 ∙ ap (without c.args.list.now) c.loop-at.invariant.0
