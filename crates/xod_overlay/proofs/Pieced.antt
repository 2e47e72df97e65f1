-- Touches in pieces: what stands in the piece that a key belongs to, and what a touch and a cut make of the pieces.
use Rattle.std.proofs.Common.{◌≡◌, ℕ, zero, suc, ◌+◌, ◌-◌, ◌/◌, ◌<◌, ◌≤◌, Bool, true, false, not, ◌&&◌, cond, nat_le, is_some, List, [], ◌∷◌, ◌++◌, length, get_or, set, insert, take, drop, Some, refl, sym, ap, subst, ◌∙◌, true≢false, arith, add-one}
use Rattle.std.specs.Prelude.{T, All}
use Rattle.std.proofs.lemmas.Bool.Decides.{nat_tests}
use Rattle.std.specs.declared.cmp.Ordering.{Ordering}
use Rattle.std.specs.declared.cmp.Ordering.TheVariants.{Less, Equal, Greater}
use Rattle.std.specs.FinMap.{find, is_sorted, put}
use Rattle.std.specs.FinMap.Entries.{below_all, by_order, is_sorted-put, length-put}
use Rattle.std.specs.List.Sorted.{IsPartitionPoint, IsPartitionedBy}
use Rattle.std.specs.Ordering.{is_lt, is_le, is_eq, ordering_reverse}
use Rattle.std.proofs.lemmas.List.{append_assoc, append-nil, take-append-drop, drop-drop, take_more, get_or_default, set-get_or, length-take, length-drop}
use Rattle.std.proofs.lemmas.List.Concat.{flat_map-append}
use Rattle.std.proofs.lemmas.List.Elements.{All-nil, All-cons, All-head, All-tail, All-append, All-set, All-get_or}
use Rattle.xod_base.specs.Values.{bytes_cmp}
use Rattle.xod_base.specs.Views.{above}
use Rattle.xod_overlay.specs.declared.piece.TheConstants.{MOST}
use Rattle.xod_overlay.specs.Marks.{Mark, Touch}
use Rattle.xod_overlay.specs.Pieces.{joined, IsInPieces, IsBefore, IsBehind, IsSeat, IsSized, begins_by, is_full_without, with_cut}
use Rattle.xod_overlay.specs.Places.{passes, from}
use Rattle.xod_overlay.proofs.Marked.{order, same_keys}
use Rattle.xod_overlay.proofs.Placed.{lesser, is_less, first, second, not_true, not_false, both}
use Rattle.xod_overlay.proofs.Walked.{below_one}

-- ---- touches by rising key, one part behind another

below_left : (x : List ℕ) (es fs : List Touch) → T (below_all bytes_cmp x (es ++ fs)) → T (below_all bytes_cmp x es)
below_left x [] fs h = tt
below_left x (e ∷ es) fs h = both _ _ (first _ _ h) (below_left x es fs (second _ _ h))

below_right : (x : List ℕ) (es fs : List Touch) → T (below_all bytes_cmp x (es ++ fs)) → T (below_all bytes_cmp x fs)
below_right x [] fs h = h
below_right x (e ∷ es) fs h = below_right x es fs (second _ _ h)

sorted_left : (es fs : List Touch) → T (is_sorted bytes_cmp (es ++ fs)) → T (is_sorted bytes_cmp es)
sorted_left [] fs h = tt
sorted_left (e ∷ es) fs h = both _ _ (below_left e.0 es fs (first _ _ h)) (sorted_left es fs (second _ _ h))

sorted_right : (es fs : List Touch) → T (is_sorted bytes_cmp (es ++ fs)) → T (is_sorted bytes_cmp fs)
sorted_right [] fs h = h
sorted_right (e ∷ es) fs h = sorted_right es fs (second _ _ h)

-- what stands above a key stands behind each key below it
behind_of : (key x : List ℕ) (es : List Touch) → bytes_cmp key x ≡ Less → T (below_all bytes_cmp x es) → All (IsBehind key) es
behind_of key x [] less h = All-nil (IsBehind key)
behind_of key x (e ∷ es) less h = All-cons (IsBehind key) e es (order.trans key x e.0 less (lesser _ (first _ _ h))) (behind_of key x es less (second _ _ h))

-- a key below one that another key reaches is below that too
reached : (x f key : List ℕ) → bytes_cmp x f ≡ Less → above key f ≡ false → bytes_cmp x key ≡ Less
reached x f key less apart = elim (bytes_cmp key f) as (λ r. bytes_cmp key f ≡ r → is_lt r ≡ false → bytes_cmp x key ≡ Less) [
  | Less ↦ λ is apart. absurd (true≢false apart)
  | Equal ↦ λ is apart. ap (bytes_cmp x) (same_keys key f is) ∙ less
  | Greater ↦ λ is apart. order.trans x f key less (order.antisymm f key ∙ ap ordering_reverse is)
] refl apart

before_of : (key : List ℕ) (es : List Touch) (f : Touch) (fs : List Touch) → T (is_sorted bytes_cmp (es ++ f ∷ fs)) → above key f.0 ≡ false → All (IsBefore key) es
before_of key [] f fs h apart = All-nil (IsBefore key)
before_of key (e ∷ es) f fs h apart =
    All-cons (IsBefore key) e es (reached e.0 f.0 key (below_one e.0 es fs f (first _ _ h)) apart) (before_of key es f fs (second _ _ h) apart)

-- touches that begin behind a key stand behind it
all_begin_behind : (key : List ℕ) (es : List Touch) → T (is_sorted bytes_cmp es) → begins_by key es ≡ false → All (IsBehind key) es
all_begin_behind key [] h fails = All-nil (IsBehind key)
all_begin_behind key (e ∷ es) h fails =
    let less = is_less (bytes_cmp key e.0) (not_false (above key e.0) fails) in
    All-cons (IsBehind key) e es less (behind_of key e.0 es less (first _ _ h))

-- and those before some that begin by a key stand before it
all_end_before : (key : List ℕ) (es fs : List Touch) → T (is_sorted bytes_cmp (es ++ fs)) → begins_by key fs ≡ true → All (IsBefore key) es
all_end_before key es [] h begun = absurd (true≢false (sym begun))
all_end_before key es (f ∷ fs) h begun = before_of key es f fs h (not_true (above key f.0) begun)

-- ---- the piece that a key belongs to

tail_of : (piece : List Touch) (pieces : List (List Touch)) → IsInPieces (piece ∷ pieces) → IsInPieces pieces
tail_of piece pieces h = record {
  sized = All-tail IsSized piece pieces h.sized;
  by_key = sorted_right piece (joined pieces) h.by_key;
}

pub sorted_at : (pieces : List (List Touch)) (at : ℕ) (d : List Touch) → IsInPieces pieces → at < length pieces → T (is_sorted bytes_cmp (get_or pieces at d))
sorted_at [] at d h lt = absurd (omega arith)
sorted_at (piece ∷ pieces) zero d h lt = sorted_left piece (joined pieces) h.by_key
sorted_at (piece ∷ pieces) (suc at) d h lt = sorted_at pieces at d (tail_of piece pieces h) (omega arith)

pub sorted_part : (pieces : List (List Touch)) (at : ℕ) (piece : List Touch) (later : List (List Touch)) → IsInPieces pieces → drop at pieces ≡ piece ∷ later → T (is_sorted bytes_cmp piece)
sorted_part [] zero piece later h is = cc
sorted_part [] (suc at) piece later h is = cc
sorted_part (p ∷ pieces) zero piece later h is = sorted_left piece (joined later) (subst IsInPieces is h).by_key
sorted_part (p ∷ pieces) (suc at) piece later h is = sorted_part pieces at piece later (tail_of p pieces h) is

below_piece : (x : List ℕ) (pieces : List (List Touch)) (j : ℕ) (d : List Touch) → j < length pieces → T (below_all bytes_cmp x (joined pieces)) → T (below_all bytes_cmp x (get_or pieces j d))
below_piece x [] j d lt h = absurd (omega arith)
below_piece x (piece ∷ pieces) zero d lt h = below_left x piece (joined pieces) h
below_piece x (piece ∷ pieces) (suc j) d lt h = below_piece x pieces j d (omega arith) (below_right x piece (joined pieces) h)

-- a key that reaches a piece reaches what stands below that
begun_below : (key x : List ℕ) (piece : List Touch) → T (below_all bytes_cmp x piece) → begins_by key piece ≡ true → not (above key x) ≡ true
begun_below key x [] h is = absurd (true≢false (sym is))
begun_below key x (f ∷ fs) h is = elim (bytes_cmp key x) as (λ r. bytes_cmp key x ≡ r → not (is_lt r) ≡ true) [
  | Less ↦ λ less. absurd (true≢false (sym is ∙ ap (λ (r : Ordering). not (is_lt r)) (order.trans key x f.0 less (lesser _ (first _ _ h)))))
  | Equal ↦ λ _. refl
  | Greater ↦ λ _. refl
] refl

begun_first : (key : List ℕ) (piece : List Touch) (pieces : List (List Touch)) (j : ℕ) (d : List Touch) → IsInPieces (piece ∷ pieces) → j < length pieces
    → begins_by key (get_or pieces j d) ≡ true → begins_by key piece ≡ true
begun_first key [] pieces j d h lt is = absurd (omega (arith, (All-head IsSized [] pieces h.sized).0))
begun_first key (e ∷ es) pieces j d h lt is =
    begun_below key e.0 (get_or pieces j d) (below_piece e.0 pieces j d lt (below_right e.0 es (joined pieces) (first _ _ h.by_key))) is

pub begun_parted : (key : List ℕ) (pieces : List (List Touch)) → IsInPieces pieces → IsPartitionedBy (begins_by key) pieces
begun_parted key [] h i j d le lt is = absurd (omega arith)
begun_parted key (piece ∷ pieces) h zero zero d le lt is = is
begun_parted key (piece ∷ pieces) h zero (suc j) d le lt is = begun_first key piece pieces j d h (omega arith) is
begun_parted key (piece ∷ pieces) h (suc i) zero d le lt is = absurd (omega arith)
begun_parted key (piece ∷ pieces) h (suc i) (suc j) d le lt is = begun_parted key pieces (tail_of piece pieces h) i j d (omega arith) (omega arith) is

abbrev IsBegun : List ℕ → List (List Touch) → ℕ → Type 0
IsBegun key pieces n = IsPartitionPoint (λ piece. begins_by key piece ≡ true) (λ piece. begins_by key piece ≡ false) pieces n

-- a piece that begins behind a key has all that follows behind it too
all_behind : (key : List ℕ) (pieces : List (List Touch)) → IsInPieces pieces → ((d : List Touch) → 0 < length pieces → begins_by key (get_or pieces 0 d) ≡ false) → All (IsBehind key) (joined pieces)
all_behind key [] h fails = All-nil (IsBehind key)
all_behind key ([] ∷ pieces) h fails = absurd (omega (arith, (All-head IsSized [] pieces h.sized).0))
all_behind key ((e ∷ es) ∷ pieces) h fails = all_begin_behind key (e ∷ es ++ joined pieces) h.by_key (fails [] (omega arith))

-- a piece before one that begins by a key ends before the key
all_before : (key : List ℕ) (piece : List Touch) (pieces : List (List Touch)) → IsInPieces (piece ∷ pieces) → ((d : List Touch) → begins_by key (get_or pieces 0 d) ≡ true) → All (IsBefore key) piece
all_before key piece [] h begun = absurd (true≢false (sym (begun [])))
all_before key piece ([] ∷ pieces) h begun = absurd (true≢false (sym (begun [])))
all_before key piece ((f ∷ fs) ∷ pieces) h begun = all_end_before key piece (f ∷ fs ++ joined pieces) h.by_key (begun [])

seat_first : (key : List ℕ) (pieces : List (List Touch)) → IsInPieces pieces → IsBegun key pieces 0 → IsSeat key pieces 0
seat_first key [] h begun = record { before = All-nil (IsBefore key); behind = All-nil (IsBehind key) }
seat_first key ([] ∷ pieces) h begun = absurd (omega (arith, (All-head IsSized [] pieces h.sized).0))
seat_first key ((e ∷ es) ∷ pieces) h begun = record {
  before = All-nil (IsBefore key);
  behind = behind_of key e.0 (joined pieces) (is_less (bytes_cmp key e.0) (not_false (above key e.0) (begun.1 0 [] (omega arith) (omega arith)))) (below_right e.0 es (joined pieces) (first _ _ h.by_key));
}

seat_later : (key : List ℕ) (pieces : List (List Touch)) (n : ℕ) → IsInPieces pieces → n < length pieces → IsBegun key pieces (suc n) → IsSeat key pieces n
seat_later key [] n h lt begun = absurd (omega arith)
seat_later key (piece ∷ pieces) zero h lt begun = record {
  before = All-nil (IsBefore key);
  behind = all_behind key pieces (tail_of piece pieces h) (λ d some. begun.1 1 d (omega arith) (omega arith));
}
seat_later key (piece ∷ pieces) (suc n) h lt begun =
    let later = seat_later key pieces n (tail_of piece pieces h) (omega arith) (λ k d low high. begun.0 (suc k) d (omega arith) (omega arith), λ k d low high. begun.1 (suc k) d (omega arith) (omega arith)) in
    record {
      before = All-append (IsBefore key) piece (joined (take n pieces)) (all_before key piece pieces h (λ d. begun.0 1 d (omega arith) (omega arith))) later.before;
      behind = later.behind;
    }

pub seat_is : (key : List ℕ) (pieces : List (List Touch)) (n : ℕ) → IsInPieces pieces → n ≤ length pieces → IsBegun key pieces n → IsSeat key pieces (n - 1)
seat_is key pieces zero h le begun = seat_first key pieces h begun
seat_is key pieces (suc n) h le begun =
    let less : n ≡ suc n - 1 = omega arith in
    subst (λ (at : ℕ). IsSeat key pieces at) less (seat_later key pieces n h (omega arith) begun)

-- ---- what a key has in its piece, it has among all

pub behind_first : (key : List ℕ) (e : Touch) → IsBefore key e → bytes_cmp key e.0 ≡ Greater
behind_first key e less = order.antisymm key e.0 ∙ ap ordering_reverse less

find-before : (key : List ℕ) (es fs : List Touch) → All (IsBefore key) es → find bytes_cmp key (es ++ fs) ≡ find bytes_cmp key fs
find-before key [] fs h = refl
find-before key (e ∷ es) fs h =
    ap (λ (r : Ordering). cond (is_eq r) (Some e.1) (find bytes_cmp key (es ++ fs))) (behind_first key e (All-head (IsBefore key) e es h))
    ∙ find-before key es fs (All-tail (IsBefore key) e es h)

find-behind : (key : List ℕ) (es fs : List Touch) → All (IsBehind key) fs → find bytes_cmp key (es ++ fs) ≡ find bytes_cmp key es
find-behind key [] [] h = refl
find-behind key [] (f ∷ fs) h =
    ap (λ (r : Ordering). cond (is_eq r) (Some f.1) (find bytes_cmp key fs)) (All-head (IsBehind key) f fs h)
    ∙ find-behind key [] fs (All-tail (IsBehind key) f fs h)
find-behind key (e ∷ es) fs h = ap (cond (is_eq (bytes_cmp key e.0)) (Some e.1)) (find-behind key es fs h)

passed : (strict : Bool) (key : List ℕ) (e : Touch) → IsBehind key e → passes strict key e.0 ≡ true
passed true key e less = ap is_lt less
passed false key e less = ap is_le less

not_passed : (strict : Bool) (key : List ℕ) (e : Touch) → IsBefore key e → passes strict key e.0 ≡ false
not_passed true key e less = ap is_lt (behind_first key e less)
not_passed false key e less = ap is_le (behind_first key e less)

from-before : (strict : Bool) (key : List ℕ) (es fs : List Touch) → All (IsBefore key) es → from (passes strict key) (es ++ fs) ≡ from (passes strict key) fs
from-before strict key [] fs h = refl
from-before strict key (e ∷ es) fs h =
    ap (λ (b : Bool). cond b (e ∷ es ++ fs) (from (passes strict key) (es ++ fs))) (not_passed strict key e (All-head (IsBefore key) e es h))
    ∙ from-before strict key es fs (All-tail (IsBefore key) e es h)

from-behind : (strict : Bool) (key : List ℕ) (es fs : List Touch) → All (IsBehind key) fs → from (passes strict key) (es ++ fs) ≡ from (passes strict key) es ++ fs
from-behind strict key [] [] h = refl
from-behind strict key [] (f ∷ fs) h = ap (λ (b : Bool). cond b (f ∷ fs) (from (passes strict key) fs)) (passed strict key f (All-head (IsBehind key) f fs h))
from-behind strict key (e ∷ es) fs h = elim (passes strict key e.0) as (λ b. cond b (e ∷ es ++ fs) (from (passes strict key) (es ++ fs)) ≡ cond b (e ∷ es) (from (passes strict key) es) ++ fs) [
  | true ↦ refl
  | false ↦ from-behind strict key es fs h
]

put-before : (key : List ℕ) (mark : Mark) (es fs : List Touch) → All (IsBefore key) es → put bytes_cmp key mark (es ++ fs) ≡ es ++ put bytes_cmp key mark fs
put-before key mark [] fs h = refl
put-before key mark (e ∷ es) fs h =
    ap (λ (r : Ordering). by_order r ((key, mark) ∷ e ∷ es ++ fs) ((e.0, mark) ∷ es ++ fs) (e ∷ put bytes_cmp key mark (es ++ fs))) (behind_first key e (All-head (IsBefore key) e es h))
    ∙ ap (λ (l : List Touch). e ∷ l) (put-before key mark es fs (All-tail (IsBefore key) e es h))

put-behind : (key : List ℕ) (mark : Mark) (es fs : List Touch) → All (IsBehind key) fs → put bytes_cmp key mark (es ++ fs) ≡ put bytes_cmp key mark es ++ fs
put-behind key mark [] [] h = refl
put-behind key mark [] (f ∷ fs) h = ap (λ (r : Ordering). by_order r ((key, mark) ∷ f ∷ fs) ((f.0, mark) ∷ fs) (f ∷ put bytes_cmp key mark fs)) (All-head (IsBehind key) f fs h)
put-behind key mark (e ∷ es) fs h =
    elim (bytes_cmp key e.0) as (λ r. by_order r ((key, mark) ∷ e ∷ es ++ fs) ((e.0, mark) ∷ es ++ fs) (e ∷ put bytes_cmp key mark (es ++ fs))
    ≡ by_order r ((key, mark) ∷ e ∷ es) ((e.0, mark) ∷ es) (e ∷ put bytes_cmp key mark es) ++ fs) [
      | Less ↦ refl
      | Equal ↦ refl
      | Greater ↦ ap (λ (l : List Touch). e ∷ l) (put-behind key mark es fs h)
    ]

-- ---- pieces by their place

pub joined-set : (pieces : List (List Touch)) (at : ℕ) (piece : List Touch) → at < length pieces → joined (set pieces at piece) ≡ joined (take at pieces) ++ (piece ++ joined (drop (suc at) pieces))
joined-set [] at piece lt = absurd (omega arith)
joined-set (p ∷ pieces) zero piece lt = refl
joined-set (p ∷ pieces) (suc at) piece lt = ap (λ (l : List Touch). p ++ l) (joined-set pieces at piece (omega arith)) ∙ sym (append_assoc p _ _)

-- all touches, by those before a piece, in it, and behind it
pub joined_at : (pieces : List (List Touch)) (at : ℕ) (d : List Touch) → at < length pieces → joined pieces ≡ joined (take at pieces) ++ (get_or pieces at d ++ joined (drop (suc at) pieces))
joined_at pieces at d lt = ap (λ (ps : List (List Touch)). joined ps) (sym (set-get_or pieces at d)) ∙ joined-set pieces at (get_or pieces at d) lt

pub find_at : (key : List ℕ) (pieces : List (List Touch)) (at : ℕ) (d : List Touch) → IsSeat key pieces at → at < length pieces → find bytes_cmp key (joined pieces) ≡ find bytes_cmp key (get_or pieces at d)
find_at key pieces at d seat lt =
    ap (find bytes_cmp key) (joined_at pieces at d lt)
    ∙ find-before key (joined (take at pieces)) _ seat.before
    ∙ find-behind key (get_or pieces at d) _ seat.behind

pub from_at : (strict : Bool) (key : List ℕ) (pieces : List (List Touch)) (at : ℕ) (piece : List Touch) (later : List (List Touch)) → IsSeat key pieces at → drop at pieces ≡ piece ∷ later
    → from (passes strict key) (joined pieces) ≡ from (passes strict key) piece ++ joined later
from_at strict key pieces at piece later seat is =
    let later_is : drop (suc at) pieces ≡ later = ap (λ (n : ℕ). drop n pieces) (sym (add-one at)) ∙ sym (drop-drop 1 at pieces) ∙ ap (drop 1) is in
    ap (λ (ps : List (List Touch)). from (passes strict key) (joined ps)) (sym (take-append-drop at pieces))
    ∙ ap (from (passes strict key)) (flat_map-append (λ (p : List Touch). p) (take at pieces) (drop at pieces))
    ∙ from-before strict key (joined (take at pieces)) (joined (drop at pieces)) seat.before
    ∙ ap (λ (ps : List (List Touch)). from (passes strict key) (joined ps)) is
    ∙ from-behind strict key piece (joined later) (subst (λ (ps : List (List Touch)). All (IsBehind key) (joined ps)) later_is seat.behind)

-- where nothing stands at the seat there is no piece
pub from_none : (strict : Bool) (key : List ℕ) (pieces : List (List Touch)) (at : ℕ) → at ≤ length pieces - 1 → length (drop at pieces) ≡ 0 → from (passes strict key) (joined pieces) ≡ []
from_none strict key [] at le none = refl
from_none strict key (piece ∷ pieces) at le none = absurd (omega (arith, length-drop at (piece ∷ pieces)))

-- ---- one touch more

put_some : (key : List ℕ) (mark : Mark) (es : List Touch) → 0 < length (put bytes_cmp key mark es)
put_some key mark [] = omega arith
put_some key mark (e ∷ es) = elim (bytes_cmp key e.0) as (λ r. 0 < length (by_order r ((key, mark) ∷ e ∷ es) ((e.0, mark) ∷ es) (e ∷ put bytes_cmp key mark es))) [
  | Less ↦ omega arith
  | Equal ↦ omega arith
  | Greater ↦ omega arith
]

-- a touch more is no more than full, where there was room
with_room : (n m : ℕ) (there : Bool) → n ≤ m → nat_le m n && not there ≡ false → cond there n (n + 1) ≤ m
with_room n m true le free = le
with_room n m false le free = grind (arith, nat_tests)

put_sized : (key : List ℕ) (mark : Mark) (es : List Touch) → T (is_sorted bytes_cmp es) → length es ≤ MOST → is_full_without key es ≡ false → IsSized (put bytes_cmp key mark es)
put_sized key mark es h le free = (
  put_some key mark es,
  subst (λ (n : ℕ). n ≤ MOST) (sym (length-put bytes_cmp order key mark es h)) (with_room (length es) MOST (is_some (find bytes_cmp key es)) le free),
)

-- pieces with a touch put in
pub record PutIn (old new : List (List Touch)) (key : List ℕ) (mark : Mark) : Type 0 where
  pub in_pieces : IsInPieces new
  pub touches : joined new ≡ put bytes_cmp key mark (joined old)

put_in : (old new : List (List Touch)) (key : List ℕ) (mark : Mark) → IsInPieces old → All IsSized new → joined new ≡ put bytes_cmp key mark (joined old) → PutIn old new key mark
put_in old new key mark h some is = record {
  in_pieces = record { sized = some; by_key = subst (λ (l : List Touch). T (is_sorted bytes_cmp l)) (sym is) (is_sorted-put bytes_cmp order key mark (joined old) h.by_key) };
  touches = is;
}

-- a touch in the piece that the key belongs to
pub put_at : (pieces : List (List Touch)) (at : ℕ) (key : List ℕ) (mark : Mark) (piece after : List Touch) → IsInPieces pieces → IsSeat key pieces at → at < length pieces
    → is_full_without key (get_or pieces at []) ≡ false → piece ≡ get_or pieces at piece → after ≡ put bytes_cmp key mark piece → PutIn pieces (set pieces at after) key mark
put_at pieces at key mark piece after h seat lt free piece_is after_is = put_in pieces (set pieces at after) key mark h
    (All-set IsSized pieces at after
    (subst IsSized (sym (after_is ∙ ap (put bytes_cmp key mark) (piece_is ∙ get_or_default pieces at piece [] lt)))
    (put_sized key mark (get_or pieces at []) (sorted_at pieces at [] h lt) (All-get_or IsSized pieces at [] lt h.sized).1 free)) h.sized)
    (joined-set pieces at after lt
    ∙ ap (λ (l : List Touch). joined (take at pieces) ++ (l ++ joined (drop (suc at) pieces))) (after_is ∙ ap (put bytes_cmp key mark) piece_is)
    ∙ ap (λ (l : List Touch). joined (take at pieces) ++ l) (sym (put-behind key mark (get_or pieces at piece) _ seat.behind))
    ∙ sym (put-before key mark (joined (take at pieces)) _ seat.before)
    ∙ ap (put bytes_cmp key mark) (sym (joined_at pieces at piece lt)))

-- ---- a cut

joined-with_cut : (pieces : List (List Touch)) (at : ℕ) → joined (with_cut pieces at) ≡ joined pieces
joined-with_cut [] at = refl
joined-with_cut (piece ∷ pieces) zero =
    sym (append_assoc (take (length piece / 2) piece) (drop (length piece / 2) piece) (joined pieces))
    ∙ ap (λ (l : List Touch). l ++ joined pieces) (take-append-drop (length piece / 2) piece)
joined-with_cut (piece ∷ pieces) (suc at) = ap (λ (l : List Touch). piece ++ l) (joined-with_cut pieces at)

sized-with_cut : (pieces : List (List Touch)) (at : ℕ) (d : List Touch) → All IsSized pieces → at < length pieces → 2 ≤ length (get_or pieces at d) → All IsSized (with_cut pieces at)
sized-with_cut [] at d h lt two = absurd (omega arith)
sized-with_cut (piece ∷ pieces) zero d h lt two =
    let front = take (length piece / 2) piece in
    let back = drop (length piece / 2) piece in
    let most = (All-head IsSized piece pieces h).1 in
    let front_len = length-take (length piece / 2) piece in
    let back_len = length-drop (length piece / 2) piece in
    All-cons IsSized front (back ∷ pieces) (omega arith, omega arith)
    (All-cons IsSized back pieces (omega arith, omega arith) (All-tail IsSized piece pieces h))
sized-with_cut (piece ∷ pieces) (suc at) d h lt two =
    All-cons IsSized piece (with_cut pieces at) (All-head IsSized piece pieces h) (sized-with_cut pieces at d (All-tail IsSized piece pieces h) (omega arith) two)

-- the pieces round the two halves
take-with_cut : (pieces : List (List Touch)) (at : ℕ) → at < length pieces → take at (with_cut pieces at) ≡ take at pieces
take-with_cut [] at lt = absurd (omega arith)
take-with_cut (p ∷ pieces) zero lt = refl
take-with_cut (p ∷ pieces) (suc at) lt = ap (λ (ps : List (List Touch)). p ∷ ps) (take-with_cut pieces at (omega arith))

front-with_cut : (pieces : List (List Touch)) (at : ℕ) (d : List Touch) → at < length pieces → get_or (with_cut pieces at) at d ≡ take (length (get_or pieces at d) / 2) (get_or pieces at d)
front-with_cut [] at d lt = absurd (omega arith)
front-with_cut (p ∷ pieces) zero d lt = refl
front-with_cut (p ∷ pieces) (suc at) d lt = front-with_cut pieces at d (omega arith)

back-with_cut : (pieces : List (List Touch)) (at : ℕ) (d : List Touch) → at < length pieces → get_or (with_cut pieces at) (suc at) d ≡ drop (length (get_or pieces at d) / 2) (get_or pieces at d)
back-with_cut [] at d lt = absurd (omega arith)
back-with_cut (p ∷ pieces) zero d lt = refl
back-with_cut (p ∷ pieces) (suc at) d lt = back-with_cut pieces at d (omega arith)

pub length-with_cut : (pieces : List (List Touch)) (at : ℕ) → at < length pieces → length (with_cut pieces at) ≡ suc (length pieces)
length-with_cut [] at lt = absurd (omega arith)
length-with_cut (p ∷ pieces) zero lt = refl
length-with_cut (p ∷ pieces) (suc at) lt = ap suc (length-with_cut pieces at (omega arith))

drop-with_cut : (pieces : List (List Touch)) (at : ℕ) (d : List Touch) → at < length pieces → drop (suc at) (with_cut pieces at) ≡ drop (length (get_or pieces at d) / 2) (get_or pieces at d) ∷ drop (suc at) pieces
drop-with_cut [] at d lt = absurd (omega arith)
drop-with_cut (p ∷ pieces) zero d lt = refl
drop-with_cut (p ∷ pieces) (suc at) d lt = drop-with_cut pieces at d (omega arith)

-- the second half is put in behind the first
insert_is_cut : (pieces : List (List Touch)) (at : ℕ) (piece : List Touch) → at < length pieces → piece ≡ get_or pieces at piece
    → insert (set pieces at (take (length piece / 2) piece)) (suc at) (drop (length piece / 2) piece) ≡ with_cut pieces at
insert_is_cut [] at piece lt is = absurd (omega arith)
insert_is_cut (p ∷ pieces) zero piece lt is = ap (λ (q : List Touch). take (length q / 2) q ∷ drop (length q / 2) q ∷ pieces) is
insert_is_cut (p ∷ pieces) (suc at) piece lt is = ap (λ (ps : List (List Touch)). p ∷ ps) (insert_is_cut pieces at piece (omega arith) is)

pub cut_is : (old reserved : List (List Touch)) (at : ℕ) (piece front back : List Touch) → reserved ≡ old → at < length old → piece ≡ get_or reserved at piece
    → front ≡ take (length piece / 2) piece → back ≡ drop (length piece / 2) piece → insert (set reserved at front) (at + 1) back ≡ with_cut old at
cut_is old reserved at piece front back same lt piece_is front_is back_is =
    (λ i. insert (set (same i) at (front_is i)) (add-one at i) (back_is i))
    ∙ insert_is_cut old at piece lt (piece_is ∙ ap (λ (ps : List (List Touch)). get_or ps at piece) same)

pub is_full : (key : List ℕ) (pieces : List (List Touch)) (at : ℕ) (piece : List Touch) → at < length pieces → piece ≡ get_or pieces at piece → is_full_without key piece ≡ true → MOST ≤ length (get_or pieces at [])
is_full key pieces at piece lt piece_is full =
    subst (λ (l : List Touch). MOST ≤ length l) (piece_is ∙ get_or_default pieces at piece [] lt) (most (length piece) _ full)
  where
    most : (n : ℕ) (free : Bool) → nat_le MOST n && free ≡ true → MOST ≤ n
    most n true is = grind (arith, nat_tests)
    most n false is = grind (arith, nat_tests)

-- pieces with the same touches, and a piece in them that a key belongs to, with room for it
pub record HasRoom (old new : List (List Touch)) (key : List ℕ) (at : ℕ) : Type 0 where
  pub in_pieces : IsInPieces new
  pub same : joined new ≡ joined old
  pub seat : IsSeat key new at
  pub within : at < length new
  pub room : is_full_without key (get_or new at []) ≡ false

module _ (key : List ℕ) (pieces : List (List Touch)) (at : ℕ) (h : IsInPieces pieces) (seat : IsSeat key pieces at) (lt : at < length pieces) (full : MOST ≤ length (get_or pieces at [])) where
  abbrev piece : List Touch
  piece = get_or pieces at []

  abbrev front : List Touch
  front = take (length piece / 2) piece

  abbrev back : List Touch
  back = drop (length piece / 2) piece

  abbrev after : List (List Touch)
  after = with_cut pieces at

  halves_sorted : T (is_sorted bytes_cmp (front ++ back))
  halves_sorted = subst (λ (l : List Touch). T (is_sorted bytes_cmp l)) (sym (take-append-drop (length piece / 2) piece)) (sorted_at pieces at [] h lt)

  after_in_pieces : IsInPieces after
  after_in_pieces = record {
    sized = sized-with_cut pieces at [] h.sized lt (omega arith);
    by_key = subst (λ (l : List Touch). T (is_sorted bytes_cmp l)) (sym (joined-with_cut pieces at)) h.by_key;
  }

  -- a half has room
  half_free : (es : List Touch) → length es < MOST → is_full_without key es ≡ false
  half_free es less =
      let short : nat_le MOST (length es) ≡ false = grind (arith, nat_tests) in
      ap (λ (b : Bool). b && not (is_some (find bytes_cmp key es))) short

  piece_fits : length piece ≤ MOST
  piece_fits = (All-get_or IsSized pieces at [] lt h.sized).1

  in_front : begins_by key back ≡ false → HasRoom pieces after key at
  in_front fails = record {
    in_pieces = after_in_pieces;
    same = joined-with_cut pieces at;
    seat = record {
      before = subst (λ (ps : List (List Touch)). All (IsBefore key) (joined ps)) (sym (take-with_cut pieces at lt)) seat.before;
      behind = subst (λ (ps : List (List Touch)). All (IsBehind key) (joined ps)) (sym (drop-with_cut pieces at [] lt))
          (All-append (IsBehind key) back (joined (drop (suc at) pieces)) (all_begin_behind key back (sorted_right front back halves_sorted) fails) seat.behind);
    };
    within = omega (arith, length-with_cut pieces at lt);
    room = half_free (get_or after at []) (subst (λ (l : List Touch). length l < MOST) (sym (front-with_cut pieces at [] lt)) (omega (arith, length-take (length piece / 2) piece, piece_fits)));
  }

  in_back : begins_by key back ≡ true → HasRoom pieces after key (suc at)
  in_back begun = record {
    in_pieces = after_in_pieces;
    same = joined-with_cut pieces at;
    seat = record {
      before = subst (λ (ps : List (List Touch)). All (IsBefore key) (joined ps)) (sym taken)
          (subst (λ (l : List Touch). All (IsBefore key) l) (sym (flat_map-append (λ (p : List Touch). p) (take at pieces) (front ∷ [])))
          (All-append (IsBefore key) (joined (take at pieces)) (front ++ []) seat.before
          (subst (λ (l : List Touch). All (IsBefore key) l) (sym (append-nil front)) (all_end_before key front back halves_sorted begun))));
      behind = subst (λ (ps : List (List Touch)). All (IsBehind key) (joined ps)) (sym dropped) seat.behind;
    };
    within = omega (arith, length-with_cut pieces at lt);
    room = half_free (get_or after (suc at) []) (subst (λ (l : List Touch). length l < MOST) (sym back_is) (omega (arith, length-drop (length piece / 2) piece, piece_fits)));
  }
    where
      taken : take (suc at) after ≡ take at pieces ++ front ∷ []
      taken =
          ap (λ (n : ℕ). take n after) (sym (add-one at)) ∙ take_more after at [] (omega (arith, length-with_cut pieces at lt))
          ∙ (λ i. take-with_cut pieces at lt i ++ front-with_cut pieces at [] lt i ∷ [])

      dropped : drop (suc (suc at)) after ≡ drop (suc at) pieces
      dropped = ap (λ (n : ℕ). drop n after) (sym (add-one (suc at))) ∙ sym (drop-drop 1 (suc at) after) ∙ ap (drop 1) (drop-with_cut pieces at [] lt)

      back_is : get_or after (suc at) [] ≡ back
      back_is = back-with_cut pieces at [] lt

  -- in the half that the key belongs to
  pub half_room : (next : ℕ) → next ≡ cond (begins_by key (get_or after (at + 1) [])) (at + 1) at → HasRoom pieces after key next
  half_room next is = elim (begins_by key back) as (λ b. begins_by key back ≡ b → next ≡ cond b (at + 1) at → HasRoom pieces after key next) [
    | true ↦ λ begun is. subst (HasRoom pieces after key) (sym (is ∙ add-one at)) (in_back begun)
    | false ↦ λ fails is. subst (HasRoom pieces after key) (sym is) (in_front fails)
  ] refl (is ∙ ap (λ (l : List Touch). cond (begins_by key l) (at + 1) at) (ap (λ (n : ℕ). get_or after n []) (add-one at) ∙ back-with_cut pieces at [] lt))

-- where there are no touches there is no piece
pub no_pieces : (pieces : List (List Touch)) → IsInPieces pieces → joined pieces ≡ [] → pieces ≡ []
no_pieces [] h is = refl
no_pieces ([] ∷ pieces) h is = absurd (omega (arith, (All-head IsSized [] pieces h.sized).0))
no_pieces ((e ∷ es) ∷ pieces) h is = absurd (omega (arith, ap length is))
