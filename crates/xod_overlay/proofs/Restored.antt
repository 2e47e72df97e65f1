-- Touches of which one key has again what stood there before: in one piece, and in pieces.
use Rattle.std.proofs.Common.{◌≡◌, ℕ, zero, suc, ◌<◌, ◌≤◌, true, false, cond, List, [], ◌∷◌, ◌++◌, length, ◌==◌, ◌-◌, get_or, set, take, drop, remove, Option, Some, None, slice_get, is_some, refl, sym, ap, subst, ◌∙◌, true≢false, arith}
use Rattle.std.proofs.lemmas.Bool.Decides.{nat_tests}
use Rattle.std.proofs.lemmas.List.{get_or-set_same}
use Rattle.std.specs.Prelude.{T, All}
use Rattle.std.specs.declared.cmp.Ordering.{Ordering}
use Rattle.std.specs.declared.cmp.Ordering.TheVariants.{Less, Equal, Greater}
use Rattle.std.specs.Cmp.{tied_itself}
use Rattle.std.specs.FinMap.{find, is_sorted, put}
use Rattle.std.specs.FinMap.Entries.{below_all, by_order}
use Rattle.std.specs.Ordering.{is_le, is_eq, eq_by_cmp, match_ordering}
use Rattle.std.proofs.lemmas.List.Elements.{All-cons, All-head, All-tail, All-set, All-get_or}
use Rattle.xod_base.specs.Values.{bytes_cmp}
use Rattle.xod_base.specs.Views.{not_below}
use Rattle.xod_overlay.specs.Marks.{Mark, Touch}
use Rattle.xod_overlay.specs.Pieces.{joined, IsInPieces, IsBefore, IsBehind, IsSeat, IsSized}
use Rattle.xod_overlay.specs.Places.{place, mark_at, stands}
use Rattle.xod_overlay.specs.Restoring.{restored, with_before}
use Rattle.xod_overlay.proofs.Marked.{order}
use Rattle.xod_overlay.proofs.Placed.{first, second, both, none_below, found_at}
use Rattle.xod_overlay.proofs.Pieced.{behind_first, joined-set, joined_at}

-- ---- one piece

-- where the key stands it has its mark again
set_is_restored : (key : List ℕ) (mark : Mark) (es : List Touch) (d : Touch) → stands key es (place (not_below key) es) ≡ true
    → set es (place (not_below key) es) ((get_or es (place (not_below key) es) d).0, mark) ≡ restored key (Some mark) es
set_is_restored key mark [] d there = absurd (true≢false (sym there))
set_is_restored key mark (e ∷ es) d there =
    let later = place (not_below key) es in
    elim (bytes_cmp key e.0) as (λ r. bytes_cmp key e.0 ≡ r → stands key (e ∷ es) (cond (is_le r) 0 (suc later)) ≡ true
    → set (e ∷ es) (cond (is_le r) 0 (suc later)) ((get_or (e ∷ es) (cond (is_le r) 0 (suc later)) d).0, mark) ≡ match_ordering r (e ∷ es) ((e.0, mark) ∷ es) (e ∷ restored key (Some mark) es)) [
      | Less ↦ λ is there. absurd (true≢false (sym there ∙ ap (λ (r : Ordering). is_some (cond (is_eq r) (Some e.1) None)) is))
      | Equal ↦ λ is there. refl
      | Greater ↦ λ is there. ap (λ (l : List Touch). e ∷ l) (set_is_restored key mark es d there)
    ] refl there

-- or it goes
remove_is_restored : (key : List ℕ) (es : List Touch) → stands key es (place (not_below key) es) ≡ true
    → remove es (place (not_below key) es) ≡ restored key None es
remove_is_restored key [] there = absurd (true≢false (sym there))
remove_is_restored key (e ∷ es) there =
    let later = place (not_below key) es in
    elim (bytes_cmp key e.0) as (λ r. bytes_cmp key e.0 ≡ r → stands key (e ∷ es) (cond (is_le r) 0 (suc later)) ≡ true
    → remove (e ∷ es) (cond (is_le r) 0 (suc later)) ≡ match_ordering r (e ∷ es) es (e ∷ restored key None es)) [
      | Less ↦ λ is there. absurd (true≢false (sym there ∙ ap (λ (r : Ordering). is_some (cond (is_eq r) (Some e.1) None)) is))
      | Equal ↦ λ is there. refl
      | Greater ↦ λ is there. ap (λ (l : List Touch). e ∷ l) (remove_is_restored key es there)
    ] refl there

-- where it does not stand all stays
absent_is_restored : (key : List ℕ) (before : Option Mark) (es : List Touch) → stands key es (place (not_below key) es) ≡ false → es ≡ restored key before es
absent_is_restored key before [] absent = refl
absent_is_restored key before (e ∷ es) absent =
    let later = place (not_below key) es in
    elim (bytes_cmp key e.0) as (λ r. bytes_cmp key e.0 ≡ r → stands key (e ∷ es) (cond (is_le r) 0 (suc later)) ≡ false
    → e ∷ es ≡ match_ordering r (e ∷ es) (with_before e.0 before es) (e ∷ restored key before es)) [
      | Less ↦ λ is absent. refl
      | Equal ↦ λ is absent. absurd (true≢false (sym (ap (λ (r : Ordering). is_some (cond (is_eq r) (Some e.1) None)) is) ∙ absent))
      | Greater ↦ λ is absent. ap (λ (l : List Touch). e ∷ l) (absent_is_restored key before es absent)
    ] refl absent

pub stands_within : (key : List ℕ) (es : List Touch) (at : ℕ) → stands key es at ≡ true → at < length es
stands_within key [] at there = absurd (true≢false (sym there))
stands_within key (e ∷ es) zero there = omega arith
stands_within key (e ∷ es) (suc at) there = omega (arith, stands_within key es at there)

pub mark_back : (key : List ℕ) (mark : Mark) (es : List Touch) (at : ℕ) (now : Touch) → at ≡ place (not_below key) es → stands key es at ≡ true → now ≡ get_or es at now
    → set es at (now.0, mark) ≡ restored key (Some mark) es
mark_back key mark es at now at_is there now_is =
    ap (λ (t : Touch). set es at (t.0, mark)) now_is
    ∙ ap (λ (n : ℕ). set es n ((get_or es n now).0, mark)) at_is
    ∙ set_is_restored key mark es now (ap (stands key es) (sym at_is) ∙ there)

pub touch_out : (key : List ℕ) (es : List Touch) (at : ℕ) → at ≡ place (not_below key) es → stands key es at ≡ true → remove es at ≡ restored key None es
touch_out key es at at_is there = ap (remove es) at_is ∙ remove_is_restored key es (ap (stands key es) (sym at_is) ∙ there)

pub none_there : (key : List ℕ) (before : Option Mark) (es : List Touch) (at : ℕ) → at ≡ place (not_below key) es → stands key es at ≡ false → es ≡ restored key before es
none_there key before es at at_is absent = absent_is_restored key before es (ap (stands key es) (sym at_is) ∙ absent)

-- ---- what stood at a key

mark_stands : (key : List ℕ) (es : List Touch) (at : ℕ) (d : Touch) → stands key es at ≡ true → Some (get_or es at d).1 ≡ mark_at key (slice_get es at)
mark_stands key [] at d there = absurd (true≢false (sym there))
mark_stands key (e ∷ es) zero d there = elim (eq_by_cmp bytes_cmp key e.0) as (λ b. is_some (cond b (Some e.1) None) ≡ true → Some e.1 ≡ cond b (Some e.1) None) [
  | true ↦ λ is. refl
  | false ↦ λ is. absurd (true≢false (sym is))
] there
mark_stands key (e ∷ es) (suc at) d there = mark_stands key es at d there

is_none : (o : Option Mark) → is_some o ≡ false → None ≡ o
is_none None is = refl
is_none (Some mark) is = absurd (true≢false is)

pub found_there : (key : List ℕ) (es : List Touch) (at : ℕ) (now : Touch) → T (is_sorted bytes_cmp es) → at ≡ place (not_below key) es → stands key es at ≡ true → now ≡ get_or es at now
    → Some now.1 ≡ find bytes_cmp key es
found_there key es at now h at_is there now_is =
    ap (λ (t : Touch). Some t.1) now_is ∙ mark_stands key es at now there ∙ ap (λ (n : ℕ). mark_at key (slice_get es n)) at_is ∙ found_at key es h

pub none_found : (key : List ℕ) (es : List Touch) (at : ℕ) → T (is_sorted bytes_cmp es) → at ≡ place (not_below key) es → stands key es at ≡ false → None ≡ find bytes_cmp key es
none_found key es at h at_is absent = is_none (mark_at key (slice_get es at)) absent ∙ ap (λ (n : ℕ). mark_at key (slice_get es n)) at_is ∙ found_at key es h

-- a touch, and then what stood at its key before, give the touches back
pub given_back : (key : List ℕ) (mark : Mark) (es : List Touch) → T (is_sorted bytes_cmp es) → restored key (find bytes_cmp key es) (put bytes_cmp key mark es) ≡ es
given_back key mark [] h = ap (λ (r : Ordering). match_ordering r ((key, mark) ∷ []) [] ((key, mark) ∷ [])) (tied_itself order key)
given_back key mark (e ∷ es) h = elim (bytes_cmp key e.0) as (λ r. bytes_cmp key e.0 ≡ r
    → restored key (cond (is_eq r) (Some e.1) (find bytes_cmp key es)) (by_order r ((key, mark) ∷ e ∷ es) ((e.0, mark) ∷ es) (e ∷ put bytes_cmp key mark es)) ≡ e ∷ es) [
      | Less ↦ λ is.
          let was = find bytes_cmp key es in
          ap (λ (r : Ordering). match_ordering r ((key, mark) ∷ e ∷ es) (with_before key was (e ∷ es)) ((key, mark) ∷ restored key was (e ∷ es))) (tied_itself order key)
          ∙ ap (λ (o : Option Mark). with_before key o (e ∷ es)) (none_below key e.0 es is (first _ _ h))
      | Equal ↦ λ is. ap (λ (r : Ordering). match_ordering r ((e.0, mark) ∷ es) (e ∷ es) ((e.0, mark) ∷ restored key (Some e.1) es)) is
      | Greater ↦ λ is.
          let was = find bytes_cmp key es in
          let more = put bytes_cmp key mark es in
          ap (λ (r : Ordering). match_ordering r (e ∷ more) (with_before e.0 was more) (e ∷ restored key was more)) is
          ∙ ap (λ (l : List Touch). e ∷ l) (given_back key mark es (second _ _ h))
    ] refl

-- ---- touches stay by rising key

below-with_before : (x key : List ℕ) (mark : Mark) (before : Option Mark) (es : List Touch) → T (below_all bytes_cmp x ((key, mark) ∷ es)) → T (below_all bytes_cmp x (with_before key before es))
below-with_before x key mark None es h = second _ _ h
below-with_before x key mark (Some was) es h = h

below-restored : (x key : List ℕ) (before : Option Mark) (es : List Touch) → T (below_all bytes_cmp x es) → T (below_all bytes_cmp x (restored key before es))
below-restored x key before [] h = tt
below-restored x key before (e ∷ es) h = elim (bytes_cmp key e.0) as (λ r. T (below_all bytes_cmp x (match_ordering r (e ∷ es) (with_before e.0 before es) (e ∷ restored key before es)))) [
  | Less ↦ h
  | Equal ↦ below-with_before x e.0 e.1 before es h
  | Greater ↦ both _ _ (first _ _ h) (below-restored x key before es (second _ _ h))
]

sorted-with_before : (key : List ℕ) (mark : Mark) (before : Option Mark) (es : List Touch) → T (is_sorted bytes_cmp ((key, mark) ∷ es)) → T (is_sorted bytes_cmp (with_before key before es))
sorted-with_before key mark None es h = second _ _ h
sorted-with_before key mark (Some was) es h = h

sorted-restored : (key : List ℕ) (before : Option Mark) (es : List Touch) → T (is_sorted bytes_cmp es) → T (is_sorted bytes_cmp (restored key before es))
sorted-restored key before [] h = tt
sorted-restored key before (e ∷ es) h = elim (bytes_cmp key e.0) as (λ r. T (is_sorted bytes_cmp (match_ordering r (e ∷ es) (with_before e.0 before es) (e ∷ restored key before es)))) [
  | Less ↦ h
  | Equal ↦ sorted-with_before e.0 e.1 before es h
  | Greater ↦ both _ _ (below-restored e.0 key before es (first _ _ h)) (sorted-restored key before es (second _ _ h))
]

length-with_before : (key : List ℕ) (before : Option Mark) (es : List Touch) → length (with_before key before es) ≤ suc (length es)
length-with_before key None es = omega arith
length-with_before key (Some was) es = omega arith

length-restored : (key : List ℕ) (before : Option Mark) (es : List Touch) → length (restored key before es) ≤ length es
length-restored key before [] = omega arith
length-restored key before (e ∷ es) = elim (bytes_cmp key e.0) as (λ r. length (match_ordering r (e ∷ es) (with_before e.0 before es) (e ∷ restored key before es)) ≤ suc (length es)) [
  | Less ↦ omega arith
  | Equal ↦ length-with_before e.0 before es
  | Greater ↦ omega (arith, length-restored key before es)
]

-- ---- among all pieces

restored-before : (key : List ℕ) (before : Option Mark) (es fs : List Touch) → All (IsBefore key) es → restored key before (es ++ fs) ≡ es ++ restored key before fs
restored-before key before [] fs h = refl
restored-before key before (e ∷ es) fs h =
    ap (λ (r : Ordering). match_ordering r (e ∷ es ++ fs) (with_before e.0 before (es ++ fs)) (e ∷ restored key before (es ++ fs))) (behind_first key e (All-head (IsBefore key) e es h))
    ∙ ap (λ (l : List Touch). e ∷ l) (restored-before key before es fs (All-tail (IsBefore key) e es h))

with_before-behind : (key : List ℕ) (before : Option Mark) (es fs : List Touch) → with_before key before (es ++ fs) ≡ with_before key before es ++ fs
with_before-behind key None es fs = refl
with_before-behind key (Some was) es fs = refl

restored-behind : (key : List ℕ) (before : Option Mark) (es fs : List Touch) → All (IsBehind key) fs → restored key before (es ++ fs) ≡ restored key before es ++ fs
restored-behind key before [] [] h = refl
restored-behind key before [] (f ∷ fs) h = ap (λ (r : Ordering). match_ordering r (f ∷ fs) (with_before f.0 before fs) (f ∷ restored key before fs)) (All-head (IsBehind key) f fs h)
restored-behind key before (e ∷ es) fs h =
    elim (bytes_cmp key e.0) as (λ r. match_ordering r (e ∷ es ++ fs) (with_before e.0 before (es ++ fs)) (e ∷ restored key before (es ++ fs))
    ≡ match_ordering r (e ∷ es) (with_before e.0 before es) (e ∷ restored key before es) ++ fs) [
      | Less ↦ refl
      | Equal ↦ with_before-behind e.0 before es fs
      | Greater ↦ ap (λ (l : List Touch). e ∷ l) (restored-behind key before es fs h)
    ]

not_none : (n : ℕ) → (n == 0) ≡ false → 0 < n
not_none n is = grind (arith, nat_tests)

is_zero : (n : ℕ) → (n == 0) ≡ true → n ≡ 0
is_zero n is = grind (arith, nat_tests)

-- a place that is no further than the last, where there are pieces
pub within_some : (pieces shown : List (List Touch)) (at len : ℕ) → shown ≡ pieces → at ≤ length shown - 1 → length shown ≡ len → (len == 0) ≡ false → at < length pieces
within_some pieces shown at len same le len_is tested = omega (arith, ap (λ (ps : List (List Touch)). length ps) same, not_none len tested)

-- pieces of which one key has again what stood there before
pub record RestoredIn (old new : List (List Touch)) (key : List ℕ) (before : Option Mark) : Type 0 where
  pub in_pieces : IsInPieces new
  pub touches : joined new ≡ restored key before (joined old)

restored_in : (old new : List (List Touch)) (key : List ℕ) (before : Option Mark) → IsInPieces old → All IsSized new → joined new ≡ restored key before (joined old) → RestoredIn old new key before
restored_in old new key before h some is = record {
  in_pieces = record { sized = some; by_key = subst (λ (l : List Touch). T (is_sorted bytes_cmp l)) (sym is) (sorted-restored key before (joined old) h.by_key) };
  touches = is;
}

without : (pieces : List (List Touch)) (at : ℕ) (after : List Touch) → at < length pieces → length after ≡ 0 → joined (remove (set pieces at after) at) ≡ joined (set pieces at after)
without [] at after lt none = absurd (omega arith)
without (p ∷ pieces) zero [] lt none = refl
without (p ∷ pieces) zero (e ∷ es) lt none = absurd (omega arith)
without (p ∷ pieces) (suc at) after lt none = ap (λ (l : List Touch). p ++ l) (without pieces at after (omega arith) none)

sized-without : (pieces : List (List Touch)) (at : ℕ) (after : List Touch) → at < length pieces → All IsSized pieces → All IsSized (remove (set pieces at after) at)
sized-without [] at after lt h = absurd (omega arith)
sized-without (p ∷ pieces) zero after lt h = All-tail IsSized p pieces h
sized-without (p ∷ pieces) (suc at) after lt h = All-cons IsSized p (remove (set pieces at after) at) (All-head IsSized p pieces h) (sized-without pieces at after (omega arith) (All-tail IsSized p pieces h))

module _ (pieces : List (List Touch)) (at : ℕ) (key : List ℕ) (before : Option Mark) (piece after : List Touch) (h : IsInPieces pieces) (seat : IsSeat key pieces at) (lt : at < length pieces)
    (piece_is : piece ≡ get_or pieces at piece) (after_is : after ≡ restored key before piece) where
  there : joined (set pieces at after) ≡ restored key before (joined pieces)
  there =
      joined-set pieces at after lt
      ∙ ap (λ (l : List Touch). joined (take at pieces) ++ (l ++ joined (drop (suc at) pieces))) (after_is ∙ ap (restored key before) piece_is)
      ∙ ap (λ (l : List Touch). joined (take at pieces) ++ l) (sym (restored-behind key before (get_or pieces at piece) _ seat.behind))
      ∙ sym (restored-before key before (joined (take at pieces)) _ seat.before)
      ∙ ap (restored key before) (sym (joined_at pieces at piece lt))

  left_is : (left : List Touch) → left ≡ get_or (set pieces at after) at left → left ≡ after
  left_is left is = is ∙ get_or-set_same pieces at after left lt

  -- some touches are left in the piece
  pub piece_left : (left : List Touch) → left ≡ get_or (set pieces at after) at left → (length left == 0) ≡ false → RestoredIn pieces (set pieces at after) key before
  piece_left left is tested =
      let some : 0 < length after = subst (λ (l : List Touch). 0 < length l) (left_is left is) (not_none (length left) tested) in
      let fits = (All-get_or IsSized pieces at piece lt h.sized).1 in
      let less : length after ≤ length (get_or pieces at piece) = subst (λ (l : List Touch). length l ≤ length (get_or pieces at piece)) (sym (after_is ∙ ap (restored key before) piece_is)) (length-restored key before (get_or pieces at piece)) in
      restored_in pieces (set pieces at after) key before h (All-set IsSized pieces at after (some, omega (arith, fits, less)) h.sized) there

  -- or none is, and the piece goes
  pub piece_gone : (left : List Touch) (new : List (List Touch)) → left ≡ get_or (set pieces at after) at left → (length left == 0) ≡ true → new ≡ remove (set pieces at after) at → RestoredIn pieces new key before
  piece_gone left new is tested new_is =
      let none : length after ≡ 0 = subst (λ (l : List Touch). length l ≡ 0) (left_is left is) (is_zero (length left) tested) in
      subst (λ (ps : List (List Touch)). RestoredIn pieces ps key before) (sym new_is)
      (restored_in pieces (remove (set pieces at after) at) key before h (sized-without pieces at after lt h.sized) (without pieces at after lt none ∙ there))
