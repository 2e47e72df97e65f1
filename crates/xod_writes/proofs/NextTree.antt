-- A type's next number set, or that of a new type put at the end, is a put into the tree of next numbers.
use Rattle.std.proofs.Common.{◌≡◌, ◌≢◌, ℕ, zero, suc, ◌+◌, ◌<◌, ◌≤◌, ◌^◌, Bool, true, false, cond, List, [], ◌∷◌, ◌++◌, set, length, Some, refl, sym, ap, ◌∙◌, arith, ltb-true, ltb-false}
use Rattle.std.specs.Prelude.{nat_lt, slice_set}
use Rattle.std.specs.Ordering.{eq_by_cmp}
use Rattle.std.specs.FinMap.{insert, from_entries, find, get-insert, get-from_entries, same_map}
use Rattle.std.proofs.lemmas.List.{append-nil}
use Rattle.xod_base.specs.Values.{bytes_cmp}
use Rattle.xod_base.specs.Views.{Entry}
use Rattle.xod_carry.specs.Carry.{carried, numbered}
use Rattle.xod_carry.proofs.CallerLemmas.{bytes_total, bytes_same, tied_is, carried-append, numbered-append, from_entries-amid}
use Rattle.xod_journal.specs.Changes.{with_next}
use Rattle.xod_tables.specs.Keys.{u64, next_key}
use Rattle.xod_tables.proofs.CallerLemmas.{Lacks, one_kind}

abbrev nexts_from : ℕ → List ℕ → List Entry
nexts_from i xs = carried (λ kind. Some (next_key kind)) u64 (numbered i xs)

other_kind : (i n : ℕ) → i < n → n < 2 ^ 32 → next_key i ≢ next_key n
other_kind i n lt h e = let is = one_kind i n (omega arith) h e in omega (arith, is)

again : {A : Type 0} (b : Bool) (x y z : A) → cond b x z ≡ cond b x (cond b y z)
again true x y z = refl
again false x y z = refl

turned : {A : Type 0} (a b : Bool) (x y z : A) → (a ≡ true → b ≡ true → ⊥) → cond a x (cond b y z) ≡ cond b y (cond a x z)
turned true true x y z apart = absurd (apart refl refl)
turned true false x y z apart = refl
turned false b x y z apart = refl

find-set : (q : List ℕ) (i : ℕ) (xs : List ℕ) (kind next : ℕ) → kind < length xs → i + length xs ≤ 2 ^ 32
    → find bytes_cmp q (nexts_from i (set xs kind next)) ≡ cond (eq_by_cmp bytes_cmp q (next_key (i + kind))) (Some (u64 next)) (find bytes_cmp q (nexts_from i xs))
find-set q i [] kind next lt le = absurd (omega arith)
find-set q i (x ∷ xs) zero next lt le =
    let is : i ≡ i + 0 = omega arith in
    again (eq_by_cmp bytes_cmp q (next_key i)) (Some (u64 next)) (Some (u64 x)) (find bytes_cmp q (nexts_from (suc i) xs))
    ∙ ap (λ k. cond (eq_by_cmp bytes_cmp q (next_key k)) (Some (u64 next)) (cond (eq_by_cmp bytes_cmp q (next_key i)) (Some (u64 x)) (find bytes_cmp q (nexts_from (suc i) xs)))) is
find-set q i (x ∷ xs) (suc kind) next lt le =
    let is : suc i + kind ≡ i + suc kind = omega arith in
    ap (cond (eq_by_cmp bytes_cmp q (next_key i)) (Some (u64 x))) (find-set q (suc i) xs kind next (omega arith) (omega arith))
    ∙ turned (eq_by_cmp bytes_cmp q (next_key i)) (eq_by_cmp bytes_cmp q (next_key (suc i + kind))) (Some (u64 x)) (Some (u64 next)) (find bytes_cmp q (nexts_from (suc i) xs))
    (λ a b. other_kind i (suc i + kind) (omega arith) (omega arith) (sym (tied_is bytes_same q (next_key i) a) ∙ tied_is bytes_same q (next_key (suc i + kind)) b))
    ∙ ap (λ k. cond (eq_by_cmp bytes_cmp q (next_key k)) (Some (u64 next)) (cond (eq_by_cmp bytes_cmp q (next_key i)) (Some (u64 x)) (find bytes_cmp q (nexts_from (suc i) xs)))) is

next_set : (xs : List ℕ) (kind next : ℕ) → kind < length xs → length xs ≤ 2 ^ 32 → from_entries {R = bytes_cmp} (nexts_from 0 (set xs kind next)) ≡ insert (from_entries (nexts_from 0 xs)) (next_key kind) (u64 next)
next_set xs kind next lt le = let is : 0 + kind ≡ kind = omega arith in same_map bytes_total bytes_same _ _ (λ q. get-from_entries bytes_total (nexts_from 0 (set xs kind next)) q
    ∙ find-set q 0 xs kind next lt (omega (arith, le))
    ∙ ap (λ k. cond (eq_by_cmp bytes_cmp q (next_key k)) (Some (u64 next)) (find bytes_cmp q (nexts_from 0 xs))) is
    ∙ sym (get-insert bytes_total (from_entries (nexts_from 0 xs)) (next_key kind) (u64 next) q ∙ ap (cond (eq_by_cmp bytes_cmp q (next_key kind)) (Some (u64 next))) (get-from_entries bytes_total (nexts_from 0 xs) q)))

lacks_end : (i n : ℕ) (xs : List ℕ) → i + length xs ≤ n → n < 2 ^ 32 → Lacks (next_key n) (nexts_from i xs)
lacks_end i n [] le h = tt
lacks_end i n (x ∷ xs) le h = (other_kind i n (omega arith) h, lacks_end (suc i) n xs (omega arith) h)

next_push : (xs : List ℕ) (next : ℕ) → length xs < 2 ^ 32 → from_entries {R = bytes_cmp} (nexts_from 0 (xs ++ next ∷ [])) ≡ insert (from_entries (nexts_from 0 xs)) (next_key (length xs)) (u64 next)
next_push xs next lt = let is : 0 + length xs ≡ length xs = omega arith in
    ap (λ l. from_entries (carried (λ kind. Some (next_key kind)) u64 l)) (numbered-append 0 xs next)
    ∙ ap from_entries (carried-append (λ kind. Some (next_key kind)) u64 (numbered 0 xs) ((0 + length xs, next) ∷ []))
    ∙ ap (λ k. from_entries (nexts_from 0 xs ++ (next_key k, u64 next) ∷ [])) is
    ∙ from_entries-amid bytes_total bytes_same (nexts_from 0 xs) (next_key (length xs), u64 next) [] (lacks_end 0 (length xs) xs (omega arith) lt)
    ∙ ap (λ l. insert (from_entries l) (next_key (length xs)) (u64 next)) (append-nil (nexts_from 0 xs))

pub next_put : (xs : List ℕ) (kind next : ℕ) → kind ≤ length xs → length xs < 2 ^ 32 → from_entries {R = bytes_cmp} (nexts_from 0 (with_next xs kind next)) ≡ insert (from_entries (nexts_from 0 xs)) (next_key kind) (u64 next)
next_put xs kind next le lt =
    elim (nat_lt kind (length xs)) as (λ b. nat_lt kind (length xs) ≡ b → from_entries {R = bytes_cmp} (nexts_from 0 (cond b (slice_set xs kind next) (xs ++ next ∷ []))) ≡ insert (from_entries (nexts_from 0 xs)) (next_key kind) (u64 next)) [
      | true ↦ λ e. next_set xs kind next (ltb-true kind (length xs) e) (omega (arith, lt))
      | false ↦ λ e. let end : kind ≡ length xs = omega (arith, le, ltb-false kind (length xs) e) in
          next_push xs next lt ∙ ap (λ k. insert (from_entries (nexts_from 0 xs)) (next_key k) (u64 next)) (sym end)
    ] refl
