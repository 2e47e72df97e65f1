-- Walking a record: which numbers there are, and what stands under each after some of them.
use Rattle.std.proofs.Common.{◌≡◌, ◌==◌, ◌||◌, ◌<◌, ℕ, ◌+◌, Bool, true, false, cond, List, [], ◌∷◌, ◌++◌, length, take, reverse, get_or, Some, None, is_some, refl, sym, ◌∙◌, ap, subst, arith, inl, inr}
use Rattle.std.specs.Ordering.{nat_cmp, is_eq, eq_by_cmp}
use Rattle.std.specs.Cmp.{nat_cmp_is}
use Rattle.std.specs.declared.cmp.Ordering.TheVariants.{Less, Equal, Greater}
use Rattle.std.specs.List.{list_any}
use Rattle.std.specs.FinMap.{get, insert, keys, contains_key-keys}
use Rattle.std.proofs.lemmas.Bool.{cases_lt, cases_eq, eq-eqb, ne_eqb, false≢true}
use Rattle.std.proofs.lemmas.List.{take_more, reverse-append}
use Rattle.std.proofs.lemmas.List.Folds.{list_any-append}
use Rattle.xod_volume.specs.Files.{Files, Content, with_file}
use Rattle.xod_volume.specs.Leases.{names}
use Rattle.xod_volume.specs.declared.history.Call.{Call}
use Rattle.xod_volume.specs.Record.{on_file}
use Rattle.xod_volume.proofs.Tables.{get_same, get_other}
use Rattle.xod_volume.proofs.Lent.{names_last, names_before, none_both}

-- equal by order and equal as numbers are one
tied_is : (x y : ℕ) → eq_by_cmp nat_cmp x y ≡ (y == x)
tied_is x y = elim (cases_lt x y) [
  | inl lt ↦ ap is_eq (sym (nat_cmp_is x y Less lt)) ∙ sym (ne_eqb y x (omega (arith, lt)))
  | inr ge ↦ elim (cases_lt y x) [
    | inl gt ↦ ap is_eq (sym (nat_cmp_is x y Greater gt)) ∙ sym (ne_eqb y x (omega (arith, gt)))
    | inr le ↦ (let same : x ≡ y = omega (arith, ge, le) in ap is_eq (sym (nat_cmp_is x y Equal same)) ∙ sym (eq-eqb y x (sym same)))
  ]
]

alike : (p q : ℕ → Bool) → ((x : ℕ) → p x ≡ q x) → (xs : List ℕ) → list_any p xs ≡ list_any q xs
alike p q is [] = refl
alike p q is (x ∷ xs) = ap (λ b. b || list_any p xs) (is x) ∙ ap (λ b. q x || b) (alike p q is xs)

nothing : (o : Content) → is_some o ≡ false → o ≡ None
nothing None e = refl
nothing (Some bytes) e = absurd (false≢true (sym e))

-- a file that is not among the numbers is absent
pub absent_apart : (files : Files) (numbers : List ℕ) (file : ℕ) → numbers ≡ keys files → names numbers file ≡ false → get files file ≡ None
absent_apart files numbers file are away = nothing (get files file)
    (contains_key-keys files file
    ∙ alike (eq_by_cmp nat_cmp file) (λ other. other == file) (tied_is file) (keys files)
    ∙ ap (λ (l : List ℕ). names l file) (sym are) ∙ away)

left_false : (a b : Bool) → (a || b) ≡ false → a ≡ false
left_false false b e = refl
left_false true b e = e

right_false : (a b c : Bool) → (a || (b || c)) ≡ false → b ≡ false
right_false true b c e = absurd (false≢true (sym e))
right_false false false c e = refl
right_false false true c e = e

-- a number that is away from more numbers is away from fewer, and is not the last
pub away_before : (numbers : List ℕ) (last file : ℕ) → names (numbers ++ last ∷ []) file ≡ false → names numbers file ≡ false
away_before numbers last file away = left_false _ _ (sym (list_any-append (λ other. other == file) numbers (last ∷ [])) ∙ away)

pub away_last : (numbers : List ℕ) (last file : ℕ) → names (numbers ++ last ∷ []) file ≡ false → (last == file) ≡ false
away_last numbers last file away = right_false _ _ _ (sym (list_any-append (λ other. other == file) numbers (last ∷ [])) ∙ away)

-- a number that is there is another than one that is not
pub away_other : (numbers : List ℕ) (there file : ℕ) → names numbers there ≡ true → names numbers file ≡ false → (there == file) ≡ false
away_other numbers there file is away = ne_eqb there file (λ e. false≢true (sym away ∙ subst (λ (f : ℕ). names numbers f ≡ true) e is))

-- the calls on a file up to one call more
pub on_more : (calls : List Call) (i : ℕ) (call : Call) (file : ℕ) → i < length calls → call ≡ get_or calls i call
    → on_file file (reverse (take (i + 1) calls)) ≡ cond (call.file == file) (call.deed ∷ on_file file (reverse (take i calls))) (on_file file (reverse (take i calls)))
on_more calls i call file lt is =
    ap (λ (l : List Call). on_file file (reverse l)) (take_more calls i call lt ∙ ap (λ (c : Call). take i calls ++ c ∷ []) (sym is))
    ∙ ap (on_file file) (reverse-append (take i calls) (call ∷ []))

pub on_none : (calls : List Call) (i : ℕ) (call : Call) (file : ℕ) → i < length calls → call ≡ get_or calls i call
    → (call.file == file) ≡ false → on_file file (reverse (take i calls)) ≡ [] → on_file file (reverse (take (i + 1) calls)) ≡ []
on_none calls i call file lt is other none = on_more calls i call file lt is ∙ ap (λ b. cond b (call.deed ∷ on_file file (reverse (take i calls))) (on_file file (reverse (take i calls)))) other ∙ none

-- what is to stand under each number stands under those so far
abbrev pub StandsFor : (ℕ → Content) → List ℕ → Files → Type 0
StandsFor wanted numbers files = (file : ℕ) → get files file ≡ cond (names numbers file) (wanted file) None

stands_with : (wanted : ℕ → Content) (front : List ℕ) (last : ℕ) (files : Files) → StandsFor wanted front files → StandsFor wanted (front ++ last ∷ []) (with_file files last (wanted last))
stands_with wanted front last files so_far file = elim (cases_eq file last) [
  | inl is ↦ subst (λ (f : ℕ). get (with_file files last (wanted last)) f ≡ cond (names (front ++ last ∷ []) f) (wanted f) None) (sym is)
      (get_same files last (wanted last) ∙ ap (λ b. cond b (wanted last) None) (sym (names_last front last)))
  | inr not ↦ get_other files last file (wanted last) not ∙ so_far file ∙ ap (λ b. cond b (wanted file) None) (sym (names_before front last file not))
]

stands_next : (wanted : ℕ → Content) (numbers : List ℕ) (i : ℕ) (files : Files) → i < length numbers → StandsFor wanted (take i numbers) files
    → StandsFor wanted (take (i + 1) numbers) (with_file files (get_or numbers i 0) (wanted (get_or numbers i 0)))
stands_next wanted numbers i files lt so_far =
    subst (λ (l : List ℕ). StandsFor wanted l (with_file files (get_or numbers i 0) (wanted (get_or numbers i 0)))) (sym (take_more numbers i 0 lt))
    (stands_with wanted (take i numbers) (get_or numbers i 0) files so_far)

-- one number more, under which something stands
pub stands_put : (wanted : ℕ → Content) (numbers : List ℕ) (i : ℕ) (files : Files) (body : List ℕ) → i < length numbers → wanted (get_or numbers i 0) ≡ Some body
    → StandsFor wanted (take i numbers) files → StandsFor wanted (take (i + 1) numbers) (insert files (get_or numbers i 0) body)
stands_put wanted numbers i files body lt is so_far =
    subst (λ (o : Content). StandsFor wanted (take (i + 1) numbers) (with_file files (get_or numbers i 0) o)) is (stands_next wanted numbers i files lt so_far)

-- one number more, under which nothing stands
pub stands_skip : (wanted : ℕ → Content) (numbers : List ℕ) (i : ℕ) (files : Files) → i < length numbers → wanted (get_or numbers i 0) ≡ None
    → StandsFor wanted (take i numbers) files → StandsFor wanted (take (i + 1) numbers) files
stands_skip wanted numbers i files lt is so_far file =
    let number = get_or numbers i 0 in
    elim (cases_eq file number) [
      | inl same ↦ subst (λ (f : ℕ). get files f ≡ cond (names (take (i + 1) numbers) f) (wanted f) None) (sym same)
          (so_far number ∙ ap (λ o. cond (names (take i numbers) number) o None) is ∙ none_both (names (take i numbers) number)
          ∙ sym (ap (λ o. cond (names (take (i + 1) numbers) number) o None) is ∙ none_both (names (take (i + 1) numbers) number)))
      | inr not ↦ so_far file
          ∙ ap (λ b. cond b (wanted file) None) (sym (ap (λ (l : List ℕ). names l file) (take_more numbers i 0 lt) ∙ names_before (take i numbers) number file not))
    ]
