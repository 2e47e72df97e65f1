-- Which files a lease holds, and what it takes to take one off the list of leases.
use Rattle.std.proofs.Common.{◌≡◌, ◌==◌, ◌||◌, ◌<◌, ◌≤◌, ℕ, ◌+◌, suc, Bool, true, false, cond, List, [], ◌∷◌, ◌++◌, length, take, drop, get_or, nat_eq, Some, None, refl, sym, ◌∙◌, ap, subst, inl, inr, add-one, append_assoc, append-nil}
use mathlib.Core.Logic.{◌≢◌}
use Rattle.std.specs.Ordering.{nat_cmp}
use Rattle.std.specs.List.{remove}
use Rattle.std.specs.Cmp.Lexicographic.{pointwise}
use Rattle.std.specs.FinMap.{get, insert, get-retain_keys, get-empty, nat_cmp-IsAntisymmetric}
use Rattle.std.proofs.lemmas.Bool.{cases_eq, eq-eqb, ne_eqb}
use Rattle.std.proofs.lemmas.List.{take_more, take_all, drop_all}
use Rattle.std.proofs.Math.Seq.{drop-cons}
use Rattle.std.proofs.lemmas.List.Folds.{list_any-append}
use Rattle.xod_volume.specs.Files.{Files, Content, no_files, with_file}
use Rattle.xod_volume.specs.Leases.{names, without, lent_of}
use Rattle.xod_volume.proofs.Tables.{same_files, get_same, get_other}

-- what a lease holds of a file
pub get_lent : (list : List ℕ) (files : Files) (file : ℕ) → get (lent_of list files) file ≡ cond (names list file) (get files file) None
get_lent list files file = get-retain_keys files (names list) file (λ x e. ap (names list) (sym (nat_cmp-IsAntisymmetric file x e)))

pub lent_none : (files : Files) → no_files ≡ lent_of [] files
lent_none files = same_files no_files (lent_of [] files) (λ file. get-empty nat_cmp file ∙ sym (get_lent [] files file))

or_true : (b : Bool) → (b || (true || false)) ≡ true
or_true true = refl
or_true false = refl

or_false : (b : Bool) → (b || (false || false)) ≡ b
or_false true = refl
or_false false = refl

pub names_last : (front : List ℕ) (last : ℕ) → names (front ++ last ∷ []) last ≡ true
names_last front last = list_any-append (λ other. other == last) front (last ∷ [])
    ∙ ap (λ b. names front last || (b || false)) (eq-eqb last last refl)
    ∙ or_true (names front last)

pub names_before : (front : List ℕ) (last file : ℕ) → file ≢ last → names (front ++ last ∷ []) file ≡ names front file
names_before front last file apart = list_any-append (λ other. other == file) front (last ∷ [])
    ∙ ap (λ b. names front file || (b || false)) (ne_eqb last file (λ e. apart (sym e)))
    ∙ or_false (names front file)

-- one file more
lent_with : (front : List ℕ) (last : ℕ) (files : Files) → with_file (lent_of front files) last (get files last) ≡ lent_of (front ++ last ∷ []) files
lent_with front last files = same_files _ _ (λ file. elim (cases_eq file last) [
  | inl is ↦ subst (λ (f : ℕ). get (with_file (lent_of front files) last (get files last)) f ≡ get (lent_of (front ++ last ∷ []) files) f) (sym is)
      (get_same (lent_of front files) last (get files last)
      ∙ sym (get_lent (front ++ last ∷ []) files last ∙ ap (λ b. cond b (get files last) None) (names_last front last)))
  | inr not ↦ get_other (lent_of front files) last file (get files last) not
      ∙ get_lent front files file
      ∙ ap (λ b. cond b (get files file) None) (sym (names_before front last file not))
      ∙ sym (get_lent (front ++ last ∷ []) files file)
])

lent_next : (list : List ℕ) (i : ℕ) (files : Files) → i < length list → with_file (lent_of (take i list) files) (get_or list i 0) (get files (get_or list i 0)) ≡ lent_of (take (i + 1) list) files
lent_next list i files lt = lent_with (take i list) (get_or list i 0) files ∙ ap (λ (l : List ℕ). lent_of l files) (sym (take_more list i 0 lt))

pub none_both : (b : Bool) → cond {A = Content} b None None ≡ None
none_both true = refl
none_both false = refl

-- one step over the list: the file is put in as it is
pub lent_more : (list : List ℕ) (i : ℕ) (files shared : Files) (body : List ℕ) → i < length list → get files (get_or list i 0) ≡ Some body
    → shared ≡ lent_of (take i list) files → insert shared (get_or list i 0) body ≡ lent_of (take (i + 1) list) files
lent_more list i files shared body lt there is =
    ap (λ (m : Files). insert m (get_or list i 0) body) is
    ∙ ap (with_file (lent_of (take i list) files) (get_or list i 0)) (sym there)
    ∙ lent_next list i files lt

-- the same for one that is absent
pub lent_skip : (list : List ℕ) (i : ℕ) (files shared : Files) → i < length list → get files (get_or list i 0) ≡ None
    → shared ≡ lent_of (take i list) files → shared ≡ lent_of (take (i + 1) list) files
lent_skip list i files shared lt absent is =
    is ∙ same_files _ _ (λ file. sym (elim (cases_eq file (get_or list i 0)) [
      | inl same ↦ subst (λ (f : ℕ). get (with_file (lent_of (take i list) files) (get_or list i 0) (get files (get_or list i 0))) f ≡ get (lent_of (take i list) files) f) (sym same)
          (get_same (lent_of (take i list) files) (get_or list i 0) (get files (get_or list i 0)) ∙ absent
          ∙ sym (get_lent (take i list) files (get_or list i 0) ∙ ap (λ o. cond (names (take i list) (get_or list i 0)) o None) absent ∙ none_both (names (take i list) (get_or list i 0))))
      | inr not ↦ get_other (lent_of (take i list) files) (get_or list i 0) file (get files (get_or list i 0)) not
    ]))
    ∙ lent_next list i files lt

-- the rest of the leases from a place on begins with the one there
rest_is : (lists : List (List ℕ)) (at : ℕ) (here : List ℕ) → at < length lists → here ≡ get_or lists at here → drop at lists ≡ here ∷ drop (at + 1) lists
rest_is lists at here lt is = drop-cons lists at here lt ∙ ap (λ (l : List ℕ). l ∷ drop (suc at) lists) (sym is) ∙ ap (λ (k : ℕ). here ∷ drop k lists) (sym (add-one at))

-- the lease at a place is the first with the list
pub without_here : (list : List ℕ) (lists : List (List ℕ)) (at : ℕ) (here : List ℕ) → at < length lists → here ≡ get_or lists at here → pointwise nat_eq here list ≡ true
    → without list lists ≡ take at lists ++ without list (drop at lists) → remove lists at ≡ without list lists
without_here list lists at here lt is same so_far = sym (
    so_far
    ∙ ap (λ (l : List (List ℕ)). take at lists ++ without list l) (rest_is lists at here lt is)
    ∙ ap (λ b. take at lists ++ cond b (drop (at + 1) lists) (here ∷ without list (drop (at + 1) lists))) same
    ∙ ap (λ (k : ℕ). take at lists ++ drop k lists) (add-one at))

-- the lease at a place has another list
pub without_next : (list : List ℕ) (lists : List (List ℕ)) (at : ℕ) (here : List ℕ) → at < length lists → here ≡ get_or lists at here → pointwise nat_eq here list ≡ false
    → without list lists ≡ take at lists ++ without list (drop at lists) → without list lists ≡ take (at + 1) lists ++ without list (drop (at + 1) lists)
without_next list lists at here lt is other so_far =
    so_far
    ∙ ap (λ (l : List (List ℕ)). take at lists ++ without list l) (rest_is lists at here lt is)
    ∙ ap (λ b. take at lists ++ cond b (drop (at + 1) lists) (here ∷ without list (drop (at + 1) lists))) other
    ∙ sym (append_assoc (take at lists) (here ∷ []) (without list (drop (at + 1) lists)))
    ∙ ap (λ (l : List (List ℕ)). l ++ without list (drop (at + 1) lists)) (ap (λ (x : List ℕ). take at lists ++ x ∷ []) is ∙ sym (take_more lists at here lt))

-- no lease has the list
pub without_end : (list : List ℕ) (lists : List (List ℕ)) (at : ℕ) → length lists ≤ at
    → without list lists ≡ take at lists ++ without list (drop at lists) → lists ≡ without list lists
without_end list lists at le so_far = sym (
    so_far
    ∙ ap (λ (l : List (List ℕ)). take at lists ++ without list l) (drop_all at lists le)
    ∙ append-nil (take at lists) ∙ take_all at lists le)
