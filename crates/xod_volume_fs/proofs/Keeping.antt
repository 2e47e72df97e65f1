-- What is kept of the files, over a change of one of them, and over a list of files that are lent.
use Rattle.std.proofs.Common.{◌≡◌, ◌==◌, ◌||◌, ◌<◌, ℕ, ◌+◌, Bool, true, false, cond, List, [], ◌∷◌, ◌++◌, length, take, get_or, is_some, Option, Some, IsSome, refl, sym, ◌∙◌, ap, subst, inl, inr}
use mathlib.Core.Logic.{◌≢◌}
use Rattle.std.specs.Ordering.{nat_cmp, is_eq}
use Rattle.std.specs.declared.cmp.Ordering.{Ordering}
use Rattle.std.specs.declared.cmp.Ordering.TheVariants.{Less, Equal, Greater}
use Rattle.std.specs.Map.{lookup}
use Rattle.std.specs.BTreeMap.{is_at}
use Rattle.std.specs.FinMap.{get, insert, get-empty, nat_cmp-IsAntisymmetric}
use Rattle.std.proofs.lemmas.Bool.{cases_eq, eq-eqb, ne_eqb, false≢true}
use Rattle.std.proofs.lemmas.List.{take_more}
use Rattle.std.proofs.lemmas.List.Folds.{list_any-append}
use Rattle.xod_volume.specs.Files.{Files, Content, no_files, with_file}
use Rattle.xod_volume.specs.Leases.{names}
use Rattle.xod_volume.proofs.CallerLemmas.{get_same, get_other}
use Rattle.xod_volume_fs.specs.declared.file.FolderFile.{FolderFile}
use Rattle.xod_volume_fs.specs.declared.folder.Folder.{Folder}
use Rattle.xod_volume_fs.specs.Kept.{kept_of, kept_in, kept_by, StaysKept, StayKept, LendsKept}

is_equal : (o : Ordering) → is_eq o ≡ true → o ≡ Equal
is_equal Less e = absurd (false≢true e)
is_equal Equal e = refl
is_equal Greater e = absurd (false≢true e)

changed_at : (here : Bool) (was is : FolderFile) (found other : Option FolderFile) → (here ≡ true → other ≡ Some was) → found ≡ cond here (Some is) other
    → StaysKept was.body is.body → StaysKept (kept_of other) (kept_of found)
changed_at true was is found other there changed stays bytes e = ap kept_of changed ∙ stays bytes (ap kept_of (sym (there refl)) ∙ e)
changed_at false was is found other there changed stays bytes e = ap kept_of changed ∙ e

-- one file is changed, and what was kept of it stays
pub kept_changed : (es fs : List (ℕ × FolderFile)) (k : ℕ) (was is : FolderFile) → Some was ≡ lookup (is_at (nat_cmp k)) es
    → ((q : ℕ) → lookup (is_at (nat_cmp q)) fs ≡ cond (is_at (nat_cmp k) q) (Some is) (lookup (is_at (nat_cmp q)) es))
    → StaysKept was.body is.body → StayKept (λ q. kept_of (lookup (is_at (nat_cmp q)) es)) (λ q. kept_of (lookup (is_at (nat_cmp q)) fs))
kept_changed es fs k was is there changed stays q =
    changed_at (is_at (nat_cmp k) q) was is _ _
    (λ same. subst (λ (r : ℕ). lookup (is_at (nat_cmp r)) es ≡ Some was) (nat_cmp-IsAntisymmetric k q (is_equal (nat_cmp k q) same)) (sym there))
    (changed q) stays

or_true : (b : Bool) → (b || (true || false)) ≡ true
or_true true = refl
or_true false = refl

or_false : (b : Bool) → (b || (false || false)) ≡ b
or_false true = refl
or_false false = refl

names_last : (front : List ℕ) (last : ℕ) → names (front ++ last ∷ []) last ≡ true
names_last front last = list_any-append (λ other. other == last) front (last ∷ [])
    ∙ ap (λ b. names front last || (b || false)) (eq-eqb last last refl)
    ∙ or_true (names front last)

names_before : (front : List ℕ) (last file : ℕ) → file ≢ last → names (front ++ last ∷ []) file ≡ names front file
names_before front last file apart = list_any-append (λ other. other == file) front (last ∷ [])
    ∙ ap (λ b. names front file || (b || false)) (ne_eqb last file (λ e. apart (sym e)))
    ∙ or_false (names front file)

pub lends_none : (kept : ℕ → Content) (lent : Files) → lent ≡ no_files → LendsKept [] kept lent
lends_none kept lent none = subst (LendsKept [] kept) (sym none) record {
  each = λ file named. absurd (false≢true named);
  as_kept = λ file bytes e. absurd (false≢true (ap is_some (sym (get-empty nat_cmp file) ∙ e)));
  no_other = λ file named. get-empty nat_cmp file;
}

-- one file more is lent, as it is kept
lends_with : (front : List ℕ) (last : ℕ) (old new : ℕ → Content) (lent : Files) (body : List ℕ) → StayKept old new → new last ≡ Some body
    → LendsKept front old lent → LendsKept (front ++ last ∷ []) new (with_file lent last (Some body))
lends_with front last old new lent body stay there before = record {
  each = λ file named. elim (cases_eq file last) [
    | inl is ↦ subst (λ (f : ℕ). IsSome (get (with_file lent last (Some body)) f)) (sym is) (ap is_some (get_same lent last (Some body)))
    | inr not ↦ ap is_some (get_other lent last file (Some body) not) ∙ before.each file (sym (names_before front last file not) ∙ named)
  ];
  as_kept = λ file. elim (cases_eq file last) [
    | inl is ↦ subst (λ (f : ℕ). StaysKept (get (with_file lent last (Some body)) f) (new f)) (sym is)
        (λ bytes e. there ∙ sym (get_same lent last (Some body)) ∙ e)
    | inr not ↦ λ bytes e. stay file bytes (before.as_kept file bytes (sym (get_other lent last file (Some body) not) ∙ e))
  ];
  no_other = λ file named. elim (cases_eq file last) [
    | inl is ↦ absurd (false≢true (sym named ∙ ap (names (front ++ last ∷ [])) is ∙ names_last front last))
    | inr not ↦ get_other lent last file (Some body) not ∙ before.no_other file (sym (names_before front last file not) ∙ named)
  ];
}

pub lends_more : (list : List ℕ) (i : ℕ) (old new : ℕ → Content) (lent after : Files) (body : List ℕ) → i < length list → StayKept old new → new (get_or list i 0) ≡ Some body
    → after ≡ insert lent (get_or list i 0) body → LendsKept (take i list) old lent → LendsKept (take (i + 1) list) new after
lends_more list i old new lent after body lt stay there more before =
    subst (LendsKept (take (i + 1) list) new) (sym more)
    (subst (λ (l : List ℕ). LendsKept l new (insert lent (get_or list i 0) body)) (sym (take_more list i 0 lt))
    (lends_with (take i list) (get_or list i 0) old new lent body stay there before))

-- what stays of the files of a folder stays of those of a store that has met it
pub stay_by : (met : Option Folder) (folder : Folder) (new : ℕ → Content) → met ≡ Some folder → StayKept (kept_in folder) new → StayKept (kept_by met) new
stay_by met folder new is stay = subst (λ (f : Option Folder). StayKept (kept_by f) new) (sym is) stay
