-- The entries of a list that pass, and the first of them.
use Rattle.std.proofs.Common.{◌≡◌, ℕ, List, [], ◌∷◌, ◌++◌, Bool, true, false, cond, Some, slice_get, refl, sym, ◌∙◌, ap}
use Rattle.std.proofs.lemmas.List.{append_assoc, map-append}
use Rattle.std.proofs.lemmas.List.Elements.{filter-append, filter_agree}
use Rattle.xod_base.specs.Views.{Entry, Test, first_that}
use Rattle.xod_block.specs.Maps.{under}
use Rattle.xod_cursor.specs.Entries.{kept}

-- ---- fronts

pub under-append : (front : List ℕ) (es fs : List Entry) → under front (es ++ fs) ≡ under front es ++ under front fs
under-append front es fs = map-append (λ e. (front ++ e.0, e.1)) es fs

pub under-under : (front more : List ℕ) (es : List Entry) → under front (under more es) ≡ under (front ++ more) es
under-under front more [] = refl
under-under front more (e ∷ es) =
    ap (λ (k : List ℕ). (k, e.1) ∷ under front (under more es)) (sym (append_assoc front more e.0))
    ∙ ap (λ (l : List Entry). ((front ++ more) ++ e.0, e.1) ∷ l) (under-under front more es)

pub under-nil : (es : List Entry) → under [] es ≡ es
under-nil [] = refl
under-nil (e ∷ es) = ap (λ (l : List Entry). e ∷ l) (under-nil es)

-- ---- those that pass

pub kept-append : (p : Test) (es fs : List Entry) → kept p (es ++ fs) ≡ kept p es ++ kept p fs
kept-append p es fs = filter-append (λ (e : Entry). p e.0) es fs

cond-under : (front : List ℕ) (b : Bool) (e : Entry) (es : List Entry) → under front (cond b (e ∷ es) es) ≡ cond b ((front ++ e.0, e.1) ∷ under front es) (under front es)
cond-under front true e es = refl
cond-under front false e es = refl

pub kept-under : (p : Test) (front : List ℕ) (es : List Entry) → kept p (under front es) ≡ under front (kept (λ k. p (front ++ k)) es)
kept-under p front [] = refl
kept-under p front (e ∷ es) =
    ap (λ (l : List Entry). cond (p (front ++ e.0)) ((front ++ e.0, e.1) ∷ l) l) (kept-under p front es)
    ∙ sym (cond-under front (p (front ++ e.0)) e (kept (λ k. p (front ++ k)) es))

pub kept-same : (p q : Test) → ((k : List ℕ) → p k ≡ q k) → (es : List Entry) → kept p es ≡ kept q es
kept-same p q same es = filter_agree (λ (e : Entry). p e.0) (λ (e : Entry). q e.0) (λ e. same e.0) es

pub kept-all : (p : Test) → ((k : List ℕ) → p k ≡ true) → (es : List Entry) → kept p es ≡ es
kept-all p all [] = refl
kept-all p all (e ∷ es) = ap (λ (b : Bool). cond b (e ∷ kept p es) (kept p es)) (all e.0) ∙ ap (λ (l : List Entry). e ∷ l) (kept-all p all es)

pub kept-none : (p : Test) → ((k : List ℕ) → p k ≡ false) → (es : List Entry) → kept p es ≡ []
kept-none p fails [] = refl
kept-none p fails (e ∷ es) = ap (λ (b : Bool). cond b (e ∷ kept p es) (kept p es)) (fails e.0) ∙ kept-none p fails es

-- behind a front those that pass by another test
pub kept-under_same : (p q : Test) (front : List ℕ) → ((k : List ℕ) → p (front ++ k) ≡ q k) → (es : List Entry) → kept p (under front es) ≡ under front (kept q es)
kept-under_same p q front same es = kept-under p front es ∙ ap (under front) (kept-same (λ k. p (front ++ k)) q same es)

-- behind a front all of them
pub kept-under_all : (p : Test) (front : List ℕ) → ((k : List ℕ) → p (front ++ k) ≡ true) → (es : List Entry) → kept p (under front es) ≡ under front es
kept-under_all p front all es = kept-under p front es ∙ ap (under front) (kept-all (λ k. p (front ++ k)) all es)

-- behind a front none of them
pub kept-under_none : (p : Test) (front : List ℕ) → ((k : List ℕ) → p (front ++ k) ≡ false) → (es : List Entry) → kept p (under front es) ≡ []
kept-under_none p front fails es = kept-under p front es ∙ ap (under front) (kept-none (λ k. p (front ++ k)) fails es)

-- ---- the first that passes

first-cond : (b : Bool) (e : Entry) (es : List Entry) → slice_get (cond b (e ∷ es) es) 0 ≡ cond b (Some e) (slice_get es 0)
first-cond true e es = refl
first-cond false e es = refl

pub first_that-kept : (p : Test) (es : List Entry) → first_that p es ≡ slice_get (kept p es) 0
first_that-kept p [] = refl
first_that-kept p (e ∷ es) = ap (cond (p e.0) (Some e)) (first_that-kept p es) ∙ sym (first-cond (p e.0) e (kept p es))
