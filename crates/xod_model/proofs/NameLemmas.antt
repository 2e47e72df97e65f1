-- Names in a list, and the next numbers.
use Rattle.std.proofs.Common.{◌≡◌, ◌≢◌, ℕ, zero, suc, ◌+◌, ◌<◌, ◌≤◌, true, false, cond, List, [], ◌∷◌, get_or, length, drop, Option, Some, None, refl, sym, ap, ◌∙◌, arith, nat_eq}
use Rattle.std.specs.Option.{option_map}
use Rattle.std.specs.Cmp.Lexicographic.{pointwise, bytes_decides}
use Rattle.std.proofs.lemmas.List.{drop_more}
use Rattle.xod_base.specs.Rows.{number_of, one_further, next_of}
use Rattle.xod_journal.specs.Shows.{name_at}
use Rattle.xod_model.proofs.TestLemmas.{unlike}

same_name : (a b : List ℕ) → a ≡ b → pointwise nat_eq a b ≡ true
same_name a b e = (bytes_decides a b).1 e

other_name : (a b : List ℕ) → (a ≢ b) → pointwise nat_eq a b ≡ false
other_name a b apart = unlike (pointwise nat_eq a b) (λ e. apart ((bytes_decides a b).0 e))

further : (i : ℕ) (o : Option ℕ) → option_map (λ n. i + n) (one_further o) ≡ option_map (λ n. (i + 1) + n) o
further i None = refl
further i (Some n) = let e : i + suc n ≡ (i + 1) + n = omega arith in ap Some e

-- a search that has come to a place
at_place : (names : List (List ℕ)) (i : ℕ) (x name : List ℕ) → i < length names → x ≡ get_or names i x → number_of (drop i names) name ≡ cond (pointwise nat_eq x name) (Some 0) (one_further (number_of (drop (i + 1) names) name))
at_place names i x name within read =
    ap (λ xs. number_of xs name) (drop_more names i x within)
    ∙ ap (λ y. cond (pointwise nat_eq y name) (Some 0) (one_further (number_of (drop (i + 1) names) name))) (sym read)

pub number_here : (names : List (List ℕ)) (i : ℕ) (x name : List ℕ) → i < length names → x ≡ get_or names i x → x ≡ name → option_map (λ n. i + n) (number_of (drop i names) name) ≡ Some i
number_here names i x name within read is =
    let none : i + 0 ≡ i = omega arith in
    ap (option_map (λ n. i + n)) (at_place names i x name within read ∙ ap (λ b. cond b (Some 0) (one_further (number_of (drop (i + 1) names) name))) (same_name x name is)) ∙ ap Some none

pub number_later : (names : List (List ℕ)) (i : ℕ) (x name : List ℕ) → i < length names → x ≡ get_or names i x → (x ≢ name) → option_map (λ n. i + n) (number_of (drop i names) name) ≡ option_map (λ n. (i + 1) + n) (number_of (drop (i + 1) names) name)
number_later names i x name within read apart =
    ap (option_map (λ n. i + n)) (at_place names i x name within read ∙ ap (λ b. cond b (Some 0) (one_further (number_of (drop (i + 1) names) name))) (other_name x name apart))
    ∙ further i (number_of (drop (i + 1) names) name)

pub next_of-get_or : (nexts : List ℕ) (kind : ℕ) → next_of nexts kind ≡ get_or nexts kind 0
next_of-get_or [] kind = refl
next_of-get_or (first ∷ more) zero = refl
next_of-get_or (first ∷ more) (suc kind) = next_of-get_or more kind

pub name_at-get_or : (names : List (List ℕ)) (n : ℕ) (d : List ℕ) → n < length names → name_at names n ≡ get_or names n d
name_at-get_or [] n d lt = absurd (omega arith)
name_at-get_or (name ∷ names) zero d lt = refl
name_at-get_or (name ∷ names) (suc n) d lt = name_at-get_or names n d (omega arith)

pub name_at-past : (names : List (List ℕ)) (n : ℕ) → length names ≤ n → name_at names n ≡ []
name_at-past [] n le = refl
name_at-past (name ∷ names) zero le = absurd (omega arith)
name_at-past (name ∷ names) (suc n) le = name_at-past names n (omega arith)
