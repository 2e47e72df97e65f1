-- A list of names with a name that may be new: which number it has, and that the other names keep theirs.
use Rattle.std.proofs.Common.{◌≡◌, ◌≢◌, ℕ, suc, ◌<◌, ◌≤◌, Bool, true, false, cond, List, [], ◌∷◌, ◌++◌, length, Option, Some, None, refl, sym, ap, ◌∙◌, arith, ltb-true, true≢false}
use Rattle.std.specs.Prelude.{◌||◌, is_some, nat_lt, unwrap_or}
use Rattle.std.specs.Cmp.Lexicographic.{bytes_decides}
use Rattle.std.specs.List.{AllByRecursion}
use Rattle.xod_base.specs.declared.limits.TheConstants.{MOST_NAMES}
use Rattle.xod_base.specs.Rows.{number_of, one_further}
use Rattle.xod_base.specs.Values.{same_bytes}
use Rattle.xod_tables.proofs.CallerLemmas.{Listed, name_of_number, not_none}

kept_at : (b : Bool) (o p : Option ℕ) (i : ℕ) → ((j : ℕ) → o ≡ Some j → p ≡ Some j) → cond b (Some 0) (one_further o) ≡ Some i → cond b (Some 0) (one_further p) ≡ Some i
kept_at true o p i rec e = e
kept_at false None p i rec e = absurd (not_none i (sym e))
kept_at false (Some j) p i rec e = ap one_further (rec j refl) ∙ e

number_kept : (xs : List (List ℕ)) (new n : List ℕ) (i : ℕ) → number_of xs n ≡ Some i → number_of (xs ++ new ∷ []) n ≡ Some i
number_kept [] new n i e = absurd (not_none i (sym e))
number_kept (x ∷ xs) new n i e = kept_at (same_bytes x n) (number_of xs n) (number_of (xs ++ new ∷ []) n) i (λ j is. number_kept xs new n j is) e

not_first : (b : Bool) (o : Option ℕ) → cond b (Some 0) (one_further o) ≡ None → (b ≡ false) × (o ≡ None)
not_first true o e = absurd (not_none 0 e)
not_first false None e = (refl, refl)
not_first false (Some j) e = absurd (not_none (suc j) e)

number_new : (xs : List (List ℕ)) (n : List ℕ) → number_of xs n ≡ None → number_of (xs ++ n ∷ []) n ≡ Some (length xs)
number_new [] n e = ap (λ b. cond b (Some 0) None) ((bytes_decides n n).1 refl)
number_new (x ∷ xs) n e =
    let no = not_first (same_bytes x n) (number_of xs n) e in
    λ i. cond (no.0 i) (Some 0) (one_further (number_new xs n no.1 i))

-- a name that is not listed is none of the list
pub none_is : (xs : List (List ℕ)) (n : List ℕ) → number_of xs n ≡ None → AllByRecursion (λ x. x ≢ n) xs
none_is [] n e = tt
none_is (x ∷ xs) n e =
    let no = not_first (same_bytes x n) (number_of xs n) e in
    (λ is. true≢false (sym ((bytes_decides x n).1 is) ∙ no.0), none_is xs n no.1)

length-push : {A : Type 0} (xs : List A) (x : A) → length (xs ++ x ∷ []) ≡ suc (length xs)
length-push [] x = refl
length-push (y ∷ xs) x = ap suc (length-push xs x)

-- the list with the name
pub record Grown (names more : List (List ℕ)) (name : List ℕ) (number : ℕ) : Type 0 where
  pub is : number_of more name ≡ Some number
  pub kept : (x : List ℕ) (i : ℕ) → number_of names x ≡ Some i → number_of more x ≡ Some i
  pub few : length more ≤ 4096

pub grown_at : (names : List (List ℕ)) (name : List ℕ) → length names ≤ 4096 → (o : Option ℕ) → number_of names name ≡ o → (is_some o || nat_lt (length names) MOST_NAMES) ≡ true
    → Grown names (cond (is_some o) names (names ++ name ∷ [])) name (unwrap_or o (length names))
grown_at names name few (Some n) is room = record { is = is; kept = λ x i e. e; few = few }
grown_at names name few None is room =
    let less : length names < 4096 = ltb-true (length names) MOST_NAMES room in
    let long = length-push names name in
    record { is = number_new names name is; kept = λ x i e. number_kept names name x i e; few = omega (arith, less, long) }

-- a listed name has its number in such a list
pub small_in : (more : List (List ℕ)) → length more ≤ 4096 → (name : List ℕ) (n : ℕ) → number_of more name ≡ Some n → Listed more name
small_in more few name n is =
    let there = name_of_number more name n is in
    let within : n < length more = there.1 in
    record { number = n; is = is; at = there.0; small = omega (arith, few, within) }

module _ {names more : List (List ℕ)} {name : List ℕ} {number : ℕ} (g : Grown names more name number) where
  pub listed_kept : (x : List ℕ) → Listed names x → Listed more x
  listed_kept x l = small_in more g.few x l.number (g.kept x l.number l.is)

  pub listed_now : Listed more name
  listed_now = small_in more g.few name number g.is

  pub same_number : (x : List ℕ) → Listed names x → number_of more x ≡ number_of names x
  same_number x l = g.kept x l.number l.is ∙ sym l.is
