-- Decimal texts are read as their numbers.
use Rattle.std.proofs.Common.{◌≡◌, ℕ, zero, suc, ◌+◌, ◌^◌, ◌<◌, lit<, ◌==◌, true, false, ℤ, pos, negsuc, List, [], ◌∷◌, ◌++◌, length, get_or, take, drop, Some, nat_lt, refl, ap, sym, ◌∙◌, arith, rules}
use Rattle.std.specs.List.{list_all}
use Rattle.std.specs.Fmt.{decimal, signed_decimal}
use Rattle.std.proofs.lemmas.Bool.{and_parts, and_from}
use Rattle.std.proofs.lemmas.Bool.Decides.{nat_tests}
use Rattle.std.proofs.lemmas.Fmt.{digits_decimal, digits_value-decimal, decimal_digit, decimal_nonempty, first_decimal}
use Rattle.std.proofs.lemmas.List.{drop_at, take_at}
use Rattle.std.proofs.lemmas.Str.Parse.{IsNumeralModel, numerals_by_fold}
use Rattle.xod_base.specs.declared.value.EntityId.{EntityId}
use Rattle.xod_base.specs.Names.{is_digit}
use Rattle.xod_base.specs.Queries.{is_id}
use Rattle.xod_base.specs.QueryTexts.{id_text}
use Rattle.xod_base.specs.Values.{is_int}
use Rattle.xod_words.specs.Numbers.{number_after, has_no_leading_zero, is_decimal, decimal_of, count_of, unsigned_of, negated_of, integer_of, dash_at, id_from, id_of}

own : IsNumeralModel (λ ds. list_all is_digit ds ≡ true) (number_after 0)
own = numerals_by_fold _ (search rules) number_after (search rules)

pub decimal_digits : (n : ℕ) → n < 2 ^ 64 → list_all is_digit (decimal n) ≡ true
decimal_digits n h = digits_decimal own n h

no_zero_first : (ds : List ℕ) → 0 < length ds → 48 < get_or ds 0 0 → has_no_leading_zero ds ≡ true
no_zero_first [] some first = absurd (omega (arith, some))
no_zero_first (d ∷ []) some first = refl
no_zero_first (d ∷ e ∷ ds) some first = grind (arith, nat_tests)

no_leading_zero : (n : ℕ) → n < 2 ^ 64 → has_no_leading_zero (decimal n) ≡ true
no_leading_zero zero h = ap has_no_leading_zero (decimal_digit 0 (lit< tt))
no_leading_zero (suc n) h = no_zero_first (decimal (suc n)) (decimal_nonempty (suc n) h) (first_decimal (suc n) (omega arith) h)

decimal_back : (n : ℕ) → n < 2 ^ 64 → decimal_of (decimal n) ≡ Some n
unfolding decimal_of
decimal_back n h =
    let is : is_decimal (decimal n) ≡ true = and_from _ _ (decimal_digits n h) (no_leading_zero n h) in
    rw is (ap Some (digits_value-decimal own n h))

pub count_back : (n : ℕ) → nat_lt n (2 ^ 32) ≡ true → count_of (decimal n) ≡ Some n
unfolding count_of
count_back n h =
    let small : n < 2 ^ 64 = grind (arith, nat_tests, h) in
    rw (decimal_back n small, h) refl

-- ---- integers

integer_plain : (ds : List ℕ) → list_all is_digit ds ≡ true → 0 < length ds → integer_of ds ≡ unsigned_of ds
unfolding integer_of
integer_plain [] all some = absurd (omega (arith, some))
integer_plain (d ∷ ds) all some =
    let digit = (and_parts (is_digit d) _ all).0 in
    let other : (d == 45) ≡ false = grind (arith, nat_tests, digit) in
    rw other refl

pub integer_back : (number : ℤ) → is_int number ≡ true → integer_of (signed_decimal number) ≡ Some number
unfolding integer_of unsigned_of negated_of
integer_back (pos n) h =
    let small : n < 2 ^ 64 = grind (arith, nat_tests, h) in
    integer_plain (decimal n) (decimal_digits n small) (decimal_nonempty n small) ∙ rw (decimal_back n small, h) refl
integer_back (negsuc n) h =
    let small : suc n < 2 ^ 64 = grind (arith, nat_tests, h) in
    rw (decimal_back (suc n) small, h) refl

-- ---- ids

dash_at-digits : (ds more : List ℕ) → list_all is_digit ds ≡ true → dash_at (ds ++ 45 ∷ more) ≡ length ds
dash_at-digits [] more all = refl
dash_at-digits (d ∷ ds) more all =
    let parts = and_parts (is_digit d) _ all in
    let other : (d == 45) ≡ false = grind (arith, nat_tests, parts.0) in
    let next : 1 + dash_at (ds ++ 45 ∷ more) ≡ suc (length ds) = omega (arith, dash_at-digits ds more parts.1) in
    rw other next

pub id_back : (id : EntityId) → is_id id ≡ true → id_of (id_text id) ≡ Some id
unfolding id_from
id_back id h =
    let parts = and_parts _ _ h in
    let small : id.kind < 2 ^ 64 = grind (arith, nat_tests, parts.0) in
    let at = dash_at-digits (decimal id.kind) (decimal id.local) (decimal_digits id.kind small) in
    let front : take (dash_at (id_text id)) (id_text id) ≡ decimal id.kind = take_at (decimal id.kind) (45 ∷ decimal id.local) _ (sym at) in
    let back : drop (dash_at (id_text id)) (id_text id) ≡ 45 ∷ decimal id.local = drop_at (decimal id.kind) (45 ∷ decimal id.local) _ (sym at) in
    (λ i. id_from (front i) (back i)) ∙ rw (count_back id.kind parts.0, count_back id.local parts.1) refl
