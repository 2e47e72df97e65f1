-- Log files are counted by which of them are there, whatever bytes they have.
use Rattle.std.proofs.Common.{◌≡◌, ◌<◌, ◌≤◌, ◌⊎◌, ℕ, zero, suc, ◌+◌, ◌-◌, ◌/◌, ◌&&◌, Bool, true, false, cond, List, [], ◌∷◌, length, Some, None, is_some, refl, sym, ◌∙◌, ap, arith, inl, inr}
use mathlib.Core.Logic.{◌≢◌}
use Rattle.std.specs.Cmp.{nat_cmp_total}
use Rattle.std.specs.FinMap.{contains_key, empty_of_len, entries, find, get, get-empty, get-entries, get-remove, get-retain_keys, len, len-entries, len-remove, nat_cmp-IsAntisymmetric, remove}
use Rattle.std.specs.Ordering.{eq_by_cmp, nat_cmp}
use Rattle.std.proofs.lemmas.Bool.{cases_eq, cases_lt, cond-true, true≢false}
use Rattle.std.proofs.lemmas.Bool.Decides.{nat_tests}
use Rattle.xod_log.specs.Ends.{body_of, ends_of}
use Rattle.xod_log.specs.Standing.{has_pair, last_file}
use Rattle.xod_volume.specs.Files.{Content, Files}
use Rattle.xod_env.specs.Bodies.{is_body_up_to}
use Rattle.xod_env.specs.Envs.{log_bodies, log_file_count}

-- ---- the size of a map goes by its keys

tied : (x y : ℕ) → x ≡ y → eq_by_cmp nat_cmp x y ≡ true
tied x y is = grind (arith, nat_tests)

untied : (x y : ℕ) → x ≢ y → eq_by_cmp nat_cmp x y ≡ false
untied x y apart = grind (arith, nat_tests)

first-by : (m : Files) (es : List (ℕ × List ℕ)) → entries m ≡ es → (len m ≡ 0) ⊎ ((k : ℕ) × (contains_key m k ≡ true))
first-by m [] is = inl (len-entries m ∙ ap (λ (es : List (ℕ × List ℕ)). length es) is)
first-by m (e ∷ es) is = inr (e.0, ap (λ (c : Content). is_some c) (get-entries m e.0 ∙ ap (find nat_cmp e.0) is ∙ ap (λ (b : Bool). cond b (Some e.1) (find nat_cmp e.0 es)) (tied e.0 e.0 refl)))

lacks : (m : Files) (k : ℕ) → len m ≡ 0 → contains_key m k ≡ false
lacks m k none = ap (λ (f : Files). contains_key f k) (empty_of_len m none) ∙ ap (λ (c : Content). is_some c) (get-empty nat_cmp k)

positive : (m : Files) (k : ℕ) → contains_key m k ≡ true → 0 < len m
positive m k has = elim (cases_lt 0 (len m)) [
  | inl lt ↦ lt
  | inr le ↦ absurd (true≢false (sym has ∙ lacks m k (omega (arith, le))))
]

len-without : (m : Files) (k : ℕ) → contains_key m k ≡ true → len (remove m k) ≡ len m - 1
len-without m k has = len-remove nat_cmp_total m k ∙ cond-true (contains_key m k) (len m - 1) (len m) has

has-without : (m : Files) (k q : ℕ) → contains_key (remove m k) q ≡ is_some (cond (eq_by_cmp nat_cmp q k) None (get m q))
has-without m k q = ap (λ (c : Content). is_some c) (get-remove nat_cmp_total m k q)

either-some : (b : Bool) (x y : Content) → is_some x ≡ is_some y → is_some (cond b None x) ≡ is_some (cond b None y)
either-some true x y is = refl
either-some false x y is = is

same-len : (n : ℕ) (a b : Files) → len a ≡ n → ((q : ℕ) → contains_key a q ≡ contains_key b q) → len a ≡ len b
same-len zero a b is same = elim (first-by b (entries b) refl) [
  | inl none ↦ is ∙ sym none
  | inr some ↦ absurd (true≢false (sym (same some.0 ∙ some.1) ∙ lacks a some.0 is))
]
same-len (suc n) a b is same = elim (first-by a (entries a) refl) [
  | inl none ↦ absurd (omega (arith, is, none))
  | inr some ↦
      let k = some.0 in
      let there : contains_key b k ≡ true = sym (same k) ∙ some.1 in
      let fewer : len (remove a k) ≡ len (remove b k) = same-len n (remove a k) (remove b k) (len-without a k some.1 ∙ omega (arith, is))
      (λ q. has-without a k q ∙ either-some (eq_by_cmp nat_cmp q k) (get a q) (get b q) (same q) ∙ sym (has-without b k q)) in
      omega (arith, fewer, len-without a k some.1, len-without b k there, positive a k some.1, positive b k there)
]

-- ---- which log files are there

test-some : (b : Bool) (o : Content) → is_some (cond b o None) ≡ (b && is_some o)
test-some true o = refl
test-some false o = refl

swapped : (a b : Bool) → (a && b) ≡ (b && a)
swapped true true = refl
swapped true false = refl
swapped false true = refl
swapped false false = refl

body-is : (number : ℕ) → is_body_up_to last_file number ≡ true → number ≡ body_of (number / 2)
body-is number is = grind (arith, nat_tests)

body-low : (file : ℕ) → file ≤ last_file → is_body_up_to last_file (body_of file) ≡ true
body-low file le = grind (arith, nat_tests)

has-log : (files : Files) (number : ℕ) → contains_key (log_bodies files) number ≡ (is_body_up_to last_file number && has_pair files (number / 2))
has-log files number =
    let test : ℕ → Bool = λ k. is_body_up_to last_file k && contains_key files (k + 1) in
    ap (λ (c : Content). is_some c) (get-retain_keys files test number (λ x e. ap test (sym (nat_cmp-IsAntisymmetric number x e))))
    ∙ test-some (is_body_up_to last_file number && contains_key files (number + 1)) (get files number)
    ∙ paired (is_body_up_to last_file number) refl
  where
    paired : (b : Bool) → is_body_up_to last_file number ≡ b → ((b && contains_key files (number + 1)) && is_some (get files number)) ≡ (b && has_pair files (number / 2))
    paired false is = refl
    paired true is =
        let own = body-is number is in
        let ends : number + 1 ≡ ends_of (number / 2) = omega (arith, own) in
        ap (λ (n : ℕ). contains_key files n && is_some (get files number)) ends
        ∙ ap (λ (n : ℕ). contains_key files (ends_of (number / 2)) && is_some (get files n)) own
        ∙ swapped (contains_key files (ends_of (number / 2))) (is_some (get files (body_of (number / 2))))

pub count-same : (before now : Files) → ((file : ℕ) → has_pair now file ≡ has_pair before file) → log_file_count now ≡ log_file_count before
count-same before now same = same-len (len (log_bodies now)) (log_bodies now) (log_bodies before) refl
    (λ q. has-log now q ∙ ap (λ (b : Bool). is_body_up_to last_file q && b) (same (q / 2)) ∙ sym (has-log before q))

-- one log file came
pub count-more : (before now : Files) (file : ℕ) → file ≤ last_file → ((other : ℕ) → other ≢ file → has_pair now other ≡ has_pair before other) → has_pair before file ≡ false → has_pair now file ≡ true
    → log_file_count now ≡ log_file_count before + 1
count-more before now file low same was is =
    let key = body_of file in
    let half : key / 2 ≡ file = omega arith in
    let came : contains_key (log_bodies now) key ≡ true = has-log now key ∙ ap (λ (b : Bool). b && has_pair now (key / 2)) (body-low file low) ∙ ap (has_pair now) half ∙ is in
    let fewer : len (remove (log_bodies now) key) ≡ len (log_bodies before) = same-len (len (remove (log_bodies now) key)) (remove (log_bodies now) key) (log_bodies before) refl
    (λ q. elim (cases_eq q key) [
      | inl own ↦
          has-without (log_bodies now) key q
          ∙ ap (λ (b : Bool). is_some (cond b None (get (log_bodies now) q))) (tied q key own)
          ∙ sym (has-log before q ∙ ap (λ (n : ℕ). is_body_up_to last_file n && has_pair before (n / 2)) own ∙ ap (λ (n : ℕ). is_body_up_to last_file key && has_pair before n) half
          ∙ ap (λ (b : Bool). is_body_up_to last_file key && b) was ∙ swapped (is_body_up_to last_file key) false)
      | inr apart ↦
          has-without (log_bodies now) key q
          ∙ ap (λ (b : Bool). is_some (cond b None (get (log_bodies now) q))) (untied q key apart)
          ∙ has-log now q ∙ by-half q apart (is_body_up_to last_file q) refl ∙ sym (has-log before q)
    ]) in
    omega (arith, fewer, len-without (log_bodies now) key came, positive (log_bodies now) key came)
  where
    by-half : (q : ℕ) → q ≢ body_of file → (b : Bool) → is_body_up_to last_file q ≡ b → (b && has_pair now (q / 2)) ≡ (b && has_pair before (q / 2))
    by-half q apart false none = refl
    by-half q apart true body = same (q / 2) (λ e. apart (body-is q body ∙ ap body_of e))
