-- Walks over a whole tree: what was counted so far, and what is still to come.
use base.Fml.{GName}
use Rattle.std.proofs.Common.{◌≡◌, ℕ, suc, ◌+◌, Bool, true, false, cond, ◌&&◌, List, [], ◌∷◌, length, Option, Some, None, Ok, refl, sym, ap, subst, ◌∙◌, arith}
use Rattle.std.specs.Prelude.{IsTrue}
use Rattle.std.specs.Option.{option_map}
use Rattle.std.specs.List.{list_all, filter}
use Rattle.std.specs.FinMap.{entries, len, len-entries}
use Rattle.std.specs.Ordering.{is_le}
use Rattle.xod_base.specs.declared.pair.Pair.{Pair}
use Rattle.xod_base.specs.Values.{bytes_cmp}
use Rattle.xod_base.specs.Views.{Entry, Tree, Trees, least, least_pair, pair_of, above, not_below, those_that}
use Rattle.xod_base.proofs.CallerLemmas.{those_that-none, those_that-not_below, those_that-above}
use Rattle.xod_tables.specs.Reading.{tree_at}
use Rattle.xod_audit.specs.Checks.{counted}
use Rattle.xod_audit.specs.Looks.{Looks}
use Rattle.xod_audit.specs.Tests.{are_there}
use Rattle.xod_audit.proofs.Looked.{Steady, steady-itself, steady-after, steady-then, looks-done}

-- the entries from a pair on
abbrev pub from_pair : Option Pair → Tree → List Entry
from_pair None tree = []
from_pair (Some pair) tree = (pair.key, pair.value) ∷ those_that (above pair.key) tree

as_entry : (o : Option Entry) (p : Pair) → option_map pair_of o ≡ Some p → o ≡ Some (p.key, p.value)
as_entry None p is = cc is
as_entry (Some e) p is = ap (option_map (λ (q : Pair). (q.key, q.value))) is

no_entry : (o : Option Entry) → option_map pair_of o ≡ None → o ≡ None
no_entry None is = refl
no_entry (Some e) is = cc is

-- all keys are from the empty one on
all_kept : (es : List Entry) → filter (λ e. not_below [] e.0) es ≡ es
all_kept [] = refl
all_kept (e ∷ es) = at e.0 (all_kept es)
  where
    at : (k : List ℕ) → filter (λ x. not_below [] x.0) es ≡ es → cond (is_le (bytes_cmp [] k)) (e ∷ filter (λ x. not_below [] x.0) es) (filter (λ x. not_below [] x.0) es) ≡ e ∷ es
    at [] rest = ap (λ l. e ∷ l) rest
    at (b ∷ k) rest = ap (λ l. e ∷ l) rest

pub from_first : (t : Tree) (found : Option Pair) → found ≡ least_pair (not_below []) t → from_pair found t ≡ entries t
from_first t None is = sym (those_that-none (not_below []) t (no_entry (least (not_below []) t) (sym is))) ∙ all_kept (entries t)
from_first t (Some p) is = sym (those_that-not_below [] t (p.key, p.value) (as_entry (least (not_below []) t) p (sym is))) ∙ all_kept (entries t)

pub from_next : (key : List ℕ) (t : Tree) (found : Option Pair) → found ≡ least_pair (above key) t → from_pair found t ≡ those_that (above key) t
from_next key t None is = sym (those_that-none (above key) t (no_entry (least (above key) t) (sym is)))
from_next key t (Some p) is = sym (those_that-above key t (p.key, p.value) (as_entry (least (above key) t) p (sym is)))

-- so many more
abbrev pub behind : ℕ → Option ℕ → Option ℕ
behind count more = option_map (λ n. count + n) more

behind_none : (o : Option ℕ) → behind 0 o ≡ o
behind_none None = refl
behind_none (Some n) = let is : 0 + n ≡ n = omega arith in ap Some is

one_more : (test : Entry → Bool) (e : Entry) (es : List Entry) (count : ℕ) → test e ≡ true → behind count (counted test (e ∷ es)) ≡ behind (count + 1) (counted test es)
one_more test e es count h = ap (λ b. behind count (cond (b && list_all test es) (Some (suc (length es))) None)) h ∙ at (list_all test es)
  where
    at : (b : Bool) → behind count (cond b (Some (suc (length es))) None) ≡ behind (count + 1) (cond b (Some (length es)) None)
    at true = let is : count + suc (length es) ≡ count + 1 + length es = omega arith in ap Some is
    at false = refl

not_one : (test : Entry → Bool) (e : Entry) (es : List Entry) (count : ℕ) → test e ≡ false → behind count (counted test (e ∷ es)) ≡ None
not_one test e es count h = ap (λ b. behind count (cond (b && list_all test es) (Some (suc (length es))) None)) h

-- What a walk over a tree has counted: the view is as it was, and what there is to count is what was counted, and then
-- what is to come.
pub record Counting {View : Type 0} (tells : View → Bool) (trees : View → Trees) (commit : View → ℕ) (refs : View → List GName) (faults : View → ℕ)
    (tree : ℕ) (test : Trees → Entry → Bool) (old now : View) (found : Option Pair) (count : ℕ) : Type 0 where
  pub steady : Steady tells trees commit refs faults old now
  pub so_far : IsTrue (tells old) → IsTrue (are_there (trees old))
      → counted (test (trees old)) (entries (tree_at (trees old) tree)) ≡ behind count (counted (test (trees old)) (from_pair found (tree_at (trees old) tree)))

module _ {View : Type 0} {tells : View → Bool} {trees : View → Trees} {commit : View → ℕ} {refs : View → List GName} {faults : View → ℕ} where
  -- what a look-up behind others answered
  pub known : {A : Type 0} (old mid new : View) (sought : Trees → A) (x : A) → Steady tells trees commit refs faults old mid → Looks tells trees commit refs faults mid new sought (Ok x)
      → IsTrue (tells old) → IsTrue (are_there (trees old)) → x ≡ sought (trees old)
  known {A = A} old mid new sought x s l told there = subst (λ ts. x ≡ sought ts) s.keeps.trees_same
      (l.value (subst IsTrue (sym s.keeps.tells_same) told) (subst (λ ts. IsTrue (are_there ts)) (sym s.keeps.trees_same) there))

module _ {View : Type 0} {tells : View → Bool} {trees : View → Trees} {commit : View → ℕ} {refs : View → List GName} {faults : View → ℕ} {tree : ℕ} {test : Trees → Entry → Bool} where
  pub counting-begins : (old new : View) (found : Option Pair) → Looks tells trees commit refs faults old new (λ ts. least_pair (not_below []) (tree_at ts tree)) (Ok found)
      → Counting tells trees commit refs faults tree test new new found 0
  counting-begins old new found l = record {
    steady = steady-itself new;
    so_far = λ told there.
        let is = subst (λ ts. found ≡ least_pair (not_below []) (tree_at ts tree)) (sym l.keeps.trees_same)
        (l.value (subst IsTrue l.keeps.tells_same told) (subst (λ ts. IsTrue (are_there ts)) l.keeps.trees_same there)) in
        ap (counted (test (trees new))) (sym (from_first (tree_at (trees new) tree) found is)) ∙ sym (behind_none _);
  }

  pub counting-goes_on : (old now mid new : View) (at : Option Pair) (pair : Pair) (count : ℕ) (passed : Bool) (key : List ℕ) (found : Option Pair)
      → Counting tells trees commit refs faults tree test old now at count → at ≡ Some pair
      → Looks tells trees commit refs faults now mid (λ ts. test ts (pair.key, pair.value)) (Ok passed) → passed ≡ true → key ≡ pair.key
      → Looks tells trees commit refs faults mid new (λ ts. least_pair (above key) (tree_at ts tree)) (Ok found)
      → Counting tells trees commit refs faults tree test old new found (count + 1)
  counting-goes_on old now mid new at pair count passed key found c is pass passes same next =
      let to_mid = steady-then old now mid c.steady (steady-after now mid (λ ts. test ts (pair.key, pair.value)) passed pass) in
      record {
        steady = steady-then old mid new to_mid (steady-after mid new (λ ts. least_pair (above key) (tree_at ts tree)) found next);
        so_far = λ told there. c.so_far told there
            ∙ ap (λ o. behind count (counted (test (trees old)) (from_pair o (tree_at (trees old) tree)))) is
            ∙ one_more (test (trees old)) (pair.key, pair.value) (those_that (above pair.key) (tree_at (trees old) tree)) count (sym (known old now mid (λ ts. test ts (pair.key, pair.value)) passed c.steady pass told there) ∙ passes)
            ∙ ap (λ k. behind (count + 1) (counted (test (trees old)) (those_that (above k) (tree_at (trees old) tree)))) (sym same)
            ∙ ap (λ l. behind (count + 1) (counted (test (trees old)) l)) (sym (from_next key (tree_at (trees old) tree) found (known old mid new (λ ts. least_pair (above key) (tree_at ts tree)) found to_mid next told there)));
      }

  pub counting-fails : (old now mid : View) (at : Option Pair) (pair : Pair) (count : ℕ) (passed : Bool) → Counting tells trees commit refs faults tree test old now at count → at ≡ Some pair
      → Looks tells trees commit refs faults now mid (λ ts. test ts (pair.key, pair.value)) (Ok passed) → passed ≡ false
      → Looks {A = Option ℕ} tells trees commit refs faults old mid (λ ts. counted (test ts) (entries (tree_at ts tree))) (Ok None)
  counting-fails old now mid at pair count passed c is pass fails = looks-done old mid (λ ts. counted (test ts) (entries (tree_at ts tree))) None (steady-then old now mid c.steady (steady-after now mid (λ ts. test ts (pair.key, pair.value)) passed pass))
      (λ told there. sym (c.so_far told there
      ∙ ap (λ o. behind count (counted (test (trees old)) (from_pair o (tree_at (trees old) tree)))) is
      ∙ not_one (test (trees old)) (pair.key, pair.value) (those_that (above pair.key) (tree_at (trees old) tree)) count (sym (known old now mid (λ ts. test ts (pair.key, pair.value)) passed c.steady pass told there) ∙ fails)))

  pub counting-ends : (old now : View) (at : Option Pair) (count : ℕ) → Counting tells trees commit refs faults tree test old now at count → at ≡ None
      → Looks {A = Option ℕ} tells trees commit refs faults old now (λ ts. counted (test ts) (entries (tree_at ts tree))) (Ok (Some count))
  counting-ends old now at count c is = looks-done old now (λ ts. counted (test ts) (entries (tree_at ts tree))) (Some count) c.steady
      (λ told there. let same : count ≡ count + 0 = omega arith in ap Some same ∙ sym (c.so_far told there ∙ ap (λ o. behind count (counted (test (trees old)) (from_pair o (tree_at (trees old) tree)))) is))

-- ---- counting alone
all_true : (es : List Entry) → list_all (λ e. true) es ≡ true
all_true [] = refl
all_true (e ∷ es) = all_true es

pub counted_alone : (t : Tree) → counted (λ e. true) (entries t) ≡ Some (len t)
counted_alone t = ap (λ b. cond b (Some (length (entries t))) None) (all_true (entries t)) ∙ ap Some (sym (len-entries t))
