-- Look-ups one after the other.
use base.Fml.{GName}
use Rattle.std.proofs.Common.{◌≡◌, ℕ, zero, suc, ◌≤◌, Bool, true, false, ◌&&◌, List, Option, Some, None, Ok, Err, refl, sym, ap, subst, ◌∙◌, true≢false, arith}
use Rattle.std.specs.Prelude.{IsTrue, Result, IfOk, IfSome, OnOk, is_ok, is_some}
use Rattle.std.specs.Option.{unwrap_or}
use Rattle.std.specs.FinMap.{empty}
use Rattle.xod_base.specs.declared.causes.Place.{Place}
use Rattle.xod_base.specs.declared.causes.ReadError.{ReadError}
use Rattle.xod_base.specs.declared.causes.ReadError.TheVariants.{Device, Damaged, Memory}
use Rattle.xod_base.specs.Causes.{Rose}
use Rattle.xod_base.specs.Views.{Tree, Trees, Answers, CountsFaults, KeepsView}
use Rattle.xod_tables.specs.Reading.{tree_at}
use Rattle.xod_tables.specs.declared.trees.TheConstants.{NAMES, NUMBERS, NEXT, ENTITIES, PROPERTIES, INDEX, LINKS, BACK}
use Rattle.xod_audit.specs.Looks.{Looks}
use Rattle.xod_audit.specs.Tests.{are_there, holds}

-- ---- each of the eight trees is there
eight_parts : (a b c d e f g h : Bool) → (a && b && c && d && e && f && g && h) ≡ true → (a ≡ true) × (b ≡ true) × (c ≡ true) × (d ≡ true) × (e ≡ true) × (f ≡ true) × (g ≡ true) × (h ≡ true)
eight_parts true true true true true true true h all = (refl, refl, refl, refl, refl, refl, refl, all)
eight_parts false b c d e f g h all = absurd (true≢false (sym all))
eight_parts true false c d e f g h all = absurd (true≢false (sym all))
eight_parts true true false d e f g h all = absurd (true≢false (sym all))
eight_parts true true true false e f g h all = absurd (true≢false (sym all))
eight_parts true true true true false f g h all = absurd (true≢false (sym all))
eight_parts true true true true true false g h all = absurd (true≢false (sym all))
eight_parts true true true true true true false h all = absurd (true≢false (sym all))

parts_of : (trees : Trees) → are_there trees ≡ true → (is_some (trees NAMES) ≡ true) × (is_some (trees NUMBERS) ≡ true) × (is_some (trees NEXT) ≡ true) × (is_some (trees ENTITIES) ≡ true)
    × (is_some (trees PROPERTIES) ≡ true) × (is_some (trees INDEX) ≡ true) × (is_some (trees LINKS) ≡ true) × (is_some (trees BACK) ≡ true)
parts_of trees h = eight_parts (is_some (trees NAMES)) (is_some (trees NUMBERS)) (is_some (trees NEXT)) (is_some (trees ENTITIES)) (is_some (trees PROPERTIES)) (is_some (trees INDEX)) (is_some (trees LINKS)) (is_some (trees BACK)) h

one_there : (trees : Trees) (n : ℕ) → 1 ≤ n → n ≤ 8 → are_there trees ≡ true → is_some (trees n) ≡ true
one_there trees zero low high h = absurd (omega (arith, low))
one_there trees (suc zero) low high h = (parts_of trees h).0
one_there trees (suc (suc zero)) low high h = (parts_of trees h).1
one_there trees (suc (suc (suc zero))) low high h = (parts_of trees h).2
one_there trees (suc (suc (suc (suc zero)))) low high h = (parts_of trees h).3
one_there trees (suc (suc (suc (suc (suc zero))))) low high h = (parts_of trees h).4
one_there trees (suc (suc (suc (suc (suc (suc zero)))))) low high h = (parts_of trees h).5
one_there trees (suc (suc (suc (suc (suc (suc (suc zero))))))) low high h = (parts_of trees h).6
one_there trees (suc (suc (suc (suc (suc (suc (suc (suc zero)))))))) low high h = (parts_of trees h).7
one_there trees (suc (suc (suc (suc (suc (suc (suc (suc (suc n))))))))) low high h = absurd (omega (arith, high))

not_all : (trees : Trees) (n : ℕ) → 1 ≤ n → n ≤ 8 → trees n ≡ None → are_there trees ≡ false
not_all trees n low high none = at (are_there trees) refl
  where
    at : (b : Bool) → are_there trees ≡ b → b ≡ false
    at true h = absurd (true≢false (sym (one_there trees n low high h) ∙ ap is_some none))
    at false h = refl

not_damaged : (place : Place) → Memory ≡ Damaged place → ⊥
not_damaged place e = cc e

not_device : Memory ≡ Device → ⊥
not_device e = cc e

-- a view is as before
pub record Steady {View : Type 0} (tells : View → Bool) (trees : View → Trees) (commit : View → ℕ) (refs : View → List GName) (faults : View → ℕ) (old new : View) : Type 0 where
  pub keeps : KeepsView tells trees commit refs faults old new
  pub same : faults new ≡ faults old

-- ---- look-ups
module _ {View : Type 0} {tells : View → Bool} {trees : View → Trees} {commit : View → ℕ} {refs : View → List GName} {faults : View → ℕ} where
  -- a call of a view is a look-up, where its tree is one of the eight
  pub view-looks : {A : Type 0} (old new : View) (n : ℕ) (sought : Tree → A) (result : Result A ReadError) → 1 ≤ n → n ≤ 8
      → Answers (tells old) (trees old n) sought result → CountsFaults (faults old) (faults new) result → KeepsView tells trees commit refs faults old new
      → Looks tells trees commit refs faults old new (λ ts. sought (tree_at ts n)) result
  view-looks {A = A} old new n sought result low high answers counts keeps = record {
    value = λ told there. by (trees old n) (answers.value told) (one_there (trees old) n low high there);
    damaged = λ told place is. not_all (trees old) n low high (answers.damaged told place is);
    counts = counts;
    keeps = keeps;
  }
    where
      by : (o : Option Tree) → IfSome o (λ map. IfOk result (λ found. found ≡ sought map)) → is_some o ≡ true → IfOk result (λ found. found ≡ sought (unwrap_or o empty))
      by None h some = absurd (true≢false (sym some))
      by (Some map) h some = h

  pub steady-itself : (old : View) → Steady tells trees commit refs faults old old
  steady-itself old = record { keeps = record { tells_same = refl; trees_same = refl; commit_same = refl; refs_same = refl; never_falls = omega arith }; same = refl }

  pub steady-after : {A : Type 0} (old new : View) (sought : Trees → A) (x : A) → Looks tells trees commit refs faults old new sought (Ok x) → Steady tells trees commit refs faults old new
  steady-after old new sought x l = record { keeps = l.keeps; same = l.counts.ok }

  both-keep : (old mid new : View) → KeepsView tells trees commit refs faults old mid → KeepsView tells trees commit refs faults mid new → KeepsView tells trees commit refs faults old new
  both-keep old mid new a b = record {
    tells_same = b.tells_same ∙ a.tells_same;
    trees_same = b.trees_same ∙ a.trees_same;
    commit_same = b.commit_same ∙ a.commit_same;
    refs_same = b.refs_same ∙ a.refs_same;
    never_falls = let p = a.never_falls in let q = b.never_falls in omega (arith, p, q);
  }

  pub steady-then : (old mid new : View) → Steady tells trees commit refs faults old mid → Steady tells trees commit refs faults mid new → Steady tells trees commit refs faults old new
  steady-then old mid new a b = record { keeps = both-keep old mid new a.keeps b.keeps; same = b.same ∙ a.same }

  -- a look-up behind others: what was sought there is now known of the trees
  pub looks-then : {A B : Type 0} (old mid new : View) (sought : Trees → A) (wanted : Trees → B) (r : Result A ReadError) (result : Result B ReadError)
      → Steady tells trees commit refs faults old mid → Looks tells trees commit refs faults mid new sought r
      → (IsTrue (tells old) → IsTrue (are_there (trees old)) → IfOk r (λ x. x ≡ sought (trees old)) → IfOk result (λ y. y ≡ wanted (trees old)))
      → ((place : Place) → result ≡ Err (Damaged place) → r ≡ Err (Damaged place)) → (result ≡ Err Device → r ≡ Err Device) → (result ≡ Err Memory → faults new ≡ faults mid) → OnOk result (faults new ≡ faults mid)
      → Looks tells trees commit refs faults old new wanted result
  looks-then {A = A} {B = B} old mid new sought wanted r result s l go damaged device memory ok = record {
    value = λ told there. go told there (subst (λ ts. IfOk r (λ x. x ≡ sought ts)) s.keeps.trees_same
        (l.value (subst IsTrue (sym s.keeps.tells_same) told) (subst (λ ts. IsTrue (are_there ts)) (sym s.keeps.trees_same) there)));
    damaged = λ told place is. subst (λ ts. are_there ts ≡ false) s.keeps.trees_same (l.damaged (subst IsTrue (sym s.keeps.tells_same) told) place (damaged place is));
    counts = record {
      device = λ is. subst (λ n. Rose n (faults new)) s.same (l.counts.device (device is));
      memory = λ is. memory is ∙ s.same;
      ok = by result ok;
    };
    keeps = both-keep old mid new s.keeps l.keeps;
  }
    where
      by : (r : Result B ReadError) → OnOk r (faults new ≡ faults mid) → OnOk r (faults new ≡ faults old)
      by (Ok x) h = h ∙ s.same
      by (Err e) h = h

  -- the same answer, sought otherwise
  pub looks-same : {A : Type 0} (old mid new : View) (sought wanted : Trees → A) (result : Result A ReadError) → Steady tells trees commit refs faults old mid → Looks tells trees commit refs faults mid new sought result
      → (IsTrue (tells old) → IsTrue (are_there (trees old)) → sought (trees old) ≡ wanted (trees old)) → Looks tells trees commit refs faults old new wanted result
  looks-same {A = A} old mid new sought wanted result s l same = looks-then old mid new sought wanted result result s l (λ told there h. by result h (same told there)) (λ place is. is) (λ is. is) l.counts.memory l.counts.ok
    where
      by : (r : Result A ReadError) → IfOk r (λ x. x ≡ sought (trees old)) → sought (trees old) ≡ wanted (trees old) → IfOk r (λ y. y ≡ wanted (trees old))
      by (Ok x) h e = h ∙ e
      by (Err e) h same = h

  -- a refusal is handed on
  pub looks-refused : {A B : Type 0} (old mid new : View) (sought : Trees → A) (wanted : Trees → B) (e : ReadError) → Steady tells trees commit refs faults old mid → Looks tells trees commit refs faults mid new sought (Err e)
      → Looks tells trees commit refs faults old new wanted (Err e)
  looks-refused {A = A} {B = B} old mid new sought wanted e s l = looks-then old mid new sought wanted (Err e) (Err e) s l (λ told there h. tt) (λ place is. ap back is) (λ is. ap back is) (λ is. l.counts.memory (ap back is)) tt
    where
      back : Result B ReadError → Result A ReadError
      back (Ok x) = Err e
      back (Err f) = Err f

  -- an answer that follows from what is known
  pub looks-done : {B : Type 0} (old new : View) (wanted : Trees → B) (y : B) → Steady tells trees commit refs faults old new → (IsTrue (tells old) → IsTrue (are_there (trees old)) → y ≡ wanted (trees old))
      → Looks tells trees commit refs faults old new wanted (Ok y)
  looks-done old new wanted y s known = record {
    value = known;
    damaged = λ told place is. absurd (true≢false (ap is_ok is));
    counts = record { device = λ is. absurd (true≢false (ap is_ok is)); memory = λ is. absurd (true≢false (ap is_ok is)); ok = s.same };
    keeps = s.keeps;
  }

  -- memory was refused
  pub looks-memory : {B : Type 0} (old new : View) (wanted : Trees → B) → Steady tells trees commit refs faults old new → Looks tells trees commit refs faults old new wanted (Err Memory)
  looks-memory {B = B} old new wanted s = record {
    value = λ told there. tt;
    damaged = λ told place is. absurd (not_damaged place (ap error is));
    counts = record { device = λ is. absurd (not_device (ap error is)); memory = λ is. s.same; ok = tt };
    keeps = s.keeps;
  }
    where
      error : Result B ReadError → ReadError
      error (Ok x) = Memory
      error (Err e) = e

-- ---- tests of what may be absent
pub none_holds : {A : Type 0} (test : A → Bool) (o : Option A) → o ≡ None → false ≡ holds test o
none_holds test o e = sym (ap (holds test) e)

pub some_holds : {A : Type 0} (test : A → Bool) (o : Option A) (x : A) → o ≡ Some x → test x ≡ holds test o
some_holds test o x e = sym (ap (holds test) e)
