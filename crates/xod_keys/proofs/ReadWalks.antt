-- What a reader that walks over a range of a tree has read so far, and what the walk is still to give.
use base.Fml.{GName}
use Rattle.std.proofs.Common.{◌≡◌, ℕ, Bool, IsTrue, List, [], ◌∷◌, ◌++◌, drop, Option, Some, None, Result, Ok, Err, IfOk, IfSome, OnOk, option_map}
use Rattle.std.proofs.Common.{refl, sym, ap, subst, ◌∙◌, arith}
use Rattle.std.specs.Prelude.{slice_get}
use Rattle.std.proofs.lemmas.List.{append_assoc}
use Rattle.xod_base.specs.declared.causes.ReadError.{ReadError}
use Rattle.xod_base.specs.declared.pair.Pair.{Pair}
use Rattle.xod_base.specs.Views.{Entry, Tree, Trees, Answers, CountsFaults, KeepsView, pair_of}
use Rattle.xod_range.specs.declared.range.Range.{Range}
use Rattle.xod_range.specs.Ranges.{coming, in_range}
use Rattle.xod_range.proofs.CallerLemmas.{one_to_come}
use Rattle.xod_range.specs.Reads.{Reads}
use Rattle.xod_keys.specs.Readings.{all_read, read_behind}
use Rattle.xod_keys.proofs.KeysRead.{reads-broken}

-- what was read, before what is still to be read
abbrev pub reads_on : {A : Type 0} → List A → Option (List A) → Option (List A)
reads_on so_far more = option_map (λ list. so_far ++ list) more

-- What a walk over a view has read so far: the view is as it was, and what there is to read in the range is what was read,
-- and then what the walk is still to give.
pub record Walked {A View : Type 0} (tells : View → Bool) (trees : View → Trees) (commit : View → ℕ) (refs : View → List GName) (faults : View → ℕ)
    (tree : ℕ) (read : Entry → Option A) (low high : List ℕ) (old now : View) (range : Range) (so_far : List A) : Type 0 where
  pub keeps : KeepsView tells trees commit refs faults old now
  pub steady : faults now ≡ faults old
  pub same_tree : range.tree ≡ tree
  pub reads : IsTrue (tells old) → IfSome (trees old tree) (λ map. all_read read (in_range low high map) ≡ reads_on so_far (all_read read (coming range map)))

-- one item more was read
read_more : {A : Type 0} (so_far : List A) (item : A) (more : Option (List A))
    → reads_on so_far (read_behind (Some item) more) ≡ reads_on (so_far ++ item ∷ []) more
read_more so_far item None = refl
read_more so_far item (Some list) = ap (λ (l : List _). Some l) (sym (append_assoc so_far (item ∷ []) list))

-- a fact about a tree of three such facts, where the tree is there
all_three : {P Q R S : Tree → Type 0} (o : Option Tree) → IfSome o P → IfSome o Q → IfSome o R → ((map : Tree) → P map → Q map → R map → S map) → IfSome o S
all_three None p q r go = tt
all_three (Some map) p q r go = go map p q r

module _ {View : Type 0} {tells : View → Bool} {trees : View → Trees} {commit : View → ℕ} {refs : View → List GName} {faults : View → ℕ} where
  keeps_on : {old now new : View} → KeepsView tells trees commit refs faults old now → KeepsView tells trees commit refs faults now new
      → KeepsView tells trees commit refs faults old new
  keeps_on first second = record {
    tells_same = second.tells_same ∙ first.tells_same;
    trees_same = second.trees_same ∙ first.trees_same;
    commit_same = second.commit_same ∙ first.commit_same;
    refs_same = second.refs_same ∙ first.refs_same;
    never_falls = let a = first.never_falls in let b = second.never_falls in omega (arith, a, b);
  }

  -- nothing was read so far
  pub walk-begins : {A : Type 0} {tree : ℕ} {read : Entry → Option A} {low high : List ℕ} {view : View} {range : Range} {none : List A}
      → ((map : Tree) → coming range map ≡ in_range low high map) → range.tree ≡ tree → none ≡ []
      → Walked tells trees commit refs faults tree read low high view view range none
  walk-begins {A} {tree} {read} {low} {high} {view} {range} {none} begins same_tree empty = record {
    keeps = record { tells_same = refl; trees_same = refl; commit_same = refl; refs_same = refl; never_falls = omega arith };
    steady = refl;
    same_tree = same_tree;
    reads = λ told. all_to_come (trees view tree);
  }
    where
      same : (more : Option (List A)) → more ≡ reads_on [] more
      same None = refl
      same (Some list) = refl

      all_to_come : (o : Option Tree) → IfSome o (λ map. all_read read (in_range low high map) ≡ reads_on none (all_read read (coming range map)))
      all_to_come None = tt
      all_to_come (Some map) =
          ap (all_read read) (sym (begins map)) ∙ same (all_read read (coming range map)) ∙ ap (λ (l : List A). reads_on l (all_read read (coming range map))) (sym empty)

  -- what the walk's tree is to a step is what it was at the start
  at_start : {A : Type 0} {tree : ℕ} {read : Entry → Option A} {low high : List ℕ} {old now : View} {range : Range} {so_far : List A}
      → Walked tells trees commit refs faults tree read low high old now range so_far
      → (P : Tree → Type 0) → (IsTrue (tells now) → IfSome (trees now range.tree) P) → IsTrue (tells old) → IfSome (trees old tree) P
  at_start {A} {tree} {read} {low} {high} {old} {now} {range} walked P said told =
      subst (λ (o : Option Tree). IfSome o P) (ap (λ (ts : Trees). ts range.tree) walked.keeps.trees_same ∙ ap (trees old) walked.same_tree)
      (said (subst IsTrue (sym walked.keeps.tells_same) told))

  -- A step gave an entry that can be read: by what was read so far, and what the step's clauses say.
  pub walk-goes_on : {A : Type 0} {tree : ℕ} {read : Entry → Option A} {low high : List ℕ} {old now new : View} {range after : Range}
      {so_far longer : List A} {result : Result (Option Pair) ReadError} {pair : Pair} {item : A}
      → Walked tells trees commit refs faults tree read low high old now range so_far
      → Answers (tells now) (trees now range.tree) (λ map. option_map pair_of (slice_get (coming range map) 0)) result
      → (IsTrue (tells now) → IfSome (trees now range.tree) (λ map. OnOk result (coming after map ≡ drop 1 (coming range map))))
      → after.tree ≡ range.tree
      → CountsFaults (faults now) (faults new) result
      → KeepsView tells trees commit refs faults now new
      → result ≡ Ok (Some pair) → read (pair.key, pair.value) ≡ Some item → longer ≡ so_far ++ item ∷ []
      → Walked tells trees commit refs faults tree read low high old new after longer
  walk-goes_on {A} {tree} {read} {low} {high} {old} {now} {new} {range} {after} {so_far} {longer} {result} {pair} {item}
      walked answers goes_on same_tree counts keeps is readable pushed = record {
        keeps = keeps_on walked.keeps keeps;
        steady = subst (λ (r : Result (Option Pair) ReadError). OnOk r (faults new ≡ faults now)) is counts.ok ∙ walked.steady;
        same_tree = same_tree ∙ walked.same_tree;
        reads = λ told. all_three (trees old tree) (walked.reads told) (at_start walked (λ map. IfOk result (λ found. found ≡ first map)) answers.value told)
            (at_start walked (λ map. OnOk result (coming after map ≡ drop 1 (coming range map))) goes_on told) one_more;
      }
    where
      first : Tree → Option Pair
      first map = option_map pair_of (slice_get (coming range map) 0)

      one_more : (map : Tree) → all_read read (in_range low high map) ≡ reads_on so_far (all_read read (coming range map))
          → IfOk result (λ found. found ≡ first map)
          → OnOk result (coming after map ≡ drop 1 (coming range map))
          → all_read read (in_range low high map) ≡ reads_on longer (all_read read (coming after map))
      one_more map so found rest =
          let given : Some pair ≡ first map =
          subst (λ (r : Result (Option Pair) ReadError). IfOk r (λ found. found ≡ first map)) is found in
          let others : coming after map ≡ drop 1 (coming range map) =
          subst (λ (r : Result (Option Pair) ReadError). OnOk r (coming after map ≡ drop 1 (coming range map))) is rest in
          so ∙ ap (λ (l : List Entry). reads_on so_far (all_read read l)) (one_to_come (Some pair) pair (coming range map) (coming after map) given refl others)
          ∙ ap (λ (o : Option A). reads_on so_far (read_behind o (all_read read (coming after map)))) readable
          ∙ read_more so_far item (all_read read (coming after map))
          ∙ ap (λ (l : List A). reads_on l (all_read read (coming after map))) (sym pushed)

  -- a step gave an entry that can't be read
  pub walk-broken : {A : Type 0} {tree : ℕ} {read : Entry → Option A} {low high : List ℕ} {old now : View} {range : Range} {so_far : List A}
      {result : Result (Option Pair) ReadError} {pair : Pair} (error : ReadError)
      → Walked tells trees commit refs faults tree read low high old now range so_far
      → Answers (tells now) (trees now range.tree) (λ map. option_map pair_of (slice_get (coming range map) 0)) result
      → result ≡ Ok (Some pair) → read (pair.key, pair.value) ≡ None
      → Reads (tells old) (trees old tree) (λ map. all_read read (in_range low high map)) (Err error)
  walk-broken {A} {tree} {read} {low} {high} {old} {now} {range} {so_far} {result} {pair} error walked answers is unreadable = reads-broken error
      (λ told. all_three (trees old tree) (walked.reads told) (walked.reads told) (at_start walked (λ map. IfOk result (λ found. found ≡ first map)) answers.value told) broken)
    where
      first : Tree → Option Pair
      first map = option_map pair_of (slice_get (coming range map) 0)

      broken : (map : Tree) → all_read read (in_range low high map) ≡ reads_on so_far (all_read read (coming range map))
          → all_read read (in_range low high map) ≡ reads_on so_far (all_read read (coming range map))
          → IfOk result (λ found. found ≡ first map) → all_read read (in_range low high map) ≡ None
      broken map so _ found =
          so ∙ ap (λ (l : List Entry). reads_on so_far (all_read read l))
          (one_to_come (Some pair) pair (coming range map) (drop 1 (coming range map)) (subst (λ (r : Result (Option Pair) ReadError). IfOk r (λ f. f ≡ first map)) is found) refl refl)
          ∙ ap (λ (o : Option A). reads_on so_far (read_behind o (all_read read (drop 1 (coming range map))))) unreadable
