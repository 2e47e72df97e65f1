-- The block of a commit is written behind a call that only reads.
use Rattle.std.proofs.Common.{◌≡◌, ℕ, ◌+◌, List, Some, Result, Err, OnOk, refl, sym, ◌∙◌, ap, subst, inl, arith}
use Rattle.std.specs.FinMap.{contains_key}
use Rattle.xod_log.specs.declared.error.LogError.{LogError}
use Rattle.xod_log.specs.declared.log.Log.{Log}
use Rattle.xod_log.specs.Standing.{body_file}
use Rattle.xod_recover.specs.Images.{Stores}
use Rattle.xod_volume.specs.Crash.{Passes, Rests}
use Rattle.xod_volume.specs.Files.{Files}
use Rattle.xod_env.specs.Blocks.{IsNextBlock, trees_with}
use Rattle.xod_env.specs.Envs.{env_trees, log_file_count, newest_stored}
use Rattle.xod_env.specs.Flushes.{WritesBlock}
use Rattle.xod_env.proofs.Resting.{at_over, left_still, rest_alone, rest_before, steady_over}

-- the number of log files goes with the count
pub counted_is : (result count before now had has : ℕ) → result + had ≡ count + has → now + had ≡ before + has → count ≡ before → result ≡ now
counted_is result count before now had has own files same = omega (arith, own, files, same)

module _ {V A : Type 0} (files : V → Files) (moment : V → ℕ) (may_leave : V → ℕ → Files → Type 0) (log : Log) (count : ℕ) (block : List ℕ) (back : ℕ) (a b : V)
    (same : files b ≡ files a) (rests : Rests (moment a) (moment b) (may_leave a) (may_leave b)) where
  -- what only reads and is refused
  pub writes_nothing : (error : LogError) → WritesBlock {A = A} files moment may_leave log log count count block back a b (Err error)
  writes_nothing error = record {
    at = λ roots commit new_roots new_commit at next. tt;
    at_kept = λ roots commit at err fine. at_over log (files a) (files b) (moment a) (moment b) (may_leave a) (may_leave b) same rests roots commit at;
    count = λ counted. counted ∙ ap log_file_count (sym same);
    body_stays = λ there. ap (λ (f : Files). contains_key f (body_file log)) same ∙ there;
    new_trees = λ roots commit new_roots new_commit at next. tt;
    old_trees = λ roots commit at. ap (λ (f : Files). env_trees log.file f roots) same;
    kept = λ left. subst (may_leave b (moment b)) (sym same) (left_still (moment a) (moment b) (may_leave a) (may_leave b) rests (files a) left);
    crash = λ roots commit at placed steady. rest_alone (moment a) (moment b) (may_leave a) (may_leave b) (Stores (Some (newest_stored log.file (files a) roots commit))) (λ left. inl refl) rests;
    steady = λ roots commit at steady fine. steady_over log (files a) (files b) (moment a) (moment b) (may_leave a) (may_leave b) same rests steady;
  }

  -- and what is written then
  pub writes_then : (after : Log) (counted : ℕ) (c : V) (result : Result A LogError)
      → WritesBlock files moment may_leave log after count counted block back b c result → WritesBlock files moment may_leave log after count counted block back a c result
  writes_then after counted c result w = record {
    at = λ roots commit new_roots new_commit at next.
        w.at roots commit new_roots new_commit
        (at_over log (files a) (files b) (moment a) (moment b) (may_leave a) (may_leave b) same rests roots commit at)
        (subst (λ (f : Files). IsNextBlock log f block back new_roots new_commit) (sym same) next);
    at_kept = λ roots commit at err fine.
        w.at_kept roots commit (at_over log (files a) (files b) (moment a) (moment b) (may_leave a) (may_leave b) same rests roots commit at) err fine;
    count = λ counted. w.count (counted ∙ ap log_file_count (sym same));
    body_stays = λ there. w.body_stays (ap (λ (f : Files). contains_key f (body_file log)) same ∙ there);
    new_trees = λ roots commit new_roots new_commit at next.
        subst (λ (f : Files). OnOk result (env_trees after.file (files c) new_roots ≡ trees_with log f block new_roots)) same
        (w.new_trees roots commit new_roots new_commit (at_over log (files a) (files b) (moment a) (moment b) (may_leave a) (may_leave b) same rests roots commit at)
        (subst (λ (f : Files). IsNextBlock log f block back new_roots new_commit) (sym same) next));
    old_trees = λ roots commit at.
        w.old_trees roots commit (at_over log (files a) (files b) (moment a) (moment b) (may_leave a) (may_leave b) same rests roots commit at)
        ∙ ap (λ (f : Files). env_trees log.file f roots) same;
    kept = λ left. w.kept (subst (may_leave b (moment b)) (sym same) (left_still (moment a) (moment b) (may_leave a) (may_leave b) rests (files a) left));
    crash = λ roots commit at placed steady.
        subst (λ (f : Files). Passes (moment a) (moment c) (may_leave a) (may_leave c) (Stores (Some (newest_stored log.file f roots commit)))) same
        (rest_before (moment a) (moment b) (moment c) (may_leave a) (may_leave b) (may_leave c) (Stores (Some (newest_stored log.file (files b) roots commit))) rests
        (w.crash roots commit (at_over log (files a) (files b) (moment a) (moment b) (may_leave a) (may_leave b) same rests roots commit at) placed
        (steady_over log (files a) (files b) (moment a) (moment b) (may_leave a) (may_leave b) same rests steady)));
    steady = λ roots commit at steady fine.
        w.steady roots commit (at_over log (files a) (files b) (moment a) (moment b) (may_leave a) (may_leave b) same rests roots commit at)
        (steady_over log (files a) (files b) (moment a) (moment b) (may_leave a) (may_leave b) same rests steady) fine;
  }
