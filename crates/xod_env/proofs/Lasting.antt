-- The body of the log file that a log is on is there, and so is that of a last one.
use Rattle.std.proofs.Common.{◌≡◌, ℕ, ◌&&◌, Bool, true, is_some, sym, ◌∙◌, ap, subst, arith}
use mathlib.Core.Logic.{◌≢◌}
use Rattle.std.specs.FinMap.{contains_key, get}
use Rattle.std.proofs.lemmas.Bool.{and_parts, eqb-true}
use Rattle.xod_log.specs.declared.log.Log.{Log}
use Rattle.xod_log.specs.Calls.{Rolls}
use Rattle.xod_log.specs.Ends.{body_of}
use Rattle.xod_log.specs.Standing.{Stands, body_file, ends_file, has_pair, is_last, last_file}
use Rattle.xod_log.proofs.CallerLemmas.{files_apart}
use Rattle.xod_volume.specs.Files.{Content, Files, bytes_of}
use Rattle.xod_env.proofs.Nexting.{roll-pairs}

-- a log that is on the same file
pub moved_last : (log now : Log) (files : Files) → now.file ≡ log.file → contains_key files (body_file log) ≡ true → is_last now ≡ true → contains_key files (body_of last_file) ≡ true
moved_last log now files same there last = subst (λ (n : ℕ). contains_key files (body_of n) ≡ true) (sym same ∙ eqb-true now.file last_file last) there

module _ (log : Log) (files after : Files) (images : Files → Type 0) (stands : Stands log files images) where
  own_body : contains_key files (body_file log) ≡ true
  own_body = ap (λ (c : Content). is_some c) stands.has_body

  own_ends : contains_key files (ends_file log) ≡ true
  own_ends = ap (λ (c : Content). is_some c) stands.has_ends

  -- where a log stands
  pub stands_last : is_last log ≡ true → contains_key files (body_of last_file) ≡ true
  stands_last last = subst (λ (n : ℕ). contains_key files (body_of n) ≡ true) (eqb-true log.file last_file last) own_body

  -- where the pair is there as before
  pub pair_body : has_pair after log.file ≡ has_pair files log.file → contains_key after (body_file log) ≡ true
  pair_body same =
      let both : has_pair files log.file ≡ true = ap (λ (b : Bool). b && is_some (get files (ends_file log))) own_body ∙ own_ends in
      (and_parts (is_some (get after (body_file log))) (is_some (get after (ends_file log))) (same ∙ both)).0

  -- behind a seal
  pub seal_body : ((other : ℕ) → other ≢ ends_file log → get after other ≡ get files other) → contains_key after (body_file log) ≡ true
  seal_body others = ap (λ (c : Content). is_some c) (others (body_file log) (files_apart log.file)) ∙ own_body

  -- behind a roll
  pub roll_body : Rolls log (bytes_of files (body_file log)) (bytes_of files (ends_file log)) files after → contains_key after (body_file log) ≡ true
  roll_body rolls = pair_body (roll-pairs log (bytes_of files (body_file log)) (bytes_of files (ends_file log)) files after own_body own_ends rolls log.file (λ e. omega (arith, e)))
