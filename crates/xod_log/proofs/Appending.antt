-- A block behind the body: the log goes on standing.
use Rattle.std.proofs.Common.{◌≡◌, ◌<◌, ℕ, ◌+◌, List, ◌++◌, length, Result, Err, false, refl, sym, ◌∙◌, ap, subst, arith, length-append}
use mathlib.Core.Logic.{◌≢◌}
use Rattle.std.specs.Prelude.{OnErr, IsErrOf, IsErrAnd}
use Rattle.std.specs.FinMap.{get, insert}
use Rattle.std.proofs.lemmas.Result.{err_from_is_err_and}
use Rattle.xod_volume.specs.declared.volume.VolumeError.{VolumeError}
use Rattle.xod_volume.specs.declared.volume.VolumeError.TheVariants.{Failed, Memory}
use Rattle.xod_volume.specs.Files.{Files, bytes_of}
use Rattle.xod_volume.specs.Crash.{OnFile, OnBytes, Torn, Passes}
use Rattle.xod_volume.proofs.CallerLemmas.{OnFile-same, OnBytes-same, Torn-same}
use Rattle.xod_log.specs.declared.log.Log.{Log}
use Rattle.xod_log.specs.declared.error.LogError.{LogError}
use Rattle.xod_log.specs.declared.error.LogError.TheVariants as log_error
use Rattle.xod_log.specs.Errors.{error_of}
use Rattle.xod_log.specs.Ends.{gate_at}
use Rattle.xod_log.specs.Standing.{AtRest, LeftStanding, Stands, body_file, ends_file}
use Rattle.xod_log.specs.Calls.{EndsWith}
use Rattle.xod_log.proofs.Runs.{rested}
use Rattle.xod_log.proofs.Changed.{appended_file, other_file}
use Rattle.xod_log.proofs.Claims.{files_apart, same_bytes}
use Rattle.xod_log.proofs.Marking.{on_some, has_bytes}

-- a refusal other than that of the device came of want of memory
pub memory_only : {T : Type 0} (cause : VolumeError) (r : Result T LogError) → IsErrAnd r (λ error. error ≡ error_of cause) → ¬ (IsErrOf r log_error.Device) → cause ≡ Memory
memory_only Memory r h fine = refl
memory_only Failed r h fine = let error = err_from_is_err_and r h in absurd (fine (error.1 ∙ ap (λ e. Err e) error.2))

-- what holds after a refusal
pub on_error : {T X : Type 0} (r : Result T LogError) (error : LogError) → r ≡ Err error → X → OnErr r X
on_error {T = T} {X = X} r error is x = subst (λ (r : Result T LogError). OnErr r X) (sym is) x

-- a refusal that was passed on is not that of the device where the answer is not
pub not_device : {T U : Type 0} (inner : Result T LogError) (outer : Result U LogError) (error : LogError) → inner ≡ Err error → IsErrAnd outer (λ passed. passed ≡ error)
    → ¬ (IsErrOf outer log_error.Device) → ¬ (IsErrOf inner log_error.Device)
not_device inner outer error is passed fine device =
    let out = err_from_is_err_and outer passed in
    let same : error ≡ log_error.Device = cc (sym is ∙ device) in
    fine (out.1 ∙ ap (λ e. Err e) (out.2 ∙ same))

-- where nothing was done
pub nothing_appended : (file at count t : ℕ) (images : ℕ → Files → Type 0) → Passes t t images images (OnFile file (OnBytes (Torn at count)))
nothing_appended file at count t images = rested t images (OnFile file (OnBytes (Torn at count)))
    (λ was i. OnFile-same file (OnBytes (Torn at count)) (OnBytes-same (Torn at count) (Torn-same at count)) was)

-- the log stands where nothing changed
pub stands_still : (log : Log) (F G : Files) (before after : Files → Type 0) → Stands log F before → G ≡ F → ((left : Files) → after left → before left) → Stands log G after
stands_still log F G before after s is fewer = subst (λ (H : Files). Stands log H after) (sym is) (record {
  has_body = s.has_body;
  has_ends = s.has_ends;
  size = s.size;
  opened = s.opened;
  at_rest = s.at_rest;
  each = λ left i. s.each left (fewer left i);
  settled = λ sealed. record { body = λ left i. (s.settled sealed).body left (fewer left i); ends = λ left i. (s.settled sealed).ends left (fewer left i) };
  last = s.last;
})

-- an image of the pair with a torn block behind the body
torn_left : (log : Log) (E : List ℕ) (count : ℕ) (was left : Files) → LeftStanding log E was → OnFile (body_file log) (OnBytes (Torn log.end count)) was left → LeftStanding log E left
torn_left log E count was left stood on =
    let here = on_some (Torn log.end count) (get was (body_file log)) (get left (body_file log)) (bytes_of was (body_file log)) stood.has_body on.here in
    let same : get left (ends_file log) ≡ get was (ends_file log) = on.others (ends_file log) (λ e. files_apart log.file (sym e)) in
    record {
      has_body = (has_bytes left (body_file log) here.0 here.1).0;
      has_ends = (has_bytes left (ends_file log) (bytes_of was (ends_file log)) (same ∙ stood.has_ends)).0;
      at_rest = subst (λ (l : List ℕ). AtRest log.marks E l) (sym (same_bytes left was (ends_file log) same)) stood.at_rest;
    }

-- the log stands with the block
pub appended_stands : (log : Log) (F G : Files) (before after : Files → Type 0) (block : List ℕ) (end back : ℕ) → Stands log F before
    → G ≡ insert F (body_file log) (bytes_of F (body_file log) ++ block) → end ≡ log.end + length block
    → ((left : Files) → after left → (was : Files) × before was × OnFile (body_file log) (OnBytes (Torn log.end (length block))) was left)
    → Stands (record log { end = end; back = back; is_sealed = false }) G after
appended_stands log F G before after block end back s is long from =
    let B = bytes_of F (body_file log) in
    let E = bytes_of F (ends_file log) in
    let body = has_bytes G (body_file log) (B ++ block) (appended_file F G (body_file log) block B s.has_body is) in
    let same : get G (ends_file log) ≡ get F (ends_file log) = other_file F G (body_file log) (ends_file log) (B ++ block) (λ e. files_apart log.file (sym e)) is in
    let ends = has_bytes G (ends_file log) E (same ∙ s.has_ends) in
    record {
      has_body = body.0;
      has_ends = ends.0;
      size = ap length body.1 ∙ omega (arith, length-append B block, s.size, long);
      opened = subst (λ (l : List ℕ). (mark : ℕ) → mark < log.marks → gate_at l mark ≢ 0) (sym ends.1) s.opened;
      at_rest = subst (λ (l : List ℕ). AtRest log.marks l l) (sym ends.1) s.at_rest;
      each = λ left i.
          let came = from left i in
          let stood = torn_left log E (length block) came.0 left (s.each came.0 came.1) came.2 in
          record {
            has_body = stood.has_body;
            has_ends = stood.has_ends;
            at_rest = subst (λ (l : List ℕ). AtRest log.marks l (bytes_of left (ends_file log))) (sym ends.1) stood.at_rest;
          };
      settled = λ sealed. cc;
      last = λ sealed. cc;
    }

-- the block stands whole where it was put
pub block_ends : (log : Log) (F G : Files) (before : Files → Type 0) (block : List ℕ) → Stands log F before → G ≡ insert F (body_file log) (bytes_of F (body_file log) ++ block)
    → EndsWith G (record { file = log.file; at = log.end }) block
block_ends log F G before block s is = record { front = bytes_of F (body_file log); there = appended_file F G (body_file log) block (bytes_of F (body_file log)) s.has_body is; at = s.size }
