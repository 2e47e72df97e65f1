-- The files in memory stay what the record says, over each call.
use Rattle.std.proofs.Common.{◌≡◌, ℕ, List, Some, None, IsSome, refl, sym, ◌∙◌, ap}
use Rattle.std.specs.FinMap.{get, insert}
use Rattle.std.proofs.lemmas.Bool.{false≢true}
use Rattle.xod_volume.specs.Files.{Files, Content, bytes_in, with_file}
use Rattle.xod_volume.specs.declared.history.Call.{Call}
use Rattle.xod_volume.specs.Record.{changed, done, files_now, Adds}
use Rattle.xod_volume.proofs.Tables.{with_own}
use Rattle.xod_volume.proofs.AllFiles.{files_later}

-- a file that is there, changed
pub with_changed : (F : Files) (file : ℕ) (change : List ℕ → List ℕ) (o : Content) → IsSome o → insert F file (change (bytes_in o)) ≡ with_file F file (changed change o)
with_changed F file change None there = absurd (false≢true there)
with_changed F file change (Some bytes) there = refl

module _ (start F : Files) (calls later : List Call) (call : Call) (agrees : F ≡ files_now start calls) where
  pub agrees_same : later ≡ calls → F ≡ files_now start later
  agrees_same is = agrees ∙ ap (files_now start) (sym is)

  pub agrees_done : Adds call calls later → with_file F call.file (done call.deed (get F call.file)) ≡ files_now start later
  agrees_done adds = ap (λ (G : Files). with_file G call.file (done call.deed (get G call.file))) agrees ∙ sym (files_later start calls later call adds)

  -- a call that does nothing to what reads give
  pub agrees_idle : ((o : Content) → done call.deed o ≡ o) → Adds call calls later → F ≡ files_now start later
  agrees_idle idle adds = sym (with_own F call.file (done call.deed (get F call.file)) (sym (idle (get F call.file)))) ∙ agrees_done adds
