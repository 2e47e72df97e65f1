-- What the calls of a volume leave of its files.
use Rattle.std.proofs.Common.{◌≡◌, ℕ, List, ◌++◌, Some, ◌∙◌, ap}
use mathlib.Core.Logic.{◌≢◌}
use Rattle.std.specs.FinMap.{get, insert}
use Rattle.xod_volume.specs.Files.{Files, Content, bytes_in, bytes_of, overwritten}
use Rattle.xod_volume.proofs.CallerLemmas.{get_same, get_other}

pub written_file : (F G : Files) (file at : ℕ) (bytes old : List ℕ) → get F file ≡ Some old → G ≡ insert F file (overwritten (bytes_of F file) at bytes) → get G file ≡ Some (overwritten old at bytes)
written_file F G file at bytes old was is = ap (λ (H : Files). get H file) is ∙ get_same F file (Some (overwritten (bytes_of F file) at bytes)) ∙ ap (λ (c : Content). Some (overwritten (bytes_in c) at bytes)) was

pub appended_file : (F G : Files) (file : ℕ) (bytes old : List ℕ) → get F file ≡ Some old → G ≡ insert F file (bytes_of F file ++ bytes) → get G file ≡ Some (old ++ bytes)
appended_file F G file bytes old was is = ap (λ (H : Files). get H file) is ∙ get_same F file (Some (bytes_of F file ++ bytes)) ∙ ap (λ (c : Content). Some (bytes_in c ++ bytes)) was

pub other_file : (F G : Files) (file other : ℕ) (bytes : List ℕ) → other ≢ file → G ≡ insert F file bytes → get G other ≡ get F other
other_file F G file other bytes apart is = ap (λ (H : Files). get H other) is ∙ get_other F file other (Some bytes) apart
