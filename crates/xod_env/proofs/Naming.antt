-- The names of the types of what is stored.
use Rattle.std.proofs.Common.{◌≡◌, ℕ, List, Option, Some, Result, Ok, sym, ◌∙◌, ap}
use Rattle.std.specs.Prelude.{option_and_then}
use Rattle.xod_audit.specs.Audits.{kinds_of}
use Rattle.xod_base.specs.declared.causes.Place.{Place}
use Rattle.xod_recover.specs.Check.{Newest, check, trees_under}
use Rattle.xod_recover.specs.Stores.{Stored, stored_in, stored_of}
use Rattle.xod_volume.specs.Files.{Files}
use Rattle.xod_env.specs.Opening.{kinds_in}

-- those under the newest root
pub kinds_found : (files : Files) (newest : Newest) (kinds : List (List ℕ)) → check files ≡ Ok newest → kinds_of (trees_under files newest) ≡ Some kinds → kinds_in files ≡ Some kinds
kinds_found files newest kinds decided is = ap (λ (r : Result Newest Place). option_and_then (λ (s : Stored). kinds_of s.trees) (stored_of files r)) decided ∙ is

-- those of the newest commit
pub kinds_stored : (files : Files) (stored : Stored) (kinds : List (List ℕ)) → kinds_in files ≡ Some kinds → stored_in files ≡ Some stored → kinds_of stored.trees ≡ Some kinds
kinds_stored files stored kinds is found = ap (λ (o : Option Stored). option_and_then (λ (s : Stored). kinds_of s.trees) o) (sym found) ∙ is
