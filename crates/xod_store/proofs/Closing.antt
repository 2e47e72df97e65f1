-- What a crash leaves of a store that was closed.
use Rattle.std.proofs.Common.{◌≡◌, ◌∙◌, Bool, true, false, Some, refl, ap}
use Rattle.std.specs.Prelude.{Result, Ok, Err, OnOk, IsErrOf, option_and_then, option_map, unwrap_or}
use Rattle.xod_env.specs.declared.error.EnvError.{EnvError}
use Rattle.xod_env.specs.declared.error.EnvError.TheVariants.{Broken}
use Rattle.xod_recover.specs.Images.{AllStore}
use Rattle.xod_journal.specs.Standing.{Newest}
use Rattle.xod_recover.specs.Stores.{Stored, rows_stored, stored_in}
use Rattle.xod_tables.specs.Reading.{rows_of}
use Rattle.xod_volume.specs.Files.{Files}
use Rattle.xod_store.specs.Images.{Holds, commit_left}

-- where it answers Ok, it was not broken, and each image has the newest commit
pub ok-stores : {A : Type 0} (result : Result A EnvError) (was_broken : Bool) (stored : Stored) (images : Files → Type 0) → (was_broken ≡ true → IsErrOf result Broken)
    → (was_broken ≡ false → OnOk result (AllStore (Some stored) images)) → OnOk result ((left : Files) → images left → commit_left left ≡ stored.commit)
ok-stores (Err error) was_broken stored images broken stores = tt
ok-stores (Ok answer) was_broken stored images broken stores =
    elim was_broken as (λ b. was_broken ≡ b → (left : Files) → images left → commit_left left ≡ stored.commit) [
      | true ↦ λ is. let no = broken is in absurd (cc)
      | false ↦ λ is left there. ap (λ o. unwrap_or (option_map (λ (s : Stored). s.commit) o) 0) (stores is left there)
    ] refl

-- where files store the newest commit, they hold its rows
pub ok-holds : {A E : Type 0} (result : Result A E) (files : Files) (stored : Stored) (newest : Newest) → rows_of stored.trees ≡ Some newest.rows → stored.commit ≡ newest.commit → OnOk result (stored_in files ≡ Some stored) → OnOk result (Holds files newest)
ok-holds (Err error) files stored newest tables commit is = tt
ok-holds (Ok answer) files stored newest tables commit is = record {
  rows = ap (option_and_then rows_stored) is ∙ tables;
  commit = ap (option_map (λ (s : Stored). s.commit)) is ∙ ap Some commit;
}
