-- What a volume may leave that no call has touched, and that what a choice of crash gives may be left.
use Rattle.std.proofs.Common.{◌≡◌, ℕ, List, [], take, reverse, sym, ap, subst}
use Rattle.std.specs.FinMap.{get}
use Rattle.xod_volume.specs.Files.{Files}
use Rattle.xod_volume.specs.declared.history.Call.{Call}
use Rattle.xod_volume.specs.declared.fate.Crash.{Crash}
use Rattle.xod_volume.specs.Record.{Leaves, on_file, files_now, image_at, crashed_at}
use Rattle.xod_volume.proofs.Tables.{same_files}
use Rattle.xod_volume.proofs.OneFile.{crashed_left}

-- before the first call reads give the files at first
pub at_first : (start : Files) (calls : List Call) → calls ≡ [] → files_now start calls ≡ start
unfolding files_now
at_first start calls none = ap (files_now start) none

-- and a crash leaves them alone
pub only_start : (start left : Files) (calls : List Call) → calls ≡ [] → image_at start calls 0 left → left ≡ start
unfolding image_at
only_start start left calls none image = same_files left start (subst (λ (l : List Call). image_at start l 0 left) none image)

pub crashed_image : (choice : Crash) (start files : Files) (calls : List Call) (moment : ℕ) → ((file : ℕ) → get files file ≡ crashed_at choice start calls moment file)
    → image_at start calls moment files
unfolding image_at
crashed_image choice start files calls moment is file =
    subst (Leaves (get start file) (on_file file (reverse (take moment calls)))) (sym (is file)) (crashed_left choice (get start file) (on_file file (reverse (take moment calls))))
