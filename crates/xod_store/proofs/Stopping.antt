-- What a stop leaves of what a store has of its count, where its transaction was taken back.
use Rattle.std.proofs.Common.{◌≡◌, ℕ, Bool, List, sym}
use mathlib.Core.Path.{transport}
use Rattle.xod_env.specs.EnvCalls.{KeepsNewest}
use Rattle.xod_journal.specs.declared.journal.JournalEntry.{JournalEntry}
use Rattle.xod_log.specs.declared.log.Log.{Log}
use Rattle.xod_root.specs.Roots.{Roots}
use Rattle.xod_store.specs.Parts.{IsAccounted}
use Rattle.xod_store.specs.Views.{is_spent}

-- the same log, the same commit, and broken as it was
pub accounted-there : {roots roots2 : Roots} {commit commit2 count count2 : ℕ} {log log2 : Log} {was_broken is_broken : Bool} {journal : List JournalEntry} {made faults : ℕ}
    → KeepsNewest roots roots2 commit commit2 count count2 → log2 ≡ log → is_broken ≡ was_broken
    → IsAccounted journal made faults was_broken (is_spent log commit) → IsAccounted journal made faults is_broken (is_spent log2 commit2)
accounted-there {journal = journal} {made = made} {faults = faults} newest same broken old =
    transport (λ i. IsAccounted journal made faults (sym broken i) (is_spent (sym same i) (sym newest.commit i))) old
