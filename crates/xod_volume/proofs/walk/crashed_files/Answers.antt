use Rattle.std.proofs.Common.{◌≡◌, ◌+◌, ℕ, List, get_or, sym, ◌∙◌, ap, subst, arith, reverse, take}
use Rattle.std.specs.Ordering.{nat_cmp}
use Rattle.std.specs.FinMap.{get, insert, get-empty}
use Rattle.xod_volume.specs.Record.{on_file, crashed}
use Rattle.xod_volume.specs.Files.{Content, Files}
use Rattle.xod_volume.proofs.Walked.{StandsFor, stands_put, stands_skip}
use Rattle.xod_volume.proofs.walk.crashed_files.Goals as goal
use Rattle.xod_volume.proofs.walk.crashed_files.Goals.{in-Some+in_ok-from_bytes+in_ok-insert, in_default}

pub loop-file-init : goal.loop-file-init
loop-file-init c = λ file. ap (λ (m : Files). get m file) c.new-files.ensures ∙ get-empty nat_cmp file

pub loop-file-preserved : goal.loop-file-preserved
loop-file-preserved c =
    let wanted : ℕ → Content = λ file. crashed c.args.choice (get c.args.start.now file) (on_file file (reverse c.args.calls.now)) in
    let numbers : List ℕ = c.deref-file-items.result.now in
    let at : ℕ = c.loop-file.file-index in
    elim c.match-branch-3.branch [
      | in-Some+in_ok-from_bytes+in_ok-insert w ↦
          let is : c.match-branch-3.files ≡ insert c.loop-file.files (get_or numbers at 0) w.in-Some.bytes =
          w.files-is ∙ w.in_ok-insert.ensures ∙ ap (insert c.loop-file.files (get_or numbers at 0)) (w.in_ok-from_bytes.ensures ∙ w.as_slice.ensures) in
          subst (StandsFor wanted (take (at + 1) numbers)) (sym is)
          (stands_put wanted numbers at c.loop-file.files w.in-Some.bytes (omega arith) (sym c.in_ok-bytes.ensures ∙ w.in-Some.is) c.loop-file.invariant)
      | in_default w ↦
          subst (StandsFor wanted (take (at + 1) numbers)) (sym w.files-is)
          (stands_skip wanted numbers at c.loop-file.files (omega arith) (sym c.in_ok-bytes.ensures ∙ w.in_default.is) c.loop-file.invariant)
    ]
