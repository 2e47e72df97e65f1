use Rattle.std.proofs.Common.{◌≡◌, ◌≤◌, ◌+◌, length, MatchBool, is_some, sym, ◌∙◌, ap, subst, Some, None}
use Rattle.std.specs.FinMap.{get, insert}
use Rattle.std.proofs.lemmas.Bool.{false≢true}
use Rattle.xod_volume.specs.Files.{Files, bytes_of, bytes_in, overwritten}
use Rattle.xod_volume.proofs.Tables.{get_entries, entries_put, overwrite_put}
use Rattle.xod_volume.proofs.table.FileTable.overwrite.Goals as goal

pub unreachable-requires : goal.unreachable-requires
unreachable-requires c =
    let there : get c.args.self.now c.args.file ≡ None = ap (λ (m : Files). get m c.args.file) (sym c.self.view_is) ∙ get_entries _ _ ∙ sym c.in-None.ensures.value in
    false≢true (ap is_some (sym there) ∙ c.requires.exists)

pub overwrite-requires : goal.overwrite-requires
overwrite-requires c =
    let there : get c.args.self.now c.args.file ≡ Some c.in-Some.body.now = ap (λ (m : Files). get m c.args.file) (sym c.self.view_is) ∙ get_entries _ _ ∙ sym c.in-Some.ensures.value in
    subst (λ o. c.args.at + length c.args.bytes.now ≤ length (bytes_in o)) there c.requires.within

pub returns : goal.returns
returns c =
    let there : get c.args.self.now c.args.file ≡ Some c.in-Some.body.now = ap (λ (m : Files). get m c.args.file) (sym c.self.view_is) ∙ get_entries _ _ ∙ sym c.in-Some.ensures.value in
    let now = (c.get_mut.follows.holds c.overwrite.new.self).3 (ap is_some (sym c.in-Some.ensures.value)) in
    let is = entries_put _ _ _ _ now.0 ∙ ap (λ (m : Files). insert m c.args.file c.overwrite.new.self) c.self.view_is in
    subst (λ (m : Files). MatchBool c.overwrite.result (m ≡ insert c.args.self.now c.args.file (overwritten (bytes_of c.args.self.now c.args.file) c.args.at c.args.bytes.now)) (m ≡ c.args.self.now)) (sym is)
    (overwrite_put _ _ _ _ _ _ _ there c.overwrite.ensures)
