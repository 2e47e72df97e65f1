use Rattle.std.proofs.Common.{◌≡◌, take, is_some, sym, ◌∙◌, ap, Some, None}
use Rattle.std.specs.FinMap.{get, insert}
use Rattle.std.proofs.lemmas.Bool.{false≢true}
use Rattle.xod_volume.specs.Files.{Files, bytes_in}
use Rattle.xod_volume.proofs.Tables.{get_entries, entries_put}
use Rattle.xod_volume.proofs.table.FileTable.cut.Goals as goal

pub unreachable-requires : goal.unreachable-requires
unreachable-requires c =
    let there : get c.args.self.now c.args.file ≡ None = ap (λ (m : Files). get m c.args.file) (sym c.self.view_is) ∙ get_entries _ _ ∙ sym c.in-None.ensures.value in
    false≢true (ap is_some (sym there) ∙ c.requires)

pub returns : goal.returns
returns c =
    let there : get c.args.self.now c.args.file ≡ Some c.in-Some.body.now = ap (λ (m : Files). get m c.args.file) (sym c.self.view_is) ∙ get_entries _ _ ∙ sym c.in-Some.ensures.value in
    let now = (c.get_mut.follows.holds c.cut.new.self).3 (ap is_some (sym c.in-Some.ensures.value)) in
    entries_put _ _ _ _ now.0 ∙ ap (λ (m : Files). insert m c.args.file c.cut.new.self) c.self.view_is
    ∙ ap (insert c.args.self.now c.args.file) (c.cut.ensures ∙ ap (λ o. take c.args.length (bytes_in o)) (sym there))
