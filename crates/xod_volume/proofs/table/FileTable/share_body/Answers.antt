use Rattle.std.proofs.Common.{◌≡◌, is_some, sym, ◌∙◌, ap, Some}
use Rattle.std.specs.FinMap.{get, insert}
use Rattle.xod_volume.specs.Files.{Files}
use Rattle.xod_volume.proofs.Tables.{get_entries, entries_put, same_put}
use Rattle.xod_volume.proofs.table.FileTable.share_body.Goals as goal

pub returns-in_default-clause-shared : goal.returns-in_default-clause-shared
returns-in_default-clause-shared c = sym (ap (λ (m : Files). get m c.args.file) (sym c.self.view_is) ∙ get_entries _ _ ∙ sym c.in_default.ensures.value)

pub returns-in_err-share-clause-same : goal.returns-in_err-share-clause-same
returns-in_err-share-clause-same c =
    let there : get c.args.self.now c.args.file ≡ Some c.in-Some.body.now = ap (λ (m : Files). get m c.args.file) (sym c.self.view_is) ∙ get_entries _ _ ∙ sym c.in-Some.ensures.value in
    let now = (c.get_mut.follows.holds c.share.new.self).3 (ap is_some (sym c.in-Some.ensures.value)) in
    entries_put _ _ _ _ now.0 ∙ ap (λ (m : Files). insert m c.args.file c.share.new.self) c.self.view_is
    ∙ same_put _ _ _ _ there c.share.ensures.same

pub returns-clause-same : goal.returns-clause-same
returns-clause-same c =
    let there : get c.args.self.now c.args.file ≡ Some c.in-Some.body.now = ap (λ (m : Files). get m c.args.file) (sym c.self.view_is) ∙ get_entries _ _ ∙ sym c.in-Some.ensures.value in
    let now = (c.get_mut.follows.holds c.share.new.self).3 (ap is_some (sym c.in-Some.ensures.value)) in
    entries_put _ _ _ _ now.0 ∙ ap (λ (m : Files). insert m c.args.file c.share.new.self) c.self.view_is
    ∙ same_put _ _ _ _ there c.share.ensures.same

pub returns-clause-shared : goal.returns-clause-shared
returns-clause-shared c =
    let there : get c.args.self.now c.args.file ≡ Some c.in-Some.body.now = ap (λ (m : Files). get m c.args.file) (sym c.self.view_is) ∙ get_entries _ _ ∙ sym c.in-Some.ensures.value in
    ap Some c.in_ok-share.ensures.shared ∙ sym there
