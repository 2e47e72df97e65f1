use Rattle.std.proofs.Common.{◌≡◌, ◌++◌, ℕ, List, [], ◌∷◌, ◌∙◌, ap}
use Rattle.std.specs.FinMap.{get}
use Rattle.xod_volume.specs.Files.{Files, overwritten}
use Rattle.xod_volume.specs.declared.history.Deed.TheVariants.{WriteAt}
use Rattle.xod_volume.specs.declared.history.Call.{Call}
use Rattle.xod_volume.proofs.Agrees.{with_changed, agrees_done}
use Rattle.xod_volume.proofs.disk.Disk.write_at.Goals as goal

pub invariant_of-self : goal.invariant_of-self
invariant_of-self c = record { agrees = c.if-not-overwrite.ensures ∙ c.args.self.now.agrees }

pub invariant_of-self-2 : goal.invariant_of-self-2
invariant_of-self-2 c =
    let F : Files = c.args.self.now.table in
    let calls : List Call = c.args.self.now.calls.items in
    let call : Call = record { file = c.args.file; deed = WriteAt c.args.at c.args.bytes.now } in
    let adds : c.push_reserved.new.self.items ≡ calls ++ call ∷ [] =
    c.push_reserved.ensures.items
    ∙ ap (λ (v : List ℕ). calls ++ record { file = c.args.file; deed = WriteAt c.args.at v } ∷ []) c.in-Ok.ensures.same in
    record {
      agrees = c.if-not-overwrite.ensures
          ∙ with_changed F c.args.file (λ was. overwritten was c.args.at c.args.bytes.now) (get F c.args.file) c.requires.exists
          ∙ agrees_done _ _ _ _ call c.args.self.now.agrees adds;
    }
