use Rattle.std.proofs.Common.{◌≡◌, ◌≤◌, ◌+◌, ◌++◌, List, [], ◌∷◌, ◌∙◌, ap, length, length-append, arith}
use Rattle.std.specs.FinMap.{insert, len}
use Rattle.xod_volume.specs.Files.{Files}
use Rattle.xod_volume.specs.declared.history.Deed.TheVariants.{Create}
use Rattle.xod_volume.specs.declared.history.Call.{Call}
use Rattle.xod_volume.proofs.Tables.{count_put}
use Rattle.xod_volume.proofs.Agrees.{agrees_same, agrees_done}
use Rattle.xod_volume.proofs.disk.Disk.create.Goals as goal

pub invariant_of-self : goal.invariant_of-self
invariant_of-self c = record { agrees = agrees_same _ _ _ _ (record { file = c.args.file; deed = Create }) c.args.self.now.agrees c.in_err-make_room.ensures.items }

pub invariant_of-self-2 : goal.invariant_of-self-2
invariant_of-self-2 c =
    let call : Call = record { file = c.args.file; deed = Create } in
    let adds : c.push_reserved.new.self.items ≡ c.args.self.now.calls.items ++ call ∷ [] =
    c.push_reserved.ensures.items ∙ ap (λ (l : List Call). l ++ call ∷ []) c.in_ok-make_room.ensures.items in
    record {
      agrees = c.in_ok-insert.ensures ∙ ap (insert c.args.self.now.table c.args.file) c.new.ensures
          ∙ agrees_done _ _ _ _ call c.args.self.now.agrees adds;
    }

pub returns-clause-room : goal.returns-clause-room
returns-clause-room c =
    let put : len c.insert.new.self ≡ len (insert c.args.self.now.table c.args.file c.new.result) = ap (λ (F : Files). len F) c.in_ok-insert.ensures in
    let files : len c.insert.new.self ≤ len c.args.self.now.table + 1 = omega (arith, put, count_put c.args.self.now.table c.args.file c.new.result) in
    let calls : List Call = c.make_room.new.calls.items in
    let call : Call = record { file = c.args.file; deed = Create } in
    let used : length c.push_reserved.new.self.items ≡ length calls + 1 = ap (λ (l : List Call). length l) c.push_reserved.ensures.items ∙ length-append calls (call ∷ []) in
    omega (arith, files, used, c.count.ensures.number, c.count.ensures.small, c.in_ok-make_room.ensures.room, c.push_reserved.ensures.capacity, c.saturating_add.ensures)
