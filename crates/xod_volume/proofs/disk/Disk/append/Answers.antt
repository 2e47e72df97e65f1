use Rattle.std.proofs.Common.{◌≡◌, ◌+◌, ◌++◌, ℕ, List, [], ◌∷◌, ◌∙◌, ap, length, length-append, arith}
use Rattle.std.specs.FinMap.{get, len}
use Rattle.xod_volume.specs.Files.{Files}
use Rattle.xod_volume.specs.declared.history.Deed.TheVariants.{Append}
use Rattle.xod_volume.specs.declared.history.Call.{Call}
use Rattle.xod_volume.proofs.Tables.{count_there}
use Rattle.xod_volume.proofs.Agrees.{with_changed, agrees_same, agrees_done}
use Rattle.xod_volume.proofs.disk.Disk.append.Goals as goal

pub invariant_of-self : goal.invariant_of-self
invariant_of-self c = record { agrees = agrees_same _ _ _ _ (record { file = c.args.file; deed = Append c.args.bytes.now }) c.args.self.now.agrees c.in_err-make_room.ensures.items }

pub invariant_of-self-2 : goal.invariant_of-self-2
invariant_of-self-2 c =
    let F : Files = c.args.self.now.table in
    let calls : List Call = c.args.self.now.calls.items in
    let call : Call = record { file = c.args.file; deed = Append c.args.bytes.now } in
    let kept : c.from_vec-kept.result ≡ c.args.bytes.now = c.from_vec-kept.ensures ∙ c.in_ok-from_slice.ensures.items in
    let adds : c.push_reserved.new.self.items ≡ calls ++ call ∷ [] =
    c.push_reserved.ensures.items
    ∙ ap (λ (l : List Call). l ++ record { file = c.args.file; deed = Append c.from_vec-kept.result } ∷ []) c.in_ok-make_room.ensures.items
    ∙ ap (λ (v : List ℕ). calls ++ record { file = c.args.file; deed = Append v } ∷ []) kept in
    record {
      agrees = c.in_ok-append.ensures
          ∙ with_changed F c.args.file (λ was. was ++ c.args.bytes.now) (get F c.args.file) c.requires
          ∙ agrees_done _ _ _ _ call c.args.self.now.agrees adds;
    }

pub returns-clause-room : goal.returns-clause-room
returns-clause-room c =
    let files : len c.append.new.self ≡ len c.args.self.now.table = ap (λ (F : Files). len F) c.in_ok-append.ensures ∙ count_there c.args.self.now.table c.args.file _ c.requires in
    let calls : List Call = c.make_room.new.calls.items in
    let call : Call = record { file = c.args.file; deed = Append c.from_vec-kept.result } in
    let used : length c.push_reserved.new.self.items ≡ length calls + 1 = ap (λ (l : List Call). length l) c.push_reserved.ensures.items ∙ length-append calls (call ∷ []) in
    omega (arith, files, used, c.count.ensures.number, c.count.ensures.small, c.in_ok-make_room.ensures.room, c.push_reserved.ensures.capacity)
