use Rattle.std.proofs.Common.{◌+◌, Bool, IsTrue, Some, refl, sym, subst, ◌∙◌, ap, inl}
use Rattle.std.specs.FinMap.{contains_key}
use Rattle.xod_log.specs.Ends.{body_of}
use Rattle.xod_log.specs.Standing.{last_file}
use Rattle.xod_log.proofs.CallerLemmas.{rested}
use Rattle.xod_overlay.specs.Marks.{touched}
use Rattle.xod_recover.specs.Images.{Stores}
use Rattle.xod_volume.specs.Crash.{Passes}
use Rattle.xod_volume.specs.Files.{Files}
use Rattle.xod_env.specs.Blocks.{IsNextBlock, trees_with}
use Rattle.xod_env.specs.Envs.{log_file_count, newest_stored}
use Rattle.xod_env.proofs.KeyLengths.{keys_fit}
use Rattle.xod_env.proofs.NextBlock.{new_trees, next_block}
use Rattle.xod_env.proofs.Resting.{at_over, rest_alone, rest_before, steady_over}
use Rattle.xod_env.proofs.env.Env.commit_changes.Goals as goal

pub returns-then-next_place-ge-NO_PLACE-clause-crash : goal.returns-then-next_place-ge-NO_PLACE-clause-crash
returns-then-next_place-ge-NO_PLACE-clause-crash g c told steady =
    let was = c.args.self.now in
    rested (g.V.Volume.moment was.volume) (g.V.Volume.may_leave was.volume) (Stores (Some (newest_stored was.log.file (g.V.Volume.files was.volume) was.roots was.commit))) (λ left is. inl refl)

pub invariant_of-self : goal.invariant_of-self
invariant_of-self g c =
    let was = c.args.self.now in
    let mid = c.build_next.new.volume in
    let keeps = c.build_next.ensures.keeps in
    record {
      opened = λ whole told1.
          let told : IsTrue (g.V.Volume.tells was.volume) = rw keeps.tells_same at told1 in
          at_over was.log (g.V.Volume.files was.volume) (g.V.Volume.files mid)
          (g.V.Volume.moment was.volume) (g.V.Volume.moment mid) (g.V.Volume.may_leave was.volume) (g.V.Volume.may_leave mid)
          (keeps.same told) (keeps.rests told) was.roots was.commit (was.opened whole told);
      counted = λ told1.
          let told : IsTrue (g.V.Volume.tells was.volume) = rw keeps.tells_same at told1 in
          was.counted told ∙ ap log_file_count (sym (keeps.same told));
      placed = was.placed;
      last = λ told1 is.
          let told : IsTrue (g.V.Volume.tells was.volume) = rw keeps.tells_same at told1 in
          ap (λ (f : Files). contains_key f (body_of last_file)) (keeps.same told) ∙ was.last told is;
    }

pub returns-in_err-built-clause-crash : goal.returns-in_err-built-clause-crash
returns-in_err-built-clause-crash g c told steady =
    let was = c.args.self.now in
    let mid = c.build_next.new.volume in
    rest_alone (g.V.Volume.moment was.volume) (g.V.Volume.moment mid) (g.V.Volume.may_leave was.volume) (g.V.Volume.may_leave mid)
    (Stores (Some (newest_stored was.log.file (g.V.Volume.files was.volume) was.roots was.commit))) (λ left. inl refl) (c.build_next.ensures.keeps.rests told)

pub returns-then-not-has_room-clause-crash : goal.returns-then-not-has_room-clause-crash
returns-then-not-has_room-clause-crash g c told steady =
    let was = c.args.self.now in
    let mid = c.build_next.new.volume in
    rest_alone (g.V.Volume.moment was.volume) (g.V.Volume.moment mid) (g.V.Volume.may_leave was.volume) (g.V.Volume.may_leave mid)
    (Stores (Some (newest_stored was.log.file (g.V.Volume.files was.volume) was.roots was.commit))) (λ left. inl refl) (c.build_next.ensures.keeps.rests told)

pub write_commit-requires-clause-next : goal.write_commit-requires-clause-next
write_commit-requires-clause-next g c told1 =
    let was = c.args.self.now in
    let built = c.in_ok-built.built in
    let keeps = c.build_next.ensures.keeps in
    let told : IsTrue (g.V.Volume.tells was.volume) = rw keeps.tells_same at told1 in
    let at = (was.opened c.requires.whole told) in
    subst (λ (files : Files). IsNextBlock was.log files built.block built.back built.roots (was.commit + 1)) (sym (keeps.same told))
    (next_block was.log (g.V.Volume.files was.volume) was.roots (was.commit + 1) (touched c.args.changes.now) built (g.V.Volume.tells was.volume) told c.in_ok-built.ensures.built at.maps (c.requires.rows told))

pub returns-in_err-write_commit-clause-crash : goal.returns-in_err-write_commit-clause-crash
returns-in_err-write_commit-clause-crash g c told steady =
    let was = c.args.self.now in
    let mid = c.build_next.new.volume in
    let now = c.write_commit.new.self.volume in
    let keeps = c.build_next.ensures.keeps in
    let told1 : IsTrue (g.V.Volume.tells mid) = subst (λ (t : Bool). IsTrue t) (sym keeps.tells_same) told in
    subst (λ (files : Files). Passes (g.V.Volume.moment was.volume) (g.V.Volume.moment now) (g.V.Volume.may_leave was.volume) (g.V.Volume.may_leave now)
    (Stores (Some (newest_stored was.log.file files was.roots was.commit)))) (keeps.same told)
    (rest_before (g.V.Volume.moment was.volume) (g.V.Volume.moment mid) (g.V.Volume.moment now) (g.V.Volume.may_leave was.volume) (g.V.Volume.may_leave mid) (g.V.Volume.may_leave now)
    (Stores (Some (newest_stored was.log.file (g.V.Volume.files mid) was.roots was.commit))) (keeps.rests told)
    (c.write_commit.ensures.crash told1
    (steady_over was.log (g.V.Volume.files was.volume) (g.V.Volume.files mid) (g.V.Volume.moment was.volume) (g.V.Volume.moment mid) (g.V.Volume.may_leave was.volume) (g.V.Volume.may_leave mid)
    (keeps.same told) (keeps.rests told) steady)))

pub returns-clause-crash : goal.returns-clause-crash
returns-clause-crash g c told steady =
    let was = c.args.self.now in
    let mid = c.build_next.new.volume in
    let now = c.write_commit.new.self.volume in
    let keeps = c.build_next.ensures.keeps in
    let told1 : IsTrue (g.V.Volume.tells mid) = subst (λ (t : Bool). IsTrue t) (sym keeps.tells_same) told in
    subst (λ (files : Files). Passes (g.V.Volume.moment was.volume) (g.V.Volume.moment now) (g.V.Volume.may_leave was.volume) (g.V.Volume.may_leave now)
    (Stores (Some (newest_stored was.log.file files was.roots was.commit)))) (keeps.same told)
    (rest_before (g.V.Volume.moment was.volume) (g.V.Volume.moment mid) (g.V.Volume.moment now) (g.V.Volume.may_leave was.volume) (g.V.Volume.may_leave mid) (g.V.Volume.may_leave now)
    (Stores (Some (newest_stored was.log.file (g.V.Volume.files mid) was.roots was.commit))) (keeps.rests told)
    (c.write_commit.ensures.crash told1
    (steady_over was.log (g.V.Volume.files was.volume) (g.V.Volume.files mid) (g.V.Volume.moment was.volume) (g.V.Volume.moment mid) (g.V.Volume.may_leave was.volume) (g.V.Volume.may_leave mid)
    (keeps.same told) (keeps.rests told) steady)))

pub returns-in_err-write_commit-clause-steady : goal.returns-in_err-write_commit-clause-steady
returns-in_err-write_commit-clause-steady g c told steady fine =
    let was = c.args.self.now in
    let mid = c.build_next.new.volume in
    let keeps = c.build_next.ensures.keeps in
    let told1 : IsTrue (g.V.Volume.tells mid) = subst (λ (t : Bool). IsTrue t) (sym keeps.tells_same) told in
    c.write_commit.ensures.steady told1
    (steady_over was.log (g.V.Volume.files was.volume) (g.V.Volume.files mid) (g.V.Volume.moment was.volume) (g.V.Volume.moment mid) (g.V.Volume.may_leave was.volume) (g.V.Volume.may_leave mid)
    (keeps.same told) (keeps.rests told) steady) fine

pub returns-clause-steady : goal.returns-clause-steady
returns-clause-steady g c told steady fine =
    let was = c.args.self.now in
    let mid = c.build_next.new.volume in
    let keeps = c.build_next.ensures.keeps in
    let told1 : IsTrue (g.V.Volume.tells mid) = subst (λ (t : Bool). IsTrue t) (sym keeps.tells_same) told in
    c.write_commit.ensures.steady told1
    (steady_over was.log (g.V.Volume.files was.volume) (g.V.Volume.files mid) (g.V.Volume.moment was.volume) (g.V.Volume.moment mid) (g.V.Volume.may_leave was.volume) (g.V.Volume.may_leave mid)
    (keeps.same told) (keeps.rests told) steady) fine

pub returns-clause-trees : goal.returns-clause-trees
returns-clause-trees g c told tree =
    let was = c.args.self.now in
    let mid = c.build_next.new.volume in
    let built = c.in_ok-built.built in
    let keeps = c.build_next.ensures.keeps in
    let told1 : IsTrue (g.V.Volume.tells mid) = subst (λ (t : Bool). IsTrue t) (sym keeps.tells_same) told in
    let at = (was.opened c.requires.whole told) in
    ap (λ trees. trees tree) (c.in_ok-write_commit.ensures.trees told1)
    ∙ ap (λ (files : Files). trees_with was.log files built.block built.roots tree) (keeps.same told)
    ∙ new_trees was.log (g.V.Volume.files was.volume) was.roots (was.commit + 1) (touched c.args.changes.now) built (g.V.Volume.tells was.volume) told c.in_ok-built.ensures.built at.maps tree

pub build_next-requires-clause-keys_fit : goal.build_next-requires-clause-keys_fit
build_next-requires-clause-keys_fit g c told =
    let was = c.args.self.now in
    keys_fit was.log was.roots was.commit (g.V.Volume.files was.volume) (g.V.Volume.may_leave was.volume (g.V.Volume.moment was.volume)) (was.opened c.requires.whole told) was.placed
