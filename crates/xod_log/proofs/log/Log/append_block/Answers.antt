use Rattle.std.proofs.Common.{rules, IsTrue, ◌+◌, length, sym, ◌∙◌}
use mathlib.Core.Logic.{◌≢◌}
use Rattle.std.specs.Prelude.{is_ok}
use Rattle.xod_volume.specs.Files.{bytes_of}
use Rattle.xod_volume.specs.Crash.{Passes, OnFile, OnBytes, Torn}
use Rattle.xod_log.specs.Ends.{body_of}
use Rattle.xod_log.specs.Standing.{Stands, body_file, ends_file, rolled_log}
use Rattle.xod_log.specs.Calls.{Rolls, Appends, KeepsClaims}
use Rattle.xod_log.proofs.Claims.{append_claims}
use Rattle.xod_log.proofs.Rolling.{due_appends, not_due_appends, block_apart, block_rolled, block_rolls, block_stands, rolled_behind, roll_claims, first_after, sealed_outlives, appended_file}
use Rattle.xod_log.proofs.Runs.{weakened}
use Rattle.xod_log.proofs.Synced.{settled_after}
use Rattle.xod_log.proofs.log.Log.append_block.Given.{Over}
use Rattle.xod_log.proofs.log.Log.append_block.Goals.{After-append_here-2}
use Rattle.xod_log.proofs.log.Log.append_block.Goals as goal

-- ---- where no roll is due

pub returns-then-not-is_due-clause-leaves : goal.returns-then-not-is_due-clause-leaves
returns-then-not-is_due-clause-leaves g c told =
    let log = c.args.self.now in
    weakened _ _ _ _ _ _ (c.append_here.ensures.crash told)
    (λ was left began. not_due_appends log (bytes_of (g.V.Volume.files c.args.volume.now) (body_file c.args.self.now)) (bytes_of (g.V.Volume.files c.args.volume.now) (ends_file c.args.self.now)) (length c.args.block.now) (sym c.is_due.ensures ∙ c.if-not-is_due.true) was left)

pub returns-then-not-is_due-clause-claims : goal.returns-then-not-is_due-clause-claims
returns-then-not-is_due-clause-claims g c told = append_claims _ _ _ _ _ _ (c.requires.stands told) (length c.args.block.now) (c.append_here.ensures.crash told)

pub returns-then-not-is_due-clause-settled : goal.returns-then-not-is_due-clause-settled
returns-then-not-is_due-clause-settled g c told fine other not_ends not_body =
    let log = c.args.self.now in
    let file = appended_file log (is_ok c.append_here.result) (length c.args.block.now) c.args.back in
    let apart : other ≢ body_file log = rw file at (rw c.append_here.ensures.log at not_body) in
    settled_after other _ _ _ _ _ _ _ (c.append_here.ensures.crash told) (λ was left on. on.others other apart) (c.append_here.ensures.others told other apart)

-- ---- where the roll was refused

pub returns-in_err-next-clause-stands_on : goal.returns-in_err-next-clause-stands_on
returns-in_err-next-clause-stands_on g c told not_device = c.make_next.ensures.stands_on told (λ bad. search rules)

pub returns-in_err-next-clause-leaves : goal.returns-in_err-next-clause-leaves
returns-in_err-next-clause-leaves g c told =
    let log = c.args.self.now in
    weakened _ _ _ _ _ _ (c.make_next.ensures.leaves told)
    (λ was left began. due_appends log (bytes_of (g.V.Volume.files c.args.volume.now) (body_file c.args.self.now)) (bytes_of (g.V.Volume.files c.args.volume.now) (ends_file c.args.self.now)) (length c.args.block.now) (sym c.is_due.ensures ∙ c.if-not-is_due.false) was left)

pub returns-in_err-next-clause-claims : goal.returns-in_err-next-clause-claims
returns-in_err-next-clause-claims g c told = roll_claims _ _ _ _ _ _ (c.requires.stands told) (c.make_next.ensures.leaves told) (c.make_next.ensures.body_first told)

pub returns-in_err-next-clause-settled : goal.returns-in_err-next-clause-settled
returns-in_err-next-clause-settled g c told fine other not_ends not_body = c.make_next.ensures.settled told (λ bad. search rules) other not_ends

-- ---- a block behind a roll, taken or refused

-- what it may leave at the front of the next file
abbrev Block : (g : Over) → After-append_here-2 g → Type 0
Block g c = Passes (g.V.Volume.moment c.make_next.new.volume) (g.V.Volume.moment c.append_here-2.new.volume) (g.V.Volume.may_leave c.make_next.new.volume) (g.V.Volume.may_leave c.append_here-2.new.volume)
    (OnFile (body_of (c.args.self.now.file + 1)) (OnBytes (Torn 0 (length c.args.block.now))))

block-left : (g : Over) (c : After-append_here-2 g) → IsTrue (g.V.Volume.tells c.args.volume.now) → Block g c
block-left g c told =
    let t1 : IsTrue (g.V.Volume.tells c.make_next.new.volume) = rw c.make_next.ensures.stays.tells told in
    rw c.in_ok-next.ensures.next at c.append_here-2.ensures.crash t1

next-stands : (g : Over) (c : After-append_here-2 g) → IsTrue (g.V.Volume.tells c.args.volume.now)
    → Stands (rolled_log c.args.self.now) (g.V.Volume.files c.make_next.new.volume) (g.V.Volume.may_leave c.make_next.new.volume (g.V.Volume.moment c.make_next.new.volume))
next-stands g c told = rw c.in_ok-next.ensures.next at c.in_ok-next.ensures.next_stands told

rolls : (g : Over) (c : After-append_here-2 g) → IsTrue (g.V.Volume.tells c.args.volume.now)
    → Passes (g.V.Volume.moment c.args.volume.now) (g.V.Volume.moment c.append_here-2.new.volume) (g.V.Volume.may_leave c.args.volume.now) (g.V.Volume.may_leave c.append_here-2.new.volume) (Rolls c.args.self.now (bytes_of (g.V.Volume.files c.args.volume.now) (body_file c.args.self.now)) (bytes_of (g.V.Volume.files c.args.volume.now) (ends_file c.args.self.now)))
rolls g c told = block_rolled c.args.self.now (bytes_of (g.V.Volume.files c.args.volume.now) (body_file c.args.self.now)) (bytes_of (g.V.Volume.files c.args.volume.now) (ends_file c.args.self.now)) _ _ _ _ _ _ _ _ (next-stands g c told) (c.make_next.ensures.leaves told) (block-left g c told)

leaves : (g : Over) (c : After-append_here-2 g) → IsTrue (g.V.Volume.tells c.args.volume.now)
    → Passes (g.V.Volume.moment c.args.volume.now) (g.V.Volume.moment c.append_here-2.new.volume) (g.V.Volume.may_leave c.args.volume.now) (g.V.Volume.may_leave c.append_here-2.new.volume) (Appends c.args.self.now (length c.args.block.now) (bytes_of (g.V.Volume.files c.args.volume.now) (body_file c.args.self.now)) (bytes_of (g.V.Volume.files c.args.volume.now) (ends_file c.args.self.now)))
leaves g c told = weakened _ _ _ _ _ _ (rolls g c told)
    (λ was left began. due_appends c.args.self.now (bytes_of (g.V.Volume.files c.args.volume.now) (body_file c.args.self.now)) (bytes_of (g.V.Volume.files c.args.volume.now) (ends_file c.args.self.now)) (length c.args.block.now) (sym c.is_due.ensures ∙ c.if-not-is_due.false) was left)

reads : (g : Over) (c : After-append_here-2 g) → IsTrue (g.V.Volume.tells c.args.volume.now)
    → Appends c.args.self.now (length c.args.block.now) (bytes_of (g.V.Volume.files c.args.volume.now) (body_file c.args.self.now)) (bytes_of (g.V.Volume.files c.args.volume.now) (ends_file c.args.self.now)) (g.V.Volume.files c.args.volume.now) (g.V.Volume.files c.append_here-2.new.volume)
reads g c told =
    let t1 : IsTrue (g.V.Volume.tells c.make_next.new.volume) = rw c.make_next.ensures.stays.tells told in
    due_appends c.args.self.now (bytes_of (g.V.Volume.files c.args.volume.now) (body_file c.args.self.now)) (bytes_of (g.V.Volume.files c.args.volume.now) (ends_file c.args.self.now)) (length c.args.block.now) (sym c.is_due.ensures ∙ c.if-not-is_due.false) _ _
    (block_rolls c.args.self.now (bytes_of (g.V.Volume.files c.args.volume.now) (body_file c.args.self.now)) (bytes_of (g.V.Volume.files c.args.volume.now) (ends_file c.args.self.now)) _ _ _ _ (c.make_next.ensures.reads told) (next-stands g c told).at_rest.size (rw c.in_ok-next.ensures.next at c.append_here-2.ensures.torn t1))

claims : (g : Over) (c : After-append_here-2 g) → IsTrue (g.V.Volume.tells c.args.volume.now)
    → KeepsClaims c.args.self.now (g.V.Volume.files c.args.volume.now) (g.V.Volume.moment c.args.volume.now) (g.V.Volume.moment c.append_here-2.new.volume) (g.V.Volume.may_leave c.args.volume.now) (g.V.Volume.may_leave c.append_here-2.new.volume)
claims g c told = roll_claims _ _ _ _ _ _ (c.requires.stands told) (rolls g c told)
    (first_after c.args.self.now _ _ _ _ _ _ (block-left g c told) (block_apart c.args.self.now _) (c.make_next.ensures.body_first told))

-- the file that was sealed stands as it did
sealed-stands : (g : Over) (c : After-append_here-2 g) → IsTrue (g.V.Volume.tells c.args.volume.now)
    → Stands c.make_next.new.self (g.V.Volume.files c.append_here-2.new.volume) (g.V.Volume.may_leave c.append_here-2.new.volume (g.V.Volume.moment c.append_here-2.new.volume))
sealed-stands g c told =
    let t1 : IsTrue (g.V.Volume.tells c.make_next.new.volume) = rw c.make_next.ensures.stays.tells told in
    block_stands c.args.self.now c.make_next.new.self c.in_ok-next.ensures.log _ _ _ _ _ _ _ (rw c.in_ok-next.ensures.next at c.append_here-2.ensures.others t1) (block-left g c told)
    (c.in_ok-next.ensures.stands_on told (λ bad. search rules))

pub returns-in_err-place-clause-stands_on : goal.returns-in_err-place-clause-stands_on
returns-in_err-place-clause-stands_on g c told not_device = sealed-stands g (goal.at.returns-in_err-place-clause-stands_on g c).After-append_here-2 told

pub returns-in_err-place-clause-leaves : goal.returns-in_err-place-clause-leaves
returns-in_err-place-clause-leaves g c = leaves g (goal.at.returns-in_err-place-clause-leaves g c).After-append_here-2

pub returns-in_err-place-clause-reads : goal.returns-in_err-place-clause-reads
returns-in_err-place-clause-reads g c = reads g (goal.at.returns-in_err-place-clause-reads g c).After-append_here-2

pub returns-in_err-place-clause-claims : goal.returns-in_err-place-clause-claims
returns-in_err-place-clause-claims g c = claims g (goal.at.returns-in_err-place-clause-claims g c).After-append_here-2

pub returns-in_err-place-clause-settled : goal.returns-in_err-place-clause-settled
returns-in_err-place-clause-settled g c told fine other not_ends not_body was =
    let t1 : IsTrue (g.V.Volume.tells c.make_next.new.volume) = rw c.make_next.ensures.stays.tells told in
    c.in_err-place.ensures.settled t1 (λ bad. search rules) other (c.in_ok-next.ensures.settled told (λ bad. search rules) other not_ends was)

pub returns-clause-leaves : goal.returns-clause-leaves
returns-clause-leaves g c = leaves g (goal.at.returns-clause-leaves g c).After-append_here-2

pub returns-clause-reads : goal.returns-clause-reads
returns-clause-reads g c = reads g (goal.at.returns-clause-reads g c).After-append_here-2

pub returns-clause-claims : goal.returns-clause-claims
returns-clause-claims g c = claims g (goal.at.returns-clause-claims g c).After-append_here-2

pub returns-clause-rolled : goal.returns-clause-rolled
returns-clause-rolled g c told due =
    let t1 : IsTrue (g.V.Volume.tells c.make_next.new.volume) = rw c.make_next.ensures.stays.tells told in
    rolled_behind c.args.self.now c.args.block.now _ _ _ (c.in_ok-next.ensures.rolled told) (rw c.in_ok-next.ensures.next at c.in_ok-place.ensures.behind t1)

pub returns-clause-durable : goal.returns-clause-durable
returns-clause-durable g c told due = sealed_outlives c.args.self.now _ _ _ c.in_ok-next.ensures.log (sealed-stands g (goal.at.returns-clause-durable g c).After-append_here-2 told)

pub returns-clause-settled : goal.returns-clause-settled
returns-clause-settled g c told fine other not_ends not_body was =
    let t1 : IsTrue (g.V.Volume.tells c.make_next.new.volume) = rw c.make_next.ensures.stays.tells told in
    let apart : other ≢ body_of (c.args.self.now.file + 1) = rw c.in_ok-next.ensures.next at (rw c.in_ok-place.ensures.log at not_body) in
    settled_after other _ _ _ _ _ _ _ (block-left g (goal.at.returns-clause-settled g c).After-append_here-2 told) (λ mid left on. on.others other apart)
    ((rw c.in_ok-next.ensures.next at c.append_here-2.ensures.others t1) other apart) (c.in_ok-next.ensures.settled told (λ bad. search rules) other not_ends was)
