use Rattle.std.proofs.Common.{◌≡◌, ℕ, suc, false, refl, sym, ◌∙◌, subst, arith}
use Rattle.std.specs.Prelude.{IsSome, IsTrue}
use Rattle.std.specs.FinMap.{get}
use Rattle.xod_log.specs.Ends.{body_of, ends_of}
use Rattle.xod_recover.specs.Found.{newest_of}
use Rattle.xod_recover.specs.Tails.{AllNearBut, MayUseNext}
use Rattle.xod_recover.specs.Writes.{Writes}
use Rattle.xod_recover.proofs.CutKeeps.{but_any}
use Rattle.xod_recover.proofs.Neighbours.{next-listed, next-unlisted}
use Rattle.xod_recover.proofs.OnlyReading.{reads-none}
use Rattle.xod_recover.proofs.Writing.{writes-reads, wrote-reads}
use Rattle.xod_recover.proofs.emptying.clear_next.Given.{Over}
use Rattle.xod_recover.proofs.emptying.clear_next.Goals.{After-has_pair_above, After-clear_above}
use Rattle.xod_recover.proofs.emptying.clear_next.Goals as goal

-- ---- it is not there

-- an image can't use it then
none : (g : Over) (c : After-has_pair_above g) → c.has_pair_above.result ≡ false → IsTrue (g.V.Volume.tells c.args.volume.now) → MayUseNext (newest_of c.args.found.now) (g.V.Volume.files c.args.volume.now) (g.V.Volume.may_leave c.args.volume.now (g.V.Volume.moment c.args.volume.now)) → ⊥
none g c is told may =
    let next : c.args.next ≡ suc c.args.found.now.file = c.requires.next may.low in
    next-unlisted (g.V.Volume.files c.args.volume.now) c.args.numbers.now c.args.found.now.file c.args.next (c.requires.listed told) (sym c.has_pair_above.ensures ∙ is) (omega (arith, next))
    (subst (λ (k : ℕ). IsSome (get (g.V.Volume.files c.args.volume.now) (body_of k))) (sym next) may.has_body)
    (subst (λ (k : ℕ). IsSome (get (g.V.Volume.files c.args.volume.now) (ends_of k))) (sym next) may.has_ends)

pub returns-then-not-has_pair_above-clause-writes : goal.returns-then-not-has_pair_above-clause-writes
returns-then-not-has_pair_above-clause-writes g c = writes-reads c.requires.was_found reads-none

pub returns-then-not-has_pair_above-clause-wrote : goal.returns-then-not-has_pair_above-clause-wrote
returns-then-not-has_pair_above-clause-wrote g c = wrote-reads {leases = g.V.Volume.leases} {refs = g.V.Volume.refs} c.requires.was_found reads-none refl

pub returns-then-not-has_pair_above-clause-near : goal.returns-then-not-has_pair_above-clause-near
returns-then-not-has_pair_above-clause-near g c told near = near

pub returns-then-not-has_pair_above-clause-emptied : goal.returns-then-not-has_pair_above-clause-emptied
returns-then-not-has_pair_above-clause-emptied g c told lt body ends = absurd (next-unlisted (g.V.Volume.files c.args.volume.now) c.args.numbers.now c.args.found.now.file c.args.next (c.requires.listed told) (sym c.has_pair_above.ensures ∙ c.if-not-has_pair_above.true) lt body ends)

pub returns-then-not-has_pair_above-clause-crash_next : goal.returns-then-not-has_pair_above-clause-crash_next
returns-then-not-has_pair_above-clause-crash_next g c told may = absurd (none g (goal.at.returns-then-not-has_pair_above-clause-crash_next g c).After-has_pair_above c.if-not-has_pair_above.true told may)

pub returns-then-not-has_pair_above-clause-as_found : goal.returns-then-not-has_pair_above-clause-as_found
returns-then-not-has_pair_above-clause-as_found g c told may = absurd (none g (goal.at.returns-then-not-has_pair_above-clause-as_found g c).After-has_pair_above c.if-not-has_pair_above.true told may)

-- ---- it is

pub clear_above-requires-clause-has_body : goal.clear_above-requires-clause-has_body
clear_above-requires-clause-has_body g c told = (next-listed _ c.args.numbers.now c.args.found.now.file c.args.next (c.requires.listed told) (sym c.has_pair_above.ensures ∙ c.if-not-has_pair_above.false)).1

pub clear_above-requires-clause-has_ends : goal.clear_above-requires-clause-has_ends
clear_above-requires-clause-has_ends g c told = (next-listed _ c.args.numbers.now c.args.found.now.file c.args.next (c.requires.listed told) (sym c.has_pair_above.ensures ∙ c.if-not-has_pair_above.false)).2

but : (g : Over) (c : After-clear_above g) (told : IsTrue (g.V.Volume.tells c.args.volume.now)) → MayUseNext (newest_of c.args.found.now) (g.V.Volume.files c.args.volume.now) (g.V.Volume.may_leave c.args.volume.now (g.V.Volume.moment c.args.volume.now))
    → AllNearBut (newest_of c.args.found.now) c.args.next (g.V.Volume.files c.args.volume.now) (g.V.Volume.may_leave c.args.volume.now (g.V.Volume.moment c.args.volume.now))
but g c told may = subst (λ (k : ℕ). AllNearBut (newest_of c.args.found.now) k (g.V.Volume.files c.args.volume.now) (g.V.Volume.may_leave c.args.volume.now (g.V.Volume.moment c.args.volume.now))) (sym (c.requires.next may.low)) may.near

writes : (g : Over) (c : After-clear_above g) → Writes g.V.Volume.tells g.V.Volume.files g.V.Volume.moment g.V.Volume.may_leave g.V.Volume.leases g.V.Volume.refs g.V.Volume.faults (newest_of c.args.found.now) c.args.volume.now c.clear_above.new.volume
writes g c = record {
  stays = c.clear_above.ensures.stays;
  keeps = c.clear_above.ensures.keeps;
  kept = λ told image. c.clear_above.ensures.kept told;
  crash = λ told near. c.clear_above.ensures.crash told (λ left i. but_any (newest_of c.args.found.now) _ left (near left i) c.args.next);
}

pub returns-in_err-clear_above-clause-writes : goal.returns-in_err-clear_above-clause-writes
returns-in_err-clear_above-clause-writes g c = writes g (goal.at.returns-in_err-clear_above-clause-writes g c).After-clear_above

pub returns-clause-writes : goal.returns-clause-writes
returns-clause-writes g c = writes g (goal.at.returns-clause-writes g c).After-clear_above

pub returns-clause-wrote : goal.returns-clause-wrote
returns-clause-wrote g c = record {
  found = c.in_ok-clear_above.ensures.still_found;
  settled = c.in_ok-clear_above.ensures.settled;
  unfailed = c.in_ok-clear_above.ensures.unfailed;
}

pub returns-clause-near : goal.returns-clause-near
returns-clause-near g c told near = c.in_ok-clear_above.ensures.as_found told (λ left i. but_any (newest_of c.args.found.now) _ left (near left i) c.args.next)

pub returns-clause-emptied : goal.returns-clause-emptied
returns-clause-emptied g c told lt body ends = record { body = c.in_ok-clear_above.ensures.empty told; ends = c.in_ok-clear_above.ensures.empty_ends told }

pub returns-in_err-clear_above-clause-crash_next : goal.returns-in_err-clear_above-clause-crash_next
returns-in_err-clear_above-clause-crash_next g c told may = c.clear_above.ensures.crash told (but g (goal.at.returns-in_err-clear_above-clause-crash_next g c).After-clear_above told may)

pub returns-clause-crash_next : goal.returns-clause-crash_next
returns-clause-crash_next g c told may = c.clear_above.ensures.crash told (but g (goal.at.returns-clause-crash_next g c).After-clear_above told may)

pub returns-clause-as_found : goal.returns-clause-as_found
returns-clause-as_found g c told may = c.in_ok-clear_above.ensures.as_found told (but g (goal.at.returns-clause-as_found g c).After-clear_above told may)
