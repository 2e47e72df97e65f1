use Rattle.std.proofs.Common.{◌≡◌, ℕ, get_or, sym, ◌∙◌, ap, subst, arith, inl, inr}
use Rattle.std.specs.Prelude.{IsSome, IsTrue}
use Rattle.std.specs.FinMap.{get}
use Rattle.std.proofs.lemmas.Bool.{cases_lt}
use Rattle.xod_volume.specs.Files.{Files}
use Rattle.xod_volume.specs.Crash.{Passes}
use Rattle.xod_log.specs.Ends.{body_of, ends_of}
use Rattle.xod_recover.specs.Emptied.{IsEmptied}
use Rattle.xod_recover.specs.Found.{newest_of}
use Rattle.xod_recover.specs.Images.{Stores}
use Rattle.xod_recover.specs.Reads.{OnlyReads}
use Rattle.xod_recover.specs.Stores.{stored_in}
use Rattle.xod_recover.specs.Tails.{AllNearAsFound, MayUseNext}
use Rattle.xod_recover.specs.Writes.{Writes}
use Rattle.xod_recover.proofs.Listing.{listed_at}
use Rattle.xod_recover.proofs.Neighbours.{emptied-all, stays-emptied}
use Rattle.xod_recover.proofs.Writing.{reads-may, reads-near, reads-passes, stores-passes, writes-reads, wrote-reads, writes-then, wrote-then}
use Rattle.xod_recover.proofs.emptying.clear_all.Given.{Over}
use Rattle.xod_recover.proofs.emptying.clear_all.Goals.{After-files, In_ok-numbers, After-clear_next, In_ok-clear_next, After-clear_listed, In_ok-clear_listed}
use Rattle.xod_recover.proofs.emptying.clear_all.Goals as goal

abbrev May : (g : Over) → After-files g → Type 0
May g c = MayUseNext (newest_of c.args.found.now) (g.V.Volume.files c.args.volume.now) (g.V.Volume.may_leave c.args.volume.now (g.V.Volume.moment c.args.volume.now))

listing : (g : Over) (c : After-files g) → OnlyReads g.V.Volume.tells g.V.Volume.files g.V.Volume.moment g.V.Volume.may_leave g.V.Volume.leases g.V.Volume.refs g.V.Volume.faults c.args.volume.now c.files.new.self
listing g c = record { stays = c.files.ensures.stays; same = c.files.ensures.same; rests = c.files.ensures.rests }

told-next : (g : Over) (c : In_ok-clear_next g) → IsTrue (g.V.Volume.tells c.args.volume.now) → IsTrue (g.V.Volume.tells c.clear_next.new.volume)
told-next g c told = c.clear_next.ensures.writes.stays.tells ∙ c.files.ensures.stays.tells ∙ told

told-back : (g : Over) (c : In_ok-clear_next g) → IsTrue (g.V.Volume.tells c.clear_next.new.volume) → IsTrue (g.V.Volume.tells c.args.volume.now)
told-back g c told = sym (c.clear_next.ensures.writes.stays.tells ∙ c.files.ensures.stays.tells) ∙ told

-- ---- the first two calls

first-writes : (g : Over) (c : After-clear_next g) → OnlyReads g.V.Volume.tells g.V.Volume.files g.V.Volume.moment g.V.Volume.may_leave g.V.Volume.leases g.V.Volume.refs g.V.Volume.faults c.args.volume.now c.files.new.self
    → Writes g.V.Volume.tells g.V.Volume.files g.V.Volume.moment g.V.Volume.may_leave g.V.Volume.leases g.V.Volume.refs g.V.Volume.faults (newest_of c.args.found.now) c.args.volume.now c.clear_next.new.volume
first-writes g c r = writes-then (writes-reads c.requires.was_found r) (reads-near r) c.clear_next.ensures.writes

first-crash : (g : Over) (c : After-clear_next g) → OnlyReads g.V.Volume.tells g.V.Volume.files g.V.Volume.moment g.V.Volume.may_leave g.V.Volume.leases g.V.Volume.refs g.V.Volume.faults c.args.volume.now c.files.new.self
    → IsTrue (g.V.Volume.tells c.args.volume.now) → MayUseNext (newest_of c.args.found.now) (g.V.Volume.files c.args.volume.now) (g.V.Volume.may_leave c.args.volume.now (g.V.Volume.moment c.args.volume.now))
    → Passes (g.V.Volume.moment c.args.volume.now) (g.V.Volume.moment c.clear_next.new.volume) (g.V.Volume.may_leave c.args.volume.now) (g.V.Volume.may_leave c.clear_next.new.volume) (Stores (stored_in (g.V.Volume.files c.args.volume.now)))
first-crash g c r told may =
    stores-passes _ _ _ _ _ _ (stored_in (g.V.Volume.files c.args.volume.now)) (stored_in (g.V.Volume.files c.files.new.self)) (ap stored_in (r.same told))
    (reads-passes (stored_in (g.V.Volume.files c.args.volume.now)) r told) (c.clear_next.ensures.crash_next (r.stays.tells ∙ told) (reads-may r told may))

near-next : (g : Over) (c : In_ok-clear_next g) → OnlyReads g.V.Volume.tells g.V.Volume.files g.V.Volume.moment g.V.Volume.may_leave g.V.Volume.leases g.V.Volume.refs g.V.Volume.faults c.args.volume.now c.files.new.self
    → IsTrue (g.V.Volume.tells c.args.volume.now) → AllNearAsFound (newest_of c.args.found.now) (g.V.Volume.files c.args.volume.now) (g.V.Volume.may_leave c.args.volume.now (g.V.Volume.moment c.args.volume.now))
    → AllNearAsFound (newest_of c.args.found.now) (g.V.Volume.files c.clear_next.new.volume) (g.V.Volume.may_leave c.clear_next.new.volume (g.V.Volume.moment c.clear_next.new.volume))
near-next g c r told near = c.in_ok-clear_next.ensures.near (r.stays.tells ∙ told) (reads-near r told near)

found-next : (g : Over) (c : In_ok-clear_next g) → OnlyReads g.V.Volume.tells g.V.Volume.files g.V.Volume.moment g.V.Volume.may_leave g.V.Volume.leases g.V.Volume.refs g.V.Volume.faults c.args.volume.now c.files.new.self
    → IsTrue (g.V.Volume.tells c.args.volume.now) → MayUseNext (newest_of c.args.found.now) (g.V.Volume.files c.args.volume.now) (g.V.Volume.may_leave c.args.volume.now (g.V.Volume.moment c.args.volume.now))
    → AllNearAsFound (newest_of c.args.found.now) (g.V.Volume.files c.clear_next.new.volume) (g.V.Volume.may_leave c.clear_next.new.volume (g.V.Volume.moment c.clear_next.new.volume))
found-next g c r told may = c.in_ok-clear_next.ensures.as_found (r.stays.tells ∙ told) (reads-may r told may)

pub returns-in_err-numbers-clause-writes : goal.returns-in_err-numbers-clause-writes
returns-in_err-numbers-clause-writes g c = writes-reads c.requires.was_found (listing g (goal.at.returns-in_err-numbers-clause-writes g c).After-files)

pub returns-in_err-numbers-clause-crash_next : goal.returns-in_err-numbers-clause-crash_next
returns-in_err-numbers-clause-crash_next g c told may = reads-passes (stored_in (g.V.Volume.files c.args.volume.now)) (listing g (goal.at.returns-in_err-numbers-clause-crash_next g c).After-files) told

pub returns-in_err-clear_next-clause-writes : goal.returns-in_err-clear_next-clause-writes
returns-in_err-clear_next-clause-writes g c = let at = goal.at.returns-in_err-clear_next-clause-writes g c in first-writes g at.After-clear_next (listing g at.After-files)

pub returns-in_err-clear_next-clause-crash_next : goal.returns-in_err-clear_next-clause-crash_next
returns-in_err-clear_next-clause-crash_next g c told may = let at = goal.at.returns-in_err-clear_next-clause-crash_next g c in first-crash g at.After-clear_next (listing g at.After-files) told may

pub clear_listed-requires-clause-listed : goal.clear_listed-requires-clause-listed
clear_listed-requires-clause-listed g c told2 place within =
    let at = goal.at.clear_listed-requires-clause-listed g c in
    let told = told-back g at.In_ok-clear_next told2 in
    ((first-writes g at.After-clear_next (listing g at.After-files)).keeps told).there (get_or c.deref-2.result.now place 0)
    ∙ listed_at (g.V.Volume.files c.args.volume.now) c.deref-2.result.now place (c.deref-2.ensures.value ∙ c.in_ok-numbers.ensures.listed told) within

pub returns-in_err-clear_listed-clause-writes : goal.returns-in_err-clear_listed-clause-writes
returns-in_err-clear_listed-clause-writes g c =
    let at = goal.at.returns-in_err-clear_listed-clause-writes g c in
    writes-then (first-writes g at.After-clear_next (listing g at.After-files)) (near-next g at.In_ok-clear_next (listing g at.After-files)) c.clear_listed.ensures.writes

pub returns-clause-writes : goal.returns-clause-writes
returns-clause-writes g c =
    let at = goal.at.returns-clause-writes g c in
    writes-then (first-writes g at.After-clear_next (listing g at.After-files)) (near-next g at.In_ok-clear_next (listing g at.After-files)) c.clear_listed.ensures.writes

pub returns-in_err-clear_listed-clause-crash_next : goal.returns-in_err-clear_listed-clause-crash_next
returns-in_err-clear_listed-clause-crash_next g c told may =
    let at = goal.at.returns-in_err-clear_listed-clause-crash_next g c in
    let r = listing g at.After-files in
    stores-passes _ _ _ _ _ _ (stored_in (g.V.Volume.files c.args.volume.now)) (stored_in (g.V.Volume.files c.clear_next.new.volume)) ((first-writes g at.After-clear_next r).keeps told).stored
    (first-crash g at.After-clear_next r told may) (c.clear_listed.ensures.writes.crash (told-next g at.In_ok-clear_next told) (found-next g at.In_ok-clear_next r told may))

pub returns-clause-crash_next : goal.returns-clause-crash_next
returns-clause-crash_next g c told may =
    let at = goal.at.returns-clause-crash_next g c in
    let r = listing g at.After-files in
    stores-passes _ _ _ _ _ _ (stored_in (g.V.Volume.files c.args.volume.now)) (stored_in (g.V.Volume.files c.clear_next.new.volume)) ((first-writes g at.After-clear_next r).keeps told).stored
    (first-crash g at.After-clear_next r told may) (c.clear_listed.ensures.writes.crash (told-next g at.In_ok-clear_next told) (found-next g at.In_ok-clear_next r told may))

pub returns-clause-wrote : goal.returns-clause-wrote
returns-clause-wrote g c =
    let at = goal.at.returns-clause-wrote g c in
    let r = listing g at.After-files in
    wrote-then (first-writes g at.After-clear_next r)
    (wrote-then (writes-reads c.requires.was_found r) (wrote-reads c.requires.was_found r c.in_ok-numbers.ensures.unfailed) c.in_ok-clear_next.ensures.wrote)
    c.in_ok-clear_listed.ensures.wrote

pub returns-clause-near : goal.returns-clause-near
returns-clause-near g c told near =
    let at = goal.at.returns-clause-near g c in
    c.in_ok-clear_listed.ensures.near (told-next g at.In_ok-clear_next told) (near-next g at.In_ok-clear_next (listing g at.After-files) told near)

pub returns-clause-as_found : goal.returns-clause-as_found
returns-clause-as_found g c told may =
    let at = goal.at.returns-clause-as_found g c in
    c.in_ok-clear_listed.ensures.near (told-next g at.In_ok-clear_next told) (found-next g at.In_ok-clear_next (listing g at.After-files) told may)

-- ---- what is emptied

pub returns-clause-emptied : goal.returns-clause-emptied
returns-clause-emptied g c told other gt low body ends =
    let at = goal.at.returns-clause-emptied g c in
    let told1 : IsTrue (g.V.Volume.tells c.files.new.self) = c.files.ensures.stays.tells ∙ told in
    let told2 = told-next g at.In_ok-clear_next told in
    let sum = c.saturating_add-next.ensures in
    elim (cases_lt c.saturating_add-next.result other) [
      | inl past ↦ emptied-all (g.V.Volume.files c.args.volume.now) (g.V.Volume.files c.clear_listed.new.volume) c.deref-2.result.now (c.deref-2.ensures.value ∙ c.in_ok-numbers.ensures.listed told) c.saturating_add-next.result (c.in_ok-clear_listed.ensures.emptied told2) other past low body ends
      | inr not ↦
          let is : other ≡ c.saturating_add-next.result = omega (arith, sum, gt, not, low) in
          let here : (k : ℕ) → IsSome (get (g.V.Volume.files c.args.volume.now) k) → IsSome (get (g.V.Volume.files c.files.new.self) k) = λ k there. subst (λ (f : Files). IsSome (get f k)) (sym (c.files.ensures.same told)) there in
          subst (λ (k : ℕ). IsEmptied k (g.V.Volume.files c.clear_listed.new.volume)) (sym is)
          (stays-emptied (g.V.Volume.files c.clear_next.new.volume) (g.V.Volume.files c.clear_listed.new.volume) (c.in_ok-clear_listed.ensures.stay_empty told2) c.saturating_add-next.result
          (c.in_ok-clear_next.ensures.emptied told1 (omega (arith, is, gt)) (here (body_of c.saturating_add-next.result) (subst (λ (k : ℕ). IsSome (get (g.V.Volume.files c.args.volume.now) (body_of k))) is body)) (here (ends_of c.saturating_add-next.result) (subst (λ (k : ℕ). IsSome (get (g.V.Volume.files c.args.volume.now) (ends_of k))) is ends))))
    ]
