use Rattle.std.proofs.Common.{◌≡◌, ◌-◌, ◌+◌, ◌<◌, ◌∙◌, refl, sym, arith, get_or, length}
use Rattle.xod_volume.specs.Files.{Files}
use Rattle.xod_recover.specs.Opened.{log_file_of, used_at}
use Rattle.xod_recover.specs.Uses.{Finds}
use Rattle.xod_recover.proofs.OnlyReading.{reads-none, reads-then, reads-over}
use Rattle.xod_recover.proofs.Using.{last_used-first, finds-greatest, last_used-passed}
use Rattle.xod_recover.proofs.used.find_used.Goals as goal

pub loop-left-init : goal.loop-left-init
loop-left-init g c = record { within = omega arith; reads = reads-none; unfailed = refl; rest = λ told. last_used-first (g.V.Volume.files c.args.volume.now) c.args.numbers.now (c.requires.listed told) }

pub returns-then-is_some-clause-found : goal.returns-then-is_some-clause-found
returns-then-is_some-clause-found g c told =
    let next : c.loop-left.left ≡ c.loop-left.left - 1 + 1 = omega (arith, c.loop-left-test.true) in
    let within : c.loop-left.left - 1 < length c.args.numbers.now = omega (arith, c.loop-left.invariant.within, c.loop-left-test.true) in
    finds-greatest (g.V.Volume.files c.args.volume.now) c.args.numbers.now (c.requires.listed told) c.loop-left.left (c.loop-left.left - 1) next within (c.loop-left.invariant.rest told) c.in_ok-found.found
    (reads-over (λ (f : Files). Finds f (used_at f (log_file_of (get_or c.args.numbers.now (c.loop-left.left - 1) 0))) c.in_ok-found.found) c.loop-left.invariant.reads told c.in_ok-found.ensures.found) (sym c.is_some.ensures ∙ c.if-is_some.true)

pub loop-left-preserved : goal.loop-left-preserved
loop-left-preserved g c =
    let next : c.loop-left.left ≡ c.loop-left.left - 1 + 1 = omega (arith, c.loop-left-test.true) in
    let within : c.loop-left.left - 1 < length c.args.numbers.now = omega (arith, c.loop-left.invariant.within, c.loop-left-test.true) in
    record {
      within = omega (arith, within);
      reads = reads-then c.loop-left.invariant.reads c.used_by.ensures.reads;
      unfailed = c.in_ok-found.ensures.unfailed ∙ c.loop-left.invariant.unfailed;
      rest = λ told. last_used-passed (g.V.Volume.files c.args.volume.now) c.args.numbers.now (c.requires.listed told) c.loop-left.left (c.loop-left.left - 1) next within (c.loop-left.invariant.rest told) c.in_ok-found.found
          (reads-over (λ (f : Files). Finds f (used_at f (log_file_of (get_or c.args.numbers.now (c.loop-left.left - 1) 0))) c.in_ok-found.found) c.loop-left.invariant.reads told c.in_ok-found.ensures.found) (sym c.is_some.ensures ∙ c.if-is_some.false);
    }

pub returns-then-is_some-clause-unfailed : goal.returns-then-is_some-clause-unfailed
returns-then-is_some-clause-unfailed g c = c.in_ok-found.ensures.unfailed ∙ c.loop-left.invariant.unfailed

pub returns-clause-unfailed : goal.returns-clause-unfailed
returns-clause-unfailed g c = c.loop-left.invariant.unfailed
