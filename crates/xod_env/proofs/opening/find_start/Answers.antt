use Rattle.std.proofs.Common.{rules, ◌≡◌, ◌<◌, ℕ, IsTrue, sym, subst, ◌∙◌, ap}
use Rattle.xod_log.specs.declared.log.Log.{Log}
use Rattle.xod_log.specs.Standing.{Stands, resumed_log}
use Rattle.xod_recover.specs.Check.{Newest}
use Rattle.xod_recover.specs.Found.{newest_of}
use Rattle.xod_root.specs.Roots.{Roots}
use Rattle.xod_env.specs.Envs.{IsAt, no_roots}
use Rattle.xod_env.proofs.Leaving.{leaves_then, recovers_leaves}
use Rattle.xod_env.proofs.Naming.{kinds_found}
use Rattle.xod_env.proofs.Resuming.{resumed_at}
use Rattle.xod_env.proofs.Starting.{nothing_listed}
use Rattle.xod_env.proofs.opening.find_start.Goals as goal

pub returns-in_err-log-clause-leaves : goal.returns-in_err-log-clause-leaves
returns-in_err-log-clause-leaves g c =
    leaves_then g.V.Volume.tells g.V.Volume.files g.V.Volume.moment g.V.Volume.may_leave g.V.Volume.leases g.V.Volume.refs g.V.Volume.faults
    c.args.volume.now c.recover.new.volume c.first_log.new.volume
    (recovers_leaves g.V.Volume.tells g.V.Volume.files g.V.Volume.moment g.V.Volume.may_leave g.V.Volume.leases g.V.Volume.refs g.V.Volume.faults c.args.volume.now c.recover.new.volume c.recover.ensures.recovers)
    (λ told settled. search rules) c.first_log.ensures.leaves

pub returns-then-found-eq0-clause-leaves : goal.returns-then-found-eq0-clause-leaves
returns-then-found-eq0-clause-leaves g c =
    leaves_then g.V.Volume.tells g.V.Volume.files g.V.Volume.moment g.V.Volume.may_leave g.V.Volume.leases g.V.Volume.refs g.V.Volume.faults
    c.args.volume.now c.recover.new.volume c.first_log.new.volume
    (recovers_leaves g.V.Volume.tells g.V.Volume.files g.V.Volume.moment g.V.Volume.may_leave g.V.Volume.leases g.V.Volume.refs g.V.Volume.faults c.args.volume.now c.recover.new.volume c.recover.ensures.recovers)
    (λ told settled. search rules) c.first_log.ensures.leaves

pub returns-then-found-eq0-clause-at : goal.returns-then-found-eq0-clause-at
returns-then-found-eq0-clause-at g c told =
    let found = c.in_ok-found.found in
    let told1 : IsTrue (g.V.Volume.tells c.recover.new.volume) = search rules in
    let nothing = c.in_ok-found.ensures.rooted.nothing (search rules) in
    let none : found.roots ≡ no_roots = nothing_listed found.roots (ap (λ (n : Newest). n.trees) nothing) in
    let commit : found.commit ≡ 0 = ap (λ (n : Newest). n.commit) nothing in
    let files = g.V.Volume.files c.first_log.new.volume in
    let images = g.V.Volume.may_leave c.first_log.new.volume (g.V.Volume.moment c.first_log.new.volume) in
    subst (λ (n : ℕ). IsAt c.in_ok-log.log found.roots n files images) (sym commit)
    (subst (λ (roots : Roots). IsAt c.in_ok-log.log roots 0 files images) (sym none) (c.in_ok-log.ensures.at told1))

pub returns-clause-at : goal.returns-clause-at
returns-clause-at g c told =
    let found = c.in_ok-found.found in
    let ok = c.in_ok-found.ensures in
    let files = g.V.Volume.files c.recover.new.volume in
    let images = g.V.Volume.may_leave c.recover.new.volume (g.V.Volume.moment c.recover.new.volume) in
    let some : 0 < found.marks = search rules in
    let opened = ok.opened told some in
    let stands : Stands (resumed_log found.file found.end found.marks found.back c.args.target) files images =
    c.stands_after_opening.ensures c.recover.new.volume found.file found.end found.marks found.back c.args.target opened in
    subst (λ (log : Log). IsAt log found.roots found.commit files images) (sym c.resume-log.ensures)
    (resumed_at found files images c.args.target (c.recover.ensures.recovers.decided told ∙ ok.found told) some ok.rooted (ok.root told some) (ok.nothing_above told) (search rules) (search rules) stands)

pub returns-then-found-eq0-clause-kinds : goal.returns-then-found-eq0-clause-kinds
returns-then-found-eq0-clause-kinds g c told =
    let found = c.in_ok-found.found in
    kinds_found (g.V.Volume.files c.args.volume.now) (newest_of found) found.kinds (c.in_ok-found.ensures.found told) (c.in_ok-found.ensures.kinds told)

pub returns-clause-kinds : goal.returns-clause-kinds
returns-clause-kinds g c told =
    let found = c.in_ok-found.found in
    kinds_found (g.V.Volume.files c.args.volume.now) (newest_of found) found.kinds (c.in_ok-found.ensures.found told) (c.in_ok-found.ensures.kinds told)
