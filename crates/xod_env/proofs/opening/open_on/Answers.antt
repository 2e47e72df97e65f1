use Rattle.std.proofs.Common.{rules, IsTrue, ◌∙◌, ap, sym}
use Rattle.xod_env.specs.Envs.{log_file_count}
use Rattle.xod_env.proofs.Leaving.{leaves_reads, settled_reads}
use Rattle.xod_env.proofs.Resting.{at_over}
use Rattle.xod_env.proofs.opening.open_on.Goals as goal

pub returns-in_err-file_count-clause-leaves : goal.returns-in_err-file_count-clause-leaves
returns-in_err-file_count-clause-leaves g c =
    leaves_reads g.V.Volume.tells g.V.Volume.files g.V.Volume.moment g.V.Volume.may_leave g.V.Volume.leases g.V.Volume.refs g.V.Volume.faults
    c.args.volume.now c.find_start.new.volume c.count_files.new.volume c.find_start.ensures.leaves c.count_files.ensures.reads

pub returns-clause-leaves : goal.returns-clause-leaves
returns-clause-leaves g c =
    leaves_reads g.V.Volume.tells g.V.Volume.files g.V.Volume.moment g.V.Volume.may_leave g.V.Volume.leases g.V.Volume.refs g.V.Volume.faults
    c.args.volume.now c.find_start.new.volume c.count_files.new.volume c.find_start.ensures.leaves c.count_files.ensures.reads

pub returns-clause-at : goal.returns-clause-at
returns-clause-at g c told =
    let start = c.in_ok-start.start in
    let mid = c.find_start.new.volume in
    let now = c.count_files.new.volume in
    let reads = c.count_files.ensures.reads in
    let told1 : IsTrue (g.V.Volume.tells mid) = search rules in
    at_over start.log (g.V.Volume.files mid) (g.V.Volume.files now) (g.V.Volume.moment mid) (g.V.Volume.moment now) (g.V.Volume.may_leave mid) (g.V.Volume.may_leave now)
    (reads.same told1) (reads.rests told1) start.roots start.commit (c.in_ok-start.ensures.at told)

pub returns-clause-count : goal.returns-clause-count
returns-clause-count g c told =
    let told1 : IsTrue (g.V.Volume.tells c.find_start.new.volume) = search rules in
    c.in_ok-file_count.ensures.count told1 ∙ ap log_file_count (sym (c.count_files.ensures.reads.same told1))

pub returns-clause-settled : goal.returns-clause-settled
returns-clause-settled g c told settled =
    let told1 : IsTrue (g.V.Volume.tells c.find_start.new.volume) = search rules in
    settled_reads g.V.Volume.tells g.V.Volume.files g.V.Volume.moment g.V.Volume.may_leave g.V.Volume.leases g.V.Volume.refs g.V.Volume.faults
    c.find_start.new.volume c.count_files.new.volume c.count_files.ensures.reads told1 (c.in_ok-start.ensures.settled told settled)
