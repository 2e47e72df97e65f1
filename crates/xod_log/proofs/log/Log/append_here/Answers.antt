use Rattle.std.proofs.Common.{length, Err, ◌∙◌, ap, arith}
use Rattle.xod_log.specs.Standing.{body_file}
use Rattle.xod_log.proofs.Runs.{unmoved}
use Rattle.std.proofs.lemmas.Result.{err_from_is_err_and}
use Rattle.xod_log.proofs.Appending.{memory_only, on_error, nothing_appended, stands_still, appended_stands, block_ends}
use Rattle.xod_log.proofs.Synced.{settled_still}
use Rattle.xod_log.proofs.log.Log.append_here.Goals as goal

pub returns-in_default-clause-crash : goal.returns-in_default-clause-crash
returns-in_default-clause-crash g c told =
    nothing_appended (body_file c.args.self.now) c.args.self.now.end (length c.args.block.now) _ _

pub returns-in_err-append-clause-stands_on : goal.returns-in_err-append-clause-stands_on
returns-in_err-append-clause-stands_on g c told fine =
    let log = c.args.self.now in
    let s = c.requires.stands told in
    let memory = c.in_err-append.was {u = tt} ∙ ap (λ e. Err e) (memory_only c.in_err-append.field-0.0 c.from_residual.result c.from_residual.ensures.1 fine) in
    stands_still log _ _ _ _ s (c.append.ensures.unchanged told memory) (unmoved _ _ _ _ _ (c.append.ensures.memory memory).moment (c.append.ensures.crash told))

pub returns-in_err-append-clause-crash : goal.returns-in_err-append-clause-crash
returns-in_err-append-clause-crash g c told =
    let log = c.args.self.now in
    let s = c.requires.stands told in
    (rw (c.body_file.ensures, s.size) at c.append.ensures.crash told)

pub returns-clause-stands_on : goal.returns-clause-stands_on
returns-clause-stands_on g c told fine =
    let log = c.args.self.now in
    let s = c.requires.stands told in
    let passes = (rw (c.body_file.ensures, s.size) at c.append.ensures.crash told) in
    appended_stands log _ _ _ _ c.args.block.now c.in-Some.end c.args.back s (rw c.body_file.ensures at c.in_ok-append.ensures.appended told) c.in-Some.ensures.1 (λ left i. passes.each _ left passes.later (omega arith) i)

pub returns-clause-crash : goal.returns-clause-crash
returns-clause-crash g c told =
    let log = c.args.self.now in
    let s = c.requires.stands told in
    (rw (c.body_file.ensures, s.size) at c.append.ensures.crash told)

pub returns-clause-whole : goal.returns-clause-whole
returns-clause-whole g c told =
    let log = c.args.self.now in
    block_ends log _ _ _ c.args.block.now (c.requires.stands told) (rw c.body_file.ensures at c.in_ok-append.ensures.appended told)

pub returns-in_err-append-clause-settled : goal.returns-in_err-append-clause-settled
returns-in_err-append-clause-settled g c told fine =
    let memory = c.in_err-append.was {u = tt} ∙ ap (λ e. Err e) (memory_only c.in_err-append.field-0.0 c.from_residual.result c.from_residual.ensures.1 fine) in
    let error = err_from_is_err_and c.from_residual.result c.from_residual.ensures.1 in
    on_error c.from_residual.result error.0 error.1 (settled_still _ _ _ _ _ _ _ (c.append.ensures.unchanged told memory) (c.append.ensures.memory memory).moment (c.append.ensures.crash told))
