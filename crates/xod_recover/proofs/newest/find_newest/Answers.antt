use Rattle.std.proofs.Common.{◌≡◌, Ok, Option, Some, sym, ap, ◌∙◌, subst}
use Rattle.std.specs.Prelude.{IfOk}
use Rattle.std.proofs.lemmas.Result.{IfOk-weaker}
use Rattle.xod_recover.specs.declared.ends.Used.{Used}
use Rattle.xod_audit.specs.Audits.{kinds_of}
use Rattle.xod_volume.specs.Files.{Files}
use Rattle.xod_recover.specs.Check.{Newest, check, trees_under}
use Rattle.xod_recover.specs.Found.{newest_of}
use Rattle.xod_recover.specs.Opened.{greatest_used}
use Rattle.xod_recover.specs.Uses.{Finds}
use Rattle.xod_recover.proofs.Checking.{check-none, check-found, found-spelled}
use Rattle.xod_recover.proofs.Judging.{empty-kinds}
use Rattle.xod_recover.proofs.newest.find_newest.Goals as goal

pub returns-in-None-clause-found : goal.returns-in-None-clause-found
returns-in-None-clause-found g c told =
    let now = g.V.Volume.files c.files.new.self in
    let finds = subst (λ (o : Option Used). Finds now (greatest_used now) o) c.in-None.is (c.in_ok-find_used.ensures.found (c.files.ensures.stays.tells ∙ told)) in
    ap check (sym (c.files.ensures.same told)) ∙ check-none now finds ∙ sym (ap (λ (n : Newest). Ok n) c.nothing.ensures.newest)

pub returns-in-None-clause-kinds : goal.returns-in-None-clause-kinds
returns-in-None-clause-kinds g c told = empty-kinds _ _ _ c.nothing.ensures.newest c.nothing.ensures.kinds

pub returns-clause-found : goal.returns-clause-found
returns-clause-found g c told =
    let listed = c.files.ensures.stays.tells ∙ told in
    let mark = c.last_mark.ensures in
    let decided = check-found _ _ _ c.in_ok-find_used.field-0 c.in-Some.used c.last_mark.result.file c.last_mark.result.mark c.last_mark.result.end c.last_mark.result.back (c.files.ensures.same told) (c.find_used.ensures.reads.same listed) (c.in_ok-find_used.ensures.found listed) c.in-Some.is mark.file mark.mark mark.end mark.back in
    IfOk-weaker c.judge_body.result _ _ (λ found is. decided ∙ is) (c.judge_body.ensures.found (c.find_used.ensures.reads.stays.tells ∙ listed))

pub returns-clause-kinds : goal.returns-clause-kinds
returns-clause-kinds g c told =
    let listed = c.files.ensures.stays.tells ∙ told in
    subst (λ (f : Files). IfOk c.judge_body.result (λ found. kinds_of (trees_under f (newest_of found)) ≡ Some found.kinds))
    (c.find_used.ensures.reads.same listed ∙ c.files.ensures.same told)
    (c.judge_body.ensures.kinds (c.find_used.ensures.reads.stays.tells ∙ listed))

pub returns-clause-damaged : goal.returns-clause-damaged
returns-clause-damaged g c told place e =
    let listed = c.files.ensures.stays.tells ∙ told in
    let mark = c.last_mark.ensures in
    check-found _ _ _ c.in_ok-find_used.field-0 c.in-Some.used c.last_mark.result.file c.last_mark.result.mark c.last_mark.result.end c.last_mark.result.back (c.files.ensures.same told) (c.find_used.ensures.reads.same listed) (c.in_ok-find_used.ensures.found listed) c.in-Some.is mark.file mark.mark mark.end mark.back
    ∙ c.judge_body.ensures.damaged (c.find_used.ensures.reads.stays.tells ∙ listed) place e

pub returns-clause-spelled : goal.returns-clause-spelled
returns-clause-spelled g c told =
    let listed = c.files.ensures.stays.tells ∙ told in
    let mark = c.last_mark.ensures in
    IfOk-weaker c.judge_body.result _ _ (λ found is some. found-spelled _ _ _ c.in_ok-find_used.field-0 c.in-Some.used c.last_mark.result.file c.last_mark.result.mark c.last_mark.result.end c.last_mark.result.back (newest_of found) (c.files.ensures.same told) (c.in_ok-find_used.ensures.found listed) c.in-Some.is mark.file mark.mark mark.spelled is)
    (c.judge_body.ensures.found (c.find_used.ensures.reads.stays.tells ∙ listed))
