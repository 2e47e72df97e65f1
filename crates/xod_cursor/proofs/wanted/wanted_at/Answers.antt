use Rattle.std.proofs.Common.{◌∙◌, sym, refl}
use Rattle.std.proofs.lemmas.List.{nil_from_length}
use Rattle.xod_block.specs.Reading.{record_in}
use Rattle.xod_trie.specs.Branches.{branch_seen}
use Rattle.xod_cursor.proofs.Wanting.{apart-all, apart-none, here-all, here-strict, behind-whole, read-branch}
use Rattle.xod_cursor.proofs.wanted.wanted_at.Goals as goal

pub returns-then-is_under-clause-wanted : goal.returns-then-is_under-clause-wanted
returns-then-is_under-clause-wanted c records at pairs read map =
    let b = branch_seen c.in-Some.branch in
    apart-all records at b (read-branch records at (record_in c.args.bytes.now) b read c.in-Some.ensures.exactly c.in-Some.ensures.fits) pairs map
    c.args.strict c.args.rest.now (sym c.in_default-behind.ensures) (sym c.is_under.ensures ∙ c.if-is_under.true)

pub returns-in_default-behind-clause-wanted : goal.returns-in_default-behind-clause-wanted
returns-in_default-behind-clause-wanted c records at pairs read map =
    let b = branch_seen c.in-Some.branch in
    apart-none records at b (read-branch records at (record_in c.args.bytes.now) b read c.in-Some.ensures.exactly c.in-Some.ensures.fits) pairs map
    c.args.strict c.args.rest.now (sym c.in_default-behind.ensures) (sym c.is_under.ensures ∙ c.if-is_under.false)

pub returns-then-not-strict-clause-wanted : goal.returns-then-not-strict-clause-wanted
returns-then-not-strict-clause-wanted c records at pairs read map =
    let b = branch_seen c.in-Some.branch in
    rw c.if-not-strict.true (here-all records at b (read-branch records at (record_in c.args.bytes.now) b read c.in-Some.ensures.exactly c.in-Some.ensures.fits) pairs map
    c.args.rest.now c.in-Some-behind.left.now (sym c.in-Some-behind.ensures) (nil_from_length _ c.in_default-split_first.ensures.cases))

pub returns-in_default-split_first-clause-wanted : goal.returns-in_default-split_first-clause-wanted
returns-in_default-split_first-clause-wanted c records at pairs read map =
    let b = branch_seen c.in-Some.branch in
    rw c.if-not-strict.false (here-strict records at b (read-branch records at (record_in c.args.bytes.now) b read c.in-Some.ensures.exactly c.in-Some.ensures.fits) pairs map
    c.args.rest.now c.in-Some-behind.left.now _ (sym c.in-Some-behind.ensures) (nil_from_length _ c.in_default-split_first.ensures.cases) refl refl refl)

pub returns-clause-wanted : goal.returns-clause-wanted
returns-clause-wanted c records at pairs read map =
    let b = branch_seen c.in-Some.branch in
    c.wanted_on.ensures.wanted records c.args.strict at pairs (read-branch records at (record_in c.args.bytes.now) b read c.in-Some.ensures.exactly c.in-Some.ensures.fits) map
    c.args.rest.now (behind-whole b.key c.args.rest.now c.in-Some-behind.left.now (sym c.in-Some-behind.ensures)) c.in-Some-split_first.ensures.cases.0
