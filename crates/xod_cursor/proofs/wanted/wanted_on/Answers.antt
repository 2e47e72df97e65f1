use Rattle.std.proofs.Common.{refl, arith}
use Rattle.xod_trie.specs.Branches.{branch_seen}
use Rattle.xod_cursor.proofs.Wanting.{on-past, on-above, on-into, child-named}
use Rattle.xod_cursor.proofs.wanted.wanted_on.Goals as goal

pub returns-then-place-link_count-clause-wanted : goal.returns-then-place-link_count-clause-wanted
returns-then-place-link_count-clause-wanted c records strict at pairs here map rest whole goes_on =
    on-past records at (branch_seen c.args.branch) here pairs map strict rest c.args.left.now c.args.byte c.args.further.now _ whole goes_on refl refl
    c.count_below-place.result c.count_below-place.ensures (let n = c.link_count.ensures.count in let past = c.if-place-link_count.true in omega (arith, n, past)) refl

pub returns-then-b-byte-clause-wanted : goal.returns-then-b-byte-clause-wanted
returns-then-b-byte-clause-wanted c records strict at pairs here map rest whole goes_on =
    on-above records at (branch_seen c.args.branch) here pairs map strict rest c.args.left.now c.args.byte c.args.further.now _ whole goes_on refl refl
    c.count_below-place.result c.count_below-place.ensures c.link_at-b.result c.link_at-b.ensures c.if-b-byte.true refl

pub returns-clause-wanted : goal.returns-clause-wanted
returns-clause-wanted c records strict at pairs here map rest whole goes_on =
    on-into records at (branch_seen c.args.branch) here pairs map strict rest c.args.left.now c.args.byte c.args.further.now _ whole goes_on refl refl
    c.count_below-place.result c.count_below-place.ensures c.link_at-b.result c.link_at-b.ensures c.if-b-byte.false refl

pub returns-clause-read : goal.returns-clause-read
returns-clause-read c item here = (record { branch = branch_seen c.args.branch; is = here.is; children_are = refl }, child-named item (branch_seen c.args.branch) c.link_at-b.result c.count_below-place.result here.is c.link_at-b.ensures)
