use Rattle.std.proofs.Common.{sym, arith, inl, inr}
use Rattle.xod_block.specs.Seen.{seen}
use Rattle.xod_pages.proofs.Fronts.{front-shows, front-shows_none}
use Rattle.xod_pages.proofs.shown.shown_by.Goals as goal
use Rattle.xod_pages.proofs.shown.shown_by.Goals.{then-front-wanted-via-then-front-wanted, then-front-wanted-via-else-front-wanted+then-wanted-ge-LONGEST_RECORD}

pub returns-in-Some : goal.returns-in-Some
returns-in-Some c = front-shows c.args.wanted c.args.front.now (seen c.in-Some.field-0-0) c.in-Some.count c.in-Some.ensures.found (sym c.in-Some.ensures.exactly)

pub returns-then-front-wanted : goal.returns-then-front-wanted
returns-then-front-wanted c = front-shows_none c.args.wanted c.args.front.now (λ i. let fits = c.type_inv.front i in omega (arith, fits)) c.in_default.ensures.exactly
    (elim c.then-front-wanted.branch [
      | then-front-wanted-via-then-front-wanted w ↦ inl w.if-front-wanted.true
      | then-front-wanted-via-else-front-wanted+then-wanted-ge-LONGEST_RECORD w ↦ inr w.if-wanted-ge-LONGEST_RECORD.true
    ])
