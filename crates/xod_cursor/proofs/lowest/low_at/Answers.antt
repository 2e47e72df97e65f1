use Rattle.std.proofs.Common.{List, ℕ, Some, ◌∙◌, sym, ap}
use Rattle.std.specs.Option.{option_copied}
use Rattle.xod_block.specs.Reading.{record_in}
use Rattle.xod_trie.specs.Branches.{branch_of, branch_seen}
use Rattle.xod_cursor.proofs.Beginnings.{begins-own, begins-first}
use Rattle.xod_cursor.proofs.Wanting.{child-named}
use Rattle.xod_cursor.proofs.lowest.low_at.Goals as goal

pub returns-in-Some-value-clause-least : goal.returns-in-Some-value-clause-least
returns-in-Some-value-clause-least c records at entries read begins =
    begins-own records c.args.front at entries begins (branch_seen c.in-Some.branch) (ap branch_of (sym read) ∙ sym c.in-Some.ensures.exactly)
    c.extend.new.self c.in_ok-value.value (ap option_copied c.in-Some-value.is ∙ ap (λ (v : List ℕ). Some v) (sym c.in_ok-value.ensures)) c.in_ok-extend.ensures

pub returns-clause-least : goal.returns-clause-least
returns-clause-least c records at entries read begins =
    begins-first records c.args.front at entries begins (branch_seen c.in-Some.branch) (ap branch_of (sym read) ∙ sym c.in-Some.ensures.exactly)
    c.link_at-byte.result c.extend.new.self c.push.new.self (ap option_copied c.in_default-value.is) c.link_at-byte.ensures c.in_ok-extend.ensures c.in_ok-push.ensures

pub returns-clause-read : goal.returns-clause-read
returns-clause-read c = child-named (record_in c.args.bytes.now) (branch_seen c.in-Some.branch) c.link_at-byte.result 0 (sym c.in-Some.ensures.exactly) c.link_at-byte.ensures
