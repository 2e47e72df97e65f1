use Rattle.std.proofs.Common.{refl, subst, false, Option}
use Rattle.xod_block.specs.declared.address.Address.{Address}
use Rattle.xod_trie_mut.specs.Own.{IsRoot}
use Rattle.std.proofs.Common.{length}
use Rattle.xod_trie_mut.proofs.ChangeLemmas.{opened-none, opened-some}
use Rattle.xod_trie_mut.proofs.changing.opened_root.Goals as goal

pub returns-in-None-clause-opens : goal.returns-in-None-clause-opens
returns-in-None-clause-opens g c base each root_is =
    opened-none (g.F.Fetch.tells c.args.fetch.now) (g.F.Fetch.records c.args.fetch.now) base c.args.root c.args.own.now c.new.result.items (record { branch = c.bare.result; changed = false; taken = 0 }) each c.in-None.is c.new.ensures.items c.bare.ensures refl

pub returns-in-Ok-clause-opens : goal.returns-in-Ok-clause-opens
returns-in-Ok-clause-opens g c base each root_is =
    let lower = subst (λ (r : Option Address). IsRoot base (length c.args.own.now) r) c.in-Some.is root_is in
    opened-some (g.F.Fetch.tells c.args.fetch.now) (g.F.Fetch.records c.args.fetch.now) base c.args.root c.args.own.now c.new-in-Ok.result.items (record { branch = c.in-Ok.branch; changed = false; taken = 0 }) c.in-Some.at each c.in-Some.is c.new-in-Ok.ensures.items (c.in-Ok.ensures.loads base each lower) refl
