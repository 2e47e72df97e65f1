use Rattle.xod_trie_mut.specs.Links.{IsBare}
use Rattle.xod_trie_mut.proofs.SettleLemmas.{settled}
use Rattle.xod_trie_mut.proofs.settling.settle.Goals as goal

pub returns-in-Ok-store-clause-settles : goal.returns-in-Ok-store-clause-settles
returns-in-Ok-store-clause-settles g c base each lower =
    let bare : IsBare c.args.branch → ⊥ = λ b. (let e = c.if-is_bare.ensures.1 b in absurd cc) in
    settled (g.F.Fetch.tells c.args.fetch.now) (g.F.Fetch.records c.args.fetch.now) base c.args.own.now c.store.new.own c.args.branch c.in-Ok.made c.in-Ok-store.at each (c.in-Ok.ensures.merges base each lower bare) c.in-Ok-store.ensures.parts c.in-Ok-store.ensures.at c.in-Ok-store.ensures.put
