use Rattle.std.proofs.Common.{refl, true}
use Rattle.xod_trie_mut.proofs.FingerLemmas.{left-changed}
use Rattle.xod_trie_mut.proofs.way.leave.Goals as goal

pub returns-in-Ok-relinked-clause-leaves : goal.returns-in-Ok-relinked-clause-leaves
returns-in-Ok-relinked-clause-leaves g c base taken each held lower =
    left-changed (g.F.Fetch.tells c.args.fetch.now) (g.F.Fetch.records c.args.fetch.now) base c.args.own.now c.settle.new.own taken c.args.level c.args.focus c.in-Ok.at c.in-Ok-relinked.branch
    (record { branch = c.in-Ok-relinked.branch; changed = true; taken = c.args.level.opened.taken }) held (c.in-Ok.ensures.settles base each lower) c.in-Ok.ensures.extends c.in-Ok-relinked.ensures.rising c.in-Ok-relinked.ensures.linked refl
