use Rattle.std.proofs.Common.{refl, true, None, length}
use Rattle.xod_trie.specs.Tries.{value_at}
use Rattle.xod_trie_mut.specs.Own.{with_own}
use Rattle.xod_trie_mut.proofs.FingerLemmas.{held-last}
use Rattle.xod_trie_mut.proofs.PutLemmas.{kept, absent, valued-finger}
use Rattle.xod_trie_mut.proofs.placing.remove_here.Goals as goal

pub returns-then-not-ends_here-clause-sets : goal.returns-then-not-ends_here-clause-sets
returns-then-not-ends_here-clause-sets c tells records base root own map f =
    kept tells records base root own c.args.finger.levels.items c.args.finger.focus map c.args.rest.now None f (absent (value_at (with_own own records)) c.args.finger.focus.branch c.args.rest.now c.requires (c.if-not-ends_here.ensures.not_here refl))

pub returns-clause-sets : goal.returns-clause-sets
returns-clause-sets c tells records base root own map f =
    let o = c.args.finger.focus in
    valued-finger tells records base root own c.args.finger.levels.items o (record { branch = c.without_value.result; changed = true; taken = o.taken }) map c.args.rest.now None f (held-last base (length own) 0 c.args.finger.levels.items o f.held) ((c.if-not-ends_here.ensures.here refl).0) c.without_value.ensures refl refl
