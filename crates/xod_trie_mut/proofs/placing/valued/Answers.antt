use Rattle.std.proofs.Common.{◌∙◌, ap, refl, true, Some, Option, List, ℕ, length}
use Rattle.xod_trie.specs.Tries.{value_at}
use Rattle.xod_trie_mut.specs.Own.{with_own}
use Rattle.xod_trie_mut.proofs.FingerLemmas.{held-last}
use Rattle.xod_trie_mut.proofs.PutLemmas.{kept, own-at, valued-finger}
use Rattle.xod_trie_mut.proofs.placing.valued.Goals as goal

pub returns-then-has_value-clause-sets : goal.returns-then-has_value-clause-sets
returns-then-has_value-clause-sets c rest on tells records base root own map f =
    kept tells records base root own c.args.finger.levels.items c.args.finger.focus map rest (Some c.args.value.now) f (own-at (value_at (with_own own records)) c.args.finger.focus.branch rest on ∙ c.if-has_value.ensures.0 refl)

pub returns-clause-sets : goal.returns-clause-sets
returns-clause-sets c rest on tells records base root own map f =
    let o = c.args.finger.focus in
    let v : Option (List ℕ) = Some c.args.value.now in
    valued-finger tells records base root own c.args.finger.levels.items o (record { branch = c.with_value.result; changed = true; taken = o.taken }) map rest v f (held-last base (length own) 0 c.args.finger.levels.items o f.held) on
    (c.with_value.ensures ∙ ap (λ (w : List ℕ). record o.branch { value = Some w }) c.in_ok-value.ensures) refl refl
