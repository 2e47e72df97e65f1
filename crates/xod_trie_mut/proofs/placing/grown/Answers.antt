use Rattle.std.proofs.Common.{◌+◌, length, List, ℕ, ap, refl, true}
use Rattle.xod_trie_mut.proofs.FingerLemmas.{on_way-behind}
use Rattle.xod_trie_mut.proofs.PutLemmas.{grown-finger}
use Rattle.xod_trie_mut.proofs.placing.grown.Goals as goal

pub returns : goal.returns
returns c = record {
  sets = λ rest on stays tells records base root own map f.
      let o = c.args.finger.focus in
      grown-finger tells records base root own c.args.finger.levels.items c.push.new.self.items o (record { branch = c.in_ok-branch.branch; changed = true; taken = o.taken + length c.key.result.now + 1 }) map rest c.args.left.now c.args.value.now c.args.byte f on stays c.in_ok-branch.ensures refl (ap (λ (l : List ℕ). o.taken + length l + 1) c.key.ensures.exactly) c.in_ok-push.ensures.items;
  on_way = λ key way on.
      let o = c.args.finger.focus in
      on_way-behind o.branch key c.args.left.now c.args.finger.levels.items c.push.new.self.items o (record { branch = c.in_ok-branch.branch; changed = true; taken = o.taken + length c.key.result.now + 1 }) c.args.byte refl on c.in_ok-push.ensures.items (ap (λ (l : List ℕ). o.taken + length l + 1) c.key.ensures.exactly) way;
}
