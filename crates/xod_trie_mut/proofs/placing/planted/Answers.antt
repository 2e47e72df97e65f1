use Rattle.std.proofs.Common.{refl, true}
use Rattle.xod_trie_mut.proofs.PutLemmas.{planted-finger}
use Rattle.xod_trie_mut.proofs.placing.planted.Goals as goal

pub returns : goal.returns
returns c = record {
  sets = λ tells records base root own map f.
      planted-finger tells records base root own c.args.finger.levels.items c.args.finger.focus (record { branch = c.in_ok-branch.branch; changed = true; taken = c.args.finger.focus.taken }) map c.args.rest.now c.args.value.now f c.requires.bare c.in_ok-branch.ensures refl refl;
  on_way = λ key on. on;
}
