use Rattle.std.proofs.Common.{◌∙◌, ap, sym, List, ℕ, Some}
use Rattle.xod_trie.specs.Branches.{behind}
use Rattle.xod_trie_mut.proofs.way.step.Goals as goal

pub returns-clause-goes : goal.returns-clause-goes
returns-clause-goes c = record {
  rest = c.in_ok-byte.field-0-1.now;
  behind_is = ap (λ (key : List ℕ). behind key c.args.rest.now) (sym c.key.ensures.exactly) ∙ sym c.in_ok-left.ensures ∙ ap (λ (l : List ℕ). Some l) c.in_ok-byte.ensures.cases.0;
  child_is = sym c.in_ok-child.ensures;
}
