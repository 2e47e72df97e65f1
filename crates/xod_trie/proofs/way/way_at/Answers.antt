use Rattle.std.proofs.Common.{◌≤◌, sym, inl, inr}
use Rattle.std.proofs.lemmas.Bool.{cases_lt}
use Rattle.xod_block.specs.Addresses.{number_of}
use Rattle.xod_trie.specs.Branches.{branch_seen}
use Rattle.xod_trie.proofs.Steps.{bad-child}
use Rattle.xod_trie.proofs.way.way_at.Goals as goal

pub returns-in-Some-2 : goal.returns-in-Some-2
returns-in-Some-2 c =
    let child = c.in-Some-child_in.child in
    let above : number_of c.args.at ≤ number_of child = elim (cases_lt (number_of child) (number_of c.args.at)) [
      | inl lt ↦ let below = c.if-is_below.ensures.1 lt in absurd cc
      | inr ge ↦ ge
    ] in
    bad-child _ _ (branch_seen c.in-Some.branch) c.in-Some-split_first.byte.now child (record { is = sym c.in-Some.ensures.exactly; rises = c.in-Some.ensures.fits.rising }) (sym c.in-Some-child_in.ensures) above
