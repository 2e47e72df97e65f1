use Rattle.std.proofs.Common.{◌∙◌, Some, sym, ap}
use Rattle.xod_trie_mut.specs.Saves.{Saved}
use Rattle.xod_trie_mut.proofs.SavingKeepers.{list-put, list-saved}
use Rattle.xod_trie_mut.proofs.compact.reached.Goals as goal

pub returns-in_ok-at-in-Own : goal.returns-in_ok-at-in-Own
returns-in_ok-at-in-Own c =
    let p = list-put _ _ c.new-list.result c.args.own.now c.in-Own.index c.put_under.new.keeper c.in_ok-at-in-Own.at c.in_ok-at-in-Own.ensures.put c.new-list.ensures in
    let s = list-saved c.args.own.now c.in-Own.index c.args.root c.in-Some.seat c.in-Some.is c.in-Own.ensures.is in
    record {
      own_is = p.0 ∙ sym (ap (λ (x : Saved). x.branches) s);
      root_is = ap (λ a. Some a) p.1 ∙ sym (ap (λ (x : Saved). x.root) s);
    }
