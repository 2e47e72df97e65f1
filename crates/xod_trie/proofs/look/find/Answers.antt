use Rattle.std.proofs.Common.{◌∙◌, sym}
use Rattle.std.specs.FinMap.{get-empty}
use Rattle.std.proofs.lemmas.Result.{IfOk-weaker}
use Rattle.xod_base.specs.Values.{bytes_cmp}
use Rattle.xod_trie.proofs.Maps.{if_map}
use Rattle.xod_trie.proofs.look.find.Goals as goal

pub returns-in-None-clause-value : goal.returns-in-None-clause-value
returns-in-None-clause-value g c told = rw c.in-None.is (sym (get-empty bytes_cmp c.args.key.now))

pub returns-in-Some-clause-value : goal.returns-in-Some-clause-value
returns-in-Some-clause-value g c told = rw c.in-Some.is (if_map (g.F.Fetch.records c.args.fetch.now) c.in-Some.root _ (λ some map is. IfOk-weaker c.find_under.result _ _ (λ v e. e ∙ sym (is c.args.key.now)) (c.find_under.ensures.value told some)))
