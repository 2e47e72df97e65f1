use Rattle.std.proofs.Common.{◌∙◌, sym}
use Rattle.std.proofs.lemmas.Result.{IfOk-weaker}
use Rattle.xod_trie.specs.Least.{passes}
use Rattle.xod_cursor.proofs.TrieEntries.{least_pair-empty, if_least}
use Rattle.xod_cursor.proofs.walks.walk.Goals as goal

pub returns-in-None-clause-least : goal.returns-in-None-clause-least
returns-in-None-clause-least g c told = rw c.in-None.is (sym (least_pair-empty (passes c.args.strict c.args.key.now)))

pub returns-in-Some-clause-least : goal.returns-in-Some-clause-least
returns-in-Some-clause-least g c told =
    rw c.in-Some.is (if_least (g.F.Fetch.records c.args.fetch.now) c.in-Some.root (passes c.args.strict c.args.key.now) _ (g.met.F.Fetch.rises c.args.fetch.now)
    (λ pairs is map same. IfOk-weaker c.walk_under.result _ _ (λ found e. e ∙ same) (c.walk_under.ensures.least told pairs is)))
