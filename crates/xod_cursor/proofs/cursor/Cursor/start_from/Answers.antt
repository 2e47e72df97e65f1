use Rattle.std.proofs.Common.{List, Some, ◌∙◌, ap}
use Rattle.std.proofs.lemmas.Result.{IfOk-weaker}
use Rattle.std.specs.FinMap.{empty}
use Rattle.xod_base.specs.Views.{Entry}
use Rattle.xod_trie.proofs.CallerLemmas.{if_entries}
use Rattle.xod_cursor.specs.Cursors.{path_entries}
use Rattle.xod_cursor.proofs.Starting.{those_that-kept}
use Rattle.xod_cursor.proofs.TrieEntries.{entries-empty}
use Rattle.xod_cursor.proofs.cursor.Cursor.start_from.Goals as goal

pub returns-in-None-clause-coming : goal.returns-in-None-clause-coming
returns-in-None-clause-coming g c told =
    rw c.in-None.is (ap (path_entries (g.F.Fetch.records c.args.fetch.now)) c.new.ensures.items ∙ ap (λ (es : List Entry). Some es) (those_that-kept c.args.strict c.args.key.now empty _ entries-empty))

pub returns-in-Some-clause-coming : goal.returns-in-Some-clause-coming
returns-in-Some-clause-coming g c told =
    rw c.in-Some.is (if_entries (g.F.Fetch.records c.args.fetch.now) c.in-Some.root _ (g.met.F.Fetch.rises c.args.fetch.now)
    (λ pairs is map same. IfOk-weaker c.cursor_under.result _ _ (λ cursor e. e ∙ ap (λ (es : List Entry). Some es) (those_that-kept c.args.strict c.args.key.now map pairs same)) (c.cursor_under.ensures.coming told pairs is)))
