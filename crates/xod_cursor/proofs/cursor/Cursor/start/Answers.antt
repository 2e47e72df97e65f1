use Rattle.std.proofs.Common.{List, Some, ◌∙◌, ap}
use Rattle.std.proofs.lemmas.Option.{IfSome_then}
use Rattle.std.proofs.lemmas.Result.{IfOk-weaker}
use Rattle.xod_base.specs.Views.{Entry}
use Rattle.xod_trie.specs.Tries.{trie_map}
use Rattle.xod_cursor.proofs.Starting.{those_that-all}
use Rattle.xod_cursor.proofs.cursor.Cursor.start.Goals as goal

pub returns-clause-coming : goal.returns-clause-coming
returns-clause-coming g c told =
    IfSome_then (trie_map (g.F.Fetch.records c.args.fetch.now) c.args.root) (c.start_from.ensures.coming told) (λ map is. IfOk-weaker c.start_from.result _ _ (λ cursor e. e ∙ ap (λ (es : List Entry). Some es) (those_that-all map)) is)
