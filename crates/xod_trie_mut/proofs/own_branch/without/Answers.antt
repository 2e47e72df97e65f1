use Rattle.std.proofs.Common.{◌∙◌}
use Rattle.std.proofs.lemmas.Option.{slice_get_read}
use Rattle.xod_trie_mut.proofs.LinkLemmas.{apart-there}
use Rattle.xod_trie_mut.proofs.own_branch.without.Goals as goal

pub returns-then-index-byte-clause-behind : goal.returns-then-index-byte-clause-behind
returns-then-index-byte-clause-behind c at =
    let items = c.args.children.items in
    let there = slice_get_read items c.len.result c.args.index c.index.result.now (c.len.ensures ∙ c.args.children.ok.0) c.if-index-len.false c.index.ensures in
    apart-there c.args.byte at items c.args.index c.index.result.now there c.if-index-byte.true c.requires
