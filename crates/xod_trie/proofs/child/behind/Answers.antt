use Rattle.std.proofs.Common.{sym}
use Rattle.xod_trie.proofs.Lists.{behind-is, behind-none}
use Rattle.xod_trie.proofs.child.behind.Goals as goal

pub returns-then-not-starts_with : goal.returns-then-not-starts_with
returns-then-not-starts_with c = sym (behind-none c.args.front.now c.args.key.now (sym c.if-not-starts_with.ensures.value))

pub returns : goal.returns
returns c = let h = behind-is c.args.front.now c.args.key.now (sym c.if-not-starts_with.ensures.value) in let b = c.split_at.ensures.back in cc
