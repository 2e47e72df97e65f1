use Rattle.std.proofs.Common.{length, arith}
use Rattle.std.specs.Prelude.{IsSome, IfSome}
use Rattle.xod_trie.specs.Branches.{value_by}
use Rattle.xod_trie.specs.Tries.{value_at}
use Rattle.xod_trie_mut.specs.Changes.{KeysFit}
use Rattle.xod_trie_mut.specs.Fingers.{HaveMaps, ValuesFit}
use Rattle.xod_trie_mut.specs.Own.{with_own}
use Rattle.xod_trie_mut.proofs.FingerLemmas.{held-last, finger-maps, finger-fits}
use Rattle.xod_trie_mut.proofs.LoadLemmas.{stops-weaker}
use Rattle.xod_trie_mut.proofs.PutLemmas.{refocus-alike}
use Rattle.xod_trie_mut.proofs.placing.put_here.Goals as goal

pub returns-in-Err-opened-clause-stops : goal.returns-in-Err-opened-clause-stops
returns-in-Err-opened-clause-stops g c base root map f =
    let t = g.F.Fetch.tells c.args.fetch.now in
    let R = g.F.Fetch.records c.args.fetch.now in
    let W = with_own c.args.own.now R in
    let ls = c.args.finger.levels.items in
    let o = c.args.finger.focus in
    stops-weaker t R (HaveMaps W o.branch.children) (ValuesFit (value_by (value_at W) o.branch)) (IsSome map) (IfSome map KeysFit) c.in-Err-opened.stop
    (λ told some. finger-maps W root ls o map (f.stands told) some)
    (λ told some fits. finger-fits W root ls o map (f.stands told) some fits) (c.in-Err-opened.ensures.stops base f.own_are (held-last base (length c.args.own.now) 0 ls o f.held))

pub put_behind-requires-clause-taken : goal.put_behind-requires-clause-taken
put_behind-requires-clause-taken g c = let e = c.in-Ok-opened.ensures.taken in let fits = c.requires.taken in omega (arith, e, fits)

pub returns-in-Ok-put_behind-clause-sets : goal.returns-in-Ok-put_behind-clause-sets
returns-in-Ok-put_behind-clause-sets g c base root map f =
    let t = g.F.Fetch.tells c.args.fetch.now in
    let R = g.F.Fetch.records c.args.fetch.now in
    let ls = c.args.finger.levels.items in
    let o = c.args.finger.focus in
    let op = c.in-Ok-opened.ensures.opens base f.own_are (held-last base (length c.args.own.now) 0 ls o f.held) in
    let f2 = refocus-alike t R base root c.args.own.now c.opened.new.own ls o c.in-Ok-opened.focus map f c.in-Ok-opened.ensures.extends op.own_are op.lower op.taken_same op.ready op.alike in
    c.in-Ok-put_behind.ensures.sets (c.in-Ok-opened.ensures.stays_at c.requires.stays) t R base root c.opened.new.own map f2

pub returns-in-Ok-clause-sets : goal.returns-in-Ok-clause-sets
returns-in-Ok-clause-sets g c base root map f = c.in-Ok.ensures.sets (g.F.Fetch.tells c.args.fetch.now) (g.F.Fetch.records c.args.fetch.now) base root c.args.own.now map f
