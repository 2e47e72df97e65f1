use Rattle.std.specs.Prelude.{IsSome}
use Rattle.xod_block.specs.Addresses.{number_of}
use Rattle.xod_block.specs.Maps.{map_at}
use Rattle.xod_trie.specs.Branches.{value_by}
use Rattle.xod_trie.specs.Tries.{value_at}
use Rattle.xod_trie_mut.specs.Fingers.{HaveMaps, ValuesFit}
use Rattle.xod_trie_mut.specs.Own.{with_own}
use Rattle.xod_trie_mut.proofs.JoinLemmas.{one-map, one-lower, merged-one, too-long}
use Rattle.xod_trie_mut.proofs.LoadLemmas.{stops-weaker}
use Rattle.xod_trie_mut.proofs.OwnLemmas.{with_own-rises, with_own-branches}
use Rattle.xod_trie_mut.proofs.settling.merged.Goals as goal

pub returns-in-Err-clause-stops : goal.returns-in-Err-clause-stops
returns-in-Err-clause-stops g c base each lower =
    let one = c.in-Some.ensures.one in
    let W = with_own c.args.own.now (g.F.Fetch.records c.args.fetch.now) in
    stops-weaker (g.F.Fetch.tells c.args.fetch.now) (g.F.Fetch.records c.args.fetch.now) (IsSome (map_at W (number_of c.in-Some.link.1))) (Unit {0}) (HaveMaps W c.args.branch.children) (ValuesFit (value_by (value_at W) c.args.branch)) c.in-Err.stop
    (λ told maps. one-map W c.args.branch c.in-Some.link maps one) (λ told maps fits. tt) (c.in-Err.ensures.stops base (one-lower base _ c.args.branch c.in-Some.link lower one))

pub returns-in-Ok-Some-clause-merges : goal.returns-in-Ok-Some-clause-merges
returns-in-Ok-Some-clause-merges g c base each lower bare =
    let one = c.in-Some.ensures.one in
    let is = rw c.in-Ok-Some.field-0-is at c.in-Ok-Some.ensures in
    merged-one (g.F.Fetch.tells c.args.fetch.now) (g.F.Fetch.records c.args.fetch.now) base c.args.own.now c.args.branch c.in-Ok.child c.in-Ok-Some.both c.in-Some.link one (c.in-Ok.ensures.loads base each (one-lower base _ c.args.branch c.in-Some.link lower one)) is

pub returns-in-Ok-None-clause-stops : goal.returns-in-Ok-None-clause-stops
returns-in-Ok-None-clause-stops g c base each lower told maps fits =
    let one = c.in-Some.ensures.one in
    let R = g.F.Fetch.records c.args.fetch.now in
    let W = with_own c.args.own.now R in
    let long = rw c.in-Ok-None.field-0-is at c.in-Ok-None.ensures in
    let l = c.in-Ok.ensures.loads base each (one-lower base _ c.args.branch c.in-Some.link lower one) in
    too-long W (with_own-branches c.args.own.now R (g.met.F.Fetch.branches c.args.fetch.now)) (with_own-rises c.args.own.now R (g.met.F.Fetch.rises c.args.fetch.now)) c.args.branch c.in-Ok.child c.in-Some.link one maps (l.here told) long fits
