use Rattle.std.proofs.Common.{◌≡◌, ◌∙◌, ◌++◌, ◌∷◌, [], sym, ap, refl, subst, Bool, Option, List, length}
use Rattle.std.specs.Prelude.{IsSome}
use Rattle.std.specs.List.{AllByRecursion}
use Rattle.xod_block.specs.declared.address.Address.{Address}
use Rattle.xod_block.specs.Addresses.{number_of}
use Rattle.xod_block.specs.Maps.{RecordsAt, map_at}
use Rattle.xod_block.proofs.CallerLemmas.{Stays-first, Stays-then, counts-first}
use Rattle.xod_trie.specs.declared.branch.Branch.{Branch}
use Rattle.xod_trie_mut.specs.Own.{AreOwn, IsLower, with_own}
use Rattle.xod_trie_mut.specs.Settling.{IsLoaded}
use Rattle.xod_trie_mut.specs.Stops.{Breaks}
use Rattle.xod_trie_mut.proofs.FingerLemmas.{back}
use Rattle.xod_trie_mut.proofs.LoadLemmas.{breaks-weaker}
use Rattle.xod_trie_mut.proofs.LookLemmas.{weights-smaller, waits-all, waited-all, map-from, last-waiting, none-waiting, wanting-breaks, counts-kept, counts-read, breaks-read}
use Rattle.xod_trie_mut.proofs.OwnLemmas.{branch-maps}
use Rattle.xod_trie_mut.proofs.looking.look_through.Goals as goal

pub through-init : goal.through-init
through-init g c =
    let R = g.F.Fetch.records c.args.fetch.now in
    let W = with_own c.args.own.now R in
    let put = rw c.if-is_err.ensures.negation at c.push.ensures.items in
    let one : c.push.new.self.items ≡ c.args.root ∷ [] = put ∙ ap (λ (l : List Address). l ++ c.args.root ∷ []) c.new-waiting.ensures.items in
    record {
      stays = Stays-first;
      no_fault = refl;
      lower = λ base each lower. subst (AllByRecursion (λ (at : Address). IsLower base (length c.args.own.now) at)) (sym one) (lower, tt);
      whole = λ base each lower told all. let h : AllByRecursion (λ (at : Address). IsSome (map_at W (number_of at))) (c.args.root ∷ []) = subst (AllByRecursion (λ (at : Address). IsSome (map_at W (number_of at)))) one all in h.0;
      maps = λ base each lower told some. subst (AllByRecursion (λ (at : Address). IsSome (map_at W (number_of at)))) (sym one) (some, tt);
    }

pub returns-in-Err-clause-breaks : goal.returns-in-Err-clause-breaks
returns-in-Err-clause-breaks g c base each lower =
    let R = g.F.Fetch.records c.args.fetch.now in
    let own = c.args.own.now in
    let at = c.in-Some.at in
    let s = c.through.invariant.stays in
    let items = c.in-Some.ensures.items in
    let low = last-waiting (λ (a : Address). IsLower base (length own) a) c.through.waiting.items c.pop.new.self.items at items (c.through.invariant.lower base each lower) in
    let broken = breaks-read _ _ (IsSome (map_at (with_own own (g.F.Fetch.records c.through.fetch)) (number_of at))) (Unit {0}) c.in-Err.stop c.error_of.result c.error_of.ensures (c.in-Err.ensures.stops base low) in
    breaks-weaker (g.F.Fetch.tells c.args.fetch.now) R (IsSome (map_at (with_own own R) (number_of at))) (IsSome (map_at (with_own own R) (number_of c.args.root))) c.error_of.result
    (λ told some. last-waiting (λ (a : Address). IsSome (map_at (with_own own R) (number_of a))) c.through.waiting.items c.pop.new.self.items at items (c.through.invariant.maps base each lower told some))
    (back (λ (u : Bool) (S : RecordsAt). Breaks u S (IsSome (map_at (with_own own S) (number_of at))) c.error_of.result) s broken)

pub returns-in-Err-clause-counts : goal.returns-in-Err-clause-counts
returns-in-Err-clause-counts g c = counts-first _ _ _ _ c.through.invariant.no_fault (counts-read Branch _ _ c.in-Err.stop c.error_of.result c.error_of.ensures c.in-Err.ensures.counts)

pub returns-in-Err-with_children-clause-breaks : goal.returns-in-Err-with_children-clause-breaks
returns-in-Err-with_children-clause-breaks g c base each lower =
    let R = g.F.Fetch.records c.args.fetch.now in
    let own = c.args.own.now in
    let low = last-waiting (λ (a : Address). IsLower base (length own) a) c.through.waiting.items c.pop.new.self.items c.in-Some.at c.in-Some.ensures.items (c.through.invariant.lower base each lower) in
    wanting-breaks (g.F.Fetch.tells c.args.fetch.now) R (IsSome (map_at (with_own own R) (number_of c.args.root))) c.in-Err-with_children.error (c.in-Err-with_children.ensures.wanting (c.in-Ok.ensures.loads base each low).under)

pub returns-in-Err-with_children-clause-counts : goal.returns-in-Err-with_children-clause-counts
returns-in-Err-with_children-clause-counts g c = counts-kept _ _ c.in-Err-with_children.error c.in-Err-with_children.ensures.no_device (c.in-Ok.ensures.counts ∙ c.through.invariant.no_fault)

pub through-smaller : goal.through-smaller
through-smaller g c =
    weights-smaller c.through.waiting.items c.pop.new.self.items c.in-Ok-with_children.more.items c.in-Some.at c.in-Ok.branch.children c.in-Some.ensures.items c.in-Ok-with_children.ensures.items c.in-Ok-with_children.ensures.below c.with_children.ensures.few

pub through-preserved : goal.through-preserved
through-preserved g c =
    let R = g.F.Fetch.records c.args.fetch.now in
    let own = c.args.own.now in
    let at = c.in-Some.at in
    let s = c.through.invariant.stays in
    let ups = c.through.waiting.items in
    let pops = c.pop.new.self.items in
    let more = c.in-Ok-with_children.more.items in
    let cs = c.in-Ok.branch.children in
    let e = c.in-Some.ensures.items in
    let f = c.in-Ok-with_children.ensures.items in
    let below = c.in-Ok-with_children.ensures.below in
    let load : (base : Option Address) → AreOwn base own → IsLower base (length own) c.args.root → IsLoaded (g.F.Fetch.tells c.args.fetch.now) R base own at c.in-Ok.branch = λ base each lower.
    back (λ (u : Bool) (S : RecordsAt). IsLoaded u S base own at c.in-Ok.branch) s (c.in-Ok.ensures.loads base each (last-waiting (λ (a : Address). IsLower base (length own) a) ups pops at e (c.through.invariant.lower base each lower))) in
    record {
      stays = Stays-then s c.load.ensures.stays;
      no_fault = c.in-Ok.ensures.counts ∙ c.through.invariant.no_fault;
      lower = λ base each lower. waits-all (λ (a : Address). IsLower base (length own) a) ups pops more at cs e f (c.through.invariant.lower base each lower) (λ low. (load base each lower).lower);
      whole = λ base each lower told all. c.through.invariant.whole base each lower told (waited-all (λ (a : Address). IsSome (map_at (with_own own R) (number_of a))) ups pops more at cs e f all (map-from (with_own own R) at c.in-Ok.branch ((load base each lower).here told) below));
      maps = λ base each lower told some. waits-all (λ (a : Address). IsSome (map_at (with_own own R) (number_of a))) ups pops more at cs e f (c.through.invariant.maps base each lower told some) (λ here. branch-maps (with_own own R) (number_of at) c.in-Ok.branch here ((load base each lower).here told));
    }

pub returns-clause-whole : goal.returns-clause-whole
returns-clause-whole g c base each lower told =
    let none : length c.through.waiting.items ≡ 0 = sym c.through.waiting.ok.0 ∙ c.in_default.ensures.cases.0 in
    c.through.invariant.whole base each lower told (none-waiting (λ (a : Address). IsSome (map_at (with_own c.args.own.now (g.F.Fetch.records c.args.fetch.now)) (number_of a))) c.through.waiting.items none)
