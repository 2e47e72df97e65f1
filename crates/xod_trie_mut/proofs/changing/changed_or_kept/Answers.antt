use Rattle.std.proofs.Common.{◌≡◌, ◌∙◌, sym, ap, subst, Bool, Option, List, ℕ, length, take}
use Rattle.std.specs.Prelude.{IsSome, IfSome, IsTrue}
use Rattle.std.specs.Option.{option_map}
use Rattle.xod_block.specs.declared.address.Address.{Address}
use Rattle.xod_block.specs.Maps.{RecordsAt}
use Rattle.xod_trie.specs.declared.branch.Branch.{Branch}
use Rattle.xod_trie.specs.Tries.{trie_map}
use Rattle.xod_trie_mut.specs.declared.stop.Stop.{Stop}
use Rattle.xod_trie_mut.specs.Changes.{KeysFit, with_changes}
use Rattle.xod_trie_mut.specs.Fingers.{IsClosed}
use Rattle.xod_trie_mut.specs.Own.{AreOwn, IsRoot, with_own}
use Rattle.xod_trie_mut.specs.Stops.{Breaks, StopsBy}
use Rattle.xod_trie_mut.proofs.FingerLemmas.{back}
use Rattle.xod_trie_mut.proofs.OwnLemmas.{extends-front}
use Rattle.xod_trie_mut.proofs.changing.changed_or_kept.Goals as goal

pub returns-in-Ok-clause-changes : goal.returns-in-Ok-clause-changes
returns-in-Ok-clause-changes g c base each root_is =
    let t = g.F.Fetch.tells c.args.fetch.now in
    let R = g.F.Fetch.records c.args.fetch.now in
    let own = c.args.own.now in
    let e = c.copy_of.ensures in
    subst (λ (r : Option Address). IsClosed t R base c.changed.new.own c.in-Ok.made.root (option_map (λ m. with_changes m c.args.changes.now) (trie_map (with_own own R) r))) e
    (c.in-Ok.ensures.changes base each (subst (λ (r : Option Address). IsRoot base (length own) r) (sym e) root_is))

pub returns-in-TooLong-clause-breaks : goal.returns-in-TooLong-clause-breaks
returns-in-TooLong-clause-breaks g c base each root_is fits =
    let t = g.F.Fetch.tells c.args.fetch.now in
    let R = g.F.Fetch.records c.args.fetch.now in
    let own = c.args.own.now in
    let cut = c.cut_back.new.own in
    let root = c.args.root.now in
    let e = c.copy_of.ensures in
    let s = c.changed.ensures.stays in
    let same : cut ≡ own = c.cut_back.ensures ∙ ap (λ (n : ℕ). take n c.changed.new.own) c.len-count.ensures ∙ extends-front own c.changed.new.own c.changed.ensures.extends in
    let stops = subst (λ (r : Option Address). StopsBy t R (IsSome (trie_map (with_own own R) r)) (IfSome (trie_map (with_own own R) r) KeysFit) c.in-Err.stop) e (c.in-Err.ensures.stops base each (subst (λ (r : Option Address). IsRoot base (length own) r) (sym e) root_is)) in
    let never = subst (λ (x : Stop). StopsBy t R (IsSome (trie_map (with_own own R) root)) (IfSome (trie_map (with_own own R) root) KeysFit) x) c.in-TooLong.is stops in
    let h = c.too_long.ensures.breaks base (subst (AreOwn base) (sym same) each) (subst (λ (l : List Branch). IsRoot base (length l) root) (sym same) root_is) (λ told2 some2.
    let told : IsTrue t = sym s.tells_same ∙ told2 in
    let some1 : IsSome (trie_map (with_own cut R) root) = back (λ (u : Bool) (S : RecordsAt). IsSome (trie_map (with_own cut S) root)) s some2 in
    let some : IsSome (trie_map (with_own own R) root) = subst (λ (l : List Branch). IsSome (trie_map (with_own l R) root)) same some1 in
    never told some (fits told)) in
    subst (λ (l : List Branch). Breaks t R (IsSome (trie_map (with_own l R) root)) c.too_long.result) same (back (λ (u : Bool) (S : RecordsAt). Breaks u S (IsSome (trie_map (with_own cut S) root)) c.too_long.result) s h)
