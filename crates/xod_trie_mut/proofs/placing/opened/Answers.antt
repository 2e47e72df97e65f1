use Rattle.std.proofs.Common.{◌≡◌, ◌<◌, ◌∙◌, ap, sym, refl, subst, true, List, ◌∷◌, ℕ, length, take, get_or, arith}
use mathlib.Core.Logic.{◌≢◌}
use Rattle.std.specs.Prelude.{is_some}
use Rattle.std.proofs.lemmas.List.{take_all, take_at}
use Rattle.xod_trie.specs.declared.branch.Branch.{Branch}
use Rattle.xod_trie.specs.Branches.{behind, value_by}
use Rattle.xod_trie.specs.Tries.{value_at}
use Rattle.xod_trie_mut.specs.Fingers.{HaveMaps, ValuesFit}
use Rattle.xod_trie_mut.specs.Own.{with_own}
use Rattle.xod_trie_mut.proofs.LoadLemmas.{stops-weaker}
use Rattle.xod_trie_mut.proofs.PutLemmas.{front-behind, cut-lower, cut-maps, cut-fits, cut-opened, cut-stays, apart-behind}
use Rattle.xod_trie_mut.proofs.placing.opened.Goals as goal

pub returns-then-count-key-clause-front : goal.returns-then-count-key-clause-front
returns-then-count-key-clause-front g c =
    let key = c.args.focus.branch.key in
    let n : c.common-count.result ≡ length key = c.if-count-key.true ∙ ap (λ (l : List ℕ). length l) c.key-2.ensures.exactly in
    let all : take c.common-count.result key ≡ key = take_all c.common-count.result key (omega (arith, n)) in
    let same : take c.common-count.result key ≡ take c.common-count.result c.args.rest.now = sym (ap (take c.common-count.result) c.key.ensures.exactly) ∙ c.common-count.ensures.same in
    ap is_some (front-behind key key c.args.rest.now c.common-count.result n all same)

pub returns-in-Err-settle-clause-stops : goal.returns-in-Err-settle-clause-stops
returns-in-Err-settle-clause-stops g c base each lower =
    let R = g.F.Fetch.records c.args.fetch.now in
    let W = with_own c.args.own.now R in
    let b = c.args.focus.branch in
    let h = c.in-Ok.halves in
    stops-weaker (g.F.Fetch.tells c.args.fetch.now) R (HaveMaps W h.lower.children) (ValuesFit (value_by (value_at W) h.lower)) (HaveMaps W b.children) (ValuesFit (value_by (value_at W) b)) c.in-Err-settle.stop
    (λ told maps. cut-maps W b c.common-count.result h c.in-Ok.ensures maps) (λ told maps fits. cut-fits (value_at W) b c.common-count.result h c.in-Ok.ensures fits) (c.in-Err-settle.ensures.stops base each (cut-lower base (length c.args.own.now) b c.common-count.result h c.in-Ok.ensures lower))

pub returns-in-Ok-relinked-clause-opens : goal.returns-in-Ok-relinked-clause-opens
returns-in-Ok-relinked-clause-opens g c base each lower =
    let b = c.args.focus.branch in
    let h = c.in-Ok.halves in
    cut-opened (g.F.Fetch.tells c.args.fetch.now) (g.F.Fetch.records c.args.fetch.now) base c.args.own.now c.settle.new.own c.args.focus (record { branch = c.in-Ok-relinked.branch; changed = true; taken = c.args.focus.taken }) c.common-count.result h c.in-Ok-settle.at c.in-Ok.ensures (c.in-Ok-settle.ensures.settles base each (cut-lower base (length c.args.own.now) b c.common-count.result h c.in-Ok.ensures lower)) c.settle.ensures.extends c.in-Ok-relinked.ensures.linked refl refl

pub returns-in-Ok-relinked-clause-front : goal.returns-in-Ok-relinked-clause-front
returns-in-Ok-relinked-clause-front g c =
    let key = c.args.focus.branch.key in
    let h = c.in-Ok.halves in
    let cut = c.in-Ok.ensures in
    let is : take c.common-count.result key ≡ h.upper.key = ap (take c.common-count.result) cut.whole ∙ take_at h.upper.key (h.byte ∷ h.lower.key) c.common-count.result cut.front in
    let same : take c.common-count.result key ≡ take c.common-count.result c.args.rest.now = sym (ap (take c.common-count.result) c.key.ensures.exactly) ∙ c.common-count.ensures.same in
    ap is_some (ap (λ (b : Branch). behind b.key c.args.rest.now) c.in-Ok-relinked.ensures.linked ∙ front-behind h.upper.key key c.args.rest.now c.common-count.result (sym cut.front) is same)

pub returns-in-Ok-relinked-clause-stays_at : goal.returns-in-Ok-relinked-clause-stays_at
returns-in-Ok-relinked-clause-stays_at g c stays =
    let apart = subst (λ (k : List ℕ). c.common-count.result < length k → c.common-count.result < length c.args.rest.now → (d : ℕ) → get_or k c.common-count.result d ≢ get_or c.args.rest.now c.common-count.result d) c.key.ensures.exactly c.common-count.ensures.apart in
    cut-stays c.args.focus.branch c.common-count.result c.in-Ok.halves c.args.rest.now c.in-Ok-settle.at c.in-Ok-relinked.branch c.in-Ok.ensures c.in-Ok-relinked.ensures.linked apart

pub returns-in-Ok-relinked-clause-same : goal.returns-in-Ok-relinked-clause-same
returns-in-Ok-relinked-clause-same g c some =
    let key = c.args.focus.branch.key in
    let apart = subst (λ (k : List ℕ). c.common-count.result < length k → c.common-count.result < length c.args.rest.now → (d : ℕ) → get_or k c.common-count.result d ≢ get_or c.args.rest.now c.common-count.result d) c.key.ensures.exactly c.common-count.ensures.apart in
    let le = c.common-count.ensures.front in
    let e = ap (λ (l : List ℕ). length l) c.key.ensures.exactly in
    let e2 = ap (λ (l : List ℕ). length l) c.key-2.ensures.exactly in
    let ne = c.if-count-key.false in
    absurd (apart-behind key c.args.rest.now c.common-count.result (omega (arith, le, e, e2, ne)) apart some)
