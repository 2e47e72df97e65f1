use Rattle.std.proofs.Common.{◌≡◌, ◌∙◌, ◌-◌, ◌++◌, ℕ, List, [], Result, Ok, Err, sym, ap, subst, take, true}
use Rattle.std.specs.Prelude.{OnErr}
use Rattle.std.proofs.lemmas.Option.{slice_get_within}
use Rattle.xod_block.specs.declared.address.Address.{Address}
use Rattle.xod_trie_mut.specs.declared.frames.Frame.{Frame}
use Rattle.xod_trie_mut.specs.Frames.{with_child}
use Rattle.xod_trie_mut.specs.Own.{is_saved}
use Rattle.xod_trie_mut.proofs.SavingEnds.{less-down, less-with_child, less-up}
use Rattle.xod_trie_mut.proofs.SavingStacks.{child-inside, next-with_child, next-none, next-there, parent-waits, state-done, state-down, state-end, state-first, state-kept, state-with_child, state-up}
use Rattle.xod_trie_mut.proofs.save.put_under.Goals as goal

no_items : (l m : List Frame) (n : ℕ) → l ≡ m ++ [] → m ≡ take (n - 1) l → n ≡ 0 → l ≡ []
no_items l m n e f zero = e ∙ ap (λ (x : List Frame). x ++ []) (f ∙ ap (λ (k : ℕ). take (k - 1) l) zero)

on_err : {T E : Type 0} (r : Result T E) (P : Type 0) → P → OnErr r P
on_err (Ok x) P p = tt
on_err (Err e) P p = p

pub ahead-init : goal.ahead-init
ahead-init g c = state-first _ _ _ _ c.requires.sound.base _ c.requires.sound.are _ _ _ _ c.requires.inside c.first_frame-top.ensures c.new-stack.ensures.items

pub next_seat-requires : goal.next_seat-requires
next_seat-requires g c = slice_get_within c.args.own.now c.ahead.top.index c.ahead.invariant.here.branch c.ahead.invariant.here.is

pub with_next-requires-clause-inside : goal.with_next-requires-clause-inside
with_next-requires-clause-inside g c = slice_get_within c.args.own.now c.ahead.top.index c.ahead.invariant.here.branch c.ahead.invariant.here.is

pub ahead-smaller-in-Saved : goal.ahead-smaller-in-Saved
ahead-smaller-in-Saved g c =
    let t = next-there c.args.own.now c.ahead.top c.in-Some.child (sym c.next_seat.ensures ∙ c.in-Some.is) in
    less-with_child c.args.own.now c.ahead.top c.in_ok-top-in-Saved.top c.ahead.stack.items t.0 (t.0.0, c.in-Some.child) t.1 (next-with_child c.args.own.now c.ahead.top c.in_ok-top-in-Saved.top t.0 c.in-Some.child t.1 c.in_ok-top-in-Saved.ensures)

pub ahead-preserved-in-Saved : goal.ahead-preserved-in-Saved
ahead-preserved-in-Saved g c =
    let t = next-there c.args.own.now c.ahead.top c.in-Some.child (sym c.next_seat.ensures ∙ c.in-Some.is) in
    let saved : is_saved t.0.1 ≡ true = subst (λ (a : Address). is_saved a ≡ true) (sym t.2) c.in-Saved.ensures.saved in
    state-with_child _ _ _ _ c.requires.sound.base _ c.requires.sound.are _ _ _ _ _ _ t.0 c.ahead.invariant t.1 saved (g.met.K.Keep.names_records t.0.1 saved) (next-with_child c.args.own.now c.ahead.top c.in_ok-top-in-Saved.top t.0 c.in-Some.child t.1 c.in_ok-top-in-Saved.ensures ∙ ap (with_child c.ahead.top t.0.0) (sym t.2))

pub ahead-smaller-in-Own : goal.ahead-smaller-in-Own
ahead-smaller-in-Own g c =
    let t = next-there c.args.own.now c.ahead.top c.in-Some.child (sym c.next_seat.ensures ∙ c.in-Some.is) in
    let deep = child-inside _ _ _ _ c.requires.sound.base _ c.requires.sound.are _ _ _ _ _ t.0 c.in-Own.below c.ahead.invariant t.1 (t.2 ∙ c.in-Own.ensures.is) in
    less-down c.requires.sound.base c.args.own.now c.requires.sound.are c.ahead.top c.first_frame-top-in-Own.result c.ahead.stack.items c.push.new.self.items c.in-Own.below deep.0 c.first_frame-top-in-Own.ensures (rw c.if-is_err.ensures.negation at c.push.ensures.items)

pub ahead-preserved-in-Own : goal.ahead-preserved-in-Own
ahead-preserved-in-Own g c =
    let t = next-there c.args.own.now c.ahead.top c.in-Some.child (sym c.next_seat.ensures ∙ c.in-Some.is) in
    let deep = child-inside _ _ _ _ c.requires.sound.base _ c.requires.sound.are _ _ _ _ _ t.0 c.in-Own.below c.ahead.invariant t.1 (t.2 ∙ c.in-Own.ensures.is) in
    state-down _ _ _ _ c.requires.sound.base _ c.requires.sound.are _ _ _ _ _ _ _ t.0 c.in-Own.below c.ahead.invariant t.1 (t.2 ∙ c.in-Own.ensures.is) deep.1 c.first_frame-top-in-Own.ensures (rw c.if-is_err.ensures.negation at c.push.ensures.items)

pub keep_frame-requires : goal.keep_frame-requires
keep_frame-requires g c = state-done _ _ _ _ c.requires.sound.base _ c.requires.sound.are _ _ _ _ _ c.ahead.invariant (next-none c.args.own.now c.ahead.top (sym c.next_seat.ensures ∙ c.in-None.is))

pub returns-in_default-clause-put : goal.returns-in_default-clause-put
returns-in_default-clause-put g c =
    let s = c.ahead.invariant in
    state-end _ _ _ _ c.requires.sound.base _ c.requires.sound.are _ _ _ _ _ _ s c.in_ok-at-in-None.at (next-none c.args.own.now c.ahead.top (sym c.next_seat.ensures ∙ c.in-None.is)) (c.in_ok-at-in-None.ensures.put s.here.branch s.here.is) (no_items c.ahead.stack.items c.pop.new.self.items _ c.in_default.ensures.items c.in_default.ensures.rest (c.in_default.ensures.cases.0))

pub with_next-requires-in-None-clause-inside : goal.with_next-requires-in-None-clause-inside
with_next-requires-in-None-clause-inside g c =
    let w = parent-waits _ _ _ _ c.requires.sound.base _ c.requires.sound.are _ _ _ _ _ _ _ c.ahead.invariant c.in-Some-pop.ensures.items in
    slice_get_within c.args.own.now c.in-Some-pop.parent.index w.here.branch w.here.is

pub returns-in_err-top-in-None-clause-refused : goal.returns-in_err-top-in-None-clause-refused
returns-in_err-top-in-None-clause-refused g c =
    let s = c.ahead.invariant in
    on_err _ _ (state-kept _ _ _ _ c.requires.sound.base _ c.requires.sound.are _ _ _ _ _ _ s c.in_ok-at-in-None.at (c.in_ok-at-in-None.ensures.put s.here.branch s.here.is))

pub ahead-smaller : goal.ahead-smaller
ahead-smaller g c =
    let w = parent-waits _ _ _ _ c.requires.sound.base _ c.requires.sound.are _ _ _ _ _ _ _ c.ahead.invariant c.in-Some-pop.ensures.items in
    less-up c.args.own.now c.ahead.top c.in-Some-pop.parent c.in_ok-top-in-None.top c.ahead.stack.items c.pop.new.self.items w.child (w.child.0, c.in_ok-at-in-None.at) w.child_is (next-with_child c.args.own.now c.in-Some-pop.parent c.in_ok-top-in-None.top w.child c.in_ok-at-in-None.at w.child_is c.in_ok-top-in-None.ensures) c.in-Some-pop.ensures.items

pub ahead-preserved : goal.ahead-preserved
ahead-preserved g c =
    let s = c.ahead.invariant in
    let w = parent-waits _ _ _ _ c.requires.sound.base _ c.requires.sound.are _ _ _ _ _ _ _ s c.in-Some-pop.ensures.items in
    state-up _ _ _ _ c.requires.sound.base _ c.requires.sound.are _ _ _ _ _ _ _ _ _ s c.in_ok-at-in-None.at w.child (next-none c.args.own.now c.ahead.top (sym c.next_seat.ensures ∙ c.in-None.is)) (c.in_ok-at-in-None.ensures.put s.here.branch s.here.is) c.in-Some-pop.ensures.items w.child_is (next-with_child c.args.own.now c.in-Some-pop.parent c.in_ok-top-in-None.top w.child c.in_ok-at-in-None.at w.child_is c.in_ok-top-in-None.ensures)
