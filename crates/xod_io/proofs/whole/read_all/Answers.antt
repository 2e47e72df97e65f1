use Rattle.std.proofs.Common.{refl, ◌∙◌, arith}
use Rattle.std.proofs.KnownBytes.{Consumes-nil}
use Rattle.xod_io.proofs.KnownLemmas.{IsAllOf-at_end, IsMoreThan-lost, LosesAtMost-after, Consumes-moved, one_past}
use Rattle.xod_io.proofs.whole.read_all.Goals as goal

pub loop-taken-init : goal.loop-taken-init
loop-taken-init g c =
    let empty = c.new-taken.ensures in
    (rw empty (omega arith), rw empty (Consumes-nil _), refl, refl, refl, c.in_ok-piece.ensures)

pub returns-in_err-count-clause-loses_one_past_the_limit_at_most :
    goal.returns-in_err-count-clause-loses_one_past_the_limit_at_most
returns-in_err-count-clause-loses_one_past_the_limit_at_most g c =
    let i = c.loop-taken.invariant in
    let wanted = c.min-wanted.ensures in
    let taken = c.len.ensures in
    LosesAtMost-after _ _ _ _ _ c.loop-taken.taken i.1 c.in_err-count.ensures.loses_a_piece_at_most (one_past _ _ _ _ i.0 (omega arith))

pub returns-then-count-eq0-clause-all : goal.returns-then-count-eq0-clause-all
returns-then-count-eq0-clause-all g c =
    let m = c.in_ok-count.ensures.moves in
    IsAllOf-at_end _ _ _ (Consumes-moved _ _ _ _ _ _ c.loop-taken.invariant.1 m) (c.in_ok-count.ensures.none_at_the_end c.if-count-eq0.true)

pub returns-then-count-eq0-clause-loses_one_past_the_limit_at_most :
    goal.returns-then-count-eq0-clause-loses_one_past_the_limit_at_most
returns-then-count-eq0-clause-loses_one_past_the_limit_at_most g c =
    let i = c.loop-taken.invariant in
    let wanted = c.min-wanted.ensures in
    let taken = c.len.ensures in
    LosesAtMost-after _ _ _ _ _ c.loop-taken.taken i.1 c.in_ok-count.ensures.loses_a_piece_at_most (one_past _ _ _ _ i.0 (omega arith))

pub returns-then-len-limit-clause-too_long_only_past_the_limit :
    goal.returns-then-len-limit-clause-too_long_only_past_the_limit
returns-then-len-limit-clause-too_long_only_past_the_limit g c =
    let m = c.in_ok-count.ensures.moves in
    let long = c.if-len-limit.true in
    let e = c.len-in-loop-taken.ensures in
    λ _. IsMoreThan-lost _ _ _ c.read_onto.new.taken (omega arith) (Consumes-moved _ _ _ _ _ _ c.loop-taken.invariant.1 m)

pub returns-then-len-limit-clause-loses_one_past_the_limit_at_most :
    goal.returns-then-len-limit-clause-loses_one_past_the_limit_at_most
returns-then-len-limit-clause-loses_one_past_the_limit_at_most g c =
    let i = c.loop-taken.invariant in
    let wanted = c.min-wanted.ensures in
    let taken = c.len.ensures in
    LosesAtMost-after _ _ _ _ _ c.loop-taken.taken i.1 c.in_ok-count.ensures.loses_a_piece_at_most (one_past _ _ _ _ i.0 (omega arith))

pub loop-taken-preserved : goal.loop-taken-preserved
loop-taken-preserved g c =
    let i = c.loop-taken.invariant in
    let o = c.in_ok-count.ensures in
    let lost = Consumes-moved _ _ _ _ _ _ i.1 o.moves in
    (omega arith, lost, o.faults_rise_only_at_failed (λ e. cc) ∙ i.2, o.tells_as_before ∙ i.3, o.same_references ∙ i.4, i.5)
