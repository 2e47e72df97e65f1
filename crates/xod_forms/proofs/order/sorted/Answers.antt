use Rattle.std.proofs.Common.{List, ◌∙◌, ap, map, subst}
use Rattle.std.specs.List.Sorted.{IsPermutation}
use Rattle.xod_forms.specs.declared.order.Ranked.{Ranked}
use Rattle.xod_forms.proofs.SortLemmas.{ranks_sorted}
use Rattle.xod_forms.proofs.order.sorted.Goals as goal

pub returns : goal.returns
returns c = λ rows prop ids is.
    let ranked = c.sorted_ranks-ranked in
    c.in_ok-sorted.ensures
    ∙ ap (map (λ rank. rank.id)) c.deref.ensures.value
    ∙ ranks_sorted rows prop c.args.direction ids ranked.result.items
    (subst (λ (xs : List Ranked). IsPermutation xs ranked.result.items) is ranked.ensures.moved) ranked.ensures.sorted
