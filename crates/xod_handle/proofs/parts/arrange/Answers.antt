use Rattle.std.proofs.Common.{◌≡◌, rules}
use Rattle.std.specs.Ordering.{is_lt}
use Rattle.std.proofs.lemmas.Fn.{always_returns_same, dedup_same}
use Rattle.std.proofs.lemmas.List.Sorted.{ranks_by}
use Rattle.xod_base.specs.QueryTexts.{query_text}
use Rattle.xod_handle.proofs.Arranging.{lower, same_text, sorted_once, text_total}
use Rattle.xod_handle.proofs.parts.arrange.Goals as goal

pub returns : goal.returns
returns c = sorted_once c.args.parts.now.items c.sort_by.new.self.items c.dedup_by.new.self.items
    (c.in_ok-sort_by.ensures.sorted lower (ranks_by text_total (λ p. p)) (always_returns_same _ (λ a r. is_lt r ≡ lower a.0.now a.1.0.now) _ (λ a r f' k. search rules)))
    (c.in_ok-sort_by.ensures.stable lower (ranks_by text_total (λ p. p)) (always_returns_same _ (λ a r. is_lt r ≡ lower a.0.now a.1.0.now) _ (λ a r f' k. search rules)))
    (dedup_same _ same_text _ (λ x y b f' x' y' k. search rules) _ _ c.dedup_by.ensures.filtered)
