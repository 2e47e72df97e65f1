use Rattle.std.proofs.Common.{ℕ, List, Option, Some, None, option_map, option_copied, Bor, sym, ap, ◌∙◌}
use Rattle.xod_overlay.specs.Marks.{touched}
use Rattle.xod_overlay.proofs.Views.{untouched-answers, touched-answers}
use Rattle.xod_overlay.proofs.overlaid.OverlaidTreeView.get.Goals as goal

pub returns-in-None-clause-answers : goal.returns-in-None-clause-answers
returns-in-None-clause-answers g c =
    untouched-answers (touched c.args.self.now.overlay.now c.args.tree) _ _ c.args.key.now c.get-in-None.result
    (sym c.get.ensures ∙ ap (λ (o : Option (Option (Bor (List ℕ)))). option_map (option_copied {T = List ℕ}) o) c.in-None.is)
    c.get-in-None.ensures.answers

pub returns-in-Some-None-clause-answers : goal.returns-in-Some-None-clause-answers
returns-in-Some-None-clause-answers g c =
    touched-answers (touched c.args.self.now.overlay.now c.args.tree) _ _ c.args.key.now None
    (sym c.get.ensures ∙ ap (λ (o : Option (Option (Bor (List ℕ)))). option_map (option_copied {T = List ℕ}) o) c.in-Some-None.is ∙ ap (λ (o : Option (Bor (List ℕ))). Some (option_copied o)) c.in-Some-None.field-0-is)

pub returns-in_ok-value-in-Some-Some-clause-answers : goal.returns-in_ok-value-in-Some-Some-clause-answers
returns-in_ok-value-in-Some-Some-clause-answers g c =
    touched-answers (touched c.args.self.now.overlay.now c.args.tree) _ _ c.args.key.now (Some c.in_ok-value-in-Some-Some.value)
    (sym c.get.ensures ∙ ap (λ (o : Option (Option (Bor (List ℕ)))). option_map (option_copied {T = List ℕ}) o) c.in-Some-Some.is
    ∙ ap (λ (o : Option (Bor (List ℕ))). Some (option_copied o)) c.in-Some-Some.field-0-is
    ∙ ap (λ (v : List ℕ). Some (Some v)) (sym (c.in_ok-value-in-Some-Some.ensures {u = tt})))
