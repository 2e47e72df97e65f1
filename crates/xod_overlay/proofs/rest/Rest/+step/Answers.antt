use Rattle.std.proofs.Common.{◌≡◌, List, [], ◌∷◌, ◌++◌, ap, sym, subst, ◌∙◌}
use Rattle.std.proofs.lemmas.List.{nil_from_length}
use Rattle.std.specs.Prelude.{MatchOption}
use Rattle.xod_overlay.specs.Marks.{Touch}
use Rattle.xod_overlay.specs.Pieces.{joined, rest_of}
use Rattle.xod_overlay.proofs.rest.Rest.+step.Goals as goal

pub returns : goal.returns
returns t c =
    let same : rest_of c.args.self ≡ c.as_slice-here.result.now ++ joined c.in_ok-piece.later.now =
    ap (λ (l : List Touch). l ++ joined c.args.self.later.now) (nil_from_length c.args.self.here.now (c.in_default.ensures {u = tt}).cases)
    ∙ ap (λ (ps : List (List Touch)). joined ps) (c.in_ok-piece.ensures {u = tt}).cases.0
    ∙ ap (λ (l : List Touch). l ++ joined c.in_ok-piece.later.now) (sym c.as_slice-here.ensures) in
    subst (λ (l : List Touch). MatchOption c.step.result (l ≡ []) (λ step. l ≡ step.0.now ∷ rest_of step.1)) (sym same) c.step.ensures
