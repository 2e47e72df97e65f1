use Rattle.std.proofs.Common.{◌≡◌, ◌==◌, ℕ, ◌+◌, ◌*◌, ◌&&◌, List, is_some, ◌∙◌, ap}
use Rattle.std.specs.FinMap.{get}
use Rattle.std.specs.List.{list_any}
use Rattle.xod_env.proofs.Lending.{listed_there}
use Rattle.xod_env.proofs.count.lists_next.Goals as goal

pub returns : goal.returns
returns c files listed =
    let there : (number : ℕ) → list_any (λ other. other == number) c.args.numbers.now ≡ is_some (get files number) =
    λ number. ap (λ (numbers : List ℕ). list_any (λ other. other == number) numbers) listed ∙ listed_there files number in
    let body : c.lists-has_body.result ≡ is_some (get files (2 * (c.args.file + 1))) =
    c.lists-has_body.ensures ∙ there _ ∙ ap (λ (n : ℕ). is_some (get files (2 * (n + 1)))) c.from.ensures in
    let ends : c.lists-has_ends.result ≡ is_some (get files (2 * (c.args.file + 1) + 1)) =
    c.lists-has_ends.ensures ∙ there _ ∙ ap (λ (n : ℕ). is_some (get files (2 * (n + 1) + 1))) c.from.ensures in
    λ i. body i && ends i
