use Rattle.std.proofs.Common.{◌≡◌, ◌++◌, ◌+◌, length, MatchBool, List, ℕ, arith, sym, ◌∙◌, ap, subst, length-append}
use Rattle.std.specs.List.{concat}
use Rattle.std.proofs.lemmas.List.Folds.{concat-append}
use Rattle.xod_volume.specs.Files.{overwritten}
use Rattle.xod_volume.proofs.Joined.{pieces_behind}
use Rattle.xod_volume.proofs.pieces.overwrite_from.Goals as goal

pub overwrite_pieces-requires : goal.overwrite_pieces-requires
overwrite_pieces-requires c =
    let front = c.split_at_mut-behind.result.0.now in
    let behind = c.split_at_mut-behind.result.1.now in
    let place = c.place_of-index.ensures.place ∙ ap (λ (m : List (List ℕ)). length (concat m) + c.place_of-index.result.1) (sym c.split_at_mut-behind.ensures.front) in
    omega (arith, c.requires.within, place, ap length (ap concat c.split_at_mut-behind.ensures.value ∙ concat-append front behind), length-append (concat front) (concat behind))

pub returns-clause-bytes : goal.returns-clause-bytes
returns-clause-bytes c =
    let front = c.split_at_mut-behind.result.0.now in
    let behind = c.split_at_mut-behind.result.1.now in
    let new = c.overwrite_pieces.new.pieces in
    let place = c.place_of-index.ensures.place ∙ ap (λ (m : List (List ℕ)). length (concat m) + c.place_of-index.result.1) (sym c.split_at_mut-behind.ensures.front) in
    subst (λ (m : List (List ℕ)). MatchBool c.overwrite_pieces.result (concat (front ++ new) ≡ overwritten (concat m) c.args.at c.args.bytes.now) (concat (front ++ new) ≡ concat m)) (sym c.split_at_mut-behind.ensures.value)
    (pieces_behind c.overwrite_pieces.result front behind new c.args.at c.place_of-index.result.1 c.args.bytes.now place c.overwrite_pieces.ensures.bytes)
