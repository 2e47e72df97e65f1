use Rattle.std.proofs.Common.{take, drop, List, ℕ, sym, ◌∙◌, ap, subst}
use Rattle.std.specs.List.{concat}
use Rattle.xod_volume.specs.Leases.{Filled}
use Rattle.xod_volume.specs.Places.{IsPlace}
use Rattle.xod_volume.proofs.Joined.{filled_behind, concat_apart}
use Rattle.xod_volume.proofs.pieces.Pieces.read.Goals as goal

pub returns : goal.returns
returns c =
    let pieces = c.self.inside.list.items in
    let index = c.place_of-index.result.0 in
    let within = c.place_of-index.result.1 in
    let place : IsPlace pieces c.args.at index within = subst (λ (m : List (List ℕ)). IsPlace m c.args.at index within) c.deref.ensures.value c.place_of-index.ensures in
    let from_back : Filled (concat (drop index pieces)) within c.args.out.now c.read_pieces.new.out c.read_pieces.result =
    subst (λ (m : List (List ℕ)). Filled (concat m) within c.args.out.now c.read_pieces.new.out c.read_pieces.result) (c.split_at.ensures.back ∙ ap (drop index) c.deref-3.ensures.value) c.read_pieces.ensures in
    filled_behind c.args.self.now (concat (take index pieces)) (concat (drop index pieces)) c.args.out.now c.read_pieces.new.out c.args.at within c.read_pieces.result
    (sym c.self.view_is ∙ concat_apart pieces index) place.place from_back
