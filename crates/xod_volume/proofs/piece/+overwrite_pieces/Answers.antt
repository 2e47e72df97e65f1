use Rattle.std.proofs.Common.{◌≡◌, ◌≤◌, ◌<◌, min, take, ◌+◌, ◌-◌, ◌++◌, ◌∷◌, length, MatchBool, List, ℕ, arith, sym, ◌∙◌, ap, subst}
use Rattle.std.specs.List.{concat}
use Rattle.xod_volume.specs.Files.{overwritten}
use Rattle.std.proofs.lemmas.List.{length-take-le}
use Rattle.xod_volume.proofs.Joined.{piece_over, piece_behind}
use Rattle.xod_volume.proofs.piece.+overwrite_pieces.Goals as goal

pub returns-then-at-size-clause-bytes : goal.returns-then-at-size-clause-bytes
returns-then-at-size-clause-bytes t c =
    let all : c.args.pieces.now ≡ c.in-Some.first.now ∷ c.in-Some.rest.now = c.in-Some.ensures.cases.0 in
    let size : c.len-size.result ≡ length c.in-Some.first.now = c.len-size.ensures in
    let now = c.overwrite_pieces.ensures.bytes in
    subst (λ (m : List (List ℕ)). MatchBool c.overwrite_pieces.result (c.in-Some.first.now ++ concat c.overwrite_pieces.new.pieces ≡ overwritten (concat m) c.args.at c.args.bytes.now) (c.in-Some.first.now ++ concat c.overwrite_pieces.new.pieces ≡ concat m)) (sym all)
    (piece_behind c.overwrite_pieces.result c.in-Some.first.now (concat c.in-Some.rest.now) (concat c.overwrite_pieces.new.pieces) c.args.bytes.now c.args.at (omega (arith, size))
    (subst (λ (k : ℕ). MatchBool c.overwrite_pieces.result (concat c.overwrite_pieces.new.pieces ≡ overwritten (concat c.in-Some.rest.now) (c.args.at - k) c.args.bytes.now) (concat c.overwrite_pieces.new.pieces ≡ concat c.in-Some.rest.now)) size now))

pub returns-clause-bytes : goal.returns-clause-bytes
returns-clause-bytes t c =
    let all : c.args.pieces.now ≡ c.in-Some.first.now ∷ c.in-Some.rest.now = c.in-Some.ensures.cases.0 in
    let size : c.len-size.result ≡ length c.in-Some.first.now = c.len-size.ensures in
    let fits : c.args.at + length c.args.bytes.now ≤ length (c.in-Some.first.now ++ concat c.in-Some.rest.now) = subst (λ (m : List (List ℕ)). c.args.at + length c.args.bytes.now ≤ length (concat m)) all c.requires in
    let now = c.overwrite_pieces-2.ensures.bytes in
    let held = c.in-Some-get_mut.ensures.value in
    let view : take c.first.inside.used c.in-Some-get_mut.held.now.items ≡ c.in-Some.first.now = ap (λ v. take c.first.inside.used v.items) held ∙ c.first.view_is in
    let within : c.first.inside.used ≤ length c.in-Some-get_mut.held.now.items = subst (λ v. c.first.inside.used ≤ length v.items) (sym held) c.first.invariant in
    let used : c.first.inside.used ≡ length c.in-Some.first.now = sym (length-take-le c.first.inside.used c.in-Some-get_mut.held.now.items within) ∙ ap length view in
    let lt : c.args.at < c.first.inside.used = omega (arith, used, size) in
    let fewest : c.min.result ≡ min (length c.args.bytes.now) (c.first.inside.used - c.args.at) = omega (arith, c.min.ensures, used, size) in
    piece_over c.in-Some.first.now (concat c.in-Some.rest.now) (concat c.overwrite_pieces-2.new.pieces) c.in-Some-get_mut.held.now.items c.put_over.new.bytes.items c.args.bytes.now c.first.inside.used c.args.at c.min.result
    view within used lt fits fewest
    (subst (λ b. MatchBool b (concat c.overwrite_pieces-2.new.pieces ≡ overwritten (concat c.in-Some.rest.now) 0 c.split_at.result.1.now) (concat c.overwrite_pieces-2.new.pieces ≡ concat c.in-Some.rest.now)) c.if-not-overwrite_pieces.false now ∙ ap (λ (m : List ℕ). overwritten (concat c.in-Some.rest.now) 0 m) c.split_at.ensures.back)
    (c.put_over.ensures ∙ ap (λ (m : List ℕ). overwritten c.in-Some-get_mut.held.now.items c.args.at m) c.split_at.ensures.front)
    ∙ ap (λ (m : List (List ℕ)). overwritten (concat m) c.args.at c.args.bytes.now) (sym all)
