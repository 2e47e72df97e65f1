use Rattle.std.proofs.Common.{◌≤◌, ◌+◌, [], length, take, set, List, ℕ, arith, sym, ◌∙◌, ap, subst}
use Rattle.std.specs.List.{concat}
use Rattle.std.proofs.lemmas.List.{get_or_default}
use Rattle.xod_volume.specs.Places.{IsPlace, starts_of}
use Rattle.xod_volume.proofs.Joined.{cut_within, cut_between, starts_set, starts_taken}
use Rattle.xod_volume.proofs.pieces.cut_pieces.Goals as goal

pub returns-then-within-gt0-clause-bytes : goal.returns-then-within-gt0-clause-bytes
returns-then-within-gt0-clause-bytes c =
    let pieces = c.args.pieces.now.items in
    let i = c.place_of-index.result.0 in
    let within = c.place_of-index.result.1 in
    let piece = c.index_mut.result.now in
    let place : IsPlace pieces c.args.kept i within = subst (λ (m : List (List ℕ)). IsPlace m c.args.kept i within) c.deref.ensures.value c.place_of-index.ensures in
    let fits : within ≤ length piece = omega (arith, place.before_its_end, ap length (c.index_mut.ensures.value ∙ get_or_default pieces i piece [] place.index_in)) in
    ap concat c.truncate.ensures.items
    ∙ ap (λ (m : List ℕ). concat (take (i + 1) (set pieces i m))) c.cut.ensures
    ∙ cut_within pieces i within c.args.kept piece place.index_in c.index_mut.ensures.value place.place fits

pub returns-else-within-gt0-clause-bytes : goal.returns-else-within-gt0-clause-bytes
returns-else-within-gt0-clause-bytes c =
    let place = subst (λ (m : List (List ℕ)). IsPlace m c.args.kept c.place_of-index.result.0 c.place_of-index.result.1) c.deref.ensures.value c.place_of-index.ensures in
    ap concat c.truncate-else-within-gt0.ensures.items
    ∙ cut_between c.args.pieces.now.items c.place_of-index.result.0 c.args.kept (omega (arith, place.place, c.if-within-gt0.false))

pub returns-then-within-gt0-clause-starts : goal.returns-then-within-gt0-clause-starts
returns-then-within-gt0-clause-starts c =
    let pieces = c.args.pieces.now.items in
    let i = c.place_of-index.result.0 in
    let place : IsPlace pieces c.args.kept i c.place_of-index.result.1 = subst (λ (m : List (List ℕ)). IsPlace m c.args.kept i c.place_of-index.result.1) c.deref.ensures.value c.place_of-index.ensures in
    c.truncate-then-within-gt0.ensures.items
    ∙ ap (λ (m : List ℕ). take (i + 1) m) c.requires.starts
    ∙ sym (starts_set pieces i c.cut.new.self place.index_in)
    ∙ ap starts_of (sym c.truncate.ensures.items)

pub returns-else-within-gt0-clause-starts : goal.returns-else-within-gt0-clause-starts
returns-else-within-gt0-clause-starts c =
    let i = c.place_of-index.result.0 in
    c.truncate-else-within-gt0-2.ensures.items
    ∙ ap (λ (m : List ℕ). take i m) c.requires.starts
    ∙ sym (starts_taken i c.args.pieces.now.items)
    ∙ ap starts_of (sym c.truncate-else-within-gt0.ensures.items)
