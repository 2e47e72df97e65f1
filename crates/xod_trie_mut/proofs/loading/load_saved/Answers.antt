use Rattle.std.proofs.Common.{◌∙◌, ap, sym, refl, Err, List, ℕ}
use Rattle.std.specs.Prelude.{IsSome}
use Rattle.xod_block.specs.Addresses.{number_of}
use Rattle.xod_block.specs.Maps.{map_at}
use Rattle.xod_block.specs.Reading.{record_in}
use Rattle.xod_trie.specs.Branches.{branch_of, branch_seen}
use Rattle.xod_base.specs.declared.causes.ReadError.{ReadError}
use Rattle.xod_trie_mut.proofs.LoadLemmas.{breaks-by, bad-read, bad-below, saved-shape}
use Rattle.xod_trie_mut.proofs.loading.load_saved.Goals as goal

pub returns-in-Err-clause-breaks : goal.returns-in-Err-clause-breaks
returns-in-Err-clause-breaks g c =
    breaks-by (g.F.Fetch.tells c.args.fetch.now) (g.F.Fetch.records c.args.fetch.now) (IsSome (map_at (g.F.Fetch.records c.args.fetch.now) (number_of c.args.at))) c.in-Err.error (λ place is told.
    let e = ap (λ (x : ReadError). Err x) is in
    bad-read _ c.args.at place (ap branch_of (c.in-Err.ensures.damaged_only_without_a_record told place e)) (c.in-Err.ensures.damaged_names_this_place place e))

pub returns-in_default-clause-breaks : goal.returns-in_default-clause-breaks
returns-in_default-clause-breaks g c told =
    bad-read _ c.args.at c.place_of.result (ap branch_of (sym (c.in-Ok.ensures.record told)) ∙ ap (λ (l : List ℕ). branch_of (record_in l)) (sym c.as_slice.ensures) ∙ sym c.in_default.ensures.exactly) c.place_of.ensures

pub returns-then-not-are_below-clause-breaks : goal.returns-then-not-are_below-clause-breaks
returns-then-not-are_below-clause-breaks g c told =
    bad-below _ c.args.at c.place_of-then-not-are_below.result (branch_seen c.in-Some.branch) (ap branch_of (sym (c.in-Ok.ensures.record told)) ∙ ap (λ (l : List ℕ). branch_of (record_in l)) (sym c.as_slice.ensures) ∙ sym c.in-Some.ensures.exactly) (c.if-not-are_below.ensures.not_below refl) c.place_of-then-not-are_below.ensures

pub returns-in-Ok-of-clause-shape : goal.returns-in-Ok-of-clause-shape
returns-in-Ok-of-clause-shape g c = saved-shape c.args.at (branch_seen c.in-Some.branch) c.in-Ok-of.own c.in-Ok-of.ensures c.in-Some.ensures.fits (c.if-not-are_below.ensures.below refl)
