use Rattle.std.proofs.Common.{◌∙◌, ap, sym, Some, slice_get, List, length}
use Rattle.std.proofs.lemmas.Option.{slice_get_read}
use Rattle.std.specs.Prelude.{IsSome}
use Rattle.xod_block.specs.Addresses.{number_of}
use Rattle.xod_block.specs.Maps.{map_at}
use Rattle.xod_trie.specs.declared.branch.Branch.{Branch}
use Rattle.xod_trie_mut.specs.Own.{with_own}
use Rattle.xod_trie_mut.proofs.LoadLemmas.{breaks-weaker, loaded-saved, loaded-own, saved-map}
use Rattle.xod_trie_mut.proofs.loading.load.Goals as goal

pub returns-in-Ok-clause-loads : goal.returns-in-Ok-clause-loads
returns-in-Ok-clause-loads g c base each lower = loaded-saved _ _ base c.args.own.now c.args.at c.in-Saved.address c.in-Ok.branch c.in-Saved.ensures lower c.in-Ok.ensures.shape c.in-Ok.ensures.branch

pub returns-in-Err-clause-stops : goal.returns-in-Err-clause-stops
returns-in-Err-clause-stops g c base lower =
    breaks-weaker (g.F.Fetch.tells c.args.fetch.now) (g.F.Fetch.records c.args.fetch.now) (IsSome (map_at (g.F.Fetch.records c.args.fetch.now) (number_of c.in-Saved.address))) (IsSome (map_at (with_own c.args.own.now (g.F.Fetch.records c.args.fetch.now)) (number_of c.args.at))) c.in-Err.error
    (λ told. saved-map (g.F.Fetch.records c.args.fetch.now) c.args.own.now c.args.at c.in-Saved.address c.in-Saved.ensures) c.in-Err.ensures.breaks

pub returns-in-Ok-try_copy-clause-loads : goal.returns-in-Ok-try_copy-clause-loads
returns-in-Ok-try_copy-clause-loads g c base each lower =
    let there = slice_get_read c.as_slice.result.now c.len.result c.in-Own.index c.index-as_slice-index.result (c.len.ensures ∙ ap (λ (l : List Branch). length l) (sym c.as_slice.ensures)) c.if-index-len.false c.index-as_slice-index.is in
    loaded-own (g.F.Fetch.tells c.args.fetch.now) (g.F.Fetch.records c.args.fetch.now) base c.args.own.now c.args.at c.in-Own.index c.in-Ok-try_copy.branch each c.in-Own.ensures
    (ap (λ (l : List Branch). slice_get l c.in-Own.index) (sym c.as_slice.ensures) ∙ there ∙ ap (λ (b : Branch). Some b) (sym c.in-Ok-try_copy.ensures))
