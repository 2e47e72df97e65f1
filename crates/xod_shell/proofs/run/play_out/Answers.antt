use Rattle.std.proofs.Common.{◌≡◌, ◌++◌, ◌∙◌, ℕ, IsTrue, List, drop, take, sym, ap, subst, length}
use Rattle.std.specs.Prelude.{IfOk, is_some}
use Rattle.std.proofs.Math.Seq.{take-append_seam}
use mathlib.Core.Path.{transport}
use Rattle.xod_journal.specs.Standing.{Newest, newest_after}
use Rattle.xod_play.specs.Rounds.{are_done, scripts_in}
use Rattle.xod_play.specs.Stops.{has_met, is_memory}
use Rattle.xod_play.specs.Told.{IsGathered}
use Rattle.xod_play.proofs.CallerLemmas.{left-met}
use Rattle.xod_recover.specs.Images.{Settled}
use Rattle.xod_store.specs.Images.{LeavesPrefixes}
use Rattle.xod_store.specs.Parts.{IsAccounted}
use Rattle.xod_store.specs.Views.{env_newest, is_spent, store_view}
use Rattle.xod_env.specs.Envs.{log_file_count}
use Rattle.xod_shell.specs.Runs.{IsEnd, Ran, disk_of, start_in}
use Rattle.xod_shell.proofs.EndLemmas.{ends-as}
use Rattle.xod_shell.proofs.RunLemmas.{books-there, have-causes, last-stands, leaves-since, newest-same, none-open, own-of, part-of, ran-of, run-of, start-stored}
use Rattle.xod_shell.proofs.run.play_out.Goals as goal

-- the players behind the order, as the list that they stand in has them
module _ {A : Type 0} (before after rest : List A) (n : ℕ) (long : length after ≡ n) where
  pub kept-list : take n (after ++ rest) ≡ after
  kept-list = ap (λ k. take k (after ++ rest)) (sym long) ∙ take-append_seam after rest

pub finish_all-requires-clause-part : goal.finish_all-requires-clause-part
finish_all-requires-clause-part g c =
    let later = c.replay-untaken.new.players in
    let long : length later ≡ c.args.players.len = c.replay-untaken.auto.players ∙ ap length c.deref_mut.ensures.value ∙ sym c.args.players.ok.0 in
    let back = kept-list c.args.players.items later (drop (length later) c.args.players.items) c.args.players.len long in
    part-of (run-of _ _ _ _ _ _ _ c.replay-untaken.result c.replay-untaken.ensures.replays) _ back

pub finish_all-requires-clause-own : goal.finish_all-requires-clause-own
finish_all-requires-clause-own g c =
    let later = c.replay-untaken.new.players in
    let long : length later ≡ c.args.players.len = c.replay-untaken.auto.players ∙ ap length c.deref_mut.ensures.value ∙ sym c.args.players.ok.0 in
    let back = kept-list c.args.players.items later (drop (length later) c.args.players.items) c.args.players.len long in
    own-of (run-of _ _ _ _ _ _ _ c.replay-untaken.result c.replay-untaken.ensures.replays) _ back

pub close-volume-requires : goal.close-volume-requires
close-volume-requires g c = none-open _ _ _ c.finish_all.ensures.finished.closed c.finish_all.new.space.store.booked.books

pub returns : goal.returns
returns g c = record {
  ran = λ script sessions order.
      let store = c.args.store in
      let before = c.args.before.value in
      let one = c.replay-untaken.new.space.store in
      let two = c.finish_all.new.space.store in
      let keeps = c.replay-untaken.ensures.keeps in
      let kept = c.finish_all.ensures.keeps in
      let closed = c.close-volume.ensures in
      let finished = c.finish_all.ensures.finished in
      let origin = store.start.origin.value in
      let files0 = g.V.Volume.files before in
      let now = c.close-volume.result.0 in
      let disk = disk_of g.V.Volume.tells g.V.Volume.files g.V.Volume.faults g.V.Volume.moment g.V.Volume.may_leave before now in
      let later = c.replay-untaken.new.players in
      let long : length later ≡ c.args.players.len = c.replay-untaken.auto.players ∙ ap length c.deref_mut.ensures.value ∙ sym c.args.players.ok.0 in
      let back = kept-list c.args.players.items later (drop (length later) c.args.players.items) c.args.players.len long in
      let run = run-of _ _ _ _ _ _ _ c.replay-untaken.result c.replay-untaken.ensures.replays in
      let journal = c.as_slice.ensures.value ∙ closed.journal in
      let tells1 = keeps.tells_same ∙ store.tells ∙ c.requires.tells in
      let tells2 = kept.tells_same ∙ tells1 in
      let starts0 : IsTrue (g.V.Volume.tells before) → start_in files0 ≡ _ = λ told. start-stored files0 (g.V.Volume.files origin.volume) origin.log origin.roots origin.commit (c.requires.stored told) in
      let starts1 = λ (told : IsTrue (g.V.Volume.tells before)). starts0 told ∙ sym keeps.start_same in
      let starts2 = λ (told : IsTrue (g.V.Volume.tells before)). starts1 told ∙ sym kept.start_same in
      let newest = newest-same _ _ finished.left _ finished.grown finished.only in
      let begun = λ (told : IsTrue (g.V.Volume.tells before)) (calm : Settled files0 (g.V.Volume.may_leave before (g.V.Volume.moment before))). c.finish_all.new.space.begun (sym two.tells ∙ tells2 ∙ told) (c.requires.calm calm) in
      let end = ends-as _ _ _ (store_view (g.V.Volume.tells store.env.volume) (env_newest store.start.origin.value.log (g.V.Volume.files store.start.origin.value.volume) store.start.origin.value.roots store.start.origin.value.commit) store.journal.items (g.V.Volume.faults store.env.volume) (g.V.Volume.faults store.start.origin.value.volume) store.start.sessions store.env.is_broken store.env.log store.env.commit) (store_view (g.V.Volume.tells one.env.volume) (env_newest one.start.origin.value.log (g.V.Volume.files one.start.origin.value.volume) one.start.origin.value.roots one.start.origin.value.commit) one.journal.items (g.V.Volume.faults one.env.volume) (g.V.Volume.faults one.start.origin.value.volume) one.start.sessions one.env.is_broken one.env.log one.env.commit) c.deref_mut.result.now later script.order_line c.args.order.now (start_in files0) (λ told. starts0 (sym tells1 ∙ told))
      c.gather-gathered.result (subst (λ l. IfOk c.gather-gathered.result (IsGathered l)) (c.deref.ensures.value ∙ back) c.gather-gathered.ensures)
      c.version.result c.files.result (log_file_count (g.V.Volume.files now)) c.as_slice.result.now c.closing_of-closing.result
      (λ done. journal ∙ ap (λ v. v.journal) (finished.none (ap are_done back ∙ done)))
      (ap (has_met is_memory) (journal ∙ finished.grown) ∙ left-met one.journal.items finished.left finished.only is_memory)
      (c.version.ensures ∙ sym two.booked.newest ∙ ap (λ (n : Newest). n.commit) (newest ∙ ap (λ s. newest_after s one.journal.items) kept.start_same))
      (λ told. c.files.ensures.exact ∙ sym (closed.counted (kept.tells_same ∙ told)))
      c.replay-untaken.result c.replay-untaken.ensures.replays c.ending_of-ending.result c.ending_of-ending.ensures in
      transport (λ i. Ran disk (record { sessions = sym (sessions ∙ ap scripts_in (sym c.deref_mut.ensures.value)) i; order_line = script.order_line; order = sym order i }) c.ending_of-ending.result)
      (ran-of disk (record { sessions = scripts_in c.deref_mut.result.now; order_line = script.order_line; order = c.args.order.now }) c.ending_of-ending.result _ starts2 one.journal.items finished.left two.journal.items finished.grown finished.only (books-there _ _ _ two.booked.books) c.close-volume.result.2 c.closing_of-closing.result c.closing_of-closing.ensures
      two.env.commit (sym two.booked.newest)
      (subst (λ t. IsEnd t (start_in files0) (record { sessions = scripts_in c.deref_mut.result.now; order_line = script.order_line; order = c.args.order.now }) one.journal.items c.closing_of-closing.result (log_file_count (g.V.Volume.files now)) c.ending_of-ending.result) tells1 end)
      (have-causes disk one.journal.items finished.left two.journal.items finished.grown finished.only _ two.env.is_broken (is_spent two.env.log two.env.commit)
      (subst (λ made. IsAccounted two.journal.items made (g.V.Volume.faults two.env.volume) two.env.is_broken (is_spent two.env.log two.env.commit)) (kept.made_same ∙ keeps.made_same ∙ c.requires.faults) two.accounted)
      closed.stays.faults c.close-volume.result.2 closed.refusals (λ is. kept.stays_broken (run.causes.broken is)) (λ is. sym tells1 ∙ run.causes.damaged is) (λ is. kept.stays_last (run.causes.spent is))
      (λ is told. last-stands two.env.log two.env.commit (newest_after (start_in files0) one.journal.items) (g.V.Volume.files now) (ap (λ (n : Newest). n.commit) (ap (λ s. newest_after s one.journal.items) (starts2 told) ∙ sym newest) ∙ two.booked.newest) (closed.last (tells2 ∙ told)) is))
      (λ told. ap is_some (c.requires.stored told)) (λ told. closed.holds (tells2 ∙ told))
      (λ told calm. subst (λ since. LeavesPrefixes (env_newest two.start.origin.value.log (g.V.Volume.files two.start.origin.value.volume) two.start.origin.value.roots two.start.origin.value.commit) two.journal.items since (g.V.Volume.moment now) (g.V.Volume.may_leave now)) c.requires.since
      (leaves-since _ _ _ _ _ _ _ (closed.leaves (tells2 ∙ told) (begun told calm).settled) (closed.earlier (tells2 ∙ told) (begun told calm).settled) (begun told calm).held (closed.begins (tells2 ∙ told))))
      (λ told calm. closed.durable (tells2 ∙ told) (begun told calm).settled)
      (λ told calm. closed.settled (tells2 ∙ told) (begun told calm).settled));
}
