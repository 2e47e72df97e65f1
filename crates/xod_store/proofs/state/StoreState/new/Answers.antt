use Rattle.std.proofs.Common.{◌∙◌, refl, sym, ap, [], Some}
use Rattle.std.specs.Prelude.{vec_len, vec_capacity}
use mathlib.Core.Path.{transport}
use Rattle.xod_env.specs.Envs.{env_trees, newest_stored}
use Rattle.xod_recover.specs.Images.{Settled}
use Rattle.xod_store.specs.Images.{synced_in}
use Rattle.xod_store.specs.Parts.{IsBooked, IsSafe, IsTold}
use Rattle.xod_store.specs.Views.{env_newest, is_spent}
use Rattle.xod_store.proofs.Accounted.{accounted-new}
use Rattle.xod_store.proofs.Booked.{keeps-new}
use Rattle.xod_store.proofs.Safe.{safe-new}
use Rattle.xod_store.proofs.Told.{told-new}
use Rattle.xod_store.proofs.state.StoreState.new.Goals as goal

pub invariant_of-result : goal.invariant_of-result
invariant_of-result g c =
    let env = c.args.env in
    let list = c.in-Ok-with_room.journal in
    let origin = c.of-origin.ensures in
    let none = c.in-Ok-with_room.ensures.items in
    let named = c.over.ensures ∙ c.in-Ok.ensures ∙ c.as_slice.ensures ∙ c.kinds.ensures in
    record {
      tells = λ i. g.V.Volume.tells ((sym origin i).volume);
      accounted = accounted-new _ _ _ _ (is_spent env.log env.commit) none (λ i. g.V.Volume.faults ((sym origin i).volume)) c.requires.whole;
      booked = transport (λ i. IsBooked (env_newest ((sym origin i).log) (g.V.Volume.files ((sym origin i).volume)) ((sym origin i).roots) ((sym origin i).commit)) list.items env.commit c.new.result c.args.sessions (vec_len list) (vec_capacity list))
          (keeps-new (env_newest env.log (g.V.Volume.files env.volume) env.roots env.commit) _ _ c.args.sessions _ _ none c.new.ensures c.in-Ok-with_room.ensures.len c.in-Ok-with_room.ensures.room);
      told = λ told. transport (λ i. IsTold (env_newest ((sym origin i).log) (g.V.Volume.files ((sym origin i).volume)) ((sym origin i).roots) ((sym origin i).commit)) list.items (env_trees env.log.file (g.V.Volume.files env.volume) env.roots) c.over.result.names)
          (told-new (env_newest env.log (g.V.Volume.files env.volume) env.roots env.commit) _ (env_trees env.log.file (g.V.Volume.files env.volume) env.roots) _ refl none (c.requires.kinds_are told ∙ ap Some (sym named)));
      safe = λ told settled.
          let here : Settled (g.V.Volume.files env.volume) (g.V.Volume.may_leave env.volume (g.V.Volume.moment env.volume)) =
          transport (λ i. Settled (g.V.Volume.files ((origin i).volume)) (g.V.Volume.may_leave ((origin i).volume) (g.V.Volume.moment ((origin i).volume)))) settled in
          let start = env_newest env.log (g.V.Volume.files env.volume) env.roots env.commit in
          let trees = env_trees env.log.file (g.V.Volume.files env.volume) env.roots in
          let told_here = told-new start [] trees _ refl refl (c.requires.kinds_are told) in
          transport (λ i. IsSafe (env_newest ((sym origin i).log) (g.V.Volume.files ((sym origin i).volume)) ((sym origin i).roots) ((sym origin i).commit)) list.items (g.V.Volume.moment ((sym origin i).volume)) (g.V.Volume.moment env.volume) env.is_broken env.log (g.V.Volume.files env.volume) (g.V.Volume.may_leave ((sym origin i).volume)) (g.V.Volume.may_leave env.volume))
          (safe-new start _ (g.V.Volume.moment env.volume) env.is_broken env.log (g.V.Volume.files env.volume) (g.V.Volume.may_leave env.volume) (newest_stored env.log.file (g.V.Volume.files env.volume) env.roots env.commit)
          none refl told_here.tables (c.requires.stored told) here (ap (synced_in start) none)
          (c.settled_volumes_are_steady.ensures.steady env.log env.roots env.commit env.volume (env.opened c.requires.whole told) c.requires.sealed here));
    }
