-- What a crash may leave of calls of an environment: all that were synced before.
use Rattle.std.proofs.Common.{◌≡◌, ◌≤◌, ℕ, true, false, Some, inl, inr, refl, sym, ap, subst, ◌∙◌, arith}
use Rattle.std.specs.Prelude.{option_map}
use Rattle.std.specs.Option.{unwrap_or}
use Rattle.xod_env.specs.declared.env.Env.{Env}
use Rattle.xod_env.specs.Envs.{IsSteady, newest_stored}
use Rattle.xod_recover.specs.Images.{Stores}
use Rattle.xod_recover.specs.Stores.{Stored}
use Rattle.xod_volume.specs.declared.volume.Lease as leases
use Rattle.xod_volume.specs.declared.volume.Volume as volumes
use Rattle.xod_volume.specs.Crash.{Passes, Rests}
use Rattle.xod_volume.specs.Files.{Files}
use Rattle.xod_store.specs.Images.{commit_left}
use Rattle.xod_store.specs.Leaving.{LeavesAtLeast}

-- no time passes
pub at-least-same : (past : ℕ → Files → Type 0) {commit before : ℕ} → ((left : Files) → past before left → commit ≤ commit_left left) → LeavesAtLeast commit before before past
at-least-same past {before = before} old left when =
    let at : when.0 ≡ before = let low = when.1 in let high = when.2 in omega (arith, low, high) in
    old left (subst (λ n. past n left) at when.3)

module _ {commit before : ℕ} {past : ℕ → Files → Type 0} (old : (left : Files) → past before left → commit ≤ commit_left left) where
  -- a call that writes nothing
  pub at-least-rests : {now : ℕ} {images : ℕ → Files → Type 0} → Rests before now past images → LeavesAtLeast commit before now images
  at-least-rests rests left when =
      let at : when.0 ≡ before = let low = when.1 in let high = when.2 in let still = rests.still in omega (arith, low, high, still) in
      old left (subst (λ n. past n left) at (rests.same when.0 left when.3))

  -- a call over which images store what they did, or the newest commit
  pub at-least-passes : {now : ℕ} {images : ℕ → Files → Type 0} (newest : Stored) → Passes before now past images (Stores (Some newest)) → commit ≤ newest.commit → LeavesAtLeast commit before now images
  at-least-passes newest passes most left when =
      let from = passes.each when.0 left when.1 when.2 when.3 in
      elim from.2 [
        | inl same ↦
            let alike : commit_left left ≡ commit_left from.0 = ap (λ o. unwrap_or (option_map (λ (s : Stored). s.commit) o) 0) same in
            let low = old from.0 from.1 in
            omega (arith, alike, low)
        | inr is ↦ let at : commit_left left ≡ newest.commit = ap (λ o. unwrap_or (option_map (λ (s : Stored). s.commit) o) 0) is in omega (arith, at, most)
      ]

-- a call, and one behind it that writes nothing
pub at-least-behind : {commit before middle now : ℕ} {past images : ℕ → Files → Type 0} → LeavesAtLeast commit before middle past → Rests middle now past images → LeavesAtLeast commit before now images
at-least-behind old rests left when =
    let still = rests.still in
    let high = when.2 in
    old left (when.0, when.1, omega (arith, still, high), rests.same when.0 left when.3)

-- a call that writes, and leaves an environment that was broken as it was
pub at-least-wrote : {V Held : Type 0} {of_volume : volumes.Ghosts V Held} {of_lease : leases.Ghosts Held} {commit : ℕ} (env next : Env V Held of_volume of_lease) → (env.is_broken ≡ true → next ≡ env)
    → (env.is_broken ≡ false → IsSteady env.log (of_volume.files env.volume) (of_volume.may_leave env.volume (of_volume.moment env.volume))
    → Passes (of_volume.moment env.volume) (of_volume.moment next.volume) (of_volume.may_leave env.volume) (of_volume.may_leave next.volume) (Stores (Some (newest_stored env.log.file (of_volume.files env.volume) env.roots env.commit))))
    → (env.is_broken ≡ false → IsSteady env.log (of_volume.files env.volume) (of_volume.may_leave env.volume (of_volume.moment env.volume))) → commit ≤ env.commit
    → ((left : Files) → of_volume.may_leave env.volume (of_volume.moment env.volume) left → commit ≤ commit_left left)
    → LeavesAtLeast commit (of_volume.moment env.volume) (of_volume.moment next.volume) (of_volume.may_leave next.volume)
at-least-wrote {V} {Held} {of_volume} {of_lease} {commit} env next same crash steady most old =
    elim (env.is_broken) as (λ b. env.is_broken ≡ b → LeavesAtLeast commit (of_volume.moment env.volume) (of_volume.moment next.volume) (of_volume.may_leave next.volume)) [
      | true ↦ λ is. subst (λ (e : Env V Held of_volume of_lease). LeavesAtLeast commit (of_volume.moment env.volume) (of_volume.moment e.volume) (of_volume.may_leave e.volume)) (sym (same is)) (at-least-same (of_volume.may_leave env.volume) old)
      | false ↦ λ is. at-least-passes old (newest_stored env.log.file (of_volume.files env.volume) env.roots env.commit) (crash is (steady is)) most
    ] refl

-- two calls that write nothing
pub rests-again : {before middle now : ℕ} {past images later : ℕ → Files → Type 0} → Rests before middle past images → Rests middle now images later → Rests before now past later
rests-again one two = record {
  still = two.still ∙ one.still;
  same = λ moment left there. one.same moment left (two.same moment left there);
  kept = λ moment left there. two.kept moment left (one.kept moment left there);
}
