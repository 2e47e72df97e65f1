-- What a call of a space leaves of what is known before.
use Rattle.std.proofs.Common.{◌≡◌, refl, sym, ◌∙◌, arith}
use Rattle.xod_journal.specs.Spaces.{KeepsSpace, SpaceView}
use Rattle.xod_play.specs.Rounds.{StopsHaveCauses}
use Rattle.xod_play.specs.Stops.{has_met, is_broken, is_damage, is_spent}

-- one call after the other
pub keeps-on : (old mid new : SpaceView) → KeepsSpace old mid → KeepsSpace mid new → KeepsSpace old new
keeps-on old mid new one two =
    let first = one.never_falls in
    let then = two.never_falls in
    record {
      tells_same = two.tells_same ∙ one.tells_same;
      start_same = two.start_same ∙ one.start_same;
      made_same = two.made_same ∙ one.made_same;
      sessions_same = two.sessions_same ∙ one.sessions_same;
      never_falls = omega (arith, first, then);
      stays_broken = λ is. two.stays_broken (one.stays_broken is);
      stays_last = λ is. two.stays_last (one.stays_last is);
    }

-- no call at all
pub keeps-all : (space : SpaceView) → KeepsSpace space space
keeps-all space = record { tells_same = refl; start_same = refl; made_same = refl; sessions_same = refl; never_falls = omega arith; stays_broken = λ is. is; stays_last = λ is. is }

-- stops that have their causes keep them
pub causes-kept : (old new : SpaceView) → KeepsSpace old new → ((test : _) → has_met test new.journal ≡ has_met test old.journal) → StopsHaveCauses old → StopsHaveCauses new
causes-kept old new keeps same causes = record {
  broken = λ e. keeps.stays_broken (causes.broken (sym (same is_broken) ∙ e));
  damaged = λ e. keeps.tells_same ∙ causes.damaged (sym (same is_damage) ∙ e);
  spent = λ e. keeps.stays_last (causes.spent (sym (same is_spent) ∙ e));
}
