use Rattle.std.proofs.Common.{ap, sym}
use Rattle.xod_play.specs.Follows.{has_given_up}
use Rattle.xod_play.proofs.player.Player.new.Goals as goal

pub returns-clause-sits : goal.returns-clause-sits
returns-clause-sits g c = λ space empty least most. record {
  part = record {
    plays = c.in_ok-session.ensures.plays space empty least most;
    gave = sym (ap (λ j. has_given_up j c.in_ok-session.session.actor) empty);
  };
  fresh = c.in_ok-session.ensures.fresh;
}
