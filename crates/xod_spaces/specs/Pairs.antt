-- Two sessions over one space.
use Rattle.std.specs.Prelude.{◌≡◌, ℕ, Bool, false, ◌==◌}
use Rattle.xod_journal.specs.Spaces.{SpaceView}
use Rattle.xod_journal.specs.Txns.{OpenTxn}
use Rattle.xod_session.specs.declared.session.Session.{Session}
use Rattle.xod_session.specs.Seats.{Plays}

-- Each is where its script and the space's journal have come, and they have different numbers.
pub record PlayBoth {Open : Type 0} (tells : Open → Bool) (txn : Open → OpenTxn) (faults : Open → ℕ) (space : SpaceView) (mine other : Session Open) : Type 0 where
  pub mine_plays : Plays tells txn faults space mine
  pub other_plays : Plays tells txn faults space other
  pub apart : (mine.actor == other.actor) ≡ false
  pub beside : (other.actor == mine.actor) ≡ false
