-- What a call leaves as it was before its step is taken.
use Rattle.std.specs.Prelude.{◌≡◌}
use Rattle.xod_spaces.specs.declared.space.FaultySpace.{FaultySpace}

pub record IsSameStore (old new : FaultySpace) : Type 0 where
  pub first : new.first ≡ old.first
  pub sessions : new.sessions ≡ old.sessions
  pub commit : new.commit ≡ old.commit
  pub txns : new.txns ≡ old.txns
  pub journal : new.journal.items ≡ old.journal.items
