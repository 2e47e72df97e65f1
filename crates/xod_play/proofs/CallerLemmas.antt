-- What the crates above cite of players and their journals.
-- stops of sessions that were left
pub use Rattle.xod_play.proofs.LeftLemmas.{left-causes, left-device, left-given, left-met, left-newest, left-rows, left-synced}
-- what a call of a space leaves
pub use Rattle.xod_play.proofs.CauseLemmas.{causes-kept, keeps-all, keeps-on}
-- what was gathered
pub use Rattle.xod_play.proofs.ToldLemmas.{gathered-told}
-- the names of a world
pub use Rattle.xod_play.proofs.RoundLemmas.{names-stay}
-- sessions that are done have no transaction open
pub use Rattle.xod_play.proofs.FinishLemmas.{all-closed}
