-- What the crates above cite of sessions.
-- a call that appends nothing, and a turn of another session
pub use Rattle.xod_session.proofs.PlaysLemmas.{kept}
pub use Rattle.xod_session.proofs.TurnLemmas.{beside, progress-grows, halt-grows}
-- where a session is between its turns, and at its end
pub use Rattle.xod_session.proofs.TurnLemmas.{ended, prepared-answered, rests}
-- sessions and worlds over a journal that goes on
pub use Rattle.xod_session.proofs.SessionLemmas.{others_leave, session_after-append, session_after-entered}
pub use Rattle.xod_session.proofs.WorldLemmas.{world_after-append}
