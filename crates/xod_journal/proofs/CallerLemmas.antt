-- What the crates above cite of journals, seats and flushes.
-- a journal that goes on
pub use Rattle.xod_journal.proofs.JournalLemmas.{after-append, all_booked-append, newest_after-append, rows_at-append}
-- where a journal stands
pub use Rattle.xod_journal.proofs.JournalLemmas.{Stepped, stepped, after-booked, after-newest, opening-told, step-told}
-- what the journal has of an actor after its own step, and after one of another actor
pub use Rattle.xod_journal.proofs.SeatLemmas.{seat-begun, seat-flushed, seat-reverted, seat-ended, seat-synced, seat-stopped, seat-beside}
-- where a journal goes on to by each step
pub use Rattle.xod_journal.proofs.StepLemmas.{goes-begun, goes-reverted, goes-ended, goes-synced, goes-stopped, goes-flushed, newest-held, seat-going, seat-open, stands-seat}
-- what a flush answers
pub use Rattle.xod_journal.proofs.SeatLemmas.{flush_cases, flush-nothing, flush-conflict, flush-commits, same_version-refl}
-- maps by actor
pub use Rattle.xod_journal.proofs.SeatLemmas.{get-inserted, get-removed, get-inserted_other, get-removed_other}
-- the books after a call of a space
pub use Rattle.xod_journal.proofs.SpaceLemmas.{booked-on}
-- whoever met a cause may stop for it
pub use Rattle.xod_journal.proofs.SpaceLemmas.{refused-met, fault-met, rose-met, device_stops-entered}
-- an act leaves the mode and the base
pub use Rattle.xod_journal.proofs.SpaceLemmas.{act-pinned}
-- what rows refuse
pub use Rattle.xod_journal.proofs.RefusalLemmas.{expansion-refusal, shown-refusal}
