-- Lemmas for callers.
pub use Rattle.xod_store.proofs.Rises.{is_sync, same-synced}
