-- What readers and writers of tables cite.
-- what is read of the bytes at one key, or that they can't be read
pub use Rattle.xod_keys.proofs.KeysRead.{reads-there, broken-there}
-- what a reader that walks over a range has read so far, as its loop's invariant: it stands where the walk begins, and after
-- a step that gave an entry that can be read; one that can't be read
pub use Rattle.xod_keys.proofs.ReadWalks.{Walked, walk-begins, walk-goes_on, walk-broken}
-- two items that are put behind others
pub use Rattle.xod_keys.proofs.Pushed.{two_pushed}
