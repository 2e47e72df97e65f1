-- What crates above cite of carried maps.
-- the orders of bytes and of numbers as keys
pub use Rattle.xod_carry.proofs.ByteKeys.{bytes_total, bytes_same, numbers_total, numbers_same}
-- what holds of each entry
pub use Rattle.xod_carry.proofs.Lists.{each, each_too, each_both, each_append, carried-append, numbered-append}
pub use Rattle.xod_carry.proofs.Each.{each_by_get, each_get, each-insert, each-remove}
-- one map, and the lists of its entries
pub use Rattle.xod_carry.proofs.Carrying.{tied_is, entries-empty, from_entries-entries, entries-from_entries, from_entries-amid}
pub use Rattle.xod_carry.proofs.Lookups.{insert-remove, insert_same, remove-insert, remove_absent, get_removed, absent_keys, same_by_lookups}
pub use Rattle.xod_carry.proofs.Apart.{entries_apart, carried_apart}
-- a carried map after a put and a removal, read back, and at a key
pub use Rattle.xod_carry.proofs.Carrying.{carry-insert, carry-from_entries, carried_back, carry_back, carried-agree}
pub use Rattle.xod_carry.proofs.Indexing.{carry-remove}
pub use Rattle.xod_carry.proofs.Lookups.{get-carry}
-- what is found in a list behind another one, and in an index
pub use Rattle.xod_carry.proofs.Indexing.{find-append, not_found}
-- an index after each change
pub use Rattle.xod_carry.proofs.Indexing.{index-new, index-remove, index-change}
