-- What crates above cite of tables.
-- the orders of ids, of properties and of links
pub use Rattle.xod_tables.proofs.Orders.{id_total, id_same, cell_total, cell_same, link_total, link_same}
-- what sound rows are, and that what they hold has keys
pub use Rattle.xod_tables.proofs.Facts.{Facts, facts, short, each_of_all, is_some_at, name_of_number, Listed, listed, drawn_short, there_short, CellFits, cell_fits, cells_fit, LinkFits, link_fits, links_fit}
-- keys and values that are read back
pub use Rattle.xod_tables.proofs.KeysRead.{u32_back, u64_back, id_at-bytes, name_read, next_read, id_read, cell_read, join_read, value_back}
pub use Rattle.xod_tables.proofs.Written.{same_some, not_none, written, was_written, one_writing}
-- rows that are read back
pub use Rattle.xod_tables.proofs.Back.{candidate_is}
pub use Rattle.xod_tables.proofs.Decide.{tested, passes, rows_of_tables, tables_of_rows, one_rows, have_tables}
pub use Rattle.xod_tables.proofs.Nothing.{no_tables}
-- keys in their orders, and apart
pub use Rattle.xod_tables.proofs.KeyOrders.{u32_cmp, u32_front, id_front, id_alone}
pub use Rattle.xod_tables.proofs.KeysApart.{index_apart, property_apart, link_apart}
-- no two entities, properties or links have one key
pub use Rattle.xod_tables.proofs.KeysOwn.{id_own, ids_short, HasKey, HaveKeys, cell_keys, key_is, gives_is, cell_own, same_cell, cell_alone, HasLinkKey, HaveLinkKeys, link_keys, out_is, back_is, out_own, back_own}
pub use Rattle.xod_tables.proofs.NameKeys.{Lacks, one_number, one_kind, kinds_props, kinds_links, props_links, others_by_number, others_by_name}
-- what the tables have at each key
pub use Rattle.xod_tables.proofs.Answering.{sound_answer}
-- writes in an overlay
pub use Rattle.xod_tables.proofs.Touching.{touches_show}
-- what a change of a property leaves in the index
pub use Rattle.xod_tables.proofs.Changed.{new_keys_stand}
