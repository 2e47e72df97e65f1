-- A record in memory, seen as what it is.
use Rattle.std.specs.Prelude.{◌≡◌, ℕ, List}
use Rattle.std.specs.Option.{option_copied}
use Rattle.xod_block.specs.declared.log_record.LogRecord.{LogRecord}
use Rattle.xod_block.specs.declared.log_record.LogRecord.TheVariants as written
use Rattle.xod_block.specs.Records.{RecordValue, Leaf, Node, Root, Fits, links_bytes}
use Rattle.xod_block.specs.Reading.{links_in}

abbrev pub seen : LogRecord → RecordValue
seen (written.Leaf key value) = Leaf key.now value.now
seen (written.Node key value children) = Node key.now (option_copied value) (links_in children.now)
seen (written.Root commit trees) = Root commit (links_in trees.now)

-- bytes that are links from first to last
abbrev pub AreLinks : List ℕ → Type 0
AreLinks bytes = bytes ≡ links_bytes (links_in bytes)

abbrev pub HasWholeLinks : LogRecord → Type 0
HasWholeLinks (written.Leaf key value) = Unit {0}
HasWholeLinks (written.Node key value children) = AreLinks children.now
HasWholeLinks (written.Root commit trees) = AreLinks trees.now

-- a record in memory that has a spelling
pub record HasSpelling (item : LogRecord) : Type 0 where
  pub whole : HasWholeLinks item
  pub fits : Fits (seen item)
