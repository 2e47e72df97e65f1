-- What a commit puts behind the newest block.
use Rattle.std.specs.Prelude.{◌≡◌, ◌<◌, ◌≤◌, ℕ, ◌-◌, true, is_some, List, drop, length}
use Rattle.std.specs.FinMap.{get}
use Rattle.xod_base.specs.Views.{Trees}
use Rattle.xod_block.specs.Addresses.{number_of}
use Rattle.xod_block.specs.Bodies.{with_block}
use Rattle.xod_block.specs.Maps.{RecordsAt}
use Rattle.xod_block.specs.Records.{Fits, spelling}
use Rattle.xod_log.specs.declared.log.Log.{Log}
use Rattle.xod_log.specs.Standing.{next_place_of}
use Rattle.xod_root.specs.Roots.{Roots, root_record}
use Rattle.xod_tables.specs.Reading.{rows_of}
use Rattle.xod_trie.specs.Tries.{trie_map}
use Rattle.xod_volume.specs.Files.{Files}
use Rattle.xod_env.specs.Envs.{env_records}

-- the records once a block stands at the log's next place
abbrev pub records_with : Log → Files → List ℕ → RecordsAt
records_with log files block = with_block (number_of (next_place_of log)) block (env_records log.file files)

-- the trees under these roots once a block stands at the log's next place
abbrev pub trees_with : Log → Files → List ℕ → Roots → Trees
trees_with log files block roots tree = trie_map (records_with log files block) (get roots tree)

-- A block may come next, and is then the newest one: its last `back` bytes are the root record of its commit and its roots,
-- each tree under them has a map, and these are the tables of some rows.
pub record IsNextBlock (log : Log) (files : Files) (block : List ℕ) (back : ℕ) (roots : Roots) (commit : ℕ) : Type 0 where
  pub some : 0 < back
  pub within : back ≤ length block
  pub fits : Fits (root_record commit roots)
  pub root : drop (length block - back) block ≡ spelling (root_record commit roots)
  pub maps : (tree : ℕ) → is_some (trees_with log files block roots tree) ≡ true
  pub tables : is_some (rows_of (trees_with log files block roots)) ≡ true
