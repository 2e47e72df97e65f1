-- What a volume is over, and which bytes it keeps in memory of its files.
use Rattle.std.specs.Prelude.{◌≡◌, ℕ, true, false, List, length, Option, Some, None, IsSome, string_bytes}
use Rattle.std.specs.Ordering.{nat_cmp}
use Rattle.std.specs.BTreeMap.{get_by}
use Rattle.std.specs.FinMap.{get}
use Rattle.xod_volume.specs.Files.{Files, Content, bytes_in}
use Rattle.xod_volume.specs.Leases.{names, Filled}
use Rattle.xod_volume_fs.specs.declared.file.FolderFile.{FolderFile}
use Rattle.xod_volume_fs.specs.declared.folder.Folder.{Folder}
use Rattle.xod_volume_fs.specs.declared.volume.FolderVolume.{FolderVolume}

-- the name of the folder that a volume is over
abbrev pub folder_of : {R : Type 0} → FolderVolume R → List ℕ
folder_of volume = string_bytes volume.store.name

-- what is kept of a file that was looked up
abbrev pub kept_of : Option FolderFile → Content
kept_of None = None
kept_of (Some file) = file.body

-- what is kept of a file, `None` where its bytes are not in memory
abbrev pub kept_in : Folder → ℕ → Content
kept_in folder file = kept_of (get_by (nat_cmp file) folder.files)

-- the same of a folder that may not be met yet
abbrev pub kept_by : Option Folder → ℕ → Content
kept_by None file = None
kept_by (Some folder) file = kept_in folder file

-- the same of a volume
abbrev pub kept : {R : Type 0} → FolderVolume R → ℕ → Content
kept volume file = kept_by volume.store.folder file

-- bytes that were kept are kept as they are
abbrev pub StaysKept : Content → Content → Type 0
StaysKept old new = (bytes : List ℕ) → old ≡ Some bytes → new ≡ Some bytes

-- so of every file
abbrev pub StayKept : (ℕ → Content) → (ℕ → Content) → Type 0
StayKept old new = (file : ℕ) → StaysKept (old file) (new file)

-- a read gave, of bytes that are kept, as many as there are from a place on
pub record ReadsKept (kept : Content) (at : ℕ) (before after : List ℕ) (n : ℕ) : Type 0 where
  pub there : IsSome kept
  pub filled : Filled (bytes_in kept) at before after n

-- a length is that of bytes that are kept
pub record SizesKept (kept : Content) (n : ℕ) : Type 0 where
  pub there : IsSome kept
  pub size : n ≡ length (bytes_in kept)

-- the files that a list names are lent as they are kept, and no other
pub record LendsKept (list : List ℕ) (kept : ℕ → Content) (lent : Files) : Type 0 where
  pub each : (file : ℕ) → names list file ≡ true → IsSome (get lent file)
  pub as_kept : (file : ℕ) → StaysKept (get lent file) (kept file)
  pub no_other : (file : ℕ) → names list file ≡ false → get lent file ≡ None
