-- The devices in memory, as their callers see them.
use Rattle.std.specs.Prelude.{ℕ, List, [], length, slice_index_or}

-- the files of a device in memory, by their numbers
abbrev pub MemoryFiles : Type 0
MemoryFiles = List (List ℕ)

-- a device whose files are all empty
abbrev pub no_files : MemoryFiles
no_files = []

-- the bytes of a file
abbrev pub file_of : (disk : MemoryFiles) (number : ℕ) → List ℕ
file_of disk number = slice_index_or disk number []

-- a number from which on every file is empty
abbrev pub file_count : (disk : MemoryFiles) → ℕ
file_count disk = length disk

-- the files, the number of the next call, the numbers of the calls that fail, and the count of
-- faults
pub record DiskState : Type 0 where
  pub files : MemoryFiles
  pub call : ℕ
  pub failing : List ℕ
  pub faults : ℕ
