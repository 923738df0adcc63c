-- Binlog files on a device, numbered from 1.
use Rattle.std.specs.Prelude.{◌≡◌, ℕ, ◌-◌, ◌≤◌, ◌<◌, List, [], take, get_or}

-- the file with this number among these files, file 1 first; a number above the last file gives an
-- empty file
abbrev pub file_at : List (List ℕ) → (number : ℕ) → List ℕ
file_at files number = get_or files (number - 1) []

-- the device's files from 1 on are these files
abbrev pub HoldsFiles : List (List ℕ) → (seen : ℕ → List ℕ) → Type 0
HoldsFiles files seen = (number : ℕ) → 1 ≤ number → seen number ≡ file_at files number

-- the device holds a prefix of these binlog files: all files below `number`, and the first
-- `position` bytes of the file `number`
pub record HoldsPrefix (number position : ℕ) (files : List (List ℕ)) (seen : ℕ → List ℕ) : Type 0 where
  pub before : (earlier : ℕ) → 1 ≤ earlier → earlier < number → seen earlier ≡ file_at files earlier
  pub front : take position (seen number) ≡ take position (file_at files number)
