-- The files of a site as text: each file's name and length, and its bytes in hexadecimal.
use Rattle.std.specs.Prelude.{ℕ, zero, suc, ◌*◌, List, [], ◌∷◌, ◌++◌, length, take, drop, codes}
use Rattle.std.specs.Int.{div_ceil}
use Rattle.std.specs.List.{concat, flat_map}
use Rattle.byteorder.specs.Endian.{big_bytes}
use Rattle.hex.specs.Hex.{encode_lower}
use Rattle.rb_base.specs.declared.site.SiteId.{SiteId}
use Rattle.rb_base.specs.declared.site.SiteId.TheVariants.{A, B}
use Rattle.rb_log_defs.specs.File.{file_name}
use Rattle.rb_disk.specs.Memory.{MemoryFiles, file_of, file_count}
use Rattle.rb_journal_defs.specs.Body.{numbers_below}
use Rattle.rb_text_defs.specs.Report.{labelled, letter_of}

-- an offset as eight digits: the lowest four of its bytes, the highest first
abbrev pub offset_text : ℕ → List ℕ
offset_text offset = encode_lower (drop 4 (big_bytes 8 offset))

-- line `number`: its offset, and at most 32 bytes from there on
abbrev pub bytes_line : List ℕ → (number : ℕ) → List ℕ
bytes_line bytes number =
    offset_text (number * 32) ++ (32 ∷ (encode_lower (take 32 (drop (number * 32) bytes)) ++ 10 ∷ []))

-- the bytes, in lines
abbrev pub bytes_text : List ℕ → List ℕ
bytes_text bytes = flat_map (bytes_line bytes) (numbers_below (div_ceil (length bytes) 32))

-- the name of a file: file 0 is the index, the others are binlog files
abbrev pub log_name : SiteId → (number : ℕ) → List ℕ
log_name site zero = codes "ndb_binlog_index"
log_name site (suc number) = file_name site (suc number)

-- the line above a file's bytes
abbrev pub heading : SiteId → (number size : ℕ) → List ℕ
heading site number size =
    concat (codes "file " ∷ letter_of site ∷ labelled (codes " ") number ∷ codes " name=" ∷ log_name site number ∷ labelled (codes " length=") size ∷ (10 ∷ []) ∷ [])

-- a file as text; nothing for an empty one
abbrev pub file_text : SiteId → (number : ℕ) → List ℕ → List ℕ
file_text site number [] = []
file_text site number (byte ∷ bytes) = heading site number (length (byte ∷ bytes)) ++ bytes_text (byte ∷ bytes)

-- the files of a site, file 0 first
abbrev pub site_text : SiteId → MemoryFiles → List ℕ
site_text site disk = flat_map (λ number. file_text site number (file_of disk number)) (numbers_below (file_count disk))

-- the files of both sites
abbrev pub dump_text : (disk_a disk_b : MemoryFiles) → List ℕ
dump_text disk_a disk_b = site_text A disk_a ++ site_text B disk_b
