-- The index file of the worked example, and changed copies of it.
use Rattle.std.specs.Prelude.{ℕ, List, [], ◌∷◌, ◌++◌, take}
use Rattle.rb_base.specs.declared.site.SiteId.TheVariants.{A}
use Rattle.rb_base.specs.declared.body.IndexRow.{IndexRow}
use Rattle.rb_log_defs.specs.File.{index_rows}
use Rattle.rb_log_defs.specs.Worked.{first_path, first_path_index}

-- the one index row of the worked example
abbrev pub first_path_rows : List IndexRow
first_path_rows = index_rows A 1048576 (first_path ∷ [])

-- the open gate and the record of that row, 65 bytes
abbrev pub first_record : List ℕ
first_record = take 65 first_path_index

-- the same file with an open gate (1) at its end, 66 bytes
abbrev pub opened_index : List ℕ
opened_index = first_record ++ 1 ∷ []
