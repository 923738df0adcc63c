-- The files of the worked examples are small.
use Rattle.std.proofs.Common.{◌≡◌, ◌<◌, ◌^◌, ℕ, List, [], ◌∷◌, length, map, refl, sym, subst, arith}
use Rattle.std.specs.Prelude.{All}
use Rattle.std.specs.List.{AllByRecursion}
use Rattle.std.specs.Fmt.{digits}
use Rattle.std.proofs.lemmas.List.Elements.{All-from_recursion}
use Rattle.rb_base.specs.Length.{length_bytes}
use Rattle.rb_base.specs.declared.site.SiteId.TheVariants.{A}
use Rattle.rb_base.specs.declared.body.EpochBody.{EpochBody}
use Rattle.rb_log_defs.specs.Event.{header_bytes, event_bytes, query_payload, format_payload, xid_payload, rotate_payload}
use Rattle.rb_log_defs.specs.Table.{table_map_payload}
use Rattle.rb_log_defs.specs.Rows.{text_bytes, row_image, rows_payload, change_payload, status_payload}
use Rattle.rb_log_defs.specs.Epoch.{epoch_bytes}
use Rattle.rb_log_defs.specs.File.{file_start, binlog_of, binlog_files}
use Rattle.rb_log_defs.specs.Worked.{first_path, around_empty_epochs, text_ends}
use Rattle.rb_reference.specs.Standing.{IsSmall}

-- a length that fits 32 bits
abbrev Fits : ℕ → Type 0
Fits n = n < 2 ^ 32

each_small : (files : List (List ℕ)) → AllByRecursion Fits (map length files) → AllByRecursion IsSmall files
each_small [] fits = tt
each_small (file ∷ files) fits = (fits.0, each_small files fits.1)

-- files of such lengths are small
small_by_lengths : (files : List (List ℕ)) (lengths : List ℕ) → map length files ≡ lengths → AllByRecursion Fits lengths → All IsSmall files
small_by_lengths files lengths same fit = All-from_recursion IsSmall files (each_small files (subst (AllByRecursion Fits) (sym same) fit))

none_lengths : map length (binlog_files A 1048576 []) ≡ 115 ∷ []
unfolding file_start event_bytes header_bytes format_payload query_payload xid_payload rotate_payload table_map_payload text_bytes row_image rows_payload change_payload status_payload epoch_bytes length_bytes binlog_of digits
none_lengths = refl

-- a log without bodies
pub small_none : (bodies : List EpochBody) → bodies ≡ [] → All IsSmall (binlog_files A 1048576 bodies)
small_none bodies same = subst (λ (bs : List EpochBody). All IsSmall (binlog_files A 1048576 bs)) (sym same) (small_by_lengths (binlog_files A 1048576 []) (115 ∷ []) none_lengths (omega arith, tt))

first_path_lengths : map length (binlog_files A 1048576 (first_path ∷ [])) ≡ 456 ∷ []
unfolding file_start event_bytes header_bytes format_payload query_payload xid_payload rotate_payload table_map_payload text_bytes row_image rows_payload change_payload status_payload epoch_bytes length_bytes binlog_of digits
first_path_lengths = refl

-- the worked example
pub small_first_path : (bodies : List EpochBody) → bodies ≡ first_path ∷ [] → All IsSmall (binlog_files A 1048576 bodies)
small_first_path bodies same = subst (λ (bs : List EpochBody). All IsSmall (binlog_files A 1048576 bs)) (sym same) (small_by_lengths (binlog_files A 1048576 (first_path ∷ [])) (456 ∷ []) first_path_lengths (omega arith, tt))

around_lengths : map length (binlog_files A 1048576 around_empty_epochs) ≡ 683 ∷ []
unfolding file_start event_bytes header_bytes format_payload query_payload xid_payload rotate_payload table_map_payload text_bytes row_image rows_payload change_payload status_payload epoch_bytes length_bytes binlog_of digits
around_lengths = refl

-- two epochs with empty epochs between them
pub small_around : (bodies : List EpochBody) → bodies ≡ around_empty_epochs → All IsSmall (binlog_files A 1048576 bodies)
small_around bodies same = subst (λ (bs : List EpochBody). All IsSmall (binlog_files A 1048576 bs)) (sym same) (small_by_lengths (binlog_files A 1048576 around_empty_epochs) (683 ∷ []) around_lengths (omega arith, tt))

around_rotated_lengths : map length (binlog_files A 512 around_empty_epochs) ≡ 722 ∷ 115 ∷ []
unfolding file_start event_bytes header_bytes format_payload query_payload xid_payload rotate_payload table_map_payload text_bytes row_image rows_payload change_payload status_payload epoch_bytes length_bytes binlog_of digits
around_rotated_lengths = refl

-- the same epochs with a limit that they pass
pub small_around_rotated : (bodies : List EpochBody) → bodies ≡ around_empty_epochs → All IsSmall (binlog_files A 512 bodies)
small_around_rotated bodies same = subst (λ (bs : List EpochBody). All IsSmall (binlog_files A 512 bs)) (sym same) (small_by_lengths (binlog_files A 512 around_empty_epochs) (722 ∷ 115 ∷ []) around_rotated_lengths (omega arith, (omega arith, tt)))

around_below_lengths : map length (binlog_files A 684 around_empty_epochs) ≡ 683 ∷ []
unfolding file_start event_bytes header_bytes format_payload query_payload xid_payload rotate_payload table_map_payload text_bytes row_image rows_payload change_payload status_payload epoch_bytes length_bytes binlog_of digits
around_below_lengths = refl

-- the same epochs with a limit that they do not reach
pub small_around_below : (bodies : List EpochBody) → bodies ≡ around_empty_epochs → All IsSmall (binlog_files A 684 bodies)
small_around_below bodies same = subst (λ (bs : List EpochBody). All IsSmall (binlog_files A 684 bs)) (sym same) (small_by_lengths (binlog_files A 684 around_empty_epochs) (683 ∷ []) around_below_lengths (omega arith, tt))

text_ends_lengths : map length (binlog_files A 1048576 (text_ends ∷ [])) ≡ 488 ∷ []
unfolding file_start event_bytes header_bytes format_payload query_payload xid_payload rotate_payload table_map_payload text_bytes row_image rows_payload change_payload status_payload epoch_bytes length_bytes binlog_of digits
text_ends_lengths = refl

-- texts whose length takes one byte or two
pub small_text_ends : (bodies : List EpochBody) → bodies ≡ text_ends ∷ [] → All IsSmall (binlog_files A 1048576 bodies)
small_text_ends bodies same = subst (λ (bs : List EpochBody). All IsSmall (binlog_files A 1048576 bs)) (sym same) (small_by_lengths (binlog_files A 1048576 (text_ends ∷ [])) (488 ∷ []) text_ends_lengths (omega arith, tt))
