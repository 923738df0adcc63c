use Rattle.std.proofs.Common.{◌<◌, ◌≤◌, ◌^◌, ℕ, [], ◌∷◌, length, refl, arith}
use Rattle.std.proofs.lemmas.List.Elements.{All-from_recursion}
use Rattle.rb_base.specs.Length.{length_bytes}
use Rattle.rb_base.specs.declared.schema.Mapped.{Mapped}
use Rattle.rb_base.specs.declared.row.Value.TheVariants as values
use Rattle.rb_base.specs.declared.change.Change.{Change}
use Rattle.rb_log_defs.specs.Event.{Placed, header_bytes, event_bytes, query_payload, xid_payload}
use Rattle.rb_log_defs.specs.Table.{table_map_payload, columns_of}
use Rattle.rb_log_defs.specs.Rows.{text_bytes, row_image, rows_payload, change_payload, status_payload}
use Rattle.rb_log_defs.specs.Epoch.{epoch_events}
use Rattle.rb_log_defs.specs.Worked.{first_path, table_t, insert}
use Rattle.rb_read_defs.specs.Readable.{IsColumn, IsValue, IsReadableTable, IsReadableChange}
use Rattle.rb_read_defs.proofs.EpochRead.{epoch_back}
use Rattle.rb_read_defs.proofs.law.an_epoch_is_read_back.Goals as goal

pub returns-clause-back : goal.returns-clause-back
returns-clause-back c = epoch_back

-- the worked example's table and its two inserts
table_reads : IsReadableTable table_t
table_reads = record {
  mapped = record { schema = omega arith; name = omega arith; some = omega arith; few = omega arith };
  id = omega arith;
  data_table = refl;
  key = refl;
  columns = All-from_recursion IsColumn table_t.columns (tt, (tt, tt));
}

insert_reads : (key value transid : ℕ) → key < 2 ^ 64 → value < 2 ^ 64 → transid < 2 ^ 64 → IsReadableChange 1 (columns_of first_path.tables 1) (insert key value transid)
insert_reads key value transid one two three = record {
  fits = (refl, (tt, (tt, tt)));
  before = tt;
  after = All-from_recursion IsValue (values.Num key ∷ values.Num value ∷ []) (one, (two, tt));
  key_before = tt;
  key_after = refl;
  author = refl;
  transid = three;
}

pub returns-clause-worked : goal.returns-clause-worked
unfolding header_bytes event_bytes query_payload xid_payload table_map_payload text_bytes row_image rows_payload change_payload status_payload length_bytes
returns-clause-worked c = record {
  server = omega arith;
  epoch = omega arith;
  reflected = tt;
  own = λ one. refl;
  named = refl;
  tables = All-from_recursion IsReadableTable first_path.tables (table_reads, tt);
  above = All-from_recursion (λ (table : Mapped). 0 < table.id) first_path.tables (omega arith, tt);
  changes = All-from_recursion (λ (change : Change). IsReadableChange first_path.server (columns_of first_path.tables change.table) change) first_path.changes
      (insert_reads 5 7 1 (omega arith) (omega arith) (omega arith), (insert_reads 6 8 2 (omega arith) (omega arith) (omega arith), tt));
  sizes = All-from_recursion (λ (event : Placed). length (event 0) ≤ 2147483647) (epoch_events first_path) (omega arith, (omega arith, (omega arith, (omega arith, (omega arith, (omega arith, (omega arith, tt)))))));
}
