-- The index `mysql.ndb_binlog_index`: the place of each epoch in the binlog. The columns are those
-- of the MySQL manual; the records of file 0 are this project's own.
use Rattle.std.specs.Prelude.{ℕ, Bool, true, false, nat_le, List, [], ◌∷◌, ◌++◌, count_by, filter, None}
use Rattle.std.specs.List.{flat_map, last_or}
use Rattle.std.specs.Option.{option_map_or}
use Rattle.byteorder.specs.Endian.{little_bytes}
use Rattle.rb_base.specs.Epoch.{gci_of}
use Rattle.rb_base.specs.Site.{server_of}
use Rattle.rb_base.specs.declared.site.SiteId.{SiteId}
use Rattle.rb_base.specs.declared.change.Kind.{Kind}
use Rattle.rb_base.specs.declared.change.Kind.TheVariants.{Insert, Update, Remove}
use Rattle.rb_base.specs.declared.body.EpochBody.{EpochBody}
use Rattle.rb_base.specs.declared.body.IndexRow.{IndexRow}

-- the kind of a change that inserts a row
abbrev pub is_insert : Kind → Bool
is_insert Insert = true
is_insert Update = false
is_insert Remove = false

-- the kind of a change that updates a row
abbrev pub is_update : Kind → Bool
is_update Insert = false
is_update Update = true
is_update Remove = false

-- the kind of a change that deletes a row
abbrev pub is_remove : Kind → Bool
is_remove Insert = false
is_remove Update = false
is_remove Remove = true

-- the index row of an epoch whose events span these two positions of a file
abbrev pub index_row : SiteId → (file position next : ℕ) → EpochBody → IndexRow
index_row site file position next body = record {
  epoch = body.epoch;
  orig_epoch = body.epoch;
  position = position;
  next_position = next;
  file = file;
  next_file = file;
  inserts = count_by (λ change. is_insert change.kind) body.changes;
  updates = count_by (λ change. is_update change.kind) body.changes;
  deletes = count_by (λ change. is_remove change.kind) body.changes;
  schemaops = 0;
  orig_server_id = server_of site;
  gci = gci_of body.epoch;
}

-- the 64 bytes of a row's record, without its gate
unfoldable pub index_record : IndexRow → List ℕ
index_record row =
    little_bytes 8 row.epoch.0 ++ (little_bytes 8 row.orig_epoch.0 ++ (little_bytes 8 row.position
    ++ (little_bytes 8 row.next_position ++ (little_bytes 4 row.file ++ (little_bytes 4 row.next_file
    ++ (little_bytes 4 row.inserts ++ (little_bytes 4 row.updates ++ (little_bytes 4 row.deletes
    ++ (little_bytes 4 row.schemaops ++ (little_bytes 4 row.orig_server_id ++ little_bytes 4 row.gci))))))))))

-- file 0: an open gate (1) and the record for each row, and a closed gate (0) at the end
unfoldable pub index_file : List IndexRow → List ℕ
index_file rows = flat_map (λ row. 1 ∷ index_record row) rows ++ 0 ∷ []

-- the file and position at which the log continues after an epoch: the next position of the last
-- row whose epoch is at most that epoch, or the first event of file 1 if there is no such row
abbrev pub position_after : List IndexRow → (epoch : ℕ) → ℕ × ℕ
position_after rows epoch =
    option_map_or (λ row. (row.next_file, row.next_position)) (last_or None (filter (λ row. nat_le row.epoch.0 epoch) rows)) (1, 4)
