use Rattle.rb_index.proofs.ReadLaws.{record_read}
use Rattle.rb_index.proofs.record.read_record.Goals as goal

pub returns : goal.returns
returns c = λ row rest room is. record_read c.args.bytes.now _ row rest (record {
  epoch = c.read_u64.ensures;
  orig_epoch = c.read_u64-2.ensures;
  position = c.read_u64-3.ensures;
  next_position = c.read_u64-4.ensures;
  file = c.read_u32.ensures;
  next_file = c.read_u32-2.ensures;
  inserts = c.read_u32-3.ensures;
  updates = c.read_u32-4.ensures;
  deletes = c.read_u32-5.ensures;
  schemaops = c.read_u32-6.ensures;
  orig_server_id = c.read_u32-7.ensures;
  gci = c.read_u32-8.ensures;
}) room is
