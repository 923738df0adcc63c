use Rattle.std.proofs.Common.{◌≡◌, ◌∙◌, ◌+◌, ℕ, List, length, sym, subst, arith}
use Rattle.std.specs.Prelude.{slice_range}
use Rattle.rb_device_defs.specs.Index.{IsIndexImage}
use Rattle.rb_index.proofs.ReadLaws.{whole_read}
use Rattle.rb_index.proofs.index.read_rows.Goals as goal

pub returns-clause-taken : goal.returns-clause-taken
returns-clause-taken g c = λ rows image room.
    let size : c.in_ok-bytes.bytes.len ≡ length (g.D.LogDisk.seen c.sync.new.self 0) = omega (arith, c.in_ok-bytes.ensures.len, c.len.ensures) in
    let long : length c.in_ok-bytes.bytes.items ≡ c.in_ok-bytes.bytes.len = sym c.in_ok-bytes.bytes.ok.0 in
    let read = whole_read (g.D.LogDisk.seen c.sync.new.self 0) c.read.new.into c.in_ok-bytes.bytes.items c.in_ok-bytes.bytes.len size long
    (subst (λ (buffer : List ℕ). c.read.new.into ≡ slice_range (g.D.LogDisk.seen c.sync.new.self 0) 0 (0 + length buffer)) c.deref_mut.ensures.value c.in_ok-read.ensures.bytes) in
    let same : c.deref.result.now ≡ g.D.LogDisk.seen c.args.disk.now 0 = c.deref.ensures.value ∙ read ∙ c.in_ok-sync.ensures.same 0 in
    c.in_ok-rows.ensures.taken rows (subst (IsIndexImage rows) (sym same) image) room
