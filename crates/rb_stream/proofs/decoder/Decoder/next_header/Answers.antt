use Rattle.std.proofs.Common.{◌∙◌, sym, ap, ℕ, List, length, arith, Err}
use Rattle.rb_read_defs.specs.Reading.{answer_of}
use Rattle.rb_read_defs.specs.Events.{header}
use Rattle.rb_stream.proofs.CutLaws.{no_header, short_header, wrong_header, misplaced}
use Rattle.rb_stream.proofs.NextLaws.{read_of, short_of, wrong_of, open_is, size_of_header}
use Rattle.rb_stream.proofs.decoder.Decoder.next_header.Goals as goal

pub returns-then-unread-lt-HEADER_SIZE-clause-meets : goal.returns-then-unread-lt-HEADER_SIZE-clause-meets
returns-then-unread-lt-HEADER_SIZE-clause-meets c known knows =
    no_header c.args.self.now.at c.args.self.now.unread known (let l = ap length c.as_slice-unread.ensures in let short = c.if-unread-lt-HEADER_SIZE.true in omega arith)

pub returns-in-Some-clause-meets : goal.returns-in-Some-clause-meets
returns-in-Some-clause-meets c known knows =
    let bytes = c.as_slice-unread.ensures in
    let (after, read) = read_of (header c.args.self.now.at c.args.self.now.unread 0) c.in-Ok.header (sym c.in-Ok.is ∙ c.read_header.ensures ∙ ap (λ (xs : List ℕ). answer_of (header c.args.self.now.at xs 0)) bytes) in
    misplaced c.args.self.now.at c.args.self.now.unread known c.in-Ok.header after c.in-Some.field (let l = ap length bytes in let long = c.if-unread-lt-HEADER_SIZE.false in omega arith) read
    (sym (c.order_fault.ensures known knows.rotated (c.is_some.ensures ∙ open_is c.args.self.now.current known knows.current)) ∙ c.in-Some.is)

pub returns-in-None-clause-meets : goal.returns-in-None-clause-meets
returns-in-None-clause-meets c known knows =
    let bytes = c.as_slice-unread.ensures in (
      (let l = ap length bytes in let long = c.if-unread-lt-HEADER_SIZE.false in omega arith),
      sym (c.order_fault.ensures known knows.rotated (c.is_some.ensures ∙ open_is c.args.self.now.current known knows.current)) ∙ c.in-None.is,
      read_of (header c.args.self.now.at c.args.self.now.unread 0) c.in-Ok.header (sym c.in-Ok.is ∙ c.read_header.ensures ∙ ap (λ (xs : List ℕ). answer_of (header c.args.self.now.at xs 0)) bytes),
    )

pub returns-in-None-clause-some : goal.returns-in-None-clause-some
returns-in-None-clause-some c = size_of_header c.args.self.now.at c.as_slice-unread.result.now c.in-Ok.header (sym c.in-Ok.is ∙ c.read_header.ensures)

pub returns-in-Err-Short-clause-meets : goal.returns-in-Err-Short-clause-meets
returns-in-Err-Short-clause-meets c known knows =
    let bytes = c.as_slice-unread.ensures in
    short_header c.args.self.now.at c.args.self.now.unread known c.in-Err-Short.field-0-0 (let l = ap length bytes in let long = c.if-unread-lt-HEADER_SIZE.false in omega arith)
    (short_of (header c.args.self.now.at c.args.self.now.unread 0) c.in-Err-Short.field-0-0
    (sym (ap Err c.in-Err-Short.field-0-is) ∙ sym c.in-Err-Short.is ∙ c.read_header.ensures ∙ ap (λ (xs : List ℕ). answer_of (header c.args.self.now.at xs 0)) bytes))

pub returns-in-Err-BadField-clause-meets : goal.returns-in-Err-BadField-clause-meets
returns-in-Err-BadField-clause-meets c known knows =
    let bytes = c.as_slice-unread.ensures in
    wrong_header c.args.self.now.at c.args.self.now.unread known c.in-Err-BadField.field-0-0 c.in-Err-BadField.field (let l = ap length bytes in let long = c.if-unread-lt-HEADER_SIZE.false in omega arith)
    (wrong_of (header c.args.self.now.at c.args.self.now.unread 0) c.in-Err-BadField.field-0-0 c.in-Err-BadField.field
    (sym (ap Err c.in-Err-BadField.field-0-is) ∙ sym c.in-Err-BadField.is ∙ c.read_header.ensures ∙ ap (λ (xs : List ℕ). answer_of (header c.args.self.now.at xs 0)) bytes))
