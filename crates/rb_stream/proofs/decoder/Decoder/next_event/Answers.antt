use Rattle.std.proofs.Common.{◌∙◌, ◌≡◌, sym, ap, subst, ℕ, List, Option, length, take, drop, arith, Ok, Err, Result}
use Rattle.rb_base.specs.declared.faults.CodecFault.{CodecFault}
use Rattle.rb_base.specs.declared.faults.CodecFault.TheVariants as codec
use Rattle.rb_read_defs.specs.Reading.{answer_of}
use Rattle.rb_read_defs.specs.Stream.{content_in}
use Rattle.rb_read_defs.specs.declared.answers.Content.{Content}
use Rattle.rb_read_defs.specs.declared.answers.Header.{Header}
use Rattle.rb_stream.specs.declared.fault.StreamFault.{StreamFault}
use Rattle.rb_stream.specs.Next.{Meets, MeetsHeader}
use Rattle.rb_stream.proofs.CutLaws.{not_whole}
use Rattle.rb_stream.proofs.NextLaws.{read_of, payload_fails, payload_is}
use Rattle.rb_stream.proofs.decoder.Decoder.next_event.Goals as goal

pub returns-then-unread-header-clause-meets : goal.returns-then-unread-header-clause-meets
returns-then-unread-header-clause-meets c known knows =
    let (long, good, (after, read)) = subst (λ (head : Option Header). MeetsHeader c.args.self.now.at c.args.self.now.unread known (Ok head)) c.in-Some.is (c.in_ok-header.ensures.meets known knows) in
    not_whole c.args.self.now.at c.args.self.now.unread known c.in-Some.header after long read good (let l = ap length c.as_slice-unread.ensures in let short = c.if-unread-header.true in omega arith)

pub returns-in-Ok-clause-meets : goal.returns-in-Ok-clause-meets
returns-in-Ok-clause-meets c known knows =
    let (long, good, (after, read)) = subst (λ (head : Option Header). MeetsHeader c.args.self.now.at c.args.self.now.unread known (Ok head)) c.in-Some.is (c.in_ok-header.ensures.meets known knows) in
    let answer = c.in-Ok.ensures.read known knows.current (λ same. let no : ◌≡◌ {A = Result Content CodecFault} (Ok c.in-Ok.content) (Err codec.NoMemory) = same in cc)
    ∙ ap (λ (xs : List ℕ). answer_of (content_in c.args.self.now.at known c.in-Some.header xs 0)) (payload_is c.in-Some.header.size c.as_slice-unread.result.now c.args.self.now.unread c.as_slice-unread.ensures) in
    let (place, says) = read_of (content_in c.args.self.now.at known c.in-Some.header (drop 19 (take c.in-Some.header.size c.args.self.now.unread)) 0) c.in-Ok.content answer in
    record { long = long; whole = (let l = ap length c.as_slice-unread.ensures in let enough = c.if-unread-header.false in omega arith); after = after; head_read = read; good = good; place = place; content_read = says }

pub returns-in-Err-clause-meets : goal.returns-in-Err-clause-meets
returns-in-Err-clause-meets c known knows =
    let (long, good, (after, read)) = subst (λ (head : Option Header). MeetsHeader c.args.self.now.at c.args.self.now.unread known (Ok head)) c.in-Some.is (c.in_ok-header.ensures.meets known knows) in
    subst (λ (fault : StreamFault). Meets c.args.self.now.at c.args.self.now.unread known (Err fault)) (sym c.fault_at.ensures)
    (payload_fails c.args.self.now.at c.args.self.now.unread known c.in-Some.header after c.in-Err.fault long read good (let l = ap length c.as_slice-unread.ensures in let enough = c.if-unread-header.false in omega arith)
    (λ some. c.in-Err.ensures.read known knows.current some ∙ ap (λ (xs : List ℕ). answer_of (content_in c.args.self.now.at known c.in-Some.header xs 0)) (payload_is c.in-Some.header.size c.as_slice-unread.result.now c.args.self.now.unread c.as_slice-unread.ensures)))
