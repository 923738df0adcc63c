use Rattle.std.proofs.Common.{◌∙◌, ◌+◌, ℕ, Ok, Bool, not, if◌then◌else◌, sym, ap, subst, refl}
use Rattle.rb_read_defs.specs.Stream.{is_outside}
use Rattle.rb_stream.specs.Taking.{Takes}
use Rattle.rb_stream.proofs.NextLaws.{open_is, outside_of}
use Rattle.rb_stream.proofs.decoder.Decoder.take.Goals as goal

pub returns-clause-goes : goal.returns-clause-goes
returns-clause-goes c known knows =
    let taken = subst (λ (end : ℕ). Takes c.args.self.now.at known (record { end = end; server = c.args.header.server; says = c.args.content }) (Ok c.in_ok-step.step) c.take_content.new.current)
    (ap (λ (n : ℕ). c.args.self.now.at + n) c.from.ensures) (c.in_ok-step.ensures known knows.current) in
    let outside = outside_of (c.args.self.now.at + c.args.header.size) c.args.header.server c.args.content known ∙ ap not (sym (open_is c.take_content.new.current _ taken.1)) in (
      taken.0,
      taken.2,
      record { rotated = c.rotates-rotates.ensures (c.args.self.now.at + c.args.header.size) c.args.header.server known; current = taken.1 },
      ap (λ (n : ℕ). c.args.self.now.at + n) c.from.ensures,
      c.skip.ensures,
      refl,
      c.counted_after-self.ensures
          ∙ ap (λ (b : Bool). if not b then c.args.self.now.at + c.from.result else c.args.self.now.counted) c.is_some.ensures
          ∙ ap (λ (b : Bool). if b then c.args.self.now.at + c.from.result else c.args.self.now.counted) (sym outside)
          ∙ ap (λ (n : ℕ). if is_outside known (record { end = c.args.self.now.at + c.args.header.size; server = c.args.header.server; says = c.args.content }) then c.args.self.now.at + n else c.args.self.now.counted) c.from.ensures,
    )
