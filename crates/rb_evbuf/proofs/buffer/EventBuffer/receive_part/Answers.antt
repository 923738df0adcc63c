use Rattle.std.proofs.Common.{◌≡◌, ℕ, sym, ◌∙◌, ap, arith}
use Rattle.std.specs.Prelude.{Option, Some, None, ◌==◌, ◌&&◌, if◌then◌else◌}
use Rattle.std.specs.Option.{option_map, option_or}
use Rattle.std.specs.Ordering.{nat_cmp}
use Rattle.std.specs.BTreeMap.{BTreeMap}
use Rattle.std.specs.BTreeMap as tree
use Rattle.rb_base.specs.declared.epoch.Epoch.{Epoch}
use Rattle.rb_base.specs.declared.change.Change.{Change}
use Rattle.rb_base.specs.declared.message.Message.TheVariants.{Part}
use Rattle.std.proofs.lemmas.Bool.{leb-true, leb-false}
use Rattle.rb_evbuf.proofs.Feeding.{old_message, kept_part}
use Rattle.rb_evbuf.proofs.buffer.EventBuffer.receive_part.Goals as goal

pub returns-then-is_taken-clause-kept : goal.returns-then-is_taken-clause-kept
returns-then-is_taken-clause-kept c = λ fed stands. old_message c.args.self.now fed (Part c.args.bucket c.args.epoch c.args.place c.args.change) stands c.requires.bucket (leb-true _ _ (sym c.is_taken.ensures ∙ c.if-is_taken.true))

pub returns-clause-kept : goal.returns-clause-kept
returns-clause-kept c = λ fed stands.
    let added = c.in_ok-first.ensures in
    let entered = c.in_ok-enter.ensures in
    kept_part c.args.self.now c.add.new.self fed c.args.bucket c.args.epoch c.args.place c.args.change stands c.requires.bucket (leb-false _ _ (sym c.is_taken.ensures ∙ c.if-is_taken.false))
    (added.buckets ∙ entered.buckets) (added.last ∙ entered.last) (λ sound. added.sound (entered.sound sound))
    (λ e b p. added.kept (entered.sound stands.sound) (let h : c.enter.new.self.buckets ≡ c.args.self.now.buckets = entered.buckets in omega (arith, c.requires.bucket)) e b p
    ∙ ap (λ (o : Option Change). option_or o (if (c.args.epoch.0 == e) && (c.args.bucket == b) && (c.args.place == p) then Some c.args.change else None)) (entered.places e b p))
    (λ e b. added.counts e b ∙ entered.counts e b)
    (λ e. ap (λ (m : BTreeMap ℕ Epoch). option_map (λ (next : Epoch). next.0) (tree.get nat_cmp m e)) (added.following ∙ entered.following))
