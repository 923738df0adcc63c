use Rattle.std.proofs.Common.{◌≡◌, ℕ, sym, ◌∙◌, ap, arith}
use Rattle.std.specs.Prelude.{Option, Some, None, ◌==◌, ◌&&◌, if◌then◌else◌}
use Rattle.std.specs.Option.{option_map, option_or, option_and_then}
use Rattle.std.specs.Ordering.{nat_cmp}
use Rattle.std.specs.BTreeMap.{BTreeMap}
use Rattle.std.specs.BTreeMap as tree
use Rattle.rb_base.specs.declared.epoch.Epoch.{Epoch}
use Rattle.rb_base.specs.declared.message.Message.TheVariants.{Done}
use Rattle.rb_evbuf.specs.Epoch.{place_at, count_at}
use Rattle.rb_evbuf.specs.Buffer.{AreSound}
use Rattle.rb_evbuf.specs.declared.epoch.GatheredEpoch.{GatheredEpoch}
use Rattle.std.proofs.lemmas.Bool.{leb-true, leb-false}
use Rattle.rb_evbuf.proofs.Feeding.{old_message, kept_done, sound_same}
use Rattle.rb_evbuf.proofs.buffer.EventBuffer.receive_done.Goals as goal

pub returns-then-is_taken-clause-kept : goal.returns-then-is_taken-clause-kept
returns-then-is_taken-clause-kept c = λ fed stands. old_message c.args.self.now fed (Done c.args.bucket c.args.epoch c.args.prev c.args.count) stands c.requires.bucket (leb-true _ _ (sym c.is_taken.ensures ∙ c.if-is_taken.true))

pub returns-clause-kept : goal.returns-clause-kept
returns-clause-kept c = λ fed stands.
    let told = c.note_done-first.ensures in
    let followed = c.in_ok-follow.ensures in
    let entered = c.in_ok-enter.ensures in
    let between : AreSound c.follow.new.self = sound_same c.enter.new.self c.follow.new.self followed.epochs followed.buckets (entered.sound stands.sound) in
    let buckets : c.follow.new.self.buckets ≡ c.args.self.now.buckets = followed.buckets ∙ entered.buckets in
    let last : c.enter.new.self.last.0 ≡ c.args.self.now.last.0 = ap (λ (e : Epoch). e.0) entered.last in
    kept_done c.args.self.now c.note_done-first.new.self fed c.args.bucket c.args.epoch c.args.prev c.args.count stands c.requires.bucket (leb-false _ _ (sym c.is_taken.ensures ∙ c.if-is_taken.false))
    (told.buckets ∙ buckets) (told.last ∙ followed.last ∙ entered.last) (λ _. told.sound between)
    (λ e b p. told.places e b p ∙ ap (λ (m : BTreeMap ℕ GatheredEpoch). option_and_then (λ g. place_at g b p) (tree.get nat_cmp m e)) followed.epochs ∙ entered.places e b p)
    (λ e b. told.kept between (omega (arith, c.requires.bucket)) e b
    ∙ ap (λ (o : Option ℕ). option_or o (if (c.args.epoch.0 == e) && (c.args.bucket == b) then Some c.args.count else None))
    (ap (λ (m : BTreeMap ℕ GatheredEpoch). option_and_then (λ g. count_at g b) (tree.get nat_cmp m e)) followed.epochs ∙ entered.counts e b))
    (λ e from. ap (λ (m : BTreeMap ℕ Epoch). option_map (λ (next : Epoch). next.0) (tree.get nat_cmp m e)) told.following
    ∙ followed.kept e (omega arith)
    ∙ ap (λ (m : BTreeMap ℕ Epoch). if c.args.prev.0 == e then Some c.args.epoch.0 else option_map (λ (next : Epoch). next.0) (tree.get nat_cmp m e)) entered.following)
