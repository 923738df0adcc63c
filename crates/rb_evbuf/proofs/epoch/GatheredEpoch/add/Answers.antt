use Rattle.std.proofs.Common.{refl}
use Rattle.std.specs.Prelude.{Some, None, ◌==◌, ◌&&◌, if◌then◌else◌, Bool}
use Rattle.std.proofs.lemmas.Result.{on_ok_weaker, on_err_weaker}
use Rattle.rb_evbuf.specs.declared.gathered.Gathered.{Gathered}
use Rattle.rb_evbuf.proofs.Places.{seen_written, seen_same, item_is}
use Rattle.rb_evbuf.specs.Gathered.{place_in}
use Rattle.rb_evbuf.proofs.epoch.GatheredEpoch.add.Goals as goal

pub returns-in-Some-clause-kept : goal.returns-in-Some-clause-kept
returns-in-Some-clause-kept c =
    let item = c.in-Some.ensures.item in
    on_ok_weaker c.add.result (λ kept _ b p. seen_written (λ (gathered : Gathered). place_in gathered p) c.args.self.now.buckets.items c.args.bucket c.in-Some.gathered.now c.add.new.self
    (λ (same : Bool). if same && (c.args.place == p) then Some c.args.change else None) b (item_is _ _ _ item.3.0 item.1) (kept p) refl) c.add.ensures.kept

pub returns-in-Some-clause-memory : goal.returns-in-Some-clause-memory
returns-in-Some-clause-memory c =
    let item = c.in-Some.ensures.item in
    on_err_weaker c.add.result (λ same b p. seen_same (λ (gathered : Gathered). place_in gathered p) c.args.self.now.buckets.items c.args.bucket c.in-Some.gathered.now c.add.new.self b
    (item_is _ _ _ item.3.0 item.1) (same p)) c.add.ensures.memory

pub returns-in-Some-clause-counts : goal.returns-in-Some-clause-counts
returns-in-Some-clause-counts c =
    let item = c.in-Some.ensures.item in
    λ b. seen_same (λ (gathered : Gathered). gathered.count) c.args.self.now.buckets.items c.args.bucket c.in-Some.gathered.now c.add.new.self b (item_is _ _ _ item.3.0 item.1) c.add.ensures.count
