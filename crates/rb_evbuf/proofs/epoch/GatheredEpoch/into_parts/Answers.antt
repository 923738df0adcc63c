use Rattle.std.proofs.Common.{◌≡◌, ◌+◌, ◌≤◌, ℕ, arith, sym, ◌∙◌, length, List}
use Rattle.std.proofs.lemmas.List.{length-set}
use Rattle.rb_base.specs.declared.change.Change.{Change}
use Rattle.rb_evbuf.proofs.Places.{popped, one_part_more, all_parts}
use Rattle.rb_evbuf.proofs.epoch.GatheredEpoch.into_parts.Goals as goal

pub loop-last-preserved-in-Some-get_mut : goal.loop-last-preserved-in-Some-get_mut
loop-last-preserved-in-Some-get_mut c =
    let parts = popped c.args.self.buckets.items c.pop.new.self.items c.in-Some.last (length c.loop-last.gathered.items) (sym c.loop-last.invariant.left ∙ c.in-Some.ensures.items) in
    let size : length c.loop-last.gathered.items ≡ length c.pop.new.self.items + 1 = omega (arith, c.in-Some.ensures.len, c.pop.new.self.ok.0, c.loop-last.gathered.ok.0) in
    let at : c.len.result ≡ length c.pop.new.self.items = c.len.ensures ∙ c.pop.new.self.ok.0 in
    record {
      left = parts.0;
      fewer = let h = c.loop-last.invariant.fewer in omega arith;
      room = length-set _ _ _ ∙ c.loop-last.invariant.room;
      done = λ buckets sound k d above below none. rw at (one_part_more c.args.self buckets (length c.pop.new.self.items) c.in-Some.last c.loop-last.parts.items c.into_part.result
          sound (c.loop-last.invariant.room ∙ sound.room) parts.1 c.into_part.ensures
          (λ (k : ℕ) (d : List Change) (above : length c.pop.new.self.items + 1 ≤ k). c.loop-last.invariant.done buckets sound k d (omega arith)) k d above below none);
    }

pub returns : goal.returns
returns c = λ buckets sound none. c.from_vec.ensures ∙ all_parts c.args.self buckets c.loop-last.parts.items (c.loop-last.invariant.room ∙ sound.room) none
    (λ k d above below here. c.loop-last.invariant.done buckets sound k d (omega (arith, c.in_default.ensures.cases, c.loop-last.gathered.ok.0)) below here)
