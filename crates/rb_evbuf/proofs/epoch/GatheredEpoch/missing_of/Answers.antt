use Rattle.std.proofs.Common.{sym, ◌∙◌, subst}
use Rattle.rb_evbuf.specs.Gathered.{IsGapless}
use Rattle.rb_evbuf.proofs.Places.{missing_there, item_is}
use Rattle.rb_evbuf.proofs.epoch.GatheredEpoch.missing_of.Goals as goal

pub returns-in-Some : goal.returns-in-Some
returns-in-Some c = λ buckets sound below.
    let item = rw c.deref.ensures.value at c.in-Some.ensures.lookup in
    c.missing.ensures (subst IsGapless (sym item.1) (sound.gapless c.args.bucket c.in-Some.gathered.now item.3.0))
    ∙ sym (missing_there c.args.self.now c.args.bucket c.in-Some.gathered.now (item_is _ _ _ item.3.0 item.1))
