use Rattle.std.proofs.Common.{◌∙◌, sym}
use Rattle.rb_stream.proofs.TakeLaws.{ends_taken}
use Rattle.rb_stream.proofs.taking.end_epoch.Goals as goal

pub returns-in-Ok : goal.returns-in-Ok
returns-in-Ok c known held =
    ends_taken c.args.current.now c.take.new.self c.in-Some.epoch c.args.at c.args.end c.args.server known c.in-Ok.own c.in-Ok.tables c.into_body.result (sym c.take.ensures.value ∙ c.in-Some.is) c.take.ensures.after held c.in-Ok.ensures c.into_body.ensures
