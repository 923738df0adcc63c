use Rattle.rb_stream.proofs.TakeLaws.{formats_taken, begins_taken, rotates_taken, skipped_taken}
use Rattle.rb_stream.proofs.taking.take_content.Goals as goal

pub returns-in-Formats : goal.returns-in-Formats
returns-in-Formats c known held = formats_taken c.args.current.now c.args.end c.args.server known c.args.content c.in-Formats.is held

pub returns-in-Begins : goal.returns-in-Begins
returns-in-Begins c known held = begins_taken c.new.result c.args.end c.args.server known c.args.content c.in-Begins.is c.new.ensures

pub returns-in-Rotates : goal.returns-in-Rotates
returns-in-Rotates c known held = rotates_taken c.args.current.now c.args.end c.args.server known c.args.content c.in-Rotates.field-0 c.in-Rotates.is held

pub returns-in-Skipped : goal.returns-in-Skipped
returns-in-Skipped c known held = skipped_taken c.args.current.now c.args.end c.args.server known c.args.content c.in-Skipped.is held
