use Rattle.rb_script.proofs.SummaryLaws.{skipped_summary}
use Rattle.rb_script.proofs.before.Before.skip.Goals as goal

pub returns-clause-summary : goal.returns-clause-summary
returns-clause-summary c = λ readings summary. skipped_summary readings c.args.self.now summary c.requires
