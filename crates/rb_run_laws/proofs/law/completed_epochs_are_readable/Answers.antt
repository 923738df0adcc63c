use Rattle.rb_run_laws.proofs.RunKeeps.{completed_readable}
use Rattle.rb_run_laws.proofs.law.completed_epochs_are_readable.Goals as goal

pub returns : goal.returns
returns c = completed_readable
