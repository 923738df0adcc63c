use Rattle.rb_text_defs.proofs.Legal.{legal_script}
use Rattle.rb_run_laws.proofs.RunKeeps.{written_read}
use Rattle.rb_run_laws.proofs.law.written_epochs_are_readable.Goals as goal

pub returns-clause-legal : goal.returns-clause-legal
returns-clause-legal c = written_read

pub returns-clause-read : goal.returns-clause-read
returns-clause-read c = λ bytes script is. written_read script (legal_script bytes script is)
