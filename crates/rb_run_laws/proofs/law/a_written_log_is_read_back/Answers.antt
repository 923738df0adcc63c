use Rattle.rb_text_defs.proofs.Legal.{legal_script}
use Rattle.rb_run_laws.proofs.FilesRead.{log_read, run_read}
use Rattle.rb_run_laws.proofs.law.a_written_log_is_read_back.Goals as goal

pub returns-clause-files : goal.returns-clause-files
returns-clause-files c = log_read

pub returns-clause-legal : goal.returns-clause-legal
returns-clause-legal c = run_read

pub returns-clause-read : goal.returns-clause-read
returns-clause-read c = λ bytes script is. run_read script (legal_script bytes script is)
