use Rattle.std.proofs.Common.{◌∙◌, sym, ap, ap₂, subst, refl, inl, inr, List, ℕ, Err}
use Rattle.rb_text_defs.specs.declared.script.ScriptKind.TheVariants.{Limit}
use Rattle.rb_text_defs.specs.declared.script.Limit.TheVariants.{Bytes}
use Rattle.rb_text_defs.specs.Script.{bad_line, script_of}
use Rattle.rb_text_defs.proofs.Legal.{legal_script}
use Rattle.rb_io.specs.Prefix.{GrowsByPrefix}
use Rattle.rb_top.proofs.Topping.{bad_is, long_is_bad, not_both, named_bad, is_named, too_long_if, read_whole, bad_whole, of_bytes, stopped_running, stopped_printing}
use Rattle.rb_top.specs.declared.status.Status.TheVariants.{BadScript}
use Rattle.rb_top.proofs.program.run_script.Goals as goal

pub returns-in-Err-TooLong-clause-a_legal_script_is_run : goal.returns-in-Err-TooLong-clause-a_legal_script_is_run
returns-in-Err-TooLong-clause-a_legal_script_is_run g c = λ bytes legal left is source sink disk.
    absurd (not_both _ legal _ is (long_is_bad _ bytes (c.in-Err-TooLong.ensures.too_long (ap Err c.in-Err-TooLong.field-0-is)) left))

pub returns-in-Err-TooLong-clause-bad_script_names_the_first_bad_line : goal.returns-in-Err-TooLong-clause-bad_script_names_the_first_bad_line
returns-in-Err-TooLong-clause-bad_script_names_the_first_bad_line g c = λ line kind is.
    named_bad _ (bad_line 0 (Limit Bytes)) line kind is (too_long_if _ (c.in-Err-TooLong.ensures.too_long (ap Err c.in-Err-TooLong.field-0-is)))

pub returns-in-Err-TooLong-clause-a_bad_script_is_refused : goal.returns-in-Err-TooLong-clause-a_bad_script_is_refused
returns-in-Err-TooLong-clause-a_bad_script_is_refused g c = λ bytes bad left is.
    inl (is_named _ (bad_line 0 (Limit Bytes)) bad (long_is_bad _ bytes (c.in-Err-TooLong.ensures.too_long (ap Err c.in-Err-TooLong.field-0-is)) left) is)

pub returns-in-Err-Bad-clause-a_legal_script_is_run : goal.returns-in-Err-Bad-clause-a_legal_script_is_run
returns-in-Err-Bad-clause-a_legal_script_is_run g c = λ bytes legal left is source sink disk.
    absurd (not_both _ legal (bad_line c.in-Err-Bad.line c.in-Err-Bad.kind) is (of_bytes _ _ bytes (bad_whole _ _ _ (bad_line c.in-Err-Bad.line c.in-Err-Bad.kind) c.in-Ok.ensures.ok.0 c.in-Ok.ensures.ok.1 (sym (ap script_of c.as_slice.ensures) ∙ bad_is _ _ _ _ c.in-Err-Bad.field-0-is c.in-Err-Bad.ensures.bad)) left))

pub returns-in-Err-Bad-clause-bad_script_names_the_first_bad_line : goal.returns-in-Err-Bad-clause-bad_script_names_the_first_bad_line
returns-in-Err-Bad-clause-bad_script_names_the_first_bad_line g c = λ line kind is.
    named_bad _ (bad_line c.in-Err-Bad.line c.in-Err-Bad.kind) line kind (sym (ap₂ BadScript c.in-Err-Bad.line-is c.in-Err-Bad.kind-is) ∙ is) (bad_whole _ _ _ (bad_line c.in-Err-Bad.line c.in-Err-Bad.kind) c.in-Ok.ensures.ok.0 c.in-Ok.ensures.ok.1 (sym (ap script_of c.as_slice.ensures) ∙ bad_is _ _ _ _ c.in-Err-Bad.field-0-is c.in-Err-Bad.ensures.bad))

pub returns-in-Err-Bad-clause-a_bad_script_is_refused : goal.returns-in-Err-Bad-clause-a_bad_script_is_refused
returns-in-Err-Bad-clause-a_bad_script_is_refused g c = λ bytes bad left is.
    inl (ap₂ BadScript c.in-Err-Bad.line-is c.in-Err-Bad.kind-is ∙ is_named _ (bad_line c.in-Err-Bad.line c.in-Err-Bad.kind) bad (of_bytes _ _ bytes (bad_whole _ _ _ (bad_line c.in-Err-Bad.line c.in-Err-Bad.kind) c.in-Ok.ensures.ok.0 c.in-Ok.ensures.ok.1 (sym (ap script_of c.as_slice.ensures) ∙ bad_is _ _ _ _ c.in-Err-Bad.field-0-is c.in-Err-Bad.ensures.bad)) left) is)

pub returns-in-Err-DiskFault-clause-a_bad_script_is_refused : goal.returns-in-Err-DiskFault-clause-a_bad_script_is_refused
returns-in-Err-DiskFault-clause-a_bad_script_is_refused g c = λ bytes bad left is.
    absurd (not_both _ c.in-Ok-parse.parsed bad (of_bytes _ _ bytes (read_whole _ _ _ c.in-Ok-parse.parsed c.in-Ok.ensures.ok.0 c.in-Ok.ensures.ok.1 (sym (ap script_of c.as_slice.ensures) ∙ c.in-Ok-parse.ensures.ok)) left) is)

pub returns-in-Err-Failed-write_all-clause-a_bad_script_is_refused : goal.returns-in-Err-Failed-write_all-clause-a_bad_script_is_refused
returns-in-Err-Failed-write_all-clause-a_bad_script_is_refused g c = λ bytes bad left is.
    absurd (not_both _ c.in-Ok-parse.parsed bad (of_bytes _ _ bytes (read_whole _ _ _ c.in-Ok-parse.parsed c.in-Ok.ensures.ok.0 c.in-Ok.ensures.ok.1 (sym (ap script_of c.as_slice.ensures) ∙ c.in-Ok-parse.ensures.ok)) left) is)

pub returns-clause-run_meets_headline : goal.returns-clause-run_meets_headline
returns-clause-run_meets_headline g c = λ is. absurd cc

pub returns-clause-a_bad_script_is_refused : goal.returns-clause-a_bad_script_is_refused
returns-clause-a_bad_script_is_refused g c = λ bytes bad left is. inr (inr refl)

pub run-requires-clause-legal : goal.run-requires-clause-legal
run-requires-clause-legal g c = λ κs within. legal_script _ c.in-Ok-parse.parsed c.in-Ok-parse.ensures.ok

pub returns-in-Err-NoMemory-run-clause-no_memory_leaves_an_unfinished_log : goal.returns-in-Err-NoMemory-run-clause-no_memory_leaves_an_unfinished_log
returns-in-Err-NoMemory-run-clause-no_memory_leaves_an_unfinished_log g c = λ _.
    inr (stopped_running _ _ _ _ c.in-Ok-parse.parsed _ (λ same. absurd cc)
    (read_whole _ _ _ _ c.in-Ok.ensures.ok.0 c.in-Ok.ensures.ok.1 (sym (ap script_of c.as_slice.ensures) ∙ c.in-Ok-parse.ensures.ok)) c.in-Ok.ensures.ok.1 c.in-Err-NoMemory-run.ensures.err)

pub returns-in-Err-DiskFault-clause-a_fault_leaves_an_unfinished_log : goal.returns-in-Err-DiskFault-clause-a_fault_leaves_an_unfinished_log
returns-in-Err-DiskFault-clause-a_fault_leaves_an_unfinished_log g c = λ _.
    stopped_running _ _ _ _ c.in-Ok-parse.parsed _ (λ same. absurd cc)
    (read_whole _ _ _ _ c.in-Ok.ensures.ok.0 c.in-Ok.ensures.ok.1 (sym (ap script_of c.as_slice.ensures) ∙ c.in-Ok-parse.ensures.ok)) c.in-Ok.ensures.ok.1 c.in-Err-DiskFault.ensures.err

pub returns-in-Err-Failed-write_all-clause-a_fault_leaves_an_unfinished_log : goal.returns-in-Err-Failed-write_all-clause-a_fault_leaves_an_unfinished_log
returns-in-Err-Failed-write_all-clause-a_fault_leaves_an_unfinished_log g c = λ _.
    stopped_printing _ _ _ _ _ c.in-Ok-parse.parsed _ (λ disk. disk)
    (read_whole _ _ _ _ c.in-Ok.ensures.ok.0 c.in-Ok.ensures.ok.1 (sym (ap script_of c.as_slice.ensures) ∙ c.in-Ok-parse.ensures.ok)) c.in-Ok.ensures.ok.1
    (subst (λ (report : List ℕ). GrowsByPrefix (g.O.Sink.held c.args.out.now) (g.O.Sink.held c.write_all.new.out) report) (c.as_slice-2.ensures ∙ c.in-Ok-run.ensures.ok.0) c.in-Err-Failed-write_all.ensures.prefix)
    c.in-Ok-run.ensures.ok.1

pub returns-clause-no_memory_leaves_an_unfinished_log : goal.returns-clause-no_memory_leaves_an_unfinished_log
returns-clause-no_memory_leaves_an_unfinished_log g c = λ _.
    inr (stopped_printing _ _ _ _ _ c.in-Ok-parse.parsed _ (λ disk. disk)
    (read_whole _ _ _ _ c.in-Ok.ensures.ok.0 c.in-Ok.ensures.ok.1 (sym (ap script_of c.as_slice.ensures) ∙ c.in-Ok-parse.ensures.ok)) c.in-Ok.ensures.ok.1
    (subst (λ (report : List ℕ). GrowsByPrefix (g.O.Sink.held c.args.out.now) (g.O.Sink.held c.write_all.new.out) report) (c.as_slice-2.ensures ∙ c.in-Ok-run.ensures.ok.0) c.in-Err-NoMemory-write_all.ensures.prefix)
    c.in-Ok-run.ensures.ok.1)
