use Rattle.std.proofs.Common.{refl}
use Rattle.rb_text_defs.specs.Words.{lines_of, is_skipped, words_between_quotes, words_of, is_name, number_of, name_of}
use Rattle.rb_text_defs.specs.Form.{site_line, table_line, value_of, op_of, operation_of, tx_line, site_event, deliver_line, form_from, form_of, reading_of}
use Rattle.rb_text_defs.specs.Script.{script_of_readings, script_of}
use Rattle.rb_worked_runs.proofs.worked.refused_scripts.Goals as goal

pub returns-clause-no_form : goal.returns-clause-no_form
unfolding lines_of is_skipped words_between_quotes words_of is_name number_of name_of site_line table_line value_of op_of operation_of tx_line site_event deliver_line form_from form_of reading_of script_of_readings script_of
returns-clause-no_form c = refl

pub returns-clause-no_table : goal.returns-clause-no_table
unfolding lines_of is_skipped words_between_quotes words_of is_name number_of name_of site_line table_line value_of op_of operation_of tx_line site_event deliver_line form_from form_of reading_of script_of_readings script_of
returns-clause-no_table c = refl

pub returns-clause-great_number : goal.returns-clause-great_number
unfolding lines_of is_skipped words_between_quotes words_of is_name number_of name_of site_line table_line value_of op_of operation_of tx_line site_event deliver_line form_from form_of reading_of script_of_readings script_of
returns-clause-great_number c = refl

pub returns-clause-late_table : goal.returns-clause-late_table
unfolding lines_of is_skipped words_between_quotes words_of is_name number_of name_of site_line table_line value_of op_of operation_of tx_line site_event deliver_line form_from form_of reading_of script_of_readings script_of
returns-clause-late_table c = refl

pub returns-clause-first_bad_line : goal.returns-clause-first_bad_line
unfolding lines_of is_skipped words_between_quotes words_of is_name number_of name_of site_line table_line value_of op_of operation_of tx_line site_event deliver_line form_from form_of reading_of script_of_readings script_of
returns-clause-first_bad_line c = refl
