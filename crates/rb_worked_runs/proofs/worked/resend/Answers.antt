use Rattle.std.proofs.Common.{refl}
use Rattle.std.specs.Fmt.{digits}
use Rattle.rb_base.specs.Length.{length_bytes}
use Rattle.rb_text_defs.specs.Words.{lines_of, is_skipped, words_between_quotes, words_of, is_name, number_of, name_of}
use Rattle.rb_text_defs.specs.Form.{site_line, table_line, value_of, op_of, operation_of, tx_line, site_event, node_event, deliver_line, form_from, form_of, reading_of}
use Rattle.rb_text_defs.specs.Script.{script_of_readings, script_of}
use Rattle.rb_text_defs.specs.Report.{outcome_text, row_line, index_line, report_text}
use Rattle.rb_journal_defs.specs.Body.{body_of, completed_epochs, completed_bodies}
use Rattle.rb_journal_defs.specs.Table.{rows_of_table}
use Rattle.rb_journal_defs.specs.Transaction.{refusal_of, changes_made}
use Rattle.rb_message_defs.specs.Message.{parts_sent}
use Rattle.rb_message_defs.specs.Received.{missing_of, assembled_of}
use Rattle.rb_message_defs.specs.Taken.{taken_epochs}
use Rattle.rb_log_defs.specs.Event.{header_bytes, event_bytes, query_payload, rotate_payload, format_payload, xid_payload}
use Rattle.rb_log_defs.specs.Table.{table_map_payload}
use Rattle.rb_log_defs.specs.Rows.{text_bytes, row_image, rows_payload, change_payload, status_payload}
use Rattle.rb_log_defs.specs.Epoch.{epoch_bytes}
use Rattle.rb_log_defs.specs.File.{file_start, binlog_of}
use Rattle.rb_play_defs.specs.Step.{tx_step, close_step, deliver_step, delivery_of_all, deliver_all_step, injection_of, inject_step, fail_step, restart_step, resend_step, site_step}
use Rattle.rb_play_defs.specs.Play.{play_of, report_of}
use Rattle.rb_worked_runs.proofs.worked.resend.Goals as goal

pub returns : goal.returns
unfolding digits length_bytes lines_of is_skipped words_between_quotes words_of is_name number_of name_of site_line table_line value_of op_of operation_of tx_line site_event node_event deliver_line form_from form_of reading_of script_of_readings script_of outcome_text row_line index_line report_text body_of completed_epochs completed_bodies rows_of_table refusal_of changes_made parts_sent missing_of assembled_of taken_epochs header_bytes event_bytes query_payload rotate_payload format_payload xid_payload table_map_payload text_bytes row_image rows_payload change_payload status_payload epoch_bytes file_start binlog_of tx_step close_step deliver_step delivery_of_all deliver_all_step injection_of inject_step fail_step restart_step resend_step site_step play_of report_of
returns c = refl
