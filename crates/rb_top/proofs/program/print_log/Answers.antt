use Rattle.std.proofs.Common.{inl}
use Rattle.rb_top.proofs.ReadLaws.{named_bad_event, met_by, named_so, one_bad, none_bad}
use Rattle.rb_top.proofs.program.print_log.Goals as goal

pub returns-in-Err-BadLog-clause-a_sound_log_is_read : goal.returns-in-Err-BadLog-clause-a_sound_log_is_read
returns-in-Err-BadLog-clause-a_sound_log_is_read g c = λ bytes left sound source sink.
    absurd (none_bad _ bytes _ _ (named_bad_event _ _ _ _ _ _ _ (met_by _ _ _ _ _ _ _ _ c.in-Err-BadLog.field-0-is c.in-Err-BadLog.ensures.err)) left sound)

pub returns-in-Err-BadLog-clause-bad_log_names_the_first_bad_event : goal.returns-in-Err-BadLog-clause-bad_log_names_the_first_bad_event
returns-in-Err-BadLog-clause-bad_log_names_the_first_bad_event g c = λ position field is.
    named_so _ _ _ _ _ is (named_bad_event _ _ _ _ _ _ _ (met_by _ _ _ _ _ _ _ _ c.in-Err-BadLog.field-0-is c.in-Err-BadLog.ensures.err))

pub returns-in-Err-BadLog-clause-a_bad_log_is_refused : goal.returns-in-Err-BadLog-clause-a_bad_log_is_refused
returns-in-Err-BadLog-clause-a_bad_log_is_refused g c = λ bytes position field left bad.
    inl (one_bad _ bytes _ _ _ _ (named_bad_event _ _ _ _ _ _ _ (met_by _ _ _ _ _ _ _ _ c.in-Err-BadLog.field-0-is c.in-Err-BadLog.ensures.err)) left bad)
