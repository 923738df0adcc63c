-- The summary of the lines so far, and what stays within the limits.
use Rattle.std.specs.Prelude.{◌≡◌, ◌+◌, ◌<◌, ◌≤◌, Bool, List, [], ◌∷◌, length, filter_map, sum_by, Option, IfSome}
use Rattle.std.specs.List.{find, list_any}
use Rattle.std.specs.Option.{option_map}
use Rattle.rb_text_defs.specs.declared.script.Limit.{Limit}
use Rattle.rb_text_defs.specs.Form.{Form, LineMeaning}
use Rattle.rb_text_defs.specs.Script.{first_of, shape_in, table_in, tables_in, is_event, changes_in_form, closes_in_form, restarts_in_form, events_of, form_in, most_lines, most_tables, most_row_bytes, most_changes, row_bytes}
use Rattle.rb_script.specs.declared.before.Before.{Before}

-- the forms that lines say
abbrev pub forms_of : List LineMeaning → List Form
forms_of readings = filter_map form_in readings

-- the summary of the forms so far
pub record SummarizesForms (forms : List Form) (before : Before) : Type 0 where
  pub site : before.site ≡ first_of (filter_map shape_in forms)
  pub tables : before.tables ≡ tables_in forms
  pub has_event : before.has_event ≡ list_any is_event forms
  pub changes : before.changes ≡ sum_by changes_in_form forms
  pub closes : before.closes ≡ sum_by closes_in_form forms
  pub restarts : before.restarts ≡ sum_by restarts_in_form forms

-- small enough that one more line can be counted
pub record IsSmall (before : Before) : Type 0 where
  pub lines : before.lines ≤ most_lines
  pub tables : length before.tables ≤ most_tables
  pub changes : before.changes ≤ most_changes
  pub closes : before.closes ≤ before.lines
  pub restarts : before.restarts ≤ before.lines

-- the summary of the lines so far, within the limits
pub record Summarizes (readings : List LineMeaning) (before : Before) : Type 0 where
  pub forms : SummarizesForms (forms_of readings) before
  pub lines : before.lines ≡ length readings
  pub events : before.events ≡ events_of before.tables readings
  pub small : IsSmall before

-- one more line of this form stays within the limits
pub record HasRoom (before : Before) (form : Form) : Type 0 where
  pub lines : before.lines < most_lines
  pub tables : length before.tables + length (tables_in (form ∷ [])) ≤ most_tables
  pub row : IfSome (table_in form) (λ table. row_bytes table.columns ≤ most_row_bytes)
  pub changes : before.changes + changes_in_form form ≤ most_changes

-- the first limit that is exceeded, of limits with whether each of them is
abbrev pub first_passed : List (Bool × Limit) → Option Limit
first_passed limits = option_map (λ judged. judged.1) (find (λ judged. judged.0) limits)
