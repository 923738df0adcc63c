-- The summary of the lines, line by line.
use Rattle.std.proofs.Common.{◌≡◌, ℕ, ◌+◌, ◌<◌, ◌≤◌, Bool, true, false, ◌||◌, cond, List, [], ◌∷◌, ◌++◌, length, map, Option, Some, None, option_to_list, refl, ap, sym, ◌∙◌, subst, append-nil, length-append, arith}
use Rattle.std.specs.Prelude.{filter_map, is_some}
use Rattle.std.specs.List.{cons_option, find, list_any}
use Rattle.std.proofs.lemmas.List.Elements.{filter_map-append}
use Rattle.std.proofs.lemmas.List.Folds.{list_any-append}
use Rattle.std.proofs.lemmas.List.Sums.{sum_by-append}
use Rattle.rb_base.specs.declared.schema.Schema.{Schema}
use Rattle.rb_base.specs.declared.script.SiteSetup.{SiteSetup}
use Rattle.rb_base.specs.declared.site.SiteId.{SiteId}
use Rattle.rb_base.specs.declared.schema.Column.{Column}
use Rattle.rb_base.specs.declared.script.Event.{Event}
use Rattle.rb_base.specs.declared.script.Event.TheVariants.{Tx}
use Rattle.rb_text_defs.specs.declared.script.LinedEvent.{LinedEvent}
use Rattle.rb_text_defs.specs.Form.{Operation, Form, SiteLine, TableLine, TxLine, EventLine, LineMeaning, Skipped, Says}
use Rattle.rb_text_defs.specs.Script.{first_of, shape_in, table_in, tables_in, is_event, changes_in_form, closes_in_form, restarts_in_form, events_of, lined_event, most_lines, client_op, is_misplaced, is_named}
use Rattle.rb_text_defs.proofs.Lines.{events_more, forms_more, no_events, none_given, or_left, or_right}
use Rattle.rb_script.specs.declared.before.Before.{Before}
use Rattle.rb_script.specs.Summarizes.{forms_of, SummarizesForms, IsSmall, Summarizes, HasRoom}

-- something is given if something gives something
some_given : {X Y : Type 0} (h : X → Option Y) (xs : List X) → is_some (first_of (filter_map h xs)) ≡ list_any (λ x. is_some (h x)) xs
some_given h [] = refl
some_given h (x ∷ xs) = some_of (h x) _ _ (some_given h xs)
  where
    some_of : {Y : Type 0} (value : Option Y) (others : List Y) (any : Bool) → is_some (first_of others) ≡ any → is_some (first_of (cons_option value others)) ≡ (is_some value || any)
    some_of None others any rest = rest
    some_of (Some y) others any rest = refl

found : {X : Type 0} (p : X → Bool) (xs : List X) → is_some (find p xs) ≡ list_any p xs
found p [] = refl
found p (x ∷ xs) = found_of (p x) x _ _ (found p xs)
  where
    found_of : {X : Type 0} (b : Bool) (x : X) (others : Option X) (any : Bool) → is_some others ≡ any → is_some (cond b (Some x) others) ≡ (b || any)
    found_of true x others any rest = refl
    found_of false x others any rest = rest

-- a site's line after no events
pub site_misplaced : (forms : List Form) (before : Before) (site : SiteId) (groups replicas limit : ℕ) (b : Bool) → SummarizesForms forms before → before.has_event ≡ false → b ≡ is_some before.site
    → b ≡ is_misplaced forms (SiteLine site groups replicas limit)
site_misplaced forms before site groups replicas limit b summary none is =
    is ∙ ap is_some summary.site ∙ some_given shape_in forms ∙ ap (λ any. any || list_any (λ form. is_some (shape_in form)) forms) (sym none ∙ summary.has_event)

-- and a table's
pub table_misplaced : (forms : List Form) (before : Before) (name : List ℕ) (columns : List Column) (b : Bool) → SummarizesForms forms before → before.has_event ≡ false → b ≡ is_some (find (is_named name) before.tables)
    → b ≡ is_misplaced forms (TableLine name columns)
table_misplaced forms before name columns b summary none is =
    is ∙ found (is_named name) before.tables ∙ ap (list_any (is_named name)) summary.tables ∙ ap (λ any. any || list_any (is_named name) (tables_in forms)) (sym none ∙ summary.has_event)

or_nothing : (b : Bool) → (b || false) ≡ b
or_nothing true = refl
or_nothing false = refl

-- a form after others
pub forms_summary : (forms : List Form) (form : Form) (before after : Before) → SummarizesForms forms before
    → after.site ≡ first_of (filter_map shape_in forms ++ filter_map shape_in (form ∷ []))
    → after.tables ≡ before.tables ++ tables_in (form ∷ []) → after.has_event ≡ (before.has_event || is_event form)
    → after.changes ≡ before.changes + changes_in_form form → after.closes ≡ before.closes + closes_in_form form → after.restarts ≡ before.restarts + restarts_in_form form → SummarizesForms (forms ++ form ∷ []) after
forms_summary forms form before after summary site tables has_event changes closes restarts = record {
  site = site ∙ ap first_of (sym (filter_map-append shape_in forms (form ∷ [])));
  tables = tables ∙ ap (λ earlier. earlier ++ tables_in (form ∷ [])) summary.tables ∙ sym (filter_map-append table_in forms (form ∷ []));
  has_event = has_event ∙ ap (λ earlier. earlier || is_event form) summary.has_event
      ∙ ap (λ last. list_any is_event forms || last) (sym (or_nothing (is_event form))) ∙ sym (list_any-append is_event forms (form ∷ []));
  changes = omega (arith, changes, summary.changes, sum_by-append changes_in_form forms (form ∷ []));
  closes = omega (arith, closes, summary.closes, sum_by-append closes_in_form forms (form ∷ []));
  restarts = omega (arith, restarts, summary.restarts, sum_by-append restarts_in_form forms (form ∷ []));
}

-- one more line
pub summary_more : (readings : List LineMeaning) (reading : LineMeaning) (before after : Before) → Summarizes readings before → SummarizesForms (forms_of readings ++ forms_of (reading ∷ [])) after
    → after.lines ≡ before.lines + 1 → after.events ≡ events_of after.tables readings ++ option_to_list (lined_event after.tables (before.lines + 1) reading) → IsSmall after
    → Summarizes (readings ++ reading ∷ []) after
summary_more readings reading before after summary forms lines events small = record {
  forms = subst (λ (forms : List Form). SummarizesForms forms after) (sym (forms_more readings reading)) forms;
  lines = omega (arith, lines, summary.lines, length-append readings (reading ∷ []));
  events = events ∙ ap (λ n. events_of after.tables readings ++ option_to_list (lined_event after.tables (n + 1) reading)) summary.lines ∙ sym (events_more after.tables readings reading);
  small = small;
}

-- the summary of no lines
pub none_summary : (before : Before) → before.lines ≡ 0 → before.site ≡ None → before.tables ≡ [] → before.has_event ≡ false → before.changes ≡ 0 → before.closes ≡ 0 → before.restarts ≡ 0 → before.events ≡ [] → Summarizes [] before
none_summary before lines site tables has_event changes closes restarts events = record {
  forms = record { site = site; tables = tables; has_event = has_event; changes = changes; closes = closes; restarts = restarts };
  lines = lines;
  events = events;
  small = record {
    lines = omega (arith, lines);
    tables = omega (arith, ap length tables);
    changes = omega (arith, changes);
    closes = omega (arith, closes);
    restarts = omega (arith, restarts);
  };
}

-- a line that says nothing
pub skipped_summary : (readings : List LineMeaning) (before : Before) → Summarizes readings before → before.lines < most_lines
    → Summarizes (readings ++ Skipped ∷ []) (record { lines = before.lines + 1; site = before.site; tables = before.tables; has_event = before.has_event; changes = before.changes; closes = before.closes; restarts = before.restarts; events = before.events })
skipped_summary readings before summary few =
    summary_more readings Skipped before _ summary
    (subst (λ (forms : List Form). SummarizesForms forms (record { lines = before.lines + 1; site = before.site; tables = before.tables; has_event = before.has_event; changes = before.changes; closes = before.closes; restarts = before.restarts; events = before.events })) (sym (append-nil (forms_of readings)))
    (record { site = summary.forms.site; tables = summary.forms.tables; has_event = summary.forms.has_event; changes = summary.forms.changes; closes = summary.forms.closes; restarts = summary.forms.restarts }))
    refl (summary.events ∙ sym (append-nil (events_of before.tables readings)))
    (record { lines = omega (arith, few); tables = summary.small.tables; changes = summary.small.changes; closes = (let c = summary.small.closes in omega arith); restarts = (let r = summary.small.restarts in omega arith) })

-- the shape of a site
pub site_summary : (readings : List LineMeaning) (before : Before) (site : SiteId) (shape : SiteSetup) → Summarizes readings before → before.lines < most_lines
    → is_misplaced (forms_of readings) (SiteLine site shape.groups shape.replicas shape.limit) ≡ false
    → Summarizes (readings ++ Says (SiteLine site shape.groups shape.replicas shape.limit) ∷ []) (record { lines = before.lines + 1; site = Some shape; tables = before.tables; has_event = before.has_event; changes = before.changes; closes = before.closes; restarts = before.restarts; events = before.events })
site_summary readings before site shape summary few placed =
    let none = or_right (list_any is_event (forms_of readings)) (list_any (λ form. is_some (shape_in form)) (forms_of readings)) placed in
    summary_more readings (Says (SiteLine site shape.groups shape.replicas shape.limit)) before _ summary
    (forms_summary (forms_of readings) (SiteLine site shape.groups shape.replicas shape.limit) before _ summary.forms
    (ap (λ (shapes : List SiteSetup). first_of (shapes ++ shape ∷ [])) (sym (none_given shape_in (forms_of readings) none)))
    (sym (append-nil before.tables)) (sym (or_nothing before.has_event)) (omega arith) (omega arith) (omega arith))
    refl (summary.events ∙ sym (append-nil (events_of before.tables readings)))
    (record { lines = omega (arith, few); tables = summary.small.tables; changes = summary.small.changes; closes = (let c = summary.small.closes in omega arith); restarts = (let r = summary.small.restarts in omega arith) })

one_table : (name : List ℕ) (columns : List Column) → List Schema
one_table name columns = record { name = name; columns = columns } ∷ []

-- a table
pub table_summary : (readings : List LineMeaning) (before : Before) (name : List ℕ) (columns : List Column) → Summarizes readings before → HasRoom before (TableLine name columns)
    → is_misplaced (forms_of readings) (TableLine name columns) ≡ false
    → Summarizes (readings ++ Says (TableLine name columns) ∷ []) (record { lines = before.lines + 1; site = before.site; tables = before.tables ++ record { name = name; columns = columns } ∷ []; has_event = before.has_event; changes = before.changes; closes = before.closes; restarts = before.restarts; events = before.events })
unfolding one_table
table_summary readings before name columns summary room placed =
    let none = or_left (list_any is_event (forms_of readings)) (list_any (is_named name) (tables_in (forms_of readings))) placed in
    summary_more readings (Says (TableLine name columns)) before _ summary
    (forms_summary (forms_of readings) (TableLine name columns) before _ summary.forms
    (summary.forms.site ∙ ap first_of (sym (append-nil (filter_map shape_in (forms_of readings)))))
    refl (sym (or_nothing before.has_event)) (omega arith) (omega arith) (omega arith))
    refl (summary.events ∙ no_events before.tables readings 0 none ∙ sym (no_events (before.tables ++ record { name = name; columns = columns } ∷ []) readings 0 none) ∙ sym (append-nil (events_of (before.tables ++ record { name = name; columns = columns } ∷ []) readings)))
    (record { lines = omega (arith, room.lines); tables = omega (arith, room.tables, length-append before.tables (one_table name columns)); changes = summary.small.changes; closes = (let c = summary.small.closes in omega arith); restarts = (let r = summary.small.restarts in omega arith) })

or_true : (b : Bool) → true ≡ (b || true)
or_true true = refl
or_true false = refl

-- a transaction
pub tx_summary : (readings : List LineMeaning) (before : Before) (site : SiteId) (operations : List Operation) → Summarizes readings before → HasRoom before (TxLine site operations)
    → Summarizes (readings ++ Says (TxLine site operations) ∷ []) (record { lines = before.lines + 1; site = before.site; tables = before.tables; has_event = true; changes = before.changes + length operations; closes = before.closes; restarts = before.restarts; events = before.events ++ record { line = before.lines + 1; event = Tx site (map (client_op before.tables) operations) } ∷ [] })
tx_summary readings before site operations summary room =
    summary_more readings (Says (TxLine site operations)) before _ summary
    (forms_summary (forms_of readings) (TxLine site operations) before _ summary.forms
    (summary.forms.site ∙ ap first_of (sym (append-nil (filter_map shape_in (forms_of readings)))))
    (sym (append-nil before.tables)) (or_true before.has_event) refl (omega arith) (omega arith))
    refl (ap (λ (events : List LinedEvent). events ++ record { line = before.lines + 1; event = Tx site (map (client_op before.tables) operations) } ∷ []) summary.events)
    (record { lines = omega (arith, room.lines); tables = summary.small.tables; changes = room.changes; closes = (let c = summary.small.closes in omega arith); restarts = (let r = summary.small.restarts in omega arith) })

-- another event
pub event_summary : (readings : List LineMeaning) (before : Before) (event : Event) (closed begun : ℕ) → Summarizes readings before → HasRoom before (EventLine event) → closed ≡ closes_in_form (EventLine event) → begun ≡ restarts_in_form (EventLine event)
    → before.closes + closed ≤ before.lines + 1 → before.restarts + begun ≤ before.lines + 1
    → Summarizes (readings ++ Says (EventLine event) ∷ []) (record { lines = before.lines + 1; site = before.site; tables = before.tables; has_event = true; changes = before.changes; closes = before.closes + closed; restarts = before.restarts + begun; events = before.events ++ record { line = before.lines + 1; event = event } ∷ [] })
event_summary readings before event closed begun summary room is_closed is_begun few_closed few_begun =
    summary_more readings (Says (EventLine event)) before _ summary
    (forms_summary (forms_of readings) (EventLine event) before _ summary.forms
    (summary.forms.site ∙ ap first_of (sym (append-nil (filter_map shape_in (forms_of readings)))))
    (sym (append-nil before.tables)) (or_true before.has_event) (omega arith) (ap (λ n. before.closes + n) is_closed) (ap (λ n. before.restarts + n) is_begun))
    refl (ap (λ (events : List LinedEvent). events ++ record { line = before.lines + 1; event = event } ∷ []) summary.events)
    (record { lines = omega (arith, room.lines); tables = summary.small.tables; changes = summary.small.changes; closes = few_closed; restarts = few_begun })
