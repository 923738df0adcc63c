-- A script that is read is within the limits, and its operations fit its tables.
use Rattle.std.proofs.Common.{◌≡◌, ℕ, zero, suc, ◌+◌, ◌-◌, ◌^◌, ◌<◌, ◌≤◌, Bool, true, false, ◌||◌, List, [], ◌∷◌, ◌++◌, length, map, take, Option, Some, None, refl, ap, sym, ◌∙◌, subst, append_assoc, append-nil, length-append, arith}
use Rattle.std.specs.Prelude.{nat_le, nat_lt, ◌&&◌, ◌*◌, not, filter_map, is_some, sum_by, if◌then◌else◌, IfSome, Result, Ok, Err}
use Rattle.std.specs.Option.{option_map, option_map_or}
use Rattle.std.specs.List.{AllByRecursion, cons_option, enumerate_from, find, list_all, list_any, position_or_len, slice_get}
use Rattle.std.proofs.lemmas.Bool.{and_parts, cond-true, false≢true, leb-true, lt-ltb, ltb-false, not-false}
use Rattle.std.proofs.lemmas.List.{length-map}
use Rattle.std.proofs.lemmas.List.Elements.{filter_map-append}
use Rattle.std.proofs.lemmas.List.Folds.{find_at, list_any-append}
use Rattle.std.proofs.lemmas.List.Sums.{sum_by-append}
use Rattle.std.proofs.Math.Seq.{take-append_seam}
use Rattle.rb_base.specs.declared.schema.Column.{Column}
use Rattle.rb_base.specs.declared.schema.Schema.{Schema}
use Rattle.rb_base.specs.declared.row.Value.{Value}
use Rattle.rb_base.specs.declared.script.Op.{Op}
use Rattle.rb_base.specs.declared.script.Op.TheVariants.{Ins, Upd, Put, Del}
use Rattle.rb_base.specs.declared.script.Event.TheVariants.{Tx}
use Rattle.rb_base.specs.declared.script.SiteSetup.{SiteSetup}
use Rattle.rb_text_defs.specs.declared.script.Limit.{Limit}
use Rattle.rb_text_defs.specs.declared.script.Limit.TheVariants as limits
use Rattle.rb_text_defs.specs.declared.script.BadLine.{BadLine}
use Rattle.rb_text_defs.specs.declared.script.LinedEvent.{LinedEvent}
use Rattle.rb_text_defs.specs.declared.script.Script.{Script}
use Rattle.rb_text_defs.specs.Words.{lines_of}
use Rattle.rb_text_defs.specs.Form.{Operation, Form, SiteLine, TableLine, TxLine, EventLine, LineMeaning, Wrong, Skipped, Says, reading_of}
use Rattle.rb_text_defs.specs.Script.{most_bytes, most_lines, most_tables, most_columns, most_groups, most_replicas, most_changes, most_row_bytes, most_tx_changes, most_work, least_limit, most_limit, row_bytes, work_of, default_site, first_of, nodes_in, shape_in, table_in, tables_in, is_event, changes_in_form, client_op, row_for, table_number, has_values, is_named, suits_table, suits_tables, events_of, form_in, is_misplaced, limit_passed, refusal_of_line, refused_lines, script_in, script_of, script_of_readings}
use Rattle.rb_text_defs.specs.Legal.{IsLegalSite, IsLegal, IsLegalTable, IsLegalValue, IsLegalOperation, IsLegalEvent, HasLegalRow, changes_in_event, columns_at}
use Rattle.rb_text_defs.proofs.Said.{IsSaidBy, IsSaidOperation, reading_said}
use Rattle.rb_text_defs.proofs.Lines.{events_more, forms_more, forms_of, no_events, none_given, not_misplaced, or_left, or_right}

within_length : {X : Type 0} (xs : List X) (n : ℕ) (x : X) → slice_get xs n ≡ Some x → n < length xs
within_length [] n x is = absurd (cc)
within_length (y ∷ xs) zero x is = omega arith
within_length (y ∷ xs) (suc n) x is = omega (arith, within_length xs n x is)

row_legal : (op : Op) (columns : List Column) (key : ℕ) (values : List Value) → has_values op columns values ≡ true → key < 2 ^ 64 → AllByRecursion IsLegalValue values → HasLegalRow op columns key (row_for op key values)
row_legal Ins columns key values suits room all = (values, refl, suits, (room, all))
row_legal Upd columns key values suits room all = (values, refl, suits, (room, all))
row_legal Put columns key values suits room all = (values, refl, suits, (room, all))
row_legal Del columns key values suits room all = refl

operation_legal : (tables : List Schema) (operation : Operation) → suits_tables tables operation ≡ true → IsSaidOperation operation → IsLegalOperation tables (client_op tables operation)
operation_legal tables operation suits said = go (find (is_named operation.table) tables) refl suits
  where
    go : (found : Option Schema) → find (is_named operation.table) tables ≡ found → option_map_or (suits_table operation) found false ≡ true → IsLegalOperation tables (client_op tables operation)
    go None is suits = absurd (false≢true suits)
    go (Some table) is suits =
        let place = position_or_len (is_named operation.table) tables in
        let got : slice_get tables place ≡ Some table = sym (find_at (is_named operation.table) tables) ∙ is in
        let lt : place < length tables = within_length tables place table got in
        let number : table_number tables operation.table ≡ place + 1 = ap (λ position. option_map_or (λ place. place + 1) position 0) (cond-true _ _ _ (lt-ltb place (length tables) lt)) in
        let less : table_number tables operation.table - 1 ≡ place = omega (arith, number) in
        let columns : columns_at tables (table_number tables operation.table) ≡ table.columns =
        ap (λ place. option_map_or (λ table. table.columns) (slice_get tables place) []) less ∙ ap (λ found. option_map_or (λ table. table.columns) found []) got in
        record {
          some = omega (arith, number);
          declared = omega (arith, number, lt);
          key = said.key;
          row = subst (λ columns. HasLegalRow operation.op columns operation.key (row_for operation.op operation.key operation.values)) (sym columns) (row_legal operation.op table.columns operation.key operation.values suits said.key said.values);
        }

operations_legal : (tables : List Schema) (operations : List Operation) → list_all (suits_tables tables) operations ≡ true → AllByRecursion IsSaidOperation operations → AllByRecursion (IsLegalOperation tables) (map (client_op tables) operations)
operations_legal tables [] suit said = tt
operations_legal tables (operation ∷ operations) suit said =
    let parts = and_parts (suits_tables tables operation) (list_all (suits_tables tables) operations) suit in
    (operation_legal tables operation parts.0 said.0, operations_legal tables operations parts.1 said.1)

all_append : {X : Type 0} (P : X → Type 0) (xs ys : List X) → AllByRecursion P xs → AllByRecursion P ys → AllByRecursion P (xs ++ ys)
all_append P [] ys all more = more
all_append P (x ∷ xs) ys all more = (all.0, all_append P xs ys all.1 more)

-- forms, and the events of `count` lines, that are within the limits
record Keeps (forms : List Form) (told : List LinedEvent) (count : ℕ) : Type 0 where
  shape : IfSome (first_of (filter_map shape_in forms)) IsLegalSite
  few_tables : length (tables_in forms) ≤ most_tables
  tables : AllByRecursion IsLegalTable (tables_in forms)
  events : AllByRecursion (λ lined. IsLegalEvent (tables_in forms) (nodes_in forms) lined.event) told
  changes : sum_by changes_in_form forms ≤ most_changes
  counted : sum_by (λ lined. changes_in_event lined.event) told ≡ sum_by changes_in_form forms
  few : length told ≤ count
  lines : count ≤ most_lines

abbrev SoFar : List LineMeaning → Type 0
SoFar readings = Keeps (forms_of readings) (events_of (tables_in (forms_of readings)) readings) (length readings)

same_tables : (forms : List Form) (form : Form) → table_in form ≡ None → tables_in (forms ++ form ∷ []) ≡ tables_in forms
same_tables forms form none = filter_map-append table_in forms (form ∷ []) ∙ ap (λ table. tables_in forms ++ cons_option table []) none ∙ append-nil (tables_in forms)

same_shapes : (forms : List Form) (form : Form) → shape_in form ≡ None → filter_map shape_in (forms ++ form ∷ []) ≡ filter_map shape_in forms
same_shapes forms form none = filter_map-append shape_in forms (form ∷ []) ∙ ap (λ shape. filter_map shape_in forms ++ cons_option shape []) none ∙ append-nil (filter_map shape_in forms)

-- one more form, which declares no table
keeps_form : (forms : List Form) (events more : List LinedEvent) (count : ℕ) (form : Form) → Keeps forms events count → table_in form ≡ None
    → IfSome (first_of (filter_map shape_in (forms ++ form ∷ []))) IsLegalSite → AllByRecursion (λ lined. IsLegalEvent (tables_in forms) (nodes_in (forms ++ form ∷ [])) lined.event) (events ++ more) → length more ≤ 1 → count + 1 ≤ most_lines
    → sum_by (λ lined. changes_in_event lined.event) more ≡ changes_in_form form → sum_by changes_in_form forms + changes_in_form form ≤ most_changes
    → Keeps (forms ++ form ∷ []) (events ++ more) (count + 1)
keeps_form forms events more count form keeps none shape legal one lines counted room =
    let same = same_tables forms form none in
    record {
      shape = shape;
      few_tables = subst (λ (tables : List Schema). length tables ≤ most_tables) (sym same) keeps.few_tables;
      tables = subst (λ (tables : List Schema). AllByRecursion IsLegalTable tables) (sym same) keeps.tables;
      events = subst (λ (tables : List Schema). AllByRecursion (λ lined. IsLegalEvent tables (nodes_in (forms ++ form ∷ [])) lined.event) (events ++ more)) (sym same) legal;
      changes = omega (arith, room, sum_by-append changes_in_form forms (form ∷ []));
      counted = omega (arith, keeps.counted, counted, sum_by-append (λ (lined : LinedEvent). changes_in_event lined.event) events more, sum_by-append changes_in_form forms (form ∷ []));
      few = omega (arith, length-append events more, keeps.few, one);
      lines = lines;
    }

-- the events so far and the new ones, if the new form gives no setup
events_and : (forms : List Form) (form : Form) (events more : List LinedEvent) → shape_in form ≡ None → AllByRecursion (λ lined. IsLegalEvent (tables_in forms) (nodes_in forms) lined.event) events
    → AllByRecursion (λ lined. IsLegalEvent (tables_in forms) (nodes_in forms) lined.event) more → AllByRecursion (λ lined. IsLegalEvent (tables_in forms) (nodes_in (forms ++ form ∷ [])) lined.event) (events ++ more)
events_and forms form events more none before legal =
    subst (λ (shapes : List SiteSetup). AllByRecursion (λ lined. IsLegalEvent (tables_in forms) (option_map_or (λ (shape : SiteSetup). shape.groups * shape.replicas) (first_of shapes) 1) lined.event) (events ++ more)) (sym (same_shapes forms form none))
    (all_append (λ lined. IsLegalEvent (tables_in forms) (nodes_in forms) lined.event) events more before legal)

no_event_legal : (P : LinedEvent → Type 0) (events : List LinedEvent) → events ≡ [] → AllByRecursion P (events ++ [])
no_event_legal P events none = subst (λ (all : List LinedEvent). AllByRecursion P (all ++ [])) (sym none) tt

keeps_table : (forms : List Form) (events : List LinedEvent) (count : ℕ) (name : List ℕ) (columns : List Column) → Keeps forms events count → events ≡ [] → IsLegalTable (record { name = name; columns = columns })
    → length (tables_in forms) + 1 ≤ most_tables → count + 1 ≤ most_lines → Keeps (forms ++ TableLine name columns ∷ []) [] (count + 1)
keeps_table forms events count name columns keeps none legal room lines =
    let tables = filter_map-append table_in forms (TableLine name columns ∷ []) in
    let table : Schema = record { name = name; columns = columns } in
    record {
      shape = subst (λ (shapes : List SiteSetup). IfSome (first_of shapes) IsLegalSite) (sym (same_shapes forms (TableLine name columns) refl)) keeps.shape;
      few_tables = omega (arith, ap length tables, length-append (tables_in forms) (table ∷ []), room);
      tables = subst (λ (tables : List Schema). AllByRecursion IsLegalTable tables) (sym tables) (all_append IsLegalTable (tables_in forms) (table ∷ []) keeps.tables (legal, tt));
      events = tt;
      changes = omega (arith, keeps.changes, sum_by-append changes_in_form forms (TableLine name columns ∷ []));
      counted = omega (arith, keeps.counted, ap (sum_by (λ (lined : LinedEvent). changes_in_event lined.event)) none, sum_by-append changes_in_form forms (TableLine name columns ∷ []));
      few = omega arith;
      lines = lines;
    }

abbrev passed : List (Bool × Limit) → Option Limit
passed limits = option_map (λ judged. judged.1) (find (λ judged. judged.0) limits)

none_passed : (a b c d : Bool) (w x y z : Limit) → passed ((a, w) ∷ (b, x) ∷ (c, y) ∷ (d, z) ∷ []) ≡ None → (a ≡ false) × (b ≡ false) × (c ≡ false) × (d ≡ false)
none_passed true b c d w x y z none = absurd (cc)
none_passed false true c d w x y z none = absurd (cc)
none_passed false false true d w x y z none = absurd (cc)
none_passed false false false true w x y z none = absurd (cc)
none_passed false false false false w x y z none = (refl, refl, refl, refl)

first_not_passed : (a b : Bool) (w x : Limit) → passed ((a, w) ∷ (b, x) ∷ []) ≡ None → a ≡ false
first_not_passed true b w x none = absurd (cc)
first_not_passed false b w x none = refl

within_limits : (forms : List Form) (number : ℕ) (form : Form) → refusal_of_line forms number (Says form) ≡ None → limit_passed forms number form ≡ None
within_limits forms number form fine = unmapped _ (limit_passed forms number form) (other (is_misplaced forms form) _ _ fine)
  where
    other : {X : Type 0} (b : Bool) (x : X) (rest : Option X) → (if b then Some x else rest) ≡ None → rest ≡ None
    other true x rest fine = absurd (cc)
    other false x rest fine = fine

    unmapped : {X Y : Type 0} (f : X → Y) (value : Option X) → option_map f value ≡ None → value ≡ None
    unmapped f None none = refl
    unmapped f (Some x) none = absurd (cc)

to_so_far : (readings : List LineMeaning) (reading : LineMeaning) (forms : List Form) (events : List LinedEvent) → forms_of (readings ++ reading ∷ []) ≡ forms
    → events_of (tables_in forms) (readings ++ reading ∷ []) ≡ events → Keeps forms events (length readings + 1) → SoFar (readings ++ reading ∷ [])
to_so_far readings reading forms events same_forms same_events keeps =
    let all = readings ++ reading ∷ [] in
    let count : length all ≡ length readings + 1 = omega (arith, length-append readings (reading ∷ [])) in
    subst (λ (forms : List Form). Keeps forms (events_of (tables_in forms) all) (length all)) (sym same_forms)
    (subst (λ (events : List LinedEvent). Keeps forms events (length all)) (sym same_events)
    (subst (λ (n : ℕ). Keeps forms events n) (sym count) keeps))

events_after : (readings : List LineMeaning) (reading : LineMeaning) (form : Form) (more : List LinedEvent) → table_in form ≡ None
    → events_of (tables_in (forms_of readings)) (readings ++ reading ∷ []) ≡ events_of (tables_in (forms_of readings)) readings ++ more
    → events_of (tables_in (forms_of readings ++ form ∷ [])) (readings ++ reading ∷ []) ≡ events_of (tables_in (forms_of readings)) readings ++ more
events_after readings reading form more none is = ap (λ (tables : List Schema). events_of tables (readings ++ reading ∷ [])) (same_tables (forms_of readings) form none) ∙ is

-- one more line that is not refused
so_far_more : (readings : List LineMeaning) (reading : LineMeaning) → SoFar readings → refusal_of_line (forms_of readings) (length readings + 1) reading ≡ None → IsSaidBy reading → SoFar (readings ++ reading ∷ [])
so_far_more readings Wrong so fine said = absurd (cc)
so_far_more readings Skipped so fine said =
    let lines : length readings + 1 ≤ most_lines = within (nat_lt most_lines (length readings + 1)) _ refl fine in
    to_so_far readings Skipped (forms_of readings) (events_of (tables_in (forms_of readings)) readings) (forms_more readings Skipped ∙ append-nil (forms_of readings))
    (events_more (tables_in (forms_of readings)) readings Skipped ∙ append-nil (events_of (tables_in (forms_of readings)) readings))
    (record { shape = so.shape; few_tables = so.few_tables; tables = so.tables; events = so.events; changes = so.changes; counted = so.counted; few = omega (arith, so.few); lines = lines })
  where
    within : {X : Type 0} (b : Bool) (x : X) → nat_lt most_lines (length readings + 1) ≡ b → (if b then Some x else None) ≡ None → length readings + 1 ≤ most_lines
    within true x is fine = absurd (cc)
    within false x is fine = ltb-false most_lines (length readings + 1) is
so_far_more readings (Says (SiteLine site groups replicas limit)) so fine said =
    let form = SiteLine site groups replicas limit in
    let forms = forms_of readings in
    let placed = not_misplaced forms (length readings + 1) form fine in
    let within = none_passed (nat_lt most_lines (length readings + 1)) (not (nat_le 1 groups && nat_le groups most_groups)) (not (nat_le 1 replicas && nat_le replicas most_replicas)) (not (nat_le least_limit limit && nat_le limit most_limit))
    limits.Lines limits.Groups limits.Replicas limits.LogLimit (within_limits forms (length readings + 1) form fine) in
    let groups_in = and_parts (nat_le 1 groups) (nat_le groups most_groups) (not-false (nat_le 1 groups && nat_le groups most_groups) within.1) in
    let replicas_in = and_parts (nat_le 1 replicas) (nat_le replicas most_replicas) (not-false (nat_le 1 replicas && nat_le replicas most_replicas) within.2) in
    let limit_in = and_parts (nat_le least_limit limit) (nat_le limit most_limit) (not-false (nat_le least_limit limit && nat_le limit most_limit) within.3) in
    let none = none_given shape_in forms (or_right (list_any is_event forms) (list_any (λ form. is_some (shape_in form)) forms) placed) in
    let quiet : list_any is_event forms ≡ false = or_left (list_any is_event forms) (list_any (λ form. is_some (shape_in form)) forms) placed in
    let shape : IsLegalSite (record { groups = groups; replicas = replicas; limit = limit }) = record {
      groups = (leb-true 1 groups groups_in.0, leb-true groups most_groups groups_in.1);
      replicas = (leb-true 1 replicas replicas_in.0, leb-true replicas most_replicas replicas_in.1);
      limit = (leb-true least_limit limit limit_in.0, leb-true limit most_limit limit_in.1);
    } in
    to_so_far readings (Says form) (forms ++ form ∷ []) (events_of (tables_in forms) readings ++ []) (forms_more readings (Says form))
    (events_after readings (Says form) form [] refl (events_more (tables_in forms) readings (Says form)))
    (keeps_form forms (events_of (tables_in forms) readings) [] (length readings) form so refl
    (subst (λ (shapes : List SiteSetup). IfSome (first_of shapes) IsLegalSite) (sym (filter_map-append shape_in forms (form ∷ []) ∙ ap (λ (shapes : List SiteSetup). shapes ++ filter_map shape_in (form ∷ [])) none)) shape)
    (no_event_legal _ (events_of (tables_in forms) readings) (no_events (tables_in forms) readings 0 quiet)) (omega arith) (ltb-false most_lines (length readings + 1) within.0) refl (omega (arith, so.changes)))
so_far_more readings (Says (TableLine name columns)) so fine said =
    let form = TableLine name columns in
    let forms = forms_of readings in
    let placed = not_misplaced forms (length readings + 1) form fine in
    let within = none_passed (nat_lt most_lines (length readings + 1)) (nat_lt most_tables (length (tables_in forms) + 1)) (nat_lt most_columns (length columns)) (nat_lt most_row_bytes (row_bytes columns))
    limits.Lines limits.Tables limits.Columns limits.RowBytes (within_limits forms (length readings + 1) form fine) in
    let quiet : list_any is_event forms ≡ false = or_left (list_any is_event forms) (list_any (is_named name) (tables_in forms)) placed in
    let quiet_too : list_any is_event (forms_of (readings ++ Says form ∷ [])) ≡ false =
    ap (list_any is_event) (forms_more readings (Says form)) ∙ list_any-append is_event forms (form ∷ []) ∙ ap (λ any. any || false) quiet in
    to_so_far readings (Says form) (forms ++ form ∷ []) [] (forms_more readings (Says form)) (no_events (tables_in (forms ++ form ∷ [])) (readings ++ Says form ∷ []) 0 quiet_too)
    (keeps_table forms (events_of (tables_in forms) readings) (length readings) name columns so (no_events (tables_in forms) readings 0 quiet)
    (record { name = said.0; few = ltb-false most_columns (length columns) within.2; columns = said.1; bytes = ltb-false most_row_bytes (row_bytes columns) within.3 }) (ltb-false most_tables (length (tables_in forms) + 1) within.1) (ltb-false most_lines (length readings + 1) within.0))
so_far_more readings (Says (TxLine site operations)) so fine said =
    let form = TxLine site operations in
    let forms = forms_of readings in
    let placed = not_misplaced forms (length readings + 1) form fine in
    let within = none_passed (nat_lt most_lines (length readings + 1)) (nat_lt most_tx_changes (length operations)) (nat_lt most_changes (sum_by changes_in_form forms + length operations)) (nat_lt most_work (work_of (forms ++ form ∷ [])))
    limits.Lines limits.TxChanges limits.Changes limits.Work (within_limits forms (length readings + 1) form fine) in
    let lined : LinedEvent = record { line = length readings + 1; event = Tx site (map (client_op (tables_in forms)) operations) } in
    to_so_far readings (Says form) (forms ++ form ∷ []) (events_of (tables_in forms) readings ++ lined ∷ []) (forms_more readings (Says form))
    (events_after readings (Says form) form (lined ∷ []) refl (events_more (tables_in forms) readings (Says form)))
    (keeps_form forms (events_of (tables_in forms) readings) (lined ∷ []) (length readings) form so refl
    (subst (λ (shapes : List SiteSetup). IfSome (first_of shapes) IsLegalSite) (sym (same_shapes forms form refl)) so.shape)
    (events_and forms form (events_of (tables_in forms) readings) (lined ∷ []) refl so.events ((said.0, omega (arith, said.1, length-map operations (client_op (tables_in forms))), operations_legal (tables_in forms) operations (not-false (list_all (suits_tables (tables_in forms)) operations) placed) said.2), tt)) (omega arith) (ltb-false most_lines (length readings + 1) within.0)
    (omega (arith, length-map operations (client_op (tables_in forms)))) (ltb-false most_changes (sum_by changes_in_form forms + length operations) within.2))
so_far_more readings (Says (EventLine event)) so fine said =
    let form = EventLine event in
    let forms = forms_of readings in
    let within = first_not_passed (nat_lt most_lines (length readings + 1)) (nat_lt most_work (work_of (forms ++ form ∷ []))) limits.Lines limits.Work (within_limits forms (length readings + 1) form fine) in
    let lined : LinedEvent = record { line = length readings + 1; event = event } in
    to_so_far readings (Says form) (forms ++ form ∷ []) (events_of (tables_in forms) readings ++ lined ∷ []) (forms_more readings (Says form))
    (events_after readings (Says form) form (lined ∷ []) refl (events_more (tables_in forms) readings (Says form)))
    (keeps_form forms (events_of (tables_in forms) readings) (lined ∷ []) (length readings) form so refl
    (subst (λ (shapes : List SiteSetup). IfSome (first_of shapes) IsLegalSite) (sym (same_shapes forms form refl)) so.shape)
    (events_and forms form (events_of (tables_in forms) readings) (lined ∷ []) refl so.events (said.0 (tables_in forms) (nodes_in forms) (not_misplaced forms (length readings + 1) form fine), tt)) (omega arith) (ltb-false most_lines (length readings + 1) within) (omega (arith, said.1)) (omega (arith, so.changes)))

abbrev refusal_in : List LineMeaning → ℕ × LineMeaning → Option BadLine
refusal_in all numbered = refusal_of_line (filter_map form_in (take numbered.0 all)) (numbered.0 + 1) numbered.1

none_first : {X : Type 0} (value : Option X) (values : List X) → cons_option value values ≡ [] → (value ≡ None) × (values ≡ [])
none_first None values none = (refl, none)
none_first (Some x) values none = absurd (cc)

so_far_all : (done left : List LineMeaning) → SoFar done → filter_map (refusal_in (done ++ left)) (enumerate_from (length done) left) ≡ [] → AllByRecursion IsSaidBy left → SoFar (done ++ left)
so_far_all done [] so fine said = subst SoFar (sym (append-nil done)) so
so_far_all done (reading ∷ left) so fine said =
    let parts = none_first (refusal_in (done ++ reading ∷ left) (length done, reading)) (filter_map (refusal_in (done ++ reading ∷ left)) (enumerate_from (length done + 1) left)) fine in
    let here : refusal_of_line (forms_of done) (length done + 1) reading ≡ None =
    ap (λ (earlier : List LineMeaning). refusal_of_line (forms_of earlier) (length done + 1) reading) (sym (take-append_seam done (reading ∷ left))) ∙ parts.0 in
    let same : (done ++ reading ∷ []) ++ left ≡ done ++ reading ∷ left = append_assoc done (reading ∷ []) left in
    let count : length (done ++ reading ∷ []) ≡ length done + 1 = omega (arith, length-append done (reading ∷ [])) in
    let rest : filter_map (refusal_in ((done ++ reading ∷ []) ++ left)) (enumerate_from (length (done ++ reading ∷ [])) left) ≡ [] =
    ap (λ (all : List LineMeaning). filter_map (refusal_in all) (enumerate_from (length (done ++ reading ∷ [])) left)) same
    ∙ ap (λ n. filter_map (refusal_in (done ++ reading ∷ left)) (enumerate_from n left)) count ∙ parts.1 in
    subst SoFar same (so_far_all (done ++ reading ∷ []) left (so_far_more done reading so here said.0) rest said.1)

all_said : (lines : List (List ℕ)) → AllByRecursion IsSaidBy (map reading_of lines)
all_said [] = tt
all_said (line ∷ lines) = (reading_said line, all_said lines)

shape_legal : (shape : Option SiteSetup) → IfSome shape IsLegalSite → IsLegalSite (option_map_or (λ shape. shape) shape default_site)
shape_legal None legal = record { groups = (omega arith, omega arith); replicas = (omega arith, omega arith); limit = (omega arith, omega arith) }
shape_legal (Some shape) legal = legal

-- the number of nodes that the setup of a site gives
nodes_of_shape : (shape : Option SiteSetup) → option_map_or (λ (shape : SiteSetup). shape.groups * shape.replicas) shape 1 ≡ (option_map_or (λ shape. shape) shape default_site).groups * (option_map_or (λ shape. shape) shape default_site).replicas
nodes_of_shape None = refl
nodes_of_shape (Some shape) = refl

legal_so_far : (readings : List LineMeaning) → SoFar readings → IsLegal (script_in readings)
legal_so_far readings so =
    record {
      setup = record {
        a = shape_legal (first_of (filter_map shape_in (forms_of readings))) so.shape;
        b = shape_legal None tt;
        few_tables = so.few_tables;
        tables = so.tables;
      };
      events = subst (λ (nodes : ℕ). AllByRecursion (λ lined. IsLegalEvent (tables_in (forms_of readings)) nodes lined.event) (events_of (tables_in (forms_of readings)) readings)) (nodes_of_shape (first_of (filter_map shape_in (forms_of readings)))) so.events;
      few_events = omega (arith, so.few, so.lines);
      few_changes = omega (arith, so.counted, so.changes);
    }

none_at_all : {X : Type 0} (xs : List X) → first_of xs ≡ None → xs ≡ []
none_at_all [] none = refl
none_at_all (x ∷ xs) none = absurd (cc)

legal_readings : (lines : List (List ℕ)) (script : Script) → script_of_readings (map reading_of lines) ≡ Ok script → IsLegal script
unfolding script_of_readings
legal_readings lines script is =
    let readings = map reading_of lines in
    let parts = told (first_of (refused_lines readings)) (script_in readings) is in
    let nothing : SoFar [] = record { shape = tt; few_tables = omega arith; tables = tt; events = tt; changes = omega arith; counted = refl; few = omega arith; lines = omega arith } in
    subst IsLegal parts.1 (legal_so_far readings (so_far_all [] readings nothing (none_at_all (refused_lines readings) parts.0) (all_said lines)))
  where
    told : (first : Option BadLine) (other : Script) → option_map_or (λ bad. Err bad) first (Ok other) ≡ Ok script → (first ≡ None) × (other ≡ script)
    told None other is = (refl, cc)
    told (Some bad) other is = absurd (cc)

-- the script of a text is legal
pub legal_script : (bytes : List ℕ) (script : Script) → script_of bytes ≡ Ok script → IsLegal script
unfolding script_of
legal_script bytes script is = legal_readings (lines_of bytes) script (other (nat_lt most_bytes (length bytes)) _ _ is)
  where
    other : (b : Bool) (bad : BadLine) (rest : Result Script BadLine) → (if b then Err bad else rest) ≡ Ok script → rest ≡ Ok script
    other true bad rest is = absurd (cc)
    other false bad rest is = is
