use Rattle.std.proofs.Common.{◌∷◌, [], ◌++◌, ◌+◌, ◌≤◌, map, sym, subst, refl}
use Rattle.rb_text_defs.specs.Form.{SiteLine, TableLine, TxLine, EventLine, Says}
use Rattle.rb_text_defs.specs.Script.{closes_in_form, restarts_in_form}
use Rattle.rb_text_defs.proofs.Lines.{not_misplaced}
use Rattle.rb_script.specs.Seen.{column_seen, operation_seen}
use Rattle.rb_script.specs.Summarizes.{Summarizes, forms_of}
use Rattle.rb_script.specs.declared.before.Before.{Before}
use Rattle.rb_script.proofs.SummaryLaws.{site_summary, table_summary, tx_summary, event_summary}
use Rattle.rb_script.proofs.before.Before.take.Goals as goal

pub returns-in-Site-clause-summary : goal.returns-in-Site-clause-summary
returns-in-Site-clause-summary c =
    let form = SiteLine c.in-Site.field-0 c.in-Site.shape.groups c.in-Site.shape.replicas c.in-Site.shape.limit in
    rw c.in-Site.is (λ readings summary fine.
    subst (λ after. Summarizes (readings ++ Says form ∷ []) after) (sym c.take_site.ensures)
    (site_summary readings c.args.self.now c.in-Site.field-0 c.in-Site.shape summary c.requires.room.lines (not_misplaced (forms_of readings) (c.args.self.now.lines + 1) form fine)))

pub returns-in_ok-take_table-in-Table-clause-summary : goal.returns-in_ok-take_table-in-Table-clause-summary
returns-in_ok-take_table-in-Table-clause-summary c =
    let columns = map column_seen c.in-Table.types.items in
    let form = TableLine c.in-Table.name.now columns in
    let room = rw c.in-Table.is at c.requires.room in
    let taken = rw c.deref.ensures.value at c.in_ok-take_table-in-Table.ensures in
    rw c.in-Table.is (λ readings summary fine.
    subst (λ after. Summarizes (readings ++ Says form ∷ []) after) (sym taken)
    (table_summary readings c.args.self.now c.in-Table.name.now columns summary room (not_misplaced (forms_of readings) (c.args.self.now.lines + 1) form fine)))

pub returns-in_ok-take_tx-in-Tx-clause-summary : goal.returns-in_ok-take_tx-in-Tx-clause-summary
returns-in_ok-take_tx-in-Tx-clause-summary c =
    let operations = map operation_seen c.in-Tx.operations.items in
    let room = rw c.in-Tx.is at c.requires.room in
    let taken = rw c.deref-in-Tx.ensures.value at c.in_ok-take_tx-in-Tx.ensures in
    rw c.in-Tx.is (λ readings summary fine.
    subst (λ after. Summarizes (readings ++ Says (TxLine c.in-Tx.site operations) ∷ []) after) (sym taken)
    (tx_summary readings c.args.self.now c.in-Tx.site operations summary room))

pub returns-in_ok-take_event-in-Event-clause-summary : goal.returns-in_ok-take_event-in-Event-clause-summary
returns-in_ok-take_event-in-Event-clause-summary c =
    let room = rw c.in-Event.is at c.requires.room in
    let taken = c.in_ok-take_event-in-Event.ensures.taken in
    let few = subst (λ (after : Before). (after.closes ≤ after.lines) × (after.restarts ≤ after.lines)) taken c.in_ok-take_event-in-Event.ensures.few in
    rw c.in-Event.is (λ readings summary fine.
    subst (λ after. Summarizes (readings ++ Says (EventLine c.in-Event.event) ∷ []) after) (sym taken)
    (event_summary readings c.args.self.now c.in-Event.event (closes_in_form (EventLine c.in-Event.event)) (restarts_in_form (EventLine c.in-Event.event)) summary room refl refl few.0 few.1))
