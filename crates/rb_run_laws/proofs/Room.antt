-- The numbers in the changes and the rows of a journal have 64 bits.
use Rattle.std.proofs.Common.{ℕ, ◌<◌, ◌^◌, Bool, true, false, cond, List, [], ◌∷◌, ◌++◌, map, sym, subst}
use Rattle.std.specs.Prelude.{◌==◌, Option, Some, None, unwrap_or, if◌then◌else◌}
use Rattle.std.specs.List.{AllByRecursion, flat_map, last_or}
use Rattle.std.proofs.lemmas.List.Elements.{All-from_recursion}
use Rattle.rb_base.specs.declared.row.Row.{Row}
use Rattle.rb_base.specs.declared.row.Value.{Value}
use Rattle.rb_base.specs.declared.row.Value.TheVariants as values
use Rattle.rb_base.specs.declared.schema.Column.{Column}
use Rattle.rb_base.specs.declared.schema.Schema.{Schema}
use Rattle.rb_base.specs.declared.change.Change.{Change}
use Rattle.rb_base.specs.declared.change.Kind.{Kind}
use Rattle.rb_base.specs.declared.change.Kind.TheVariants.{Insert, Update, Remove}
use Rattle.rb_base.specs.declared.script.Op.{Op}
use Rattle.rb_base.specs.declared.script.Op.TheVariants.{Ins, Upd, Put, Del}
use Rattle.rb_base.specs.declared.script.ClientOp.{ClientOp}
use Rattle.rb_base.specs.declared.site.SiteId.{SiteId}
use Rattle.rb_journal_defs.specs.Journal.{Entry, Client, Applied, Closed, Journal, row_changes_of, changes_of, status_change, epoch_of, names_key, of_key, row_after_kind, row_after, row_left, row_at}
use Rattle.rb_journal_defs.specs.Body.{Shape, changes_in, part_of, numbers_below, is_logged, body_changes}
use Rattle.rb_journal_defs.specs.Transaction.{kind_over, before_image, after_image, change_over, changes_made}
use Rattle.rb_message_defs.proofs.Messages.{all_more, all_joined, all_below}
use Rattle.rb_message_defs.proofs.Again.{all_flat}
use Rattle.rb_text_defs.specs.Legal.{IsLegalValue, HasLegalRow, IsLegalOperation, columns_at}
use Rattle.rb_play_defs.proofs.Fits.{all_filtered}
use Rattle.rb_read_defs.specs.Readable.{IsValue, HasValues}

-- a change whose numbers have 64 bits
pub record HasRoom (change : Change) : Type 0 where
  pub before : HasValues change.before
  pub after : HasValues change.after
  pub transid : change.transid < 2 ^ 64

-- all changes of a journal have room
abbrev pub JournalHasRoom : Shape → Journal → Type 0
JournalHasRoom shape journal = AllByRecursion (λ entry. AllByRecursion HasRoom (changes_of shape.site entry)) journal

-- the row that a change leaves
after_room : (kind : Kind) (after : Option Row) → HasValues after → HasValues (row_after_kind kind after)
after_room Insert after room = room
after_room Update after room = room
after_room Remove after room = tt

left_room : (row : Option Row) (changes : List Change) → HasValues row → AllByRecursion HasRoom changes → HasValues (row_left changes row)
left_room row [] room all = room
left_room row (change ∷ changes) room all = left_room (row_after change) changes (after_room change.kind change.after all.0.after) all.1

-- the changes of rows are among an entry's changes
first_of_all : (first second : List Change) → AllByRecursion HasRoom (first ++ second) → AllByRecursion HasRoom first
first_of_all [] second all = tt
first_of_all (change ∷ first) second all = (all.0, first_of_all first second all.1)

rows_room : (site : SiteId) (entry : Entry) → AllByRecursion HasRoom (changes_of site entry) → AllByRecursion HasRoom (row_changes_of entry)
rows_room site (Client epoch transid changes) room = room
rows_room site (Applied epoch source transid accepted refreshes) room = first_of_all (accepted ++ refreshes) (status_change site source transid ∷ []) room
rows_room site (Closed epoch) room = tt

-- the row of a key
row_room : (shape : Shape) (table key : ℕ) (journal : Journal) → JournalHasRoom shape journal → HasValues (row_at table key journal)
row_room shape table key [] room = tt
row_room shape table key (entry ∷ journal) room =
    left_room (row_at table key journal) (of_key table key (row_changes_of entry)) (row_room shape table key journal room.1)
    (all_filtered HasRoom (names_key table key) (row_changes_of entry) (rows_room shape.site entry room.0))

-- a value that a line can write
value_room : (value : Value) → IsLegalValue value → IsValue value
value_room (values.Num number) legal = legal
value_room (values.Text text) legal = tt

row_said : (row : Row) → AllByRecursion IsLegalValue row.values → HasValues (Some row)
row_said row legal = All-from_recursion IsValue row.values (all_more IsLegalValue IsValue row.values value_room legal)

-- the row of an operation
put_room : (op : Op) (columns : List Column) (key : ℕ) (row : Option Row) → HasLegalRow op columns key row → HasValues row
put_room Ins columns key None legal = absurd legal
put_room Ins columns key (Some row) legal = row_said row legal.3
put_room Upd columns key None legal = absurd legal
put_room Upd columns key (Some row) legal = row_said row legal.3
put_room Put columns key None legal = absurd legal
put_room Put columns key (Some row) legal = row_said row legal.3
put_room Del columns key row legal = subst HasValues (sym legal) tt

-- the row images of the change that an operation makes
before_room : (kind : Kind) (row : Option Row) → HasValues row → HasValues (before_image kind row)
before_room Insert row room = tt
before_room Update row room = room
before_room Remove row room = room

image_room : (kind : Kind) (row : Option Row) → HasValues row → HasValues (after_image kind row)
image_room Insert row room = room
image_room Update row room = room
image_room Remove row room = tt

made_room : (schemas : List Schema) (author transid : ℕ) (row : Option Row) (operation : ClientOp) → transid < 2 ^ 64 → HasValues row → IsLegalOperation schemas operation → HasRoom (change_over author transid row operation)
made_room schemas author transid row operation few room legal = record {
  before = before_room (kind_over operation.op row) row room;
  after = image_room (kind_over operation.op row) operation.row (put_room operation.op (columns_at schemas operation.table) operation.key operation.row legal.row);
  transid = few;
}

all_made : (schemas : List Schema) (author transid : ℕ) (rows : ℕ → ℕ → Option Row) (operations : List ClientOp) → transid < 2 ^ 64 → ((table key : ℕ) → HasValues (rows table key)) → AllByRecursion (IsLegalOperation schemas) operations →
    AllByRecursion HasRoom (map (λ operation. change_over author transid (rows operation.table operation.key) operation) operations)
all_made schemas author transid rows [] few room legal = tt
all_made schemas author transid rows (operation ∷ operations) few room legal =
    (made_room schemas author transid (rows operation.table operation.key) operation few (room operation.table operation.key) legal.0, all_made schemas author transid rows operations few room legal.1)

-- the changes of a transaction, given the rows of a journal
pub changes_room : (shape : Shape) (schemas : List Schema) (author transid : ℕ) (operations : List ClientOp) (journal : Journal) → JournalHasRoom shape journal → transid < 2 ^ 64 → AllByRecursion (IsLegalOperation schemas) operations →
    AllByRecursion HasRoom (changes_made (λ table key. row_at table key journal) author transid operations)
unfolding changes_made
changes_room shape schemas author transid operations journal room few legal =
    all_made schemas author transid (λ table key. row_at table key journal) operations few (λ table key. row_room shape table key journal room) legal

-- the changes of an epoch
epoch_room : (shape : Shape) (epoch : ℕ) (journal : Journal) → JournalHasRoom shape journal → AllByRecursion HasRoom (changes_in shape.site epoch journal)
epoch_room shape epoch [] room = tt
epoch_room shape epoch (entry ∷ journal) room =
    all_joined HasRoom (changes_in shape.site epoch journal) (if epoch_of entry == epoch then changes_of shape.site entry else []) (epoch_room shape epoch journal room.1) (go (epoch_of entry == epoch))
  where
    go : (b : Bool) → AllByRecursion HasRoom (cond b (changes_of shape.site entry) [])
    go true = room.0
    go false = tt

-- the changes of an epoch's body
pub body_room : (shape : Shape) (epoch : ℕ) (journal : Journal) → JournalHasRoom shape journal → AllByRecursion HasRoom (body_changes shape epoch journal)
body_room shape epoch journal room =
    all_filtered HasRoom (is_logged shape.site) (flat_map (λ bucket. part_of shape epoch bucket journal) (numbers_below shape.buckets))
    (all_flat HasRoom (λ bucket. part_of shape epoch bucket journal) (numbers_below shape.buckets)
    (all_below shape.buckets (λ bucket below. all_filtered HasRoom _ (changes_in shape.site epoch journal) (epoch_room shape epoch journal room))))
