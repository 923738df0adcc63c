-- A client's transaction: why it is refused, or which changes it makes. As in NDB, either all
-- operations of a transaction take effect or none does.
use Rattle.std.specs.Prelude.{ℕ, ◌==◌, ◌&&◌, Bool, if◌then◌else◌, List, [], ◌∷◌, map, filter_map, take, Option, Some, None}
use Rattle.std.specs.List.{list_any, enumerate_from}
use Rattle.rb_base.specs.declared.row.Row.{Row}
use Rattle.rb_base.specs.declared.script.Op.{Op}
use Rattle.rb_base.specs.declared.script.Op.TheVariants.{Ins, Upd, Put, Del}
use Rattle.rb_base.specs.declared.script.ClientOp.{ClientOp}
use Rattle.rb_base.specs.declared.change.Kind.{Kind}
use Rattle.rb_base.specs.declared.change.Kind.TheVariants.{Insert, Update, Remove}
use Rattle.rb_base.specs.declared.change.Change.{Change}

-- why a transaction is refused: the operation with this number names a row that an earlier
-- operation named, inserts a key that is present, or updates or removes a key that is absent
pub data Refusal : Type 0 where
  RowTwice : (number : ℕ) → Refusal
  KeyThere : (number : ℕ) → Refusal
  NoKey : (number : ℕ) → Refusal

-- two operations name the same row
abbrev pub is_same_row : ClientOp → ClientOp → Bool
is_same_row one other = (one.table == other.table) && (one.key == other.key)

-- why an operation is refused, given the row that its key has
abbrev pub refused_over : (number : ℕ) → Op → Option Row → Option Refusal
refused_over number Ins None = None
refused_over number Ins (Some row) = Some (KeyThere number)
refused_over number Upd None = Some (NoKey number)
refused_over number Upd (Some row) = None
refused_over number Put row = None
refused_over number Del None = Some (NoKey number)
refused_over number Del (Some row) = None

-- why an operation is refused after these earlier ones of its transaction, given the rows before
-- the transaction
abbrev pub refusal_after : (rows : ℕ → ℕ → Option Row) → (earlier : List ClientOp) → (number : ℕ) → ClientOp → Option Refusal
refusal_after rows earlier number operation =
    if list_any (is_same_row operation) earlier then Some (RowTwice number)
    else refused_over number operation.op (rows operation.table operation.key)

-- why each refused operation of a transaction is refused, in order
abbrev pub refusals : (rows : ℕ → ℕ → Option Row) → List ClientOp → List Refusal
refusals rows operations =
    filter_map (λ numbered. refusal_after rows (take numbered.0 operations) numbered.0 numbered.1) (enumerate_from 0 operations)

-- the first item of a list, if it has one
abbrev pub first_of : {X : Type 0} → List X → Option X
first_of [] = None
first_of (item ∷ items) = Some item

-- why a transaction is refused, if it is: the refusal of its first refused operation
unfoldable pub refusal_of : (rows : ℕ → ℕ → Option Row) → List ClientOp → Option Refusal
refusal_of rows operations = first_of (refusals rows operations)

-- the kind of the change that an operation makes, given the row that its key has
abbrev pub kind_over : Op → Option Row → Kind
kind_over Ins row = Insert
kind_over Upd row = Update
kind_over Put None = Insert
kind_over Put (Some row) = Update
kind_over Del row = Remove

-- the before image of a change; an insert has none
abbrev pub before_image : Kind → Option Row → Option Row
before_image Insert row = None
before_image Update row = row
before_image Remove row = row

-- the after image of a change; a remove has none
abbrev pub after_image : Kind → Option Row → Option Row
after_image Insert row = row
after_image Update row = row
after_image Remove row = None

-- the change that an operation makes, given the row that its key has
abbrev pub change_over : (author transid : ℕ) → Option Row → ClientOp → Change
change_over author transid row operation = record {
  table = operation.table;
  key = operation.key;
  kind = kind_over operation.op row;
  before = before_image (kind_over operation.op row) row;
  after = after_image (kind_over operation.op row) operation.row;
  author = author;
  transid = transid;
}

-- the changes of an accepted transaction, one for each operation
unfoldable pub changes_made : (rows : ℕ → ℕ → Option Row) → (author transid : ℕ) → List ClientOp → List Change
changes_made rows author transid operations =
    map (λ operation. change_over author transid (rows operation.table operation.key) operation) operations
