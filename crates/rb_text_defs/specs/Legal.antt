-- Legal scripts: they keep to the limits, and their operations fit the tables.
use Rattle.std.specs.Prelude.{◌≡◌, ⊤, ℕ, ◌-◌, ◌*◌, ◌^◌, ◌<◌, ◌≤◌, true, List, [], ◌∷◌, length, sum_by, Option, Some, None}
use Rattle.std.specs.List.{AllByRecursion, slice_get}
use Rattle.std.specs.Option.{option_map_or}
use Rattle.rb_base.specs.declared.site.SiteId.TheVariants.{A}
use Rattle.rb_base.specs.declared.schema.Column.{Column}
use Rattle.rb_base.specs.declared.schema.Column.TheVariants as columns
use Rattle.rb_base.specs.declared.schema.Schema.{Schema}
use Rattle.rb_base.specs.declared.row.Row.{Row}
use Rattle.rb_base.specs.declared.row.Value.{Value}
use Rattle.rb_base.specs.declared.row.Value.TheVariants as values
use Rattle.rb_base.specs.declared.script.SiteSetup.{SiteSetup}
use Rattle.rb_base.specs.declared.script.Setup.{Setup}
use Rattle.rb_base.specs.declared.script.Op.{Op}
use Rattle.rb_base.specs.declared.script.Op.TheVariants.{Ins, Upd, Put, Del}
use Rattle.rb_base.specs.declared.script.ClientOp.{ClientOp}
use Rattle.rb_base.specs.declared.script.Event.{Event}
use Rattle.rb_base.specs.declared.script.Event.TheVariants as events
use Rattle.rb_text_defs.specs.declared.script.Script.{Script}
use Rattle.rb_text_defs.specs.Script.{most_lines, most_tables, most_columns, most_row_bytes, most_groups, most_replicas, least_limit, most_limit, most_changes, row_bytes, suits_columns}

-- a column that a line can declare: a number, or a text whose maximum length is at least 1
abbrev pub IsLegalColumn : Column → Type 0
IsLegalColumn columns.Num = ⊤
IsLegalColumn columns.Long = ⊥
IsLegalColumn (columns.Text most) = 1 ≤ most

-- a table whose name, columns and rows are within the limits
pub record IsLegalTable (table : Schema) : Type 0 where
  pub name : length table.name ≤ 32
  pub few : length table.columns ≤ most_columns
  pub columns : AllByRecursion IsLegalColumn table.columns
  pub bytes : row_bytes table.columns ≤ most_row_bytes

-- the columns, without the key, of the table with this number
abbrev pub columns_at : List Schema → (number : ℕ) → List Column
columns_at tables number = option_map_or (λ table. table.columns) (slice_get tables (number - 1)) []

-- a value that a line can write: a number of 64 bits, or any text
abbrev pub IsLegalValue : Value → Type 0
IsLegalValue (values.Num number) = number < 2 ^ 64
IsLegalValue (values.Text text) = ⊤

-- a row that a line can write: this key, and then values that fit these columns
abbrev pub IsLegalRow : List Column → (key : ℕ) → Option Row → Type 0
IsLegalRow columns key None = ⊥
IsLegalRow columns key (Some row) =
    (others : List Value) × (row.values ≡ values.Num key ∷ others) × (suits_columns columns others ≡ true) × AllByRecursion IsLegalValue row.values

-- an operation of this kind has the row that it needs: a legal row, or none if it is a `del`
abbrev pub HasLegalRow : Op → List Column → (key : ℕ) → Option Row → Type 0
HasLegalRow Ins columns key row = IsLegalRow columns key row
HasLegalRow Upd columns key row = IsLegalRow columns key row
HasLegalRow Put columns key row = IsLegalRow columns key row
HasLegalRow Del columns key row = row ≡ None

-- an operation on a declared table, with a key of 64 bits and the row that its kind needs
pub record IsLegalOperation (tables : List Schema) (operation : ClientOp) : Type 0 where
  pub some : 1 ≤ operation.table
  pub declared : operation.table ≤ length tables
  pub key : operation.key < 2 ^ 64
  pub row : HasLegalRow operation.op (columns_at tables operation.table) operation.key operation.row

-- an event that can run, at a site with this number of nodes; a transaction has an operation
abbrev pub IsLegalEvent : List Schema → (nodes : ℕ) → Event → Type 0
IsLegalEvent tables nodes (events.Tx site operations) = (site ≡ A) × (1 ≤ length operations) × AllByRecursion (IsLegalOperation tables) operations
IsLegalEvent tables nodes (events.Close site gci) = site ≡ A
IsLegalEvent tables nodes (events.Deliver site place) = site ≡ A
IsLegalEvent tables nodes (events.DeliverAll site) = site ≡ A
IsLegalEvent tables nodes (events.Inject site) = site ≡ A
IsLegalEvent tables nodes (events.Log site) = site ≡ A
IsLegalEvent tables nodes (events.Fail site node) = (site ≡ A) × (node < nodes)
IsLegalEvent tables nodes (events.Restart site node) = (site ≡ A) × (node < nodes)
IsLegalEvent tables nodes (events.Resend site) = site ≡ A
IsLegalEvent tables nodes (events.Injector site) = site ≡ A
IsLegalEvent tables nodes event = ⊥

-- the number of changes that an event may make
abbrev pub changes_in_event : Event → ℕ
changes_in_event (events.Tx site operations) = length operations
changes_in_event event = 0

-- a site whose groups, nodes in each group, and binlog files are within the limits
pub record IsLegalSite (site : SiteSetup) : Type 0 where
  pub groups : (1 ≤ site.groups) × (site.groups ≤ most_groups)
  pub replicas : (1 ≤ site.replicas) × (site.replicas ≤ most_replicas)
  pub limit : (least_limit ≤ site.limit) × (site.limit ≤ most_limit)

-- two sites and tables within the limits
pub record IsLegalSetup (setup : Setup) : Type 0 where
  pub a : IsLegalSite setup.a
  pub b : IsLegalSite setup.b
  pub few_tables : length setup.tables ≤ most_tables
  pub tables : AllByRecursion IsLegalTable setup.tables

-- a script within all limits
pub record IsLegal (script : Script) : Type 0 where
  pub setup : IsLegalSetup script.setup
  pub events : AllByRecursion (λ lined. IsLegalEvent script.setup.tables (script.setup.a.groups * script.setup.a.replicas) lined.event) script.events
  pub few_events : length script.events ≤ most_lines
  pub few_changes : sum_by (λ lined. changes_in_event lined.event) script.events ≤ most_changes
