-- The forms of a line, from its words alone.
use Rattle.std.specs.Prelude.{ℕ, ◌^◌, nat_le, nat_lt, ◌&&◌, Bool, true, false, if◌then◌else◌, List, [], ◌∷◌, map, take, drop, Option, Some, None, codes}
use Rattle.std.specs.Str.{bytes_eq}
use Rattle.std.specs.List.{list_all, slice_split}
use Rattle.std.specs.Option.{option_map, option_and_then}
use Rattle.rb_base.specs.declared.site.SiteId.{SiteId}
use Rattle.rb_base.specs.declared.site.SiteId.TheVariants.{A}
use Rattle.rb_base.specs.declared.schema.Column.{Column}
use Rattle.rb_base.specs.declared.schema.Column.TheVariants as columns
use Rattle.rb_base.specs.declared.row.Value.{Value}
use Rattle.rb_base.specs.declared.row.Value.TheVariants as values
use Rattle.rb_base.specs.declared.script.Op.{Op}
use Rattle.rb_base.specs.declared.script.Op.TheVariants.{Ins, Upd, Put, Del}
use Rattle.rb_base.specs.declared.script.Event.{Event}
use Rattle.rb_base.specs.declared.script.Event.TheVariants as events
use Rattle.rb_text_defs.specs.Words.{Word, Plain, Quoted, ◌>>=◌, is_empty, is_line_byte, is_skipped, words_of, number_of, name_of, all_of}

-- an operation as a line writes it: the name of the table, the key, and the other values, of which
-- a `del` has none
pub record Operation : Type 0 where
  pub op : Op
  pub table : List ℕ
  pub key : ℕ
  pub values : List Value

-- the content of a line: the setup of a site, a table with its columns after the key, a client's
-- transaction, or another event
pub data Form : Type 0 where
  SiteLine : (site : SiteId) → (groups replicas limit : ℕ) → Form
  TableLine : (name : List ℕ) → (columns : List Column) → Form
  TxLine : (site : SiteId) → (operations : List Operation) → Form
  EventLine : (event : Event) → Form

-- a word is this one, without quotes
abbrev pub is_word : List ℕ → Word → Bool
is_word bytes (Plain word) = bytes_eq word bytes
is_word bytes (Quoted text) = false

-- the site that a word names; lines of site B are not accepted yet
abbrev pub site_of : Word → Option SiteId
site_of word = if is_word (codes "A") word then Some A else None

-- a number below 2^32
abbrev pub small_number_of : Word → Option ℕ
small_number_of word = option_and_then (λ number. if nat_lt number (2 ^ 32) then Some number else None) (number_of word)

-- a line `site S groups G replicas R limit L`
unfoldable pub site_line : List Word → Option Form
site_line (site ∷ groups ∷ group_count ∷ replicas ∷ replica_count ∷ limit ∷ limit_length ∷ []) = do
  id ← site_of site
  in_groups ← small_number_of group_count
  of_nodes ← small_number_of replica_count
  rotation ← number_of limit_length
  if is_word (codes "groups") groups && is_word (codes "replicas") replicas && is_word (codes "limit") limit
      then Some (SiteLine id in_groups of_nodes rotation) else None
site_line words = None

-- the number below 2^32 that follows `text:`, which is the maximum length of a text
abbrev pub maximum_of : Word → Option ℕ
maximum_of (Plain bytes) = if bytes_eq (take 5 bytes) (codes "text:") then small_number_of (Plain (drop 5 bytes)) else None
maximum_of (Quoted text) = None

-- the type of a text column with this maximum length, which is at least 1
abbrev pub text_type : (most : ℕ) → Option Column
text_type most = if nat_le 1 most then Some (columns.Text most) else None

-- the type of a column: `num` or `text:MAX`
abbrev pub type_of : Word → Option Column
type_of word = if is_word (codes "num") word then Some columns.Num else option_and_then text_type (maximum_of word)

-- a line `table NAME TYPE ..`
unfoldable pub table_line : List Word → Option Form
table_line [] = None
table_line (name ∷ types) = do
  table ← name_of name
  columns ← all_of (map type_of types)
  Some (TableLine table columns)

-- a value: a number, or a text in quotes
unfoldable pub value_of : Word → Option Value
value_of (Plain bytes) = option_map (λ number. values.Num number) (number_of (Plain bytes))
value_of (Quoted text) = Some (values.Text text)

-- the operation with this name
unfoldable pub op_of : Word → Option Op
op_of word =
    if is_word (codes "ins") word then Some Ins
    else (if is_word (codes "upd") word then Some Upd
    else (if is_word (codes "put") word then Some Put
    else (if is_word (codes "del") word then Some Del else None)))

-- a `del` has no values
abbrev pub may_have : Op → List Value → Bool
may_have Ins values = true
may_have Upd values = true
may_have Put values = true
may_have Del values = is_empty values

-- an operation `ins`, `upd` or `put NAME KEY VALUE ..`, or `del NAME KEY`
unfoldable pub operation_of : List Word → Option Operation
operation_of (op ∷ table ∷ key ∷ values) = do
  what ← op_of op
  name ← name_of table
  number ← number_of key
  others ← all_of (map value_of values)
  if may_have what others then Some (record { op = what; table = name; key = number; values = others }) else None
operation_of words = None

-- a line `tx S OP ; OP ..`
unfoldable pub tx_line : List Word → Option Form
tx_line [] = None
tx_line (site ∷ words) = do
  id ← site_of site
  operations ← all_of (map operation_of (slice_split (is_word (codes ";")) words))
  Some (TxLine id operations)

-- a line whose only argument is a site
unfoldable pub site_event : (SiteId → Event) → List Word → Option Form
site_event event (site ∷ []) = option_map (λ id. EventLine (event id)) (site_of site)
site_event event words = None

-- a line `deliver S all` or `deliver S PLACE`
unfoldable pub deliver_line : List Word → Option Form
deliver_line (site ∷ what ∷ []) = do
  id ← site_of site
  if is_word (codes "all") what then Some (EventLine (events.DeliverAll id))
      else option_map (λ place. EventLine (events.Deliver id place)) (number_of what)
deliver_line words = None

-- a line whose arguments are a site and a node
unfoldable pub node_event : (SiteId → ℕ → Event) → List Word → Option Form
node_event event (site ∷ node ∷ []) = do
  id ← site_of site
  number ← small_number_of node
  Some (EventLine (event id number))
node_event event words = None

-- the form of a line with this first word
unfoldable pub form_from : (first : Word) → List Word → Option Form
form_from first words =
    if is_word (codes "site") first then site_line words
    else (if is_word (codes "table") first then table_line words
    else (if is_word (codes "tx") first then tx_line words
    else (if is_word (codes "epoch") first then site_event (λ site. events.Close site false) words
    else (if is_word (codes "gcp") first then site_event (λ site. events.Close site true) words
    else (if is_word (codes "deliver") first then deliver_line words
    else (if is_word (codes "inject") first then site_event (λ site. events.Inject site) words
    else (if is_word (codes "log") first then site_event (λ site. events.Log site) words
    else (if is_word (codes "fail") first then node_event (λ site node. events.Fail site node) words
    else (if is_word (codes "restart") first then node_event (λ site node. events.Restart site node) words
    else (if is_word (codes "resend") first then site_event (λ site. events.Resend site) words
    else (if is_word (codes "injector") first then site_event (λ site. events.Injector site) words
    else None)))))))))))

-- the form of a line with these words
unfoldable pub form_of : List Word → Option Form
form_of [] = None
form_of (first ∷ words) = form_from first words

-- the meaning of a line: it has no form, it is skipped, or it has this form
pub data LineMeaning : Type 0 where
  Wrong : LineMeaning
  Skipped : LineMeaning
  Says : (form : Form) → LineMeaning

-- the meaning of a line that is not skipped, from the form that it has, if any
abbrev pub says : Option Form → LineMeaning
says None = Wrong
says (Some form) = Says form

-- the meaning of a line; a line with a byte that is not allowed has no form
unfoldable pub reading_of : List ℕ → LineMeaning
reading_of line =
    if list_all is_line_byte line then (if is_skipped line then Skipped else says (words_of line >>= form_of)) else Wrong
