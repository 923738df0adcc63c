-- What the parser's own words, operations and forms represent in the definitions.
use Rattle.std.specs.Prelude.{ℕ, List, [], ◌∷◌, map, Option, Some, None}
use Rattle.rb_base.specs.declared.site.SiteId.{SiteId}
use Rattle.rb_base.specs.declared.schema.Column.{Column}
use Rattle.rb_base.specs.declared.schema.Column.TheVariants as columns
use Rattle.rb_text_defs.specs.Words as words
use Rattle.rb_text_defs.specs.Words.{◌>>=◌}
use Rattle.rb_text_defs.specs.Form as forms
use Rattle.rb_script.specs.declared.word.Word.{Word}
use Rattle.rb_script.specs.declared.word.Word.TheVariants.{Plain, Quoted}
use Rattle.rb_script.specs.declared.column.ColumnType.{ColumnType}
use Rattle.rb_script.specs.declared.column.ColumnType.TheVariants as types
use Rattle.rb_script.specs.declared.operation.Operation.{Operation}
use Rattle.rb_script.specs.declared.form.Form.{Form}
use Rattle.rb_script.specs.declared.form.Form.TheVariants.{Site, Table, Tx, Event}
use Rattle.rb_script.specs.declared.reading.ReadLine.{ReadLine}
use Rattle.rb_script.specs.declared.reading.ReadLine.TheVariants.{Wrong, Skipped, Says}

-- a word
abbrev pub word_of : Word → words.Word
word_of (Plain bytes) = words.Plain bytes.now
word_of (Quoted text) = words.Quoted text.now

-- an operation
abbrev pub operation_seen : Operation → forms.Operation
operation_seen operation = record { op = operation.op; table = operation.table.now; key = operation.key; values = operation.values }

-- the type of a column
abbrev pub column_seen : ColumnType → Column
column_seen types.Num = columns.Num
column_seen (types.Text most) = columns.Text most

-- a form
abbrev pub form_seen : Form → forms.Form
form_seen (Site site shape) = forms.SiteLine site shape.groups shape.replicas shape.limit
form_seen (Table name types) = forms.TableLine name.now (map column_seen types.items)
form_seen (Tx site operations) = forms.TxLine site (map operation_seen operations.items)
form_seen (Event event) = forms.EventLine event

-- what a line says
abbrev pub reading_seen : ReadLine → forms.LineMeaning
reading_seen Wrong = forms.Wrong
reading_seen Skipped = forms.Skipped
reading_seen (Says form) = forms.Says (form_seen form)

-- the site, if the words are one site and nothing else
unfoldable pub only_site : List words.Word → Option SiteId
only_site (site ∷ []) = forms.site_of site
only_site words = None

-- the site and the node, if the words are these and nothing else
unfoldable pub site_and_node : List words.Word → Option (SiteId × ℕ)
site_and_node (site ∷ node ∷ []) = do
  id ← forms.site_of site
  number ← forms.small_number_of node
  Some (id, number)
site_and_node words = None
