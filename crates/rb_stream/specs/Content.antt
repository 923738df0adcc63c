-- The content that was read of an event.
use Rattle.rb_codec.specs.Columns.{HasColumns}
use Rattle.rb_read_defs.specs.Reading.{Reader, ◌>>=◌, give}
use Rattle.rb_read_defs.specs.declared.answers.Content.{Content}
use Rattle.rb_read_defs.specs.declared.answers.Content.TheVariants.{Maps}

-- a table that is mapped has columns that are enough to read its rows
abbrev pub MapsColumns : Content → Type 0
MapsColumns (Maps table) = HasColumns table
MapsColumns content = Unit {0}

-- the content of an event, made of the value that was read
abbrev pub said : {X : Type 0} → Reader X → (X → Content) → Reader Content
said read content = read >>= (λ value. give (content value))
