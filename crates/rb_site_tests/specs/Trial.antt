-- The setup of the tests.
use Rattle.std.specs.Prelude.{[], ◌∷◌, codes}
use Rattle.rb_base.specs.declared.schema.Column.TheVariants as columns
use Rattle.rb_base.specs.declared.script.Mode.TheVariants as modes
use Rattle.rb_base.specs.declared.script.Setup.{Setup}

-- one table of one number, and one node at each site
abbrev pub one_setup : Setup
one_setup = record {
  mode = modes.Plain;
  a = record { groups = 1; replicas = 1; limit = 1048576 };
  b = record { groups = 1; replicas = 1; limit = 1048576 };
  tables = record { name = codes "t"; columns = columns.Num ∷ [] } ∷ [];
}
