use Rattle.std.proofs.Common.{arith}
use Rattle.rb_script.specs.declared.column.ColumnType.TheVariants.{Num}
use Rattle.rb_script.proofs.TableLaws.{column_in_row}
use Rattle.rb_script.proofs.column.columns_of.Goals as goal

pub column_of-requires : goal.column_of-requires
column_of-requires c = omega (arith, column_in_row c.args.types.now c.loop-column_type.column_type-index Num c.loop-column_type-test.true, c.requires)
