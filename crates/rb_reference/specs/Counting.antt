-- The changes that a count by kind includes.
use Rattle.std.specs.Prelude.{Bool}
use Rattle.rb_base.specs.declared.change.Kind.{Kind}
use Rattle.rb_base.specs.declared.change.Kind.TheVariants.{Insert, Update, Remove}
use Rattle.rb_log_defs.specs.Index.{is_insert, is_update, is_remove}

-- the two kinds are the same
abbrev pub is_of : Kind → Kind → Bool
is_of Insert kind = is_insert kind
is_of Update kind = is_update kind
is_of Remove kind = is_remove kind
