use Rattle.std.proofs.Common.{refl}
use Rattle.rb_inject.proofs.OpenLaws.{no_file, none_there, prefix_of_none}
use Rattle.rb_inject.proofs.injector.begin_anew.Goals as goal

pub create-requires : goal.create-requires
create-requires g c = record { empty = none_there _ _ _ (c.in_ok-cut_to.ensures.cut no_file refl refl (prefix_of_none _)) }
