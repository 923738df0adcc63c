use Rattle.std.proofs.Common.{◌≡◌, take}
use Rattle.std.specs.Prelude.{option_to_list}
use Rattle.std.specs.List.{flat_map}
use Rattle.rb_stream.specs.Epoch.{table_in}
use Rattle.rb_stream.proofs.epoch.OpenEpoch.tables.Given as goal

abbrev pub invariant-loop-id : goal.invariant-loop-id
invariant-loop-id l = l.tables ≡ flat_map (λ id. option_to_list (table_in l.self id)) (take l.id-index l.id-items)
