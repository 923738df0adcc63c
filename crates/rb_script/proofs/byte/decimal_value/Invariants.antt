use Rattle.std.proofs.Common.{◌≡◌, ◌<◌, ◌^◌, take}
use Rattle.rb_text_defs.specs.Words.{decimal_value}
use Rattle.rb_script.proofs.byte.decimal_value.Given as goal

abbrev pub invariant-loop-digit : goal.invariant-loop-digit
invariant-loop-digit l = record { value : l.value ≡ decimal_value (take l.digit-index l.digits); small : l.value < 10 ^ l.digit-index }
