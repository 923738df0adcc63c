use Rattle.std.proofs.Common.{◌≡◌, map, take}
use Rattle.std.specs.String.{string_bytes}
use Rattle.rb_cli.proofs.arguments.copies.Given as goal

-- the arguments so far are copied
abbrev pub invariant-loop-argument : goal.invariant-loop-argument
invariant-loop-argument l = l.words.items ≡ map string_bytes (take l.argument-index l.arguments)
