-- What it means that a script is refused.
use Rattle.std.specs.Prelude.{ℕ, Result, Ok, Err, ⊤}
use Rattle.rb_text_defs.specs.declared.script.ScriptKind.{ScriptKind}
use Rattle.rb_script.specs.declared.fault.ParseFault.{ParseFault}
use Rattle.rb_script.specs.declared.fault.ParseFault.TheVariants.{Bad, NoMemory}

-- this holds of the line and the kind, if the result is a bad script
abbrev pub IfBad : {T : Type 0} → Result T ParseFault → (ℕ → ScriptKind → Type 0) → Type 0
IfBad (Ok value) P = ⊤
IfBad (Err (Bad line kind)) P = P line kind
IfBad (Err NoMemory) P = ⊤
