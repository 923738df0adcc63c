-- How the result of a call that reads a field relates to the field's reading.
use Rattle.std.specs.Prelude.{◌≡◌, ℕ, Result, Ok, Err}
use Rattle.rb_base.specs.declared.faults.CodecFault.{CodecFault}
use Rattle.rb_base.specs.declared.faults.CodecFault.TheVariants as faults
use Rattle.rb_read_defs.specs.Reading.{Reading, Read, Short, Wrong}

-- the fault of a call is that of the reading; running out of memory is no such fault
abbrev pub Fails : {X : Type 0} → CodecFault → Reading X → Type 0
Fails (faults.Short at) reading = reading ≡ Short at
Fails (faults.BadField at field) reading = reading ≡ Wrong at field
Fails faults.NoMemory reading = ⊥

-- the result of a call, through this view of its value, and the place after it are those of the
-- reading
abbrev pub Gives : {X Y : Type 0} → (view : X → Y) → Result X CodecFault → (after : ℕ) → Reading Y → Type 0
Gives view (Ok value) after reading = reading ≡ Read (view value) after
Gives view (Err fault) after reading = Fails fault reading
