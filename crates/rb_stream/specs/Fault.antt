-- The fault of an event.
use Rattle.std.specs.Prelude.{ℕ}
use Rattle.rb_base.specs.declared.faults.CodecFault.{CodecFault}
use Rattle.rb_base.specs.declared.faults.CodecFault.TheVariants as codec
use Rattle.rb_base.specs.declared.faults.Field.TheVariants.{EventSize}
use Rattle.rb_stream.specs.declared.fault.StreamFault.{StreamFault}
use Rattle.rb_stream.specs.declared.fault.StreamFault.TheVariants as faults

-- the fault of the event at this position, given the fault of reading a part of it; if a field does
-- not end within the event, the event's size is wrong
abbrev pub fault_at : (at : ℕ) → CodecFault → StreamFault
fault_at at (codec.Short place) = faults.BadEvent at EventSize
fault_at at (codec.BadField place field) = faults.BadEvent at field
fault_at at codec.NoMemory = faults.NoMemory
