-- The one word of a decoder's private state in its public contract.
use Rattle.std.specs.Prelude.{ℕ, List}
use Rattle.rb_read_defs.specs.Stream.{Known}
use Rattle.rb_stream.specs.Next.{IsAheadOf}
use Rattle.rb_stream.specs.declared.decoder.Decoder.{Decoder}

-- a decoder is ready to go on after these events of these bytes; a caller passes this on and need
-- not look inside
unfoldable pub IsReady : (decoder : Decoder) → (position : ℕ) → (bytes : List ℕ) → (passed : List Known) → Type 0
IsReady decoder position bytes passed = IsAheadOf decoder position bytes passed
