-- Facts about the value or the error of a result.
use Rattle.std.specs.Prelude.{Result, Ok, Err, IfOk, OnErr}

-- a fact that holds for every result holds for an error
pub at_an_error : {T E P : Type 0} (result : Result T E) → P → OnErr result P
at_an_error (Ok value) holds = tt
at_an_error (Err fault) holds = holds

-- a fact about a value implies a weaker one
pub weaker_ok : {T E : Type 0} (P Q : T → Type 0) (result : Result T E) → ((value : T) → P value → Q value) → IfOk result P → IfOk result Q
weaker_ok P Q (Ok value) weaker holds = weaker value holds
weaker_ok P Q (Err fault) weaker holds = holds
