-- Facts about the value or the error of a result.
use Rattle.std.proofs.Common.{◌≡◌, sym, ap, ◌∙◌}
use Rattle.std.specs.Prelude.{Result, Ok, Err, IfOk, OnOk, IfErr}

-- two facts on the value give a third
pub if_ok_both : {X E : Type 0} → (result : Result X E) (P Q : X → Type 0) (R : Type 0) → IfOk result P → OnOk result R → ((x : X) → P x → R → Q x) → IfOk result Q
if_ok_both (Ok x) P Q R p r f = f x p r
if_ok_both (Err e) P Q R p r f = tt

-- what each fault leaves is left at an error
pub err_anyway : {X E : Type 0} → (result : Result X E) (P : E → Type 0) → ((e : E) → P e) → IfErr result P
err_anyway (Ok x) P all = tt
err_anyway (Err e) P all = all e

-- the same fault of another call
fault_in : {X E : Type 0} → Result X E → E → E
fault_in (Ok x) other = other
fault_in (Err e) other = e

pub err_same : {X : Type 0} (Y : Type 0) {E : Type 0} (result : Result X E) (e f : E) → result ≡ Err e → result ≡ Err f → (other : Result Y E) → other ≡ Err e → other ≡ Err f
unfolding fault_in
err_same Y result e f one two other is =
    let same : e ≡ f = sym (ap (λ (r : Result _ _). fault_in r e) one) ∙ ap (λ (r : Result _ _). fault_in r e) two in
    is ∙ ap Err same
