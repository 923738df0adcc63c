-- The last item of a list.
use Rattle.std.proofs.Common.{◌≡◌, ◌-◌, List, [], ◌∷◌, length, refl, arith}
use Rattle.std.specs.Prelude.{Some, None}
use Rattle.std.specs.List.{slice_get, last_or}

last_from : {X : Type 0} (x : X) (xs : List X) → slice_get (x ∷ xs) (length xs) ≡ last_or (Some x) xs
last_from x [] = refl
last_from x (y ∷ ys) = last_from y ys

-- the last item is the one at the last place
pub last_got : {X : Type 0} (xs : List X) → slice_get xs (length xs - 1) ≡ last_or None xs
last_got [] = refl
last_got (x ∷ xs) = let e : length (x ∷ xs) - 1 ≡ length xs = omega arith in rw e (last_from x xs)
