-- Where a list is cut at the first of the bytes that end its parts.
use Rattle.std.proofs.Common.{◌≡◌, ℕ, ◌+◌, ◌<◌, true, false, List, [], ◌∷◌, length, get_or, take, drop, subst, arith}
use Rattle.std.specs.Prelude.{◌==◌}
use Rattle.std.specs.List.{slice_split, position_or_len}
use Rattle.std.proofs.lemmas.List.Elements.{All-from_get_or}
use Rattle.std.proofs.lemmas.List.Sums.{position_or_len_is}
use Rattle.std.proofs.lemmas.List.Splits.{slice_split_first, slice_split_none}

-- at the first such byte
pub split_found : (at : ℕ) (xs : List ℕ) (i : ℕ) → i < length xs → ((k : ℕ) → k < i → (get_or xs k 0 == at) ≡ false) → (get_or xs i 0 == at) ≡ true
    → slice_split (λ byte. byte == at) xs ≡ take i xs ∷ slice_split (λ byte. byte == at) (drop (i + 1) xs)
split_found at xs i lt before here =
    let p = λ (byte : ℕ). byte == at in
    let place : position_or_len p xs ≡ i = position_or_len_is p xs i 0 (omega arith) before (λ _. here) in
    subst (λ n. slice_split p xs ≡ take n xs ∷ slice_split p (drop (n + 1) xs)) place (slice_split_first p xs 0 (omega arith))

-- and at no place, if there is none
pub split_missed : (at : ℕ) (xs : List ℕ) → ((k : ℕ) → k < length xs → (get_or xs k 0 == at) ≡ false) → slice_split (λ byte. byte == at) xs ≡ xs ∷ []
split_missed at xs none =
    let p = λ (byte : ℕ). byte == at in
    slice_split_none p xs (All-from_get_or (λ byte. (byte == at) ≡ false) xs 0 none)
