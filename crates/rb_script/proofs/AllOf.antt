-- Values that are all there, one by one.
use Rattle.std.proofs.Common.{◌≡◌, ℕ, zero, suc, ◌+◌, ◌<◌, List, [], ◌∷◌, ◌++◌, length, map, get_or, take, Option, Some, None, refl, ap, ◌∙◌, arith}
use Rattle.std.specs.Option.{option_map, option_and_then}
use Rattle.std.proofs.lemmas.List.{map_more}
use Rattle.rb_text_defs.specs.Words.{all_of}

all_after : {Y : Type 0} (front rest : List (Option Y)) → all_of (front ++ rest) ≡ option_and_then (λ ys. option_map (λ others. ys ++ others) (all_of rest)) (all_of front)
all_after [] rest = same (all_of rest)
  where
    same : {Y : Type 0} (values : Option (List Y)) → values ≡ option_map (λ others. [] ++ others) values
    same None = refl
    same (Some others) = refl
all_after (None ∷ front) rest = refl
all_after (Some y ∷ front) rest = ap (option_map (λ others. y ∷ others)) (all_after front rest) ∙ past y (all_of front) (all_of rest)
  where
    past : {Y : Type 0} (y : Y) (front rest : Option (List Y))
        → option_map (λ others. y ∷ others) (option_and_then (λ ys. option_map (λ others. ys ++ others) rest) front)
        ≡ option_and_then (λ ys. option_map (λ others. ys ++ others) rest) (option_map (λ others. y ∷ others) front)
    past y None rest = refl
    past y (Some ys) None = refl
    past y (Some ys) (Some others) = refl

-- all so far, and the next one too
pub all_more : {X Y : Type 0} (f : X → Option Y) (xs : List X) (i : ℕ) (d : X) (ys : List Y) (y : Y) → i < length xs → all_of (map f (take i xs)) ≡ Some ys
    → f (get_or xs i d) ≡ Some y → all_of (map f (take (i + 1) xs)) ≡ Some (ys ++ y ∷ [])
all_more f xs i d ys y lt all here =
    ap all_of (map_more f xs i d lt) ∙ all_after (map f (take i xs)) (f (get_or xs i d) ∷ [])
    ∙ ap (option_and_then (λ ys. option_map (λ others. ys ++ others) (all_of (f (get_or xs i d) ∷ [])))) all
    ∙ ap (λ value. option_map (λ others. ys ++ others) (all_of (value ∷ []))) here

-- one that is missing
pub none_in : {X Y : Type 0} (f : X → Option Y) (xs : List X) (i : ℕ) (d : X) → i < length xs → f (get_or xs i d) ≡ None → all_of (map f xs) ≡ None
none_in f [] i d lt here = absurd (omega arith)
none_in f (x ∷ xs) zero d lt here = rw here refl
none_in f (x ∷ xs) (suc i) d lt here = following (f x) (map f xs) (none_in f xs i d (omega arith) here)
  where
    following : {Y : Type 0} (value : Option Y) (values : List (Option Y)) → all_of values ≡ None → all_of (value ∷ values) ≡ None
    following None values none = refl
    following (Some y) values none = rw none refl

-- a map after a map
pub map_mapped : {X Y Z : Type 0} (f : Y → Z) (g : X → Y) (xs : List X) → map f (map g xs) ≡ map (λ x. f (g x)) xs
map_mapped f g [] = refl
map_mapped f g (x ∷ xs) = ap (λ zs. f (g x) ∷ zs) (map_mapped f g xs)

-- all of mapped items
pub all_mapped : {X Y Z : Type 0} (f : Y → Option Z) (g : X → Y) (xs : List X) → all_of (map f (map g xs)) ≡ all_of (map (λ x. f (g x)) xs)
all_mapped f g xs = ap all_of (map_mapped f g xs)
