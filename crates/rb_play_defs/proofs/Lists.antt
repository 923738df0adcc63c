-- Lists whose items are alike.
use Rattle.std.proofs.Common.{◌≡◌, ℕ, Bool, true, false, cond, List, [], ◌∷◌, ◌++◌, map, filter, refl, ap, ◌∙◌}
use Rattle.std.specs.List.{AllByRecursion, flat_map}

-- what is said alike of each item
pub map_alike : {X Y : Type 0} → (f g : X → Y) (xs : List X) → AllByRecursion (λ x. f x ≡ g x) xs → map f xs ≡ map g xs
map_alike f g [] alike = refl
map_alike {X} {Y} f g (x ∷ xs) alike = ap (λ (y : Y). y ∷ map f xs) alike.0 ∙ ap (λ (ys : List Y). g x ∷ ys) (map_alike f g xs alike.1)

pub flat_alike : {X Y : Type 0} → (f g : X → List Y) (xs : List X) → AllByRecursion (λ x. f x ≡ g x) xs → flat_map f xs ≡ flat_map g xs
flat_alike f g [] alike = refl
flat_alike {X} {Y} f g (x ∷ xs) alike = ap (λ (ys : List Y). ys ++ flat_map f xs) alike.0 ∙ ap (λ (ys : List Y). g x ++ ys) (flat_alike f g xs alike.1)

pub filter_alike : {X : Type 0} → (p q : X → Bool) (xs : List X) → AllByRecursion (λ x. p x ≡ q x) xs → filter p xs ≡ filter q xs
filter_alike p q [] alike = refl
filter_alike {X} p q (x ∷ xs) alike = ap (λ (b : Bool). cond b (x ∷ filter p xs) (filter p xs)) alike.0 ∙ ap (λ (ys : List X). cond (q x) (x ∷ ys) ys) (filter_alike p q xs alike.1)

-- what holds of all items that pass
pub all_passing : (P Q : ℕ → Type 0) (test : ℕ → Bool) (xs : List ℕ) → ((x : ℕ) → P x → test x ≡ true → Q x) → AllByRecursion P xs → AllByRecursion Q (filter test xs)
all_passing P Q test [] f all = tt
all_passing P Q test (x ∷ xs) f all = go (test x) refl (all_passing P Q test xs f all.1)
  where
    go : (b : Bool) → test x ≡ b → AllByRecursion Q (filter test xs) → AllByRecursion Q (cond b (x ∷ filter test xs) (filter test xs))
    go true passes rest = (f x all.0 passes, rest)
    go false passes rest = rest
