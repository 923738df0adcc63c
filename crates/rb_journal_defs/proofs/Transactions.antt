-- A transaction over rows that are the same.
use Rattle.std.proofs.Common.{◌≡◌, ℕ, cond, List, [], ◌∷◌, map, take, refl, ap, ◌∙◌}
use Rattle.std.specs.Prelude.{Option, Some}
use Rattle.std.specs.List.{filter_map, cons_option, list_any, enumerate_from}
use Rattle.rb_base.specs.declared.row.Row.{Row}
use Rattle.rb_base.specs.declared.script.ClientOp.{ClientOp}
use Rattle.rb_journal_defs.specs.Transaction.{RowTwice, is_same_row, refused_over, refusal_after, first_of, refusal_of, change_over, changes_made}

-- a transaction over the same rows
pub map_alike : {X Y : Type 0} → (f g : X → Y) (xs : List X) → ((x : X) → f x ≡ g x) → map f xs ≡ map g xs
map_alike f g [] same = refl
map_alike {X} {Y} f g (x ∷ xs) same = rw (same x) (ap (λ (ys : List Y). g x ∷ ys) (map_alike f g xs same))

pub filter_map_alike : {X Y : Type 0} → (f g : X → Option Y) (xs : List X) → ((x : X) → f x ≡ g x) → filter_map f xs ≡ filter_map g xs
filter_map_alike f g [] same = refl
filter_map_alike {X} {Y} f g (x ∷ xs) same = ap (λ (o : Option Y). cons_option o (filter_map f xs)) (same x) ∙ ap (cons_option (g x)) (filter_map_alike f g xs same)

pub refusal_alike : (f g : ℕ → ℕ → Option Row) (operations : List ClientOp) → ((t k : ℕ) → f t k ≡ g t k) → refusal_of f operations ≡ refusal_of g operations
unfolding refusal_of
refusal_alike f g operations same =
    ap first_of (filter_map_alike (λ (numbered : ℕ × ClientOp). refusal_after f (take numbered.0 operations) numbered.0 numbered.1) (λ (numbered : ℕ × ClientOp). refusal_after g (take numbered.0 operations) numbered.0 numbered.1) (enumerate_from 0 operations)
    (λ numbered. ap (λ (r : Option Row). cond (list_any (is_same_row numbered.1) (take numbered.0 operations)) (Some (RowTwice numbered.0)) (refused_over numbered.0 numbered.1.op r)) (same numbered.1.table numbered.1.key)))

pub changes_alike : (f g : ℕ → ℕ → Option Row) (author transid : ℕ) (operations : List ClientOp) → ((t k : ℕ) → f t k ≡ g t k) → changes_made f author transid operations ≡ changes_made g author transid operations
unfolding changes_made
changes_alike f g author transid operations same =
    map_alike (λ operation. change_over author transid (f operation.table operation.key) operation) (λ operation. change_over author transid (g operation.table operation.key) operation) operations
    (λ operation. ap (λ (r : Option Row). change_over author transid r operation) (same operation.table operation.key))
